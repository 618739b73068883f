-- What a lawful machine is known to be.
use Rattle.std.proofs.Common.{◌≡◌, ℕ, zero, suc, ◌+◌, ◌*◌, ◌^◌, ◌<◌, ◌≤◌, List, [], ◌∷◌, length, take, get_or, Bool, true, arith, add-one, ◌&&◌, nat_le, Option, Some, None, sym, ap, ◌∙◌, length-append}
use Rattle.std.specs.Option.{IfSome}
use Rattle.std.specs.Str.{bytes_eq}
use Rattle.std.proofs.lemmas.Slice.Eq.{bytes_eq-Decides}
use Rattle.std.proofs.lemmas.List.{take-take}
use Rattle.std.specs.List.{AllByRecursion, AllPass, concat, list_all}
use Rattle.std.proofs.lemmas.Bool.{and_parts, leb-true}
use Rattle.std.proofs.lemmas.List.Sums.{AllPass-from_list_all}
use Rattle.std.proofs.lemmas.Nat.{mul-le}
use Rattle.std.proofs.Math.Nat.{pow-suc}
use Rattle.dt_base.specs.Rows.{product, row_major}
use Rattle.dt_base.proofs.Rows.{product-positive, row_major-below}
use Rattle.dt_place.specs.Machines.{MachineView, IsMachine, are_dims, are_levels, dims_of, group_of, is_dim, node_coords}

-- what the tests of dimensions say
pub record DimFacts (ns : List ℕ) : Type 0 where
  pub some : 1 ≤ length ns
  pub few : length ns ≤ 6
  pub each : AllByRecursion (λ n. 1 ≤ n) ns
  pub passes : AllPass is_dim ns
  pub nodes : product ns ≤ 64
  pub positive : 1 ≤ product ns

-- dimensions that pass the test are at least 1
each_positive : (ns : List ℕ) → list_all is_dim ns ≡ true → AllByRecursion (λ n. 1 ≤ n) ns
each_positive [] h = tt
each_positive (n ∷ ns) h =
    let parts : (is_dim n ≡ true) × (list_all is_dim ns ≡ true) = and_parts (is_dim n) (list_all is_dim ns) h in
    let ends : (nat_le 1 n ≡ true) × (nat_le n 64 ≡ true) = and_parts (nat_le 1 n) (nat_le n 64) parts.0 in
    (leb-true 1 n ends.0, each_positive ns parts.1)

pub dim_facts : (ns : List ℕ) → are_dims ns ≡ true → DimFacts ns
dim_facts ns h =
    let parts : ((nat_le 1 (length ns) && nat_le (length ns) 6 && list_all is_dim ns) ≡ true) × (nat_le (product ns) 64 ≡ true) = and_parts (nat_le 1 (length ns) && nat_le (length ns) 6 && list_all is_dim ns) (nat_le (product ns) 64) h in
    let front : ((nat_le 1 (length ns) && nat_le (length ns) 6) ≡ true) × (list_all is_dim ns ≡ true) = and_parts (nat_le 1 (length ns) && nat_le (length ns) 6) (list_all is_dim ns) parts.0 in
    let count : (nat_le 1 (length ns) ≡ true) × (nat_le (length ns) 6 ≡ true) = and_parts (nat_le 1 (length ns)) (nat_le (length ns) 6) front.0 in
    record {
      some = leb-true 1 (length ns) count.0;
      few = leb-true (length ns) 6 count.1;
      each = each_positive ns front.1;
      passes = AllPass-from_list_all is_dim ns front.1;
      nodes = leb-true (product ns) 64 parts.1;
      positive = product-positive ns (each_positive ns front.1);
    }

-- what a machine's levels are known to be
pub record LevelFacts (levels : List (List ℕ)) : Type 0 where
  pub few : length levels ≤ 3
  pub each : list_all (λ l. nat_le 1 (length l)) levels ≡ true
  pub dims : DimFacts (concat levels)

pub level_facts : (levels : List (List ℕ)) → are_levels levels ≡ true → LevelFacts levels
level_facts levels h =
    let parts : ((nat_le (length levels) 3 && list_all (λ l. nat_le 1 (length l)) levels) ≡ true) × (are_dims (concat levels) ≡ true) = and_parts (nat_le (length levels) 3 && list_all (λ l. nat_le 1 (length l)) levels) (are_dims (concat levels)) h in
    let front : (nat_le (length levels) 3 ≡ true) × (list_all (λ l. nat_le 1 (length l)) levels ≡ true) = and_parts (nat_le (length levels) 3) (list_all (λ l. nat_le 1 (length l)) levels) parts.0 in
    record { few = leb-true (length levels) 3 front.0; each = front.1; dims = dim_facts (concat levels) parts.1 }

pub machine_facts : (m : MachineView) → IsMachine m → DimFacts (dims_of m)
machine_facts m h = (level_facts m.levels h).dims

few_powers : (i : ℕ) → i < 6 → 64 ^ i ≤ 64 ^ 5
few_powers zero h = omega arith
few_powers (suc zero) h = omega arith
few_powers (suc (suc zero)) h = omega arith
few_powers (suc (suc (suc zero))) h = omega arith
few_powers (suc (suc (suc (suc zero)))) h = omega arith
few_powers (suc (suc (suc (suc (suc zero))))) h = omega arith
few_powers (suc (suc (suc (suc (suc (suc i)))))) h = absurd (omega arith)

-- one more dimension of at most six
pub product_fits : (i s n : ℕ) → i < 6 → s ≤ 64 ^ i → n ≤ 64 → (s * n ≤ 64 ^ (i + 1)) × (s * n < 2 ^ 64)
product_fits i s n h k l =
    let most : s * n ≤ 64 ^ i * 64 = mul-le s n (64 ^ i) 64 k l in
    let next : 64 ^ (i + 1) ≡ 64 ^ i * 64 = rw (add-one, pow-suc 64 i) (omega arith) in
    let few : 64 ^ i ≤ 64 ^ 5 = few_powers i h in
    (omega arith, omega arith)

-- a dimension that passes the test
pub dim_most : (n : ℕ) → is_dim n ≡ true → n ≤ 64
dim_most n h = leb-true n 64 (and_parts (nat_le 1 n) (nat_le n 64) h).1

-- the number of coordinates is that of a node
pub number_below : (ns xs : List ℕ) (r : Option ℕ) → r ≡ row_major ns xs → IfSome r (λ k. k < product ns)
number_below ns xs None e = tt
number_below ns xs (Some k) e = row_major-below ns xs k (sym e)

first_within : (levels : List (List ℕ)) → length (get_or levels 0 []) ≤ length (concat levels)
first_within [] = omega arith
first_within (l ∷ ls) = omega (arith, length-append l (concat ls))

-- a node's group, from more than its coordinates
pub group_of-first : (m : MachineView) (node : ℕ) (all : List ℕ) → take (length (dims_of m)) all ≡ node_coords m node → group_of m node ≡ take (length (get_or m.levels 0 [])) all
group_of-first m node all e =
    let first : ℕ = length (get_or m.levels 0 []) in
    ap (λ (l : List ℕ). take first l) (sym e) ∙ take-take first (length (dims_of m)) all (first_within m.levels)

-- there is a level
pub some_level : (levels : List (List ℕ)) → are_levels levels ≡ true → 0 < length levels
some_level [] h = absurd (omega (arith, (level_facts [] h).dims.some))
some_level (l ∷ ls) h = omega arith

-- two nodes have one group exactly where their first coordinates are equal
pub same_groups : (m : MachineView) (a b first : ℕ) (left right : List ℕ) (r : Bool) → first ≡ length (get_or m.levels 0 [])
    → take (length (dims_of m)) left ≡ node_coords m a → take (length (dims_of m)) right ≡ node_coords m b → r ≡ bytes_eq (take first left) (take first right)
    → (r ≡ true → group_of m a ≡ group_of m b) × (group_of m a ≡ group_of m b → r ≡ true)
same_groups m a b first left right r f p q e =
    let one : take first left ≡ group_of m a = ap (λ (n : ℕ). take n left) f ∙ sym (group_of-first m a left p) in
    let other : take first right ≡ group_of m b = ap (λ (n : ℕ). take n right) f ∙ sym (group_of-first m b right q) in
    let says = bytes_eq-Decides (take first left) (take first right) in
    (λ t. sym one ∙ says.0 (sym e ∙ t) ∙ other, λ same. e ∙ says.1 (one ∙ same ∙ sym other))
