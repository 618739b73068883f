-- What a lawful shape is known to be.
use Rattle.std.proofs.Common.{◌≡◌, ℕ, zero, suc, add-one, ◌+◌, ◌-◌, ◌*◌, ◌^◌, ◌<◌, ◌≤◌, List, [], ◌∷◌, ◌++◌, length, refl, ap, sym, arith, Some, None, Bool, true, false, cond, ◌&&◌, replicate, nat_le}
use Rattle.std.specs.List.{AllByRecursion, AllPass, list_all}
use Rattle.std.proofs.lemmas.List.Sums.{AllPass-from_list_all}
use Rattle.std.proofs.lemmas.Nat.{mul-le}
use Rattle.std.proofs.Math.Nat.{pow-suc}
use Rattle.std.proofs.lemmas.Bool.{leb-true}
use Rattle.dt_base.specs.Rows.{product}
use Rattle.dt_model.specs.Shape.{dims, is_extent, are_extents, IsShape}
use Rattle.dt_model.specs.declared.shape.Shape.{Shape}

-- the facts that callers of a lawful shape use
pub record ShapeFacts (s : Shape) : Type 0 where
  pub order : s.order ≤ 4
  pub used : length (dims s) ≡ s.order
  pub each : AllByRecursion (λ n. 1 ≤ n) (dims s)
  pub passes : AllPass is_extent (dims s)
  pub size : product (dims s) ≤ 16777216

-- what the tests of extents say
pub record ExtentFacts (ns : List ℕ) : Type 0 where
  pub few : length ns ≤ 4
  pub each : AllByRecursion (λ n. 1 ≤ n) ns
  pub passes : AllPass is_extent ns
  pub size : product ns ≤ 16777216

-- both parts of a test that holds
pub both : (a b : Bool) → (a && b) ≡ true → (a ≡ true) × (b ≡ true)
both true true h = (refl, refl)
both true false h = cc
both false b h = cc

-- extents that pass the test are at least 1
each_positive : (ns : List ℕ) → list_all is_extent ns ≡ true → AllByRecursion (λ n. 1 ≤ n) ns
each_positive [] h = tt
each_positive (n ∷ ns) h =
    let parts : (is_extent n ≡ true) × (list_all is_extent ns ≡ true) = both (is_extent n) (list_all is_extent ns) h in
    let ends : (nat_le 1 n ≡ true) × (nat_le n 4096 ≡ true) = both (nat_le 1 n) (nat_le n 4096) parts.0 in
    (leb-true 1 n ends.0, each_positive ns parts.1)

pub extent_facts : (ns : List ℕ) → are_extents ns ≡ true → ExtentFacts ns
extent_facts ns h =
    let parts : ((nat_le (length ns) 4 && list_all is_extent ns) ≡ true) × (nat_le (product ns) 16777216 ≡ true) = both (nat_le (length ns) 4 && list_all is_extent ns) (nat_le (product ns) 16777216) h in
    let front : (nat_le (length ns) 4 ≡ true) × (list_all is_extent ns ≡ true) = both (nat_le (length ns) 4) (list_all is_extent ns) parts.0 in
    record { few = leb-true (length ns) 4 front.0; each = each_positive ns front.1; passes = AllPass-from_list_all is_extent ns front.1; size = leb-true (product ns) 16777216 parts.1 }

-- the shape with these extents
abbrev record_of : List ℕ → Shape
record_of ns = record { order = length ns; extents = ns ++ replicate (4 - length ns) 1 }

-- the tests of a lawful shape's extents, and where its fields come from
from_test : (ns : List ℕ) (s : Shape) (b : Bool) → are_extents ns ≡ b → cond b (Some (record_of ns)) None ≡ Some s
    → ExtentFacts ns × (s.order ≡ length ns) × (s.extents ≡ ns ++ replicate (4 - length ns) 1)
from_test ns s true t h =
    let fields : record_of ns ≡ s = cc in
    (extent_facts ns t, sym (ap (λ (z : Shape). z.order) fields), sym (ap (λ (z : Shape). z.extents) fields))
from_test ns s false t h = cc

pub shape_facts : (s : Shape) → IsShape s → ShapeFacts s
shape_facts s h =
    let parts : ExtentFacts (dims s) × (s.order ≡ length (dims s)) × (s.extents ≡ dims s ++ replicate (4 - length (dims s)) 1) = from_test (dims s) s (are_extents (dims s)) refl h in
    record { order = omega (arith, parts.1, parts.0.few); used = sym parts.1; each = parts.0.each; passes = parts.0.passes; size = parts.0.size }

few_powers : (i : ℕ) → i < 4 → 4096 ^ i ≤ 4096 ^ 3
few_powers zero h = omega arith
few_powers (suc zero) h = omega arith
few_powers (suc (suc zero)) h = omega arith
few_powers (suc (suc (suc zero))) h = omega arith
few_powers (suc (suc (suc (suc i)))) h = omega arith

-- one more extent of at most four
pub size_fits : (i s n : ℕ) → i < 4 → s ≤ 4096 ^ i → n ≤ 4096 → (s * n ≤ 4096 ^ (i + 1)) × (s * n < 2 ^ 64)
size_fits i s n h k l =
    let most : s * n ≤ 4096 ^ i * 4096 = mul-le s n (4096 ^ i) 4096 k l in
    let next : 4096 ^ (i + 1) ≡ 4096 ^ i * 4096 = rw (add-one, pow-suc 4096 i) (omega arith) in
    let few : 4096 ^ i ≤ 4096 ^ 3 = few_powers i h in
    (omega arith, omega arith)

-- an extent that passes the test
pub extent_most : (n : ℕ) → is_extent n ≡ true → n ≤ 4096
extent_most n h = leb-true n 4096 (both (nat_le 1 n) (nat_le n 4096) h).1
