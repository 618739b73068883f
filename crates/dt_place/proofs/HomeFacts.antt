-- Homes under each kind of placement.
use Rattle.std.proofs.Common.{◌≡◌, ℕ, List, [], ◌∷◌, length, refl, ap, sym, ◌∙◌, subst, arith, Bool, true, false, ◌&&◌, nat_eq, nat_le, nat_lt}
use Rattle.std.specs.List.{AllZip, filter}
use Rattle.std.proofs.lemmas.Bool.{and_from, and_left, le-leb, lt-ltb, ne_eqb}
use Rattle.std.proofs.lemmas.List.Elements.{filter_agree}
use Rattle.dt_base.specs.Ranges.{below}
use Rattle.dt_model.specs.Positions.{StoredTensor, coords_at}
use Rattle.dt_place.specs.Homes.{all_allow, home_of, inside_of, is_home_to, is_in_block, lies_in, sides_of}
use Rattle.dt_place.specs.Machines.{MachineView, dims_of, node_coords}
use Rattle.dt_place.specs.Placements.{IsPlacement, IsWithin}
use Rattle.dt_place.specs.declared.placements.Placement.{Placement}
use Rattle.dt_place.specs.declared.placements.Placement.TheVariants.{FirstNode, ByNames}
use Rattle.dt_place.specs.declared.placements.Symbol.{Symbol}
use Rattle.dt_base.proofs.Ranges.{filter_below-every}
use Rattle.dt_base.proofs.Filters.{filter-never}

-- node 0 is home to all positions
pub first_node-all : (placement : Placement) (m : MachineView) (t : StoredTensor) (node count : ℕ) → placement ≡ FirstNode → node ≡ 0 → count ≡ length t.coords
    → filter (λ pos. is_in_block pos (0, count)) (below count) ≡ home_of placement m t node
first_node-all placement m t node count p z e =
    filter_below-every (λ pos. nat_le 0 pos && nat_lt pos count) count (λ k h. and_from (nat_le 0 k) (nat_lt k count) (le-leb 0 k (omega arith)) (lt-ltb k count h))
    ∙ ap (λ (n : ℕ). below n) e
    ∙ sym (ap (λ (l : Placement). home_of l m t node) p ∙ ap (λ (n : ℕ). home_of FirstNode m t n) z ∙ filter_below-every (λ pos. nat_eq 0 0) (length t.coords) (λ k h. refl))

-- another node is home to none
pub first_node-none : (placement : Placement) (m : MachineView) (t : StoredTensor) (node : ℕ) → placement ≡ FirstNode → (node ≡ 0 → ⊥) → [] ≡ home_of placement m t node
first_node-none placement m t node p z =
    sym (ap (λ (l : Placement). home_of l m t node) p ∙ filter-never (λ pos. nat_eq node 0) (below (length t.coords)) (λ k. ne_eqb node 0 z))

-- a placement by names has as many symbols as the machine has dimensions
pub symbols-count : (placement : Placement) (m : MachineView) (ys : List Symbol) → placement ≡ ByNames ys → IsPlacement placement m → length ys ≡ length (dims_of m)
symbols-count placement m ys e h = same_lengths IsWithin ys (dims_of m) (subst (λ (p : Placement). IsPlacement p m) e h)
  where
    same_lengths : {A B : Type 0} (R : A → B → Type 0) (xs : List A) (zs : List B) → AllZip R xs zs → length xs ≡ length zs
    same_lengths R [] [] h = refl
    same_lengths R [] (z ∷ zs) h = absurd h
    same_lengths R (x ∷ xs) [] h = absurd h
    same_lengths R (x ∷ xs) (z ∷ zs) h = omega (arith, same_lengths R xs zs h.1)

-- a node where some symbol does not allow the tensor is home to none
pub home_of-refused : (ys : List Symbol) (m : MachineView) (t : StoredTensor) (node : ℕ) (qs : List ℕ) → qs ≡ node_coords m node → all_allow ys qs ≡ false → [] ≡ home_of (ByNames ys) m t node
home_of-refused ys m t node qs e h =
    let here : all_allow ys (node_coords m node) ≡ false = ap (λ (c : List ℕ). all_allow ys c) (sym e) ∙ h in
    sym (filter-never (is_home_to (ByNames ys) m t node) (below (length t.coords)) (λ k. and_left (all_allow ys (node_coords m node)) (lies_in (sides_of t.extents ys (dims_of m) (node_coords m node)) (coords_at t k)) here))

-- elsewhere it is home to the positions inside its sides
pub home_of-allowed : (ys : List Symbol) (m : MachineView) (t : StoredTensor) (node : ℕ) (qs : List ℕ) → qs ≡ node_coords m node → all_allow ys qs ≡ true
    → inside_of (sides_of t.extents ys (dims_of m) qs) t ≡ home_of (ByNames ys) m t node
home_of-allowed ys m t node qs e h =
    let here : all_allow ys (node_coords m node) ≡ true = ap (λ (c : List ℕ). all_allow ys c) (sym e) ∙ h in
    ap (λ (c : List ℕ). inside_of (sides_of t.extents ys (dims_of m) c) t) e
    ∙ filter_agree (λ pos. lies_in (sides_of t.extents ys (dims_of m) (node_coords m node)) (coords_at t pos)) (is_home_to (ByNames ys) m t node)
    (λ k. sym (ap (λ (b : Bool). b && lies_in (sides_of t.extents ys (dims_of m) (node_coords m node)) (coords_at t k)) here)) (below (length t.coords))
