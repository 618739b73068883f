-- The homes on all nodes.
use Rattle.std.proofs.Common.{◌≡◌, ℕ, ◌<◌, List, [], length, get_or, ap, sym, ◌∙◌, subst, arith, true, inl, inr}
use Rattle.std.proofs.lemmas.Bool.{and_parts, cases_lt, ltb-true}
use Rattle.std.proofs.lemmas.List.{get_or-map, get_or_past, length-map}
use Rattle.std.proofs.lemmas.List.Folds.{list_any_at}
use Rattle.dt_base.specs.Ranges.{below}
use Rattle.dt_base.proofs.Ranges.{get_or-below, length-below}
use Rattle.dt_model.specs.Positions.{StoredTensor}
use Rattle.dt_runs.specs.Sets.{contains}
use Rattle.dt_runs.proofs.BelowSets.{contains-below}
use Rattle.dt_runs.proofs.SetLemmas.{contains-filter}
use Rattle.dt_place.specs.Homes.{home_of, homes_on, is_home_to}
use Rattle.dt_place.specs.HomeLaws.{HomesCover}
use Rattle.dt_place.specs.Machines.{MachineView, nodes_of}
use Rattle.dt_place.specs.declared.placements.Placement.{Placement}
use Rattle.dt_place.proofs.Coverage.{covered}

-- there is one for each node
pub length-homes : (placement : Placement) (m : MachineView) (t : StoredTensor) → length (homes_on placement m t) ≡ nodes_of m
length-homes placement m t = length-map (below (nodes_of m)) (home_of placement m t) ∙ length-below (nodes_of m)

-- the home of a node is at its number
home-at : (placement : Placement) (m : MachineView) (t : StoredTensor) (node : ℕ) → node < nodes_of m → get_or (homes_on placement m t) node [] ≡ home_of placement m t node
home-at placement m t node h =
    get_or-map (home_of placement m t) (below (nodes_of m)) node 0 [] (omega (arith, length-below (nodes_of m))) ∙ ap (home_of placement m t) (get_or-below (nodes_of m) node 0 h)

home-within : (placement : Placement) (m : MachineView) (t : StoredTensor) (node pos : ℕ) → contains (home_of placement m t node) pos ≡ true → pos < length t.coords
home-within placement m t node pos h =
    let both = sym (contains-filter (is_home_to placement m t node) (below (length t.coords)) pos) ∙ h in
    ltb-true pos (length t.coords) (sym (contains-below (length t.coords) pos) ∙ (and_parts (contains (below (length t.coords)) pos) (is_home_to placement m t node pos) both).0)

homes-within : (placement : Placement) (m : MachineView) (t : StoredTensor) (node pos : ℕ) → contains (get_or (homes_on placement m t) node []) pos ≡ true → pos < length t.coords
homes-within placement m t node pos h = elim (cases_lt node (nodes_of m)) [
  | inl lt ↦ home-within placement m t node pos (subst (λ (l : List ℕ). contains l pos ≡ true) (home-at placement m t node lt) h)
  | inr le ↦ (let none : contains [] pos ≡ true = subst (λ (l : List ℕ). contains l pos ≡ true) (get_or_past (homes_on placement m t) node [] (omega (arith, length-homes placement m t))) h in absurd (cc))
]

pub homes_cover : HomesCover
homes_cover placement m t machine placed stored = record {
  count = length-homes placement m t;
  each = home-at placement m t;
  within = homes-within placement m t;
  covered = λ pos h.
      let there = covered placement m t machine placed stored pos h in
      list_any_at (λ home. contains home pos) (homes_on placement m t) there.0 [] (omega (arith, length-homes placement m t, there.1))
      (subst (λ (l : List ℕ). contains l pos ≡ true) (sym (home-at placement m t there.0 there.1)) there.2);
}
