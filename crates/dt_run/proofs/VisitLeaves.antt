-- The leaves of a schedule's visits are over the tensors that fit it.
use Rattle.std.proofs.Common.{◌≡◌, ℕ, ◌+◌, ◌<◌, ◌≤◌, Bool, true, false, List, [], length, get_or, map, Some, None, IsSome, refl, sym, ap, ◌∙◌, subst, arith, slice_get, option_map, cond}
use Rattle.std.specs.Prelude.{slice_index}
use Rattle.std.specs.List.{AllByRecursion}
use Rattle.std.proofs.lemmas.List.{length-map, get_or-map}
use Rattle.std.proofs.lemmas.Option.{slice_get-get_or, slice_get-map, slice_get_within}
use Rattle.dt_model.specs.WholeTensor.{WholeTensor}
use Rattle.dt_model.specs.Positions.{StoredTensor, tensor_at}
use Rattle.dt_model.specs.Shape.{are_extents}
use Rattle.dt_model.specs.Stmts.{shapes_of}
use Rattle.dt_model.specs.declared.shape.Shape.{Shape}
use Rattle.dt_model.specs.declared.stmt.Access.{Access}
use Rattle.dt_model.proofs.ShapeFacts.{ExtentFacts, extent_facts, extent_most}
use Rattle.dt_nest.specs.Tree.{Tree, Loop, Pre, Leaf, accesses_of}
use Rattle.dt_nest.specs.Schedule.{Schedule}
use Rattle.dt_nest.specs.World.{FitsAccess}
use Rattle.dt_nest.specs.Lawful.{AccessBelow, IsNamed, IsLawful}
use Rattle.dt_nest.specs.Outputs.{output_of}
use Rattle.dt_nest.proofs.Each.{all_map}
use Rattle.dt_nest.proofs.Truth.{all_and}
use Rattle.dt_nest.proofs.Agree.{all_parts}
use Rattle.dt_nest.proofs.NamedAccesses.{named_accesses}
use Rattle.dt_nest.specs.FitsStored.{FitsStored}
use Rattle.dt_nest.proofs.Inside.{fits_stored}
use Rattle.dt_nest.specs.Visits.{Item, IsReset, IsVisit, visits_of}
use Rattle.dt_nest.proofs.Pruned.{stored_each}
use Rattle.dt_leaf.proofs.EachLeaf.{EachLeaf, OfLeaf, visited_leaves}
use Rattle.dt_run.specs.Visiting.{IsAccessOver, IsRunnable, IsLeafOver, IsItemOver}

-- an item with a leaf over the tensors is over them
item_over : (shapes : List (List ℕ)) (s : Schedule) (item : Item) → OfLeaf (IsLeafOver shapes s) item → IsItemOver shapes s item
item_over shapes s (IsReset work) h = tt
item_over shapes s (IsVisit visit) h = h

-- Without workspaces a tree is a chain of loops around one leaf.
module _ (s : Schedule) (workless : s.works ≡ []) where
  no_node : (work : ℕ) → work < length s.works → ⊥
  no_node work l = let e = ap length workless in absurd (omega arith)

  -- so its leaf writes the output
  pub leaves_over : (shapes : List (List ℕ)) (tree : Tree) → IsNamed s tree → output_of tree ≡ output_of s.nest → AllByRecursion (IsAccessOver shapes s.extents) (accesses_of tree) → EachLeaf (IsLeafOver shapes s) tree
  leaves_over shapes (Loop v n walk body) h e a = leaves_over shapes body h.3 e a
  leaves_over shapes (Pre work pairs p q) h e a = absurd (no_node work h.0)
  leaves_over shapes (Leaf lhs terms guards kernel) h e a = record { left = e; accesses = a }

-- the last leaf of a tree writes one of the tensors
pub output_within : (shapes : List (List ℕ)) (extents : List ℕ) (tree : Tree) → AllByRecursion (IsAccessOver shapes extents) (accesses_of tree) → output_of tree < length shapes
output_within shapes extents (Loop v n walk body) a = output_within shapes extents body a
output_within shapes extents (Pre work pairs p q) a = output_within shapes extents q (all_parts (IsAccessOver shapes extents) (accesses_of p) (accesses_of q) a).1
output_within shapes extents (Leaf lhs terms guards kernel) a = slice_get_within shapes lhs.tensor (map (slice_index extents) lhs.vars) a.0.fits

are_some : (ns : List ℕ) (b : Bool) (x : Shape) → IsSome (cond b (Some x) None) → b ≡ true
are_some ns true x h = refl
are_some ns false x h = absurd (cc)

-- an access that fits is over the tensors
access_over : (stored : List StoredTensor) (tensors : List WholeTensor) (s : Schedule) → IsRunnable stored tensors s → (a : Access) → FitsAccess stored s a.tensor a.vars × AccessBelow (length s.names) (length s.tensors + length s.works) a
    → IsAccessOver (shapes_of tensors) s.extents a
access_over stored tensors s r a h = record {
  few = let n = length-map a.vars (slice_index s.extents) in omega (arith, facts.few, n);
  small = λ k d l.
      let room : k < length (map (slice_index s.extents) a.vars) = omega (arith, length-map a.vars (slice_index s.extents)) in
      subst (λ (n : ℕ). n ≤ 4096) (get_or-map (slice_index s.extents) a.vars k d 0 l) (extent_most (get_or (map (slice_index s.extents) a.vars) k 0) (facts.passes k 0 room));
  fits = ap (λ (l : List (List ℕ)). slice_get l a.tensor) (sym r.fits.shapes) ∙ slice_get-map (λ (t : StoredTensor). t.extents) stored a.tensor
      ∙ ap (option_map (λ (t : StoredTensor). t.extents)) (slice_get-get_or stored a.tensor (record { extents = []; compressed = []; coords = [] }) (omega (arith, within, stored_fits.count)))
      ∙ ap Some extents;
}
  where
    stored_fits : FitsStored stored s
    stored_fits = fits_stored stored tensors s r.fits

    within : a.tensor < length s.tensors
    within = let e = ap length r.workless in let l = h.1.0 in omega arith

    extents : (tensor_at stored a.tensor).extents ≡ map (slice_index s.extents) a.vars
    extents = h.0 within

    passes : are_extents (map (slice_index s.extents) a.vars) ≡ true
    passes =
        subst (λ (ns : List ℕ). are_extents ns ≡ true) extents
        (are_some (tensor_at stored a.tensor).extents (are_extents (tensor_at stored a.tensor).extents) _ (stored_each stored s stored_fits a.tensor within).shape)

    facts : ExtentFacts (map (slice_index s.extents) a.vars)
    facts = extent_facts (map (slice_index s.extents) a.vars) passes

-- so are all accesses
pub accesses_over : (stored : List StoredTensor) (tensors : List WholeTensor) (s : Schedule) → IsRunnable stored tensors s → IsLawful s → AllByRecursion (IsAccessOver (shapes_of tensors) s.extents) (accesses_of s.nest)
accesses_over stored tensors s r lawful =
    all_map (λ a. FitsAccess stored s a.tensor a.vars × AccessBelow (length s.names) (length s.tensors + length s.works) a) (IsAccessOver (shapes_of tensors) s.extents) (access_over stored tensors s r) (accesses_of s.nest)
    (all_and (λ a. FitsAccess stored s a.tensor a.vars) (AccessBelow (length s.names) (length s.tensors + length s.works)) (accesses_of s.nest) r.fits.accesses (named_accesses s s.nest lawful.named))

-- and all visits
pub visits_over : (stored : List StoredTensor) (tensors : List WholeTensor) (s : Schedule) → IsRunnable stored tensors s → IsLawful s → AllByRecursion (IsItemOver (shapes_of tensors) s) (visits_of stored s [])
visits_over stored tensors s r lawful =
    all_map (OfLeaf (IsLeafOver (shapes_of tensors) s)) (IsItemOver (shapes_of tensors) s) (item_over (shapes_of tensors) s) (visits_of stored s [])
    (visited_leaves (IsLeafOver (shapes_of tensors) s) stored s [] (leaves_over s r.workless (shapes_of tensors) s.nest lawful.named refl (accesses_over stored tensors s r lawful)))

-- the left tensor is one of the tensors
pub left_within : (stored : List StoredTensor) (tensors : List WholeTensor) (s : Schedule) → IsRunnable stored tensors s → IsLawful s → output_of s.nest < length tensors
left_within stored tensors s r lawful =
    let l = output_within (shapes_of tensors) s.extents s.nest (accesses_over stored tensors s r lawful) in
    let n = length-map tensors (λ (t : WholeTensor). t.extents) in omega (arith, l, n)
