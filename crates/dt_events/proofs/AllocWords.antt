-- An alloc of a tensor's scratch has no more words than the greatest of the tensor's paths on the node.
use Rattle.std.proofs.Common.{◌≡◌, ℕ, zero, suc, ◌-◌, ◌*◌, ◌<◌, ◌≤◌, Bool, true, false, List, [], ◌∷◌, ◌++◌, length, map, Some, refl, sym, ap, ◌∙◌, subst, inl, inr, arith, eq-eqb}
use Rattle.std.specs.Prelude.{if◌then◌else◌, nat_eq, nat_lt, slice_get}
use Rattle.std.specs.List.{AllByRecursion, flat_map, zip}
use Rattle.std.proofs.lemmas.Bool.{lt-ltb}
use Rattle.dt_base.specs.Ranges.{below}
use Rattle.dt_model.specs.Positions.{cost_of, tensor_at}
use Rattle.dt_nest.specs.Outputs.{output_of}
use Rattle.dt_nest.specs.Visits.{needed_of}
use Rattle.dt_nest.specs.Paths.{depth_of, paths_of}
use Rattle.dt_nest.proofs.Each.{all_append, all_flat, all_flat_map, all_made}
use Rattle.dt_copy.specs.declared.piece_list.Piece.{Piece}
use Rattle.dt_copy.specs.Sources.{home_at}
use Rattle.dt_argument.proofs.Shapes.{if_true}
use Rattle.dt_plan.specs.declared.kind.Kind.TheVariants as kind
use Rattle.dt_plan.specs.declared.ops.Op.{Op}
use Rattle.dt_plan.specs.declared.parts.Part.{Part}
use Rattle.dt_plan.specs.Listed.{IsIn, listed}
use Rattle.dt_plan.specs.Layouts.{Layout, homes_at, node_of}
use Rattle.dt_plan.specs.Bounds.{greatest_of, node_paths, scratch_words}
use Rattle.dt_plan.specs.Brackets.{Outline, pieces_on, moves_on, busy_nodes, works_of, named_ops}
use Rattle.dt_plan.specs.Operations.{work_size, works_in, node_works, scratch_on, zero_on, outline_of, outlines_of, ops_of, key_of}
use Rattle.dt_plan.proofs.Ascending.{all_in, all_from_in, filter_in}
use Rattle.dt_plan.proofs.NodeRows.{greatest-cons}
use Rattle.dt_plan.proofs.OperationUnits.{any, parts_numbered}
use Rattle.dt_plan.proofs.OutlineFacts.{works_after}
use Rattle.dt_plan.proofs.Sorting.{in_listed}
use Rattle.dt_events.specs.StateLaws.{IsRunnable, AreRunnable}

-- an alloc of a tensor costs no more than the greatest of the tensor's paths on its node
abbrev pub IsWithin : Layout → Op → Type 0
IsWithin l o =
    (p : Part) → slice_get l.parts o.stmt ≡ Some p → o.kind ≡ kind.Alloc → o.tensor < length l.stored → cost_of (tensor_at l.stored o.tensor) * length o.words ≤ scratch_words l p.sched o.node o.tensor

-- no element is greater than the greatest
pub greatest_in : {X : Type 0} (f : X → ℕ) (x : X) (xs : List X) → IsIn x xs → f x ≤ greatest_of (map f xs)
greatest_in f x [] h = absurd h
greatest_in f x (y ∷ xs) (inl e) = let a = greatest-cons (f y) (map f xs) in let b = ap f e in omega (arith, a, b)
greatest_in f x (y ∷ xs) (inr h) = let a = greatest-cons (f y) (map f xs) in let b = greatest_in f x xs h in omega (arith, a, b)

-- the element of an option
pub some_same : (p q : Part) → Some p ≡ Some q → p ≡ q
some_same p q e = cc

-- what holds of an element at a number
some_has : (P : Part → Type 0) (ps : List Part) (k : ℕ) (p : Part) → AllByRecursion P ps → slice_get ps k ≡ Some p → P p
some_has P [] k p h e = absurd (cc)
some_has P (q ∷ ps) zero p h e = subst P (some_same q p e) h.0
some_has P (q ∷ ps) (suc k) p h e = some_has P ps k p h.1 e

module _ (l : Layout) (k : ℕ) (p : Part) (here : slice_get l.parts k ≡ Some p) (fits : length p.sched.tensors ≡ length l.stored) where
  abbrev M : Outline Op Piece
  M = outline_of l k p

  -- operations of other kinds
  never : (o : Op) → (o.kind ≡ kind.Alloc → ⊥) → IsWithin l o
  never o f q e a h = absurd (f a)

  own_within : (t : ℕ) (path : List ℕ) → IsIn path (M.paths (M.depth t)) → nat_lt t (length p.sched.tensors) ≡ true
      → cost_of (tensor_at l.stored t) * length (scratch_on l p.sched t path) ≤ scratch_words l p.sched (node_of l.machine p.sched path) t
  own_within t path i lt =
      subst (λ (ws : List ℕ). cost_of (tensor_at l.stored t) * length ws ≤ scratch_words l p.sched (node_of l.machine p.sched path) t)
      (sym (if_true (nat_lt t (length p.sched.tensors)) (needed_of l.stored p.sched t path) (below (work_size p.sched (t - length p.sched.tensors))) lt))
      (greatest_in (λ r. cost_of (tensor_at l.stored t) * length (needed_of l.stored p.sched t r)) path (node_paths l p.sched (depth_of p.sched t) (node_of l.machine p.sched path))
      (filter_in (λ r. nat_eq (node_of l.machine p.sched r) (node_of l.machine p.sched path)) path (paths_of l.stored p.sched (depth_of p.sched t))
      (subst (λ (d : ℕ). IsIn path (paths_of l.stored p.sched d)) (if_true (nat_lt t (length p.sched.tensors)) (depth_of p.sched t) 0 lt) i)
      (eq-eqb (node_of l.machine p.sched path) (node_of l.machine p.sched path) refl)))

  alloc_within : (t : ℕ) (path : List ℕ) → IsIn path (M.paths (M.depth t)) → IsWithin l (M.alloc t path)
  alloc_within t path i q e a h =
      subst (λ (r : Part). cost_of (tensor_at l.stored t) * length (scratch_on l p.sched t path) ≤ scratch_words l r.sched (node_of l.machine p.sched path) t) (some_same p q (sym here ∙ e))
      (own_within t path i (lt-ltb t (length p.sched.tensors) (subst (λ (n : ℕ). t < n) (sym fits) h)))

  moves_within : (t : ℕ) (path : List ℕ) → IsIn path (M.paths (M.depth t)) → AllByRecursion (IsWithin l) (moves_on M t path)
  moves_within t path i =
      (alloc_within t path i, all_append (IsWithin l) (pieces_on M t path) (M.free t path ∷ []) (go (nat_eq t M.output)) (never (M.free t path) (λ e. cc), tt))
    where
      go : (b : Bool) → AllByRecursion (IsWithin l) (if b then map (M.fold t path) (M.shares t path) else map (M.copy t path) (M.pieces t path))
      go true = all_made (λ (x : Piece). Unit {0}) (IsWithin l) (M.fold t path) (λ x u. never (M.fold t path x) (λ e. cc)) (M.shares t path) (any (M.shares t path))
      go false = all_made (λ (x : Piece). Unit {0}) (IsWithin l) (M.copy t path) (λ x u. never (M.copy t path x) (λ e. cc)) (M.pieces t path) (any (M.pieces t path))

  zeros_within : (n : ℕ) (b : Bool) (ws : List ℕ) → AllByRecursion (IsWithin l) (if b then [] else zero_on k (output_of p.sched.nest) n ws)
  zeros_within n true ws = tt
  zeros_within n false [] = tt
  zeros_within n false (w ∷ ws) = (λ q e a h. absurd (cc), tt)

  -- a workspace is no tensor
  work_within : (n w : ℕ) → length p.sched.tensors ≤ w → IsWithin l (M.work_alloc n w)
  work_within n w far q e a h = absurd (omega (arith, far, fits, h))

  works_within : (w : ℕ) → length p.sched.tensors ≤ w → AllByRecursion (IsWithin l) (works_of M w)
  works_within w far =
      all_append (IsWithin l) (map (λ n. M.work_alloc n w) (busy_nodes M)) (map (λ n. M.work_free n w) (busy_nodes M))
      (all_made (λ (n : ℕ). Unit {0}) (IsWithin l) (λ n. M.work_alloc n w) (λ n u. work_within n w far) (busy_nodes M) (any (busy_nodes M)))
      (all_made (λ (n : ℕ). Unit {0}) (IsWithin l) (λ n. M.work_free n w) (λ n u. never (M.work_free n w) (λ e. cc)) (busy_nodes M) (any (busy_nodes M)))

  works_far : AllByRecursion (λ w. length p.sched.tensors ≤ w) (node_works p.sched)
  works_far = go (nat_eq p.sched.distributed 0)
    where
      go : (b : Bool) → AllByRecursion (λ w. length p.sched.tensors ≤ w) (if b then [] else works_in p.sched)
      go true = tt
      go false = works_after p.sched

  named_within : AllByRecursion (IsWithin l) (named_ops M)
  named_within =
      all_append (IsWithin l) (flat_map M.zeros (below M.nodes)) ((moves ++ works) ++ map M.task (M.paths M.deepest))
      (all_flat_map (IsWithin l) M.zeros (below M.nodes) (λ n. zeros_within n p.adds (home_at (homes_at l (output_of p.sched.nest)) n)))
      (all_append (IsWithin l) (moves ++ works) (map M.task (M.paths M.deepest))
      (all_append (IsWithin l) moves works
      (all_flat_map (IsWithin l) moves_at M.tensors
      (λ t. all_flat (λ path. IsIn path (M.paths (M.depth t))) (IsWithin l) (moves_on M t) (λ path i. moves_within t path i) (M.paths (M.depth t)) (all_from_in (λ path. IsIn path (M.paths (M.depth t))) (M.paths (M.depth t)) (λ path i. i))))
      (all_flat (λ w. length p.sched.tensors ≤ w) (IsWithin l) (works_of M) works_within M.works works_far))
      (all_made (λ (path : List ℕ). Unit {0}) (IsWithin l) M.task (λ path u. never (M.task path) (λ e. cc)) (M.paths M.deepest) (any (M.paths M.deepest))))
    where
      moves_at : ℕ → List Op
      moves_at t = flat_map (moves_on M t) (M.paths (M.depth t))

      moves : List Op
      moves = flat_map moves_at M.tensors

      works : List Op
      works = flat_map (works_of M) M.works

module _ (l : Layout) (runnable : AreRunnable l) where
  all_within : AllByRecursion (IsWithin l) (flat_map named_ops (outlines_of l))
  all_within =
      all_flat (λ (m : Outline Op Piece). AllByRecursion (IsWithin l) (named_ops m)) (IsWithin l) named_ops (λ m a. a) (outlines_of l)
      (all_made (λ (x : ℕ × Part). slice_get l.parts x.0 ≡ Some x.1) (λ (m : Outline Op Piece). AllByRecursion (IsWithin l) (named_ops m)) (λ (x : ℕ × Part). outline_of l x.0 x.1)
      (λ x e. named_within l x.0 x.1 e (some_has (IsRunnable l) l.parts x.0 x.1 runnable e).tensors)
      (zip (below (length l.parts)) l.parts) (parts_numbered l))

-- so it is for each operation of the list
pub ops_within : (l : Layout) → AreRunnable l → AllByRecursion (IsWithin l) (ops_of l)
unfolding ops_of
ops_within l runnable =
    all_from_in (IsWithin l) (listed key_of (flat_map named_ops (outlines_of l)))
    (λ o i. all_in (IsWithin l) o (flat_map named_ops (outlines_of l)) (all_within l runnable) (in_listed key_of o (flat_map named_ops (outlines_of l)) i))
