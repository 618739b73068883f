-- The laws of the list of operations.
use Rattle.std.proofs.Common.{◌≡◌, ℕ, zero, suc, ◌+◌, ◌<◌, ◌≤◌, Bool, true, false, List, [], ◌∷◌, ◌++◌, refl, sym, ap, ◌∙◌, subst, arith, map, length, length-append, inl, inr}
use Rattle.std.specs.Prelude.{if◌then◌else◌, nat_eq}
use Rattle.std.specs.List.{AllByRecursion, flat_map, zip}
use Rattle.dt_base.specs.Ranges.{below}
use Rattle.dt_model.specs.PositionLaws.{is_before}
use Rattle.dt_nest.specs.Paths.{task_depth}
use Rattle.dt_nest.specs.Outputs.{output_of}
use Rattle.dt_nest.proofs.Each.{all_map, all_append, all_made, all_flat}
use Rattle.dt_copy.specs.declared.piece_list.Piece.{Piece}
use Rattle.dt_copy.specs.Sources.{home_at}
use Rattle.dt_plan.specs.declared.ops.Op.{Op}
use Rattle.dt_plan.specs.declared.parts.Part.{Part}
use Rattle.dt_plan.specs.Listed.{IsIn, Ascends}
use Rattle.dt_plan.specs.Layouts.{Layout, homes_at}
use Rattle.dt_plan.specs.Brackets.{Outline, pieces_on, moves_on, busy_nodes, works_of, named_ops, brackets, paths_from, visited}
use Rattle.dt_plan.specs.Operations.{zero_on, outline_of, outlines_of, ops_of, key_of, path_end, lengthened, comes_before}
use Rattle.dt_plan.specs.ListingLaws.{IsLayout, ListIsBrackets, ListHasNamed, ListAscends, IsOrderedBy, ListIsOrdered}
use Rattle.dt_plan.proofs.Ascending.{all_in, all_from_in, in_flat}
use Rattle.dt_plan.proofs.Sorting.{listed_ascends}
use Rattle.dt_plan.proofs.Stretches.{Rises}
use Rattle.dt_plan.proofs.Outlines.{IsOutline, paths_are}
use Rattle.dt_plan.proofs.Listing.{job_ascends, job_in_brackets, job_in_named, job_is_brackets}
use Rattle.dt_plan.proofs.Meeting.{node_at}
use Rattle.dt_plan.proofs.OutlineFacts.{are_outlines, outlines_rise}
use Rattle.dt_plan.proofs.KeyOrder.{Fork, paths_fork, key_orders}
use Rattle.dt_plan.proofs.OperationUnits.{any}

-- a path of some length, with values below 2^32
abbrev IsPathOf : ℕ → List ℕ → Type 0
IsPathOf k q = AllByRecursion (λ i. i < 4294967296) q × (length q ≡ k)

-- an operation of statement k whose tasks have d loops: its path's values are below 2^32, and no path is longer than a task's
abbrev FitsStmt : ℕ → ℕ → Op → Type 0
FitsStmt k d o = (o.stmt ≡ k) × AllByRecursion (λ i. i < 4294967296) o.path × (length o.path ≤ d) × (path_end o.kind ≡ 1 → length o.path ≡ d)

module _ (l : Layout) (k : ℕ) (p : Part) (h : IsOutline key_of node_at (outline_of l k p)) where
  abbrev M : Outline Op Piece
  M = outline_of l k p

  abbrev deepest : ℕ
  deepest = task_depth p.sched

  abbrev Fits : Op → Type 0
  Fits = FitsStmt k deepest

  below_paths : (j : ℕ) (q : List ℕ) → AllByRecursion (λ i. i < 4294967296) q → AllByRecursion (IsPathOf (length q + j)) (paths_from M j q)
  below_paths zero q a = ((a, omega arith), tt)
  below_paths (suc j) q a =
      all_flat (λ i. i < 4294967296) (IsPathOf (length q + suc j)) (λ i. paths_from M j (q ++ (i ∷ [])))
      (λ i b. all_map (IsPathOf (length (q ++ (i ∷ [])) + j)) (IsPathOf (length q + suc j)) (λ r e. (e.0, (let f = e.1 in omega (arith, f, length-append q (i ∷ []))))) (paths_from M j (q ++ (i ∷ [])))
      (below_paths j (q ++ (i ∷ [])) (all_append (λ i. i < 4294967296) q (i ∷ []) a (b, tt)))) (M.values q) (h.values_below q)

  all_paths : (j : ℕ) → j ≤ deepest → AllByRecursion (IsPathOf j) (M.paths j)
  all_paths j b = subst (λ ps. AllByRecursion (IsPathOf j) ps) (sym (paths_are key_of node_at M h j (let e = h.deepest in omega (arith, b, e)))) (go (visited M))
    where
      go : (v : Bool) → AllByRecursion (IsPathOf j) (if v then paths_from M j [] else [])
      go true = all_map (IsPathOf (0 + j)) (IsPathOf j) (λ q e. (e.0, (let f = e.1 in omega (arith, f)))) (paths_from M j []) (below_paths j [] tt)
      go false = tt

  moves_fit : (t : ℕ) (q : List ℕ) → M.depth t ≤ deepest → IsPathOf (M.depth t) q → AllByRecursion Fits (moves_on M t q)
  moves_fit t q b g =
      ((refl, g.0, short, λ e. absurd (omega (arith, e))), all_append Fits (pieces_on M t q) (M.free t q ∷ []) (go (nat_eq t M.output)) ((refl, g.0, short, λ e. absurd (omega (arith, e))), tt))
    where
      short : length q ≤ deepest
      short = let f = g.1 in omega (arith, f, b)

      go : (b : Bool) → AllByRecursion Fits (if b then map (M.fold t q) (M.shares t q) else map (M.copy t q) (M.pieces t q))
      go true = all_made (λ x. Unit {0}) Fits (M.fold t q) (λ x u. (refl, g.0, short, λ e. absurd (omega (arith, e)))) (M.shares t q) (any (M.shares t q))
      go false = all_made (λ x. Unit {0}) Fits (M.copy t q) (λ x u. (refl, g.0, short, λ e. absurd (omega (arith, e)))) (M.pieces t q) (any (M.pieces t q))

  zeros_fit : (n : ℕ) (b : Bool) (ws : List ℕ) → AllByRecursion Fits (if b then [] else zero_on k (output_of p.sched.nest) n ws)
  zeros_fit n true ws = tt
  zeros_fit n false [] = tt
  zeros_fit n false (w ∷ ws) = ((refl, tt, omega arith, λ e. absurd (omega (arith, e))), tt)

  works_fit : (w : ℕ) → AllByRecursion Fits (works_of M w)
  works_fit w =
      all_append Fits (map (λ n. M.work_alloc n w) (busy_nodes M)) (map (λ n. M.work_free n w) (busy_nodes M))
      (all_made (λ n. Unit {0}) Fits (λ n. M.work_alloc n w) (λ n u. (refl, tt, omega arith, λ e. absurd (omega (arith, e)))) (busy_nodes M) (any (busy_nodes M)))
      (all_made (λ n. Unit {0}) Fits (λ n. M.work_free n w) (λ n u. (refl, tt, omega arith, λ e. absurd (omega (arith, e)))) (busy_nodes M) (any (busy_nodes M)))

  -- all operations of a statement fit
  pub named_fit : AllByRecursion Fits (named_ops M)
  named_fit =
      all_append Fits (flat_map M.zeros (below M.nodes)) ((moves ++ works) ++ tasks)
      (all_flat (λ n. Unit {0}) Fits M.zeros (λ n u. zeros_fit n p.adds (home_at (homes_at l (output_of p.sched.nest)) n)) (below M.nodes) (any (below M.nodes)))
      (all_append Fits (moves ++ works) tasks
      (all_append Fits moves works
      (all_flat (λ t. (M.distributed ≤ M.depth t) × (M.depth t ≤ M.distributed + M.inner)) Fits moves_at
      (λ t d. all_flat (IsPathOf (M.depth t)) Fits (moves_on M t) (λ q g. moves_fit t q (inside t d.1) g) (M.paths (M.depth t)) (all_paths (M.depth t) (inside t d.1))) M.tensors h.deep)
      (all_flat (λ w. Unit {0}) Fits (works_of M) (λ w u. works_fit w) M.works (any M.works)))
      (all_made (IsPathOf deepest) Fits M.task (λ q g. (refl, g.0, (let f = g.1 in omega (arith, f)), λ e. g.1)) (M.paths deepest) (all_paths deepest (omega arith))))
    where
      inside : (t : ℕ) → M.depth t ≤ M.distributed + M.inner → M.depth t ≤ deepest
      inside t d = let e = h.deepest in omega (arith, d, e)

      moves_at : ℕ → List Op
      moves_at t = flat_map (moves_on M t) (M.paths (M.depth t))

      moves : List Op
      moves = flat_map moves_at M.tensors

      works : List Op
      works = flat_map (works_of M) M.works

      tasks : List Op
      tasks = map M.task (M.paths deepest)

-- the lengthened paths of a statement's operations fork
ops_fork : (k d : ℕ) (o p : Op) → FitsStmt k d o → FitsStmt k d p → Fork (lengthened o) (lengthened p)
ops_fork k d o p f g = paths_fork o.kind p.kind o.path p.path f.1 g.1 (λ e. (let a = f.3 e in let b = g.2 in omega (arith, a, b))) (λ e. (let a = g.3 e in let b = f.2 in omega (arith, a, b)))

-- of things that rise one has a number
one_of_number : {X : Type 0} (at : X → ℕ) (xs : List X) → Rises at xs → (x y : X) → IsIn x xs → IsIn y xs → at x ≡ at y → x ≡ y
one_of_number at [] r x y h g e = absurd h
one_of_number at (z ∷ zs) r x y (inl h) (inl g) e = h ∙ sym g
one_of_number at (z ∷ zs) r x y (inr h) (inr g) e = one_of_number at zs r.1 x y h g e
one_of_number at (z ∷ zs) r x y (inl h) (inr g) e = let l = all_in (λ v. at z < at v) y zs r.0 g in let p : at x ≡ at z = ap at h in absurd (omega (arith, l, p, e))
one_of_number at (z ∷ zs) r x y (inr h) (inl g) e = let l = all_in (λ v. at z < at v) x zs r.0 h in let p : at y ≡ at z = ap at g in absurd (omega (arith, l, p, e))

-- an outline, with how deep its tasks are and that its operations fit
abbrev HasFits : Outline Op Piece → Type 0
HasFits m = AllByRecursion (FitsStmt m.stmt m.deepest) (named_ops m)

module _ (l : Layout) (h : IsLayout l) where
  fits : AllByRecursion HasFits (outlines_of l)
  fits = go (below (length l.parts)) l.parts (are_outlines l h)
    where
      go : (ks : List ℕ) (ps : List Part) → AllByRecursion (IsOutline key_of node_at) (map (λ (x : ℕ × Part). outline_of l x.0 x.1) (zip ks ps)) → AllByRecursion HasFits (map (λ (x : ℕ × Part). outline_of l x.0 x.1) (zip ks ps))
      go [] ps a = tt
      go (k ∷ ks) [] a = tt
      go (k ∷ ks) (p ∷ ps) a = (named_fit l k p a.0, go ks ps a.1)

  -- an operation is one of a statement
  from : (o : Op) → IsIn o (flat_map named_ops (outlines_of l)) → (m : Outline Op Piece) × IsIn m (outlines_of l) × FitsStmt m.stmt m.deepest o
  from o i =
      let m = in_flat named_ops o (outlines_of l) i in
      (m.0, m.1, all_in (FitsStmt m.0.stmt m.0.deepest) o (named_ops m.0) (all_in HasFits m.0 (outlines_of l) fits m.1) m.2)

  same : (o p : Op) → (m : Outline Op Piece) × IsIn m (outlines_of l) × FitsStmt m.stmt m.deepest o → (m : Outline Op Piece) × IsIn m (outlines_of l) × FitsStmt m.stmt m.deepest p
      → is_before (key_of o) (key_of p) ≡ comes_before o p
  same o p a b = key_orders o p (λ e.
      let q : b.0 ≡ a.0 = one_of_number (λ (m : Outline Op Piece). m.stmt) (outlines_of l) (outlines_rise l h) b.0 a.0 b.1 a.1 (sym b.2.0 ∙ sym e ∙ a.2.0) in
      ops_fork a.0.stmt a.0.deepest o p a.2 (subst (λ (m : Outline Op Piece). FitsStmt m.stmt m.deepest p) q b.2))

  ordered : (os : List Op) → Ascends key_of os → ((o : Op) → IsIn o os → (m : Outline Op Piece) × IsIn m (outlines_of l) × FitsStmt m.stmt m.deepest o) → IsOrderedBy comes_before os
  ordered [] a f = tt
  ordered (o ∷ os) a f = (
    all_from_in (λ p. comes_before o p ≡ true) os (λ p i. sym (same o p (f o (inl refl)) (f p (inr i))) ∙ all_in (λ p. is_before (key_of o) (key_of p) ≡ true) p os a.0 i),
    ordered os a.1 (λ p i. f p (inr i)),
  )

  brackets_ascend : Ascends key_of (flat_map brackets (outlines_of l))
  brackets_ascend = job_ascends key_of node_at (outlines_of l) (are_outlines l h) (outlines_rise l h)

  -- and they are the named ones
  brackets_has : (o : Op) → (IsIn o (flat_map named_ops (outlines_of l)) → IsIn o (flat_map brackets (outlines_of l))) × (IsIn o (flat_map brackets (outlines_of l)) → IsIn o (flat_map named_ops (outlines_of l)))
  brackets_has o = (job_in_brackets key_of node_at (outlines_of l) (are_outlines l h) (outlines_rise l h) o, job_in_named key_of node_at (outlines_of l) (are_outlines l h) (outlines_rise l h) o)

  brackets_ordered : IsOrderedBy comes_before (flat_map brackets (outlines_of l))
  brackets_ordered =
      ordered (flat_map brackets (outlines_of l)) brackets_ascend (λ o i. from o (job_in_named key_of node_at (outlines_of l) (are_outlines l h) (outlines_rise l h) o i))

-- The operations, ascending by their keys, are the brackets of the statements.
pub list_is : ListIsBrackets
unfolding ops_of
list_is l h = job_is_brackets key_of node_at (outlines_of l) (are_outlines l h) (outlines_rise l h)

-- They are the named ones.
pub list_has : ListHasNamed
list_has l h o =
    let e = list_is l h in
    let both = brackets_has l h o in
    (λ i. subst (λ os. IsIn o os) (sym e) (both.0 i), λ i. both.1 (subst (λ os. IsIn o os) e i))

-- They ascend strictly.
pub list_ascends : ListAscends
unfolding ops_of
list_ascends l = listed_ascends key_of (flat_map named_ops (outlines_of l))

-- They ascend by what their keys are made of.
pub list_ordered : ListIsOrdered
list_ordered l h = subst (λ os. IsOrderedBy comes_before os) (sym (list_is l h)) (brackets_ordered l h)
