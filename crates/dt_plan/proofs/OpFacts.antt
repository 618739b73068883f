-- The operations of a layout are on its nodes and of its statements, and their tasks have paths.
use Rattle.std.proofs.Common.{◌≡◌, ◌⊎◌, inl, inr, ℕ, zero, suc, ◌<◌, ◌≤◌, Bool, true, false, List, [], ◌∷◌, ◌++◌, length, map, Some, sym, ap, ◌∙◌, subst, arith}
use Rattle.std.specs.Prelude.{if◌then◌else◌, nat_eq, slice_get}
use Rattle.std.specs.List.{AllByRecursion, flat_map, zip}
use Rattle.std.proofs.lemmas.Bool.{cases_lt}
use Rattle.std.proofs.lemmas.List.{get_or_past}
use Rattle.dt_base.specs.Ranges.{below}
use Rattle.dt_nest.specs.Outputs.{output_of}
use Rattle.dt_nest.specs.Visits.{IsPath}
use Rattle.dt_nest.specs.Paths.{task_depth}
use Rattle.dt_nest.specs.PathSteps.{IsVisited}
use Rattle.dt_nest.proofs.Each.{all_append, all_filter, all_get, all_made, all_flat, below_all}
use Rattle.dt_nest.proofs.PathDepths.{task_loops}
use Rattle.dt_nest.proofs.PathFans.{paths_are_visited}
use Rattle.dt_nest.proofs.Schedulable.{get_exists}
use Rattle.dt_copy.specs.declared.piece_list.Piece.{Piece}
use Rattle.dt_copy.specs.Sources.{home_at, piece_of}
use Rattle.dt_place.specs.Machines.{nodes_of}
use Rattle.dt_plan.specs.declared.ops.Op.{Op}
use Rattle.dt_plan.specs.declared.parts.Part.{Part}
use Rattle.dt_plan.specs.Listed.{listed}
use Rattle.dt_plan.specs.Layouts.{Layout, homes_at, node_of}
use Rattle.dt_plan.specs.Brackets.{Outline, pieces_on, moves_on, busy_nodes, has_some, paths_on, works_of, named_ops}
use Rattle.dt_plan.specs.Operations.{zero_on, outline_of, outlines_of, ops_of, key_of}
use Rattle.dt_plan.specs.OpsOf.{IsOpOf, OpsAreOfLayout}
use Rattle.dt_plan.specs.Statements.{HasHomes, FitsPart, FitsLayout}
use Rattle.dt_plan.proofs.Ascending.{all_in, all_from_in}
use Rattle.dt_plan.proofs.Sorting.{in_listed}
use Rattle.dt_plan.proofs.OutlineFacts.{path_node_below}
use Rattle.dt_plan.proofs.OperationUnits.{any, parts_numbered}

-- a piece is at its node
piece_at : (nodes m : ℕ) → m < nodes → (ws : List ℕ) → AllByRecursion (λ (x : Piece). x.node < nodes) (piece_of m ws)
piece_at nodes m l [] = tt
piece_at nodes m l (w ∷ ws) = (l, tt)

module _ (l : Layout) (h : HasHomes l) where
  -- a tensor has no more homes than there are nodes
  homes_few : (t : ℕ) → length (homes_at l t) ≤ nodes_of l.machine
  homes_few t = go (cases_lt t (length l.homes))
    where
      go : (t < length l.homes) ⊎ (length l.homes ≤ t) → length (homes_at l t) ≤ nodes_of l.machine
      go (inl a) = let e = all_get (λ (homes : List (List ℕ)). length homes ≡ nodes_of l.machine) l.homes t [] h.nodes a in omega (arith, e)
      go (inr a) = let e = ap (λ (x : List (List ℕ)). length x) (get_or_past l.homes t [] a) in omega (arith, e)

  made_at : (t : ℕ) (words : ℕ → List ℕ) → AllByRecursion (λ (x : Piece). x.node < nodes_of l.machine) (flat_map (λ m. piece_of m (words m)) (below (length (homes_at l t))))
  made_at t words =
      let few = homes_few t in
      all_flat (λ m. m < length (homes_at l t)) (λ (x : Piece). x.node < nodes_of l.machine) (λ m. piece_of m (words m)) (λ m k. piece_at (nodes_of l.machine) m (omega (arith, k, few)) (words m))
      (below (length (homes_at l t))) (below_all (length (homes_at l t)))

module _ (l : Layout) (h : HasHomes l) (k : ℕ) (p : Part) (here : slice_get l.parts k ≡ Some p) (known : k < length l.parts) (fits : FitsPart l p) where
  abbrev M : Outline Op Piece
  M = outline_of l k p

  abbrev P : Op → Type 0
  P = IsOpOf l

  node_in : (q : List ℕ) → node_of l.machine p.sched q < nodes_of l.machine
  node_in q = path_node_below l.machine h.machine p.sched q

  alloc_is : (t : ℕ) (q : List ℕ) → P (M.alloc t q)
  alloc_is t q = record { stmt = known; node = node_in q; other = node_in q; path = tt }

  free_is : (t : ℕ) (q : List ℕ) → P (M.free t q)
  free_is t q = record { stmt = known; node = node_in q; other = node_in q; path = tt }

  moves_are : (t : ℕ) (q : List ℕ) → AllByRecursion P (moves_on M t q)
  moves_are t q = (alloc_is t q, all_append P (pieces_on M t q) (M.free t q ∷ []) (go (nat_eq t M.output)) (free_is t q, tt))
    where
      go : (b : Bool) → AllByRecursion P (if b then map (M.fold t q) (M.shares t q) else map (M.copy t q) (M.pieces t q))
      go true = all_made (λ (x : Piece). x.node < nodes_of l.machine) P (M.fold t q) (λ x a. record { stmt = known; node = node_in q; other = a; path = tt }) (M.shares t q) (made_at l h t _)
      go false = all_made (λ (x : Piece). x.node < nodes_of l.machine) P (M.copy t q) (λ x a. record { stmt = known; node = node_in q; other = a; path = tt }) (M.pieces t q) (made_at l h t _)

  zeros_are : (n : ℕ) → n < nodes_of l.machine → (b : Bool) (ws : List ℕ) → AllByRecursion P (if b then [] else zero_on k (output_of p.sched.nest) n ws)
  zeros_are n a true ws = tt
  zeros_are n a false [] = tt
  zeros_are n a false (w ∷ ws) = (record { stmt = known; node = a; other = a; path = tt }, tt)

  busy_in : AllByRecursion (λ n. n < nodes_of l.machine) (busy_nodes M)
  busy_in = all_filter (λ n. n < nodes_of l.machine) (λ n. has_some (paths_on M n)) (below (nodes_of l.machine)) (below_all (nodes_of l.machine))

  works_are : (w : ℕ) → AllByRecursion P (works_of M w)
  works_are w =
      all_append P (map (λ n. M.work_alloc n w) (busy_nodes M)) (map (λ n. M.work_free n w) (busy_nodes M))
      (all_made (λ n. n < nodes_of l.machine) P (λ n. M.work_alloc n w) (λ n a. record { stmt = known; node = a; other = a; path = tt }) (busy_nodes M) busy_in)
      (all_made (λ n. n < nodes_of l.machine) P (λ n. M.work_free n w) (λ n a. record { stmt = known; node = a; other = a; path = tt }) (busy_nodes M) busy_in)

  -- the part is the one of the operation's statement
  same_part : (q : List ℕ) → IsPath p.sched q → (x : Part) → slice_get l.parts k ≡ Some x → IsPath x.sched q
  same_part q i x e = subst (λ (y : Part). IsPath y.sched q) (inside p x (sym here ∙ e)) i
    where
      inside : (a b : Part) → Some a ≡ Some b → a ≡ b
      inside a b e = cc

  task_is : (q : List ℕ) → IsVisited l.stored p.sched (task_depth p.sched) q → P (M.task q)
  task_is q v = record { stmt = known; node = node_in q; other = node_in q; path = same_part q v.path }

  tasks_are : AllByRecursion P (map M.task (M.paths M.deepest))
  tasks_are =
      all_made (IsVisited l.stored p.sched (task_depth p.sched)) P M.task task_is (M.paths M.deepest)
      (paths_are_visited l.stored p.sched (task_depth p.sched) (task_loops p.sched (task_depth p.sched) fits.lawful (omega arith)))

  named_are : AllByRecursion P (named_ops M)
  named_are =
      all_append P (flat_map M.zeros (below M.nodes)) ((moves ++ works) ++ map M.task (M.paths M.deepest))
      (all_flat (λ n. n < nodes_of l.machine) P M.zeros (λ n a. zeros_are n a p.adds (home_at (homes_at l (output_of p.sched.nest)) n)) (below M.nodes) (below_all (nodes_of l.machine)))
      (all_append P (moves ++ works) (map M.task (M.paths M.deepest))
      (all_append P moves works
      (all_flat (λ t. Unit {0}) P moves_at (λ t u. all_flat (λ q. Unit {0}) P (moves_on M t) (λ q v. moves_are t q) (M.paths (M.depth t)) (any (M.paths (M.depth t)))) M.tensors (any M.tensors))
      (all_flat (λ w. Unit {0}) P (works_of M) (λ w u. works_are w) M.works (any M.works)))
      tasks_are)
    where
      moves_at : ℕ → List Op
      moves_at t = flat_map (moves_on M t) (M.paths (M.depth t))

      moves : List Op
      moves = flat_map moves_at M.tensors

      works : List Op
      works = flat_map (works_of M) M.works

-- what holds of each element holds of the one at a number
some_holds : {X : Type 0} (P : X → Type 0) (xs : List X) (k : ℕ) (x : X) → AllByRecursion P xs → slice_get xs k ≡ Some x → P x
some_holds P [] k x h e = absurd (cc)
some_holds {X} P (y ∷ ys) zero x h e = subst P (inside y x e) h.0
  where
    inside : (a b : X) → Some a ≡ Some b → a ≡ b
    inside a b e = cc
some_holds P (y ∷ ys) (suc k) x h e = some_holds P ys k x h.1 e

module _ (l : Layout) (h : HasHomes l) (f : FitsLayout l) where
  all_are : AllByRecursion (IsOpOf l) (flat_map named_ops (outlines_of l))
  all_are =
      all_flat (λ (m : Outline Op Piece). AllByRecursion (IsOpOf l) (named_ops m)) (IsOpOf l) named_ops (λ m a. a) (outlines_of l)
      (all_made (λ (x : ℕ × Part). slice_get l.parts x.0 ≡ Some x.1) (λ (m : Outline Op Piece). AllByRecursion (IsOpOf l) (named_ops m)) (λ (x : ℕ × Part). outline_of l x.0 x.1)
      (λ x e. named_are l h x.0 x.1 e (get_exists l.parts x.0 x.1 e) (some_holds (FitsPart l) l.parts x.0 x.1 f.parts e))
      (zip (below (length l.parts)) l.parts) (parts_numbered l))

-- Each operation of the list is one of the layout.
pub ops_are : OpsAreOfLayout
unfolding ops_of
ops_are l h f =
    all_from_in (IsOpOf l) (listed key_of (flat_map named_ops (outlines_of l)))
    (λ o i. all_in (IsOpOf l) o (flat_map named_ops (outlines_of l)) (all_are l h f) (in_listed key_of o (flat_map named_ops (outlines_of l)) i))
