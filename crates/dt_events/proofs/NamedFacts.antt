-- Each operation of a job has a unit, and each zero has words.
use Rattle.std.proofs.Common.{◌≡◌, ℕ, ◌<◌, Bool, true, false, List, [], ◌∷◌, ◌++◌, length, map, refl, arith, ltb-true}
use Rattle.std.specs.Prelude.{filter, if◌then◌else◌, nat_eq, nat_lt}
use Rattle.std.specs.List.{AllByRecursion, flat_map, zip}
use Rattle.dt_base.specs.Ranges.{below, assignments}
use Rattle.dt_nest.specs.Grid.{outer_extents}
use Rattle.dt_nest.specs.Outputs.{output_of}
use Rattle.dt_nest.specs.Visits.{visits_of, needed_of}
use Rattle.dt_nest.proofs.Each.{all_append, all_made, all_flat_map}
use Rattle.dt_runs.specs.Sets.{contains}
use Rattle.dt_copy.specs.declared.piece_list.Piece.{Piece}
use Rattle.dt_copy.specs.Sources.{home_at, piece_of, words_from, pieces_of, shares_of}
use Rattle.dt_copy.proofs.Serving.{each_flat}
use Rattle.dt_plan.specs.declared.ops.Op.{Op}
use Rattle.dt_plan.specs.declared.parts.Part.{Part}
use Rattle.dt_plan.specs.Listed.{listed}
use Rattle.dt_plan.specs.Layouts.{Layout, homes_at, node_of}
use Rattle.dt_plan.specs.Brackets.{Outline, pieces_on, moves_on, busy_nodes, works_of, named_ops}
use Rattle.dt_plan.specs.Operations.{zero_on, outline_of, outlines_of, ops_of, key_of}
use Rattle.dt_plan.proofs.Ascending.{all_in, all_from_in}
use Rattle.dt_plan.proofs.Sorting.{in_listed}
use Rattle.dt_events.specs.StateLaws.{HasWords}

-- the operation has a unit, and words if it is a zero
abbrev pub IsDue : Op → Type 0
IsDue o = (0 < o.units) × HasWords o

-- the piece has words
abbrev IsFilled : Piece → Type 0
IsFilled p = 0 < length p.words

piece_filled : (m : ℕ) (words : List ℕ) → AllByRecursion IsFilled (piece_of m words)
piece_filled m [] = tt
piece_filled m (x ∷ words) = (omega arith, tt)

-- so have those of a need
pieces_filled : (need : List ℕ) (homes : List (List ℕ)) (node : ℕ) → AllByRecursion IsFilled (pieces_of need homes node)
pieces_filled need homes node = each_flat IsFilled (λ m. piece_of m (words_from need homes node m)) (below (length homes)) (λ m. piece_filled m (words_from need homes node m))

-- and its shares
shares_filled : (need : List ℕ) (homes : List (List ℕ)) → AllByRecursion IsFilled (shares_of need homes)
shares_filled need homes = each_flat IsFilled (λ m. piece_of m (filter (contains (home_at homes m)) need)) (below (length homes)) (λ m. piece_filled m (filter (contains (home_at homes m)) need))

-- what passes a filter passes its test
passing : {X : Type 0} (p : X → Bool) (xs : List X) → AllByRecursion (λ x. p x ≡ true) (filter p xs)
passing p [] = tt
passing {X} p (x ∷ xs) = go (passing p xs) (p x) refl
  where
    go : AllByRecursion (λ y. p y ≡ true) (filter p xs) → (b : Bool) → p x ≡ b → AllByRecursion (λ y. p y ≡ true) (if b then x ∷ filter p xs else filter p xs)
    go rest true e = (e, rest)
    go rest false e = rest

module _ (l : Layout) (k : ℕ) (p : Part) where
  abbrev M : Outline Op Piece
  M = outline_of l k p

  moves_due : (t : ℕ) (q : List ℕ) → AllByRecursion IsDue (moves_on M t q)
  moves_due t q = ((omega arith, λ e. absurd (cc)), all_append IsDue (pieces_on M t q) (M.free t q ∷ []) (go (nat_eq t M.output)) ((omega arith, λ e. absurd (cc)), tt))
    where
      go : (b : Bool) → AllByRecursion IsDue (if b then map (M.fold t q) (M.shares t q) else map (M.copy t q) (M.pieces t q))
      go true = all_made IsFilled IsDue (M.fold t q) (λ x h. (h, λ e. absurd (cc))) (M.shares t q) (shares_filled (needed_of l.stored p.sched t q) (homes_at l t))
      go false = all_made IsFilled IsDue (M.copy t q) (λ x h. (h, λ e. absurd (cc))) (M.pieces t q) (pieces_filled (needed_of l.stored p.sched t q) (homes_at l t) (node_of l.machine p.sched q))

  zeros_due : (n : ℕ) (b : Bool) (ws : List ℕ) → AllByRecursion IsDue (if b then [] else zero_on k (output_of p.sched.nest) n ws)
  zeros_due n true ws = tt
  zeros_due n false [] = tt
  zeros_due n false (w ∷ ws) = ((omega arith, λ e. omega arith), tt)

  works_due : (w : ℕ) → AllByRecursion IsDue (works_of M w)
  works_due w =
      all_append IsDue (map (λ n. M.work_alloc n w) (busy_nodes M)) (map (λ n. M.work_free n w) (busy_nodes M))
      (each_made (λ n. M.work_alloc n w) (λ n. (omega arith, λ e. absurd (cc))) (busy_nodes M)) (each_made (λ n. M.work_free n w) (λ n. (omega arith, λ e. absurd (cc))) (busy_nodes M))
    where
      each_made : (f : ℕ → Op) → ((n : ℕ) → IsDue (f n)) → (ns : List ℕ) → AllByRecursion IsDue (map f ns)
      each_made f h [] = tt
      each_made f h (n ∷ ns) = (h n, each_made f h ns)

  tasks_due : AllByRecursion IsDue (map M.task (M.paths M.deepest))
  tasks_due =
      all_made (λ q. nat_lt 0 (length (visits_of l.stored p.sched q)) ≡ true) IsDue M.task (λ q h. (ltb-true 0 (length (visits_of l.stored p.sched q)) h, λ e. absurd (cc))) (M.paths M.deepest)
      (passing (λ q. nat_lt 0 (length (visits_of l.stored p.sched q))) (assignments (outer_extents M.deepest p.sched.nest)))

  named_due : AllByRecursion IsDue (named_ops M)
  named_due =
      all_append IsDue (flat_map M.zeros (below M.nodes)) ((moves ++ works) ++ map M.task (M.paths M.deepest))
      (all_flat_map IsDue M.zeros (below M.nodes) (λ n. zeros_due n p.adds (home_at (homes_at l (output_of p.sched.nest)) n)))
      (all_append IsDue (moves ++ works) (map M.task (M.paths M.deepest))
      (all_append IsDue moves works
      (all_flat_map IsDue moves_at M.tensors (λ t. all_flat_map IsDue (moves_on M t) (M.paths (M.depth t)) (λ q. moves_due t q)))
      (all_flat_map IsDue (works_of M) M.works works_due))
      tasks_due)
    where
      moves_at : ℕ → List Op
      moves_at t = flat_map (moves_on M t) (M.paths (M.depth t))

      moves : List Op
      moves = flat_map moves_at M.tensors

      works : List Op
      works = flat_map (works_of M) M.works

-- so it is for each operation of the list
pub ops_due : (l : Layout) → AllByRecursion IsDue (ops_of l)
unfolding ops_of
ops_due l =
    all_from_in IsDue (listed key_of (flat_map named_ops (outlines_of l)))
    (λ o i. all_in IsDue o (flat_map named_ops (outlines_of l)) all_due (in_listed key_of o (flat_map named_ops (outlines_of l)) i))
  where
    outlined : (xs : List (ℕ × Part)) → AllByRecursion IsDue (flat_map named_ops (map (λ (x : ℕ × Part). outline_of l x.0 x.1) xs))
    outlined [] = tt
    outlined (x ∷ xs) = all_append IsDue (named_ops (outline_of l x.0 x.1)) (flat_map named_ops (map (λ (x : ℕ × Part). outline_of l x.0 x.1) xs)) (named_due l x.0 x.1) (outlined xs)

    all_due : AllByRecursion IsDue (flat_map named_ops (outlines_of l))
    all_due = outlined (zip (below (length l.parts)) l.parts)
