-- The units that an operation has are those of the definition.
use Rattle.std.proofs.Common.{◌≡◌, ℕ, ◌+◌, Bool, true, false, List, [], ◌∷◌, ◌++◌, length, map, Option, Some, refl, ap, subst, arith, append_assoc, length-append}
use Rattle.std.specs.Prelude.{if◌then◌else◌, nat_eq, option_map, unwrap_or, slice_get}
use Rattle.std.specs.List.{AllByRecursion, flat_map, range_with_len, zip}
use Rattle.dt_base.specs.Ranges.{below}
use Rattle.dt_base.proofs.Ranges.{range_with_len-below}
use Rattle.dt_nest.specs.Outputs.{output_of}
use Rattle.dt_nest.specs.Visits.{visits_of}
use Rattle.dt_nest.proofs.Each.{all_append, all_made, all_flat}
use Rattle.dt_copy.specs.declared.piece_list.Piece.{Piece}
use Rattle.dt_copy.specs.Sources.{home_at}
use Rattle.dt_plan.specs.declared.ops.Op.{Op}
use Rattle.dt_plan.specs.declared.parts.Part.{Part}
use Rattle.dt_plan.specs.Listed.{listed}
use Rattle.dt_plan.specs.Layouts.{Layout, homes_at}
use Rattle.dt_plan.specs.Brackets.{Outline, pieces_on, moves_on, busy_nodes, works_of, named_ops}
use Rattle.dt_plan.specs.Operations.{zero_on, outline_of, outlines_of, ops_of, key_of, units_of}
use Rattle.dt_plan.specs.ListingLaws.{OpsHaveUnits}
use Rattle.dt_plan.proofs.Ascending.{all_in, all_from_in}
use Rattle.dt_plan.proofs.Sorting.{in_listed}

pub any : {X : Type 0} (xs : List X) → AllByRecursion (λ x. Unit {0}) xs
any [] = tt
any (x ∷ xs) = (tt, any xs)

abbrev HasUnits : Layout → Op → Type 0
HasUnits l o = units_of l o ≡ o.units

module _ (l : Layout) (k : ℕ) (p : Part) (here : slice_get l.parts k ≡ Some p) where
  abbrev M : Outline Op Piece
  M = outline_of l k p

  abbrev P : Op → Type 0
  P = HasUnits l

  task_has : (q : List ℕ) → P (M.task q)
  task_has q = ap (λ (o : Option Part). length (unwrap_or (option_map (λ (x : Part). visits_of l.stored x.sched q) o) [])) here

  moves_have : (t : ℕ) (q : List ℕ) → AllByRecursion P (moves_on M t q)
  moves_have t q = (refl, all_append P (pieces_on M t q) (M.free t q ∷ []) (go (nat_eq t M.output)) (refl, tt))
    where
      go : (b : Bool) → AllByRecursion P (if b then map (M.fold t q) (M.shares t q) else map (M.copy t q) (M.pieces t q))
      go true = all_made (λ x. Unit {0}) P (M.fold t q) (λ x u. refl) (M.shares t q) (any (M.shares t q))
      go false = all_made (λ x. Unit {0}) P (M.copy t q) (λ x u. refl) (M.pieces t q) (any (M.pieces t q))

  zeros_have : (n : ℕ) (b : Bool) (ws : List ℕ) → AllByRecursion P (if b then [] else zero_on k (output_of p.sched.nest) n ws)
  zeros_have n true ws = tt
  zeros_have n false [] = tt
  zeros_have n false (w ∷ ws) = (refl, tt)

  works_have : (w : ℕ) → AllByRecursion P (works_of M w)
  works_have w =
      all_append P (map (λ n. M.work_alloc n w) (busy_nodes M)) (map (λ n. M.work_free n w) (busy_nodes M))
      (all_made (λ n. Unit {0}) P (λ n. M.work_alloc n w) (λ n u. refl) (busy_nodes M) (any (busy_nodes M)))
      (all_made (λ n. Unit {0}) P (λ n. M.work_free n w) (λ n u. refl) (busy_nodes M) (any (busy_nodes M)))

  named_have : AllByRecursion P (named_ops M)
  named_have =
      all_append P (flat_map M.zeros (below M.nodes)) ((moves ++ works) ++ tasks)
      (all_flat (λ n. Unit {0}) P M.zeros (λ n u. zeros_have n p.adds (home_at (homes_at l (output_of p.sched.nest)) n)) (below M.nodes) (any (below M.nodes)))
      (all_append P (moves ++ works) tasks
      (all_append P moves works
      (all_flat (λ t. Unit {0}) P moves_at (λ t u. all_flat (λ q. Unit {0}) P (moves_on M t) (λ q v. moves_have t q) (M.paths (M.depth t)) (any (M.paths (M.depth t)))) M.tensors (any M.tensors))
      (all_flat (λ w. Unit {0}) P (works_of M) (λ w u. works_have w) M.works (any M.works)))
      (all_made (λ q. Unit {0}) P M.task (λ q u. task_has q) (M.paths M.deepest) (any (M.paths M.deepest))))
    where
      moves_at : ℕ → List Op
      moves_at t = flat_map (moves_on M t) (M.paths (M.depth t))

      moves : List Op
      moves = flat_map moves_at M.tensors

      works : List Op
      works = flat_map (works_of M) M.works

      tasks : List Op
      tasks = map M.task (M.paths M.deepest)

-- the element behind a list
get_behind : (zs ys : List Part) (y : Part) → slice_get (zs ++ y ∷ ys) (length zs) ≡ Some y
get_behind [] ys y = refl
get_behind (z ∷ zs) ys y = get_behind zs ys y

-- elements with their numbers
numbered : (zs ys : List Part) (a : ℕ) → length zs ≡ a → AllByRecursion (λ (x : ℕ × Part). slice_get (zs ++ ys) x.0 ≡ Some x.1) (zip (range_with_len a (length ys)) ys)
numbered zs [] a e = tt
numbered zs (y ∷ ys) a e = (
  subst (λ i. slice_get (zs ++ y ∷ ys) i ≡ Some y) e (get_behind zs ys y),
  subst (λ (l : List Part). AllByRecursion (λ (x : ℕ × Part). slice_get l x.0 ≡ Some x.1) (zip (range_with_len (a + 1) (length ys)) ys)) (append_assoc zs (y ∷ []) ys)
      (numbered (zs ++ y ∷ []) ys (a + 1) (omega (arith, e, length-append zs (y ∷ [])))),
)

module _ (l : Layout) where
  pub parts_numbered : AllByRecursion (λ (x : ℕ × Part). slice_get l.parts x.0 ≡ Some x.1) (zip (below (length l.parts)) l.parts)
  parts_numbered = subst (λ (is : List ℕ). AllByRecursion (λ (x : ℕ × Part). slice_get l.parts x.0 ≡ Some x.1) (zip is l.parts)) (range_with_len-below (length l.parts)) (numbered [] l.parts 0 refl)

  all_have : AllByRecursion (HasUnits l) (flat_map named_ops (outlines_of l))
  all_have =
      all_flat (λ (m : Outline Op Piece). AllByRecursion (HasUnits l) (named_ops m)) (HasUnits l) named_ops (λ m h. h) (outlines_of l)
      (all_made (λ (x : ℕ × Part). slice_get l.parts x.0 ≡ Some x.1) (λ (m : Outline Op Piece). AllByRecursion (HasUnits l) (named_ops m)) (λ (x : ℕ × Part). outline_of l x.0 x.1) (λ x e. named_have l x.0 x.1 e)
      (zip (below (length l.parts)) l.parts) parts_numbered)

-- Each operation of the list has the units of the definition.
pub ops_have_units : OpsHaveUnits
unfolding ops_of
ops_have_units l =
    all_from_in (HasUnits l) (listed key_of (flat_map named_ops (outlines_of l)))
    (λ o i. all_in (HasUnits l) o (flat_map named_ops (outlines_of l)) (all_have l) (in_listed key_of o (flat_map named_ops (outlines_of l)) i))
