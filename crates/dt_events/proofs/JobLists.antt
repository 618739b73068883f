-- The job's own list meets what the argument asks of its operations, and its orders are what the argument says.
use Rattle.std.proofs.Common.{◌≡◌, ℕ, zero, suc, ◌<◌, ◌||◌, List, [], ◌∷◌, length, map, Option, Some, refl, sym, ap, ap₂, ◌∙◌, subst, arith}
use Rattle.std.specs.Prelude.{not, nat_eq, option_map, unwrap_or, slice_get, slice_index, slice_index_or}
use Rattle.dt_nest.proofs.Each.{all_map, all_both}
use Rattle.dt_argument.specs.Events.{is_listed}
use Rattle.dt_argument.proofs.EventLists.{chain_listed}
use Rattle.dt_argument.proofs.Runs.{run_along_is, same_end, same_turn}
use Rattle.dt_plan.specs.declared.ops.Op.{Op}
use Rattle.dt_plan.specs.declared.parts.Part.{Part}
use Rattle.dt_plan.specs.declared.kind.Kind.TheVariants as kind
use Rattle.dt_plan.specs.Layouts.{Layout}
use Rattle.dt_plan.specs.Operations.{op_on, ops_of, units_of}
use Rattle.dt_plan.specs.Footprints.{footprints_of}
use Rattle.dt_plan.specs.Limits.{plan_view}
use Rattle.dt_plan.proofs.OperationUnits.{ops_have_units}
use Rattle.dt_events.specs.Conflicts.{some_meet, conflict, segment_of}
use Rattle.dt_events.specs.Events.{events_of}
use Rattle.dt_events.specs.Jobs.{op_at, segment_in, state_of, listing_of}
use Rattle.dt_events.specs.StateLaws.{HasWords}
use Rattle.dt_events.specs.JobLaws.{JobConflictsAreThePlans, JobsHaveFrames, JobsAreOrdered, JobOrdersAreDefined, JobOrdersEndAlike, JobTurnsAreAlike}
use Rattle.dt_events.proofs.Frames.{lists_framed, op_within}
use Rattle.dt_events.proofs.NamedFacts.{IsDue, ops_due}

-- Conflicts ----------------------------------------------------------------------------------------------------------------

-- the element at a place
got : {X : Type 0} (xs : List X) (a : ℕ) (d : X) → a < length xs → slice_get xs a ≡ Some (slice_index_or xs a d)
got [] a d h = absurd (omega arith)
got (x ∷ xs) zero d h = refl
got (x ∷ xs) (suc a) d h = got xs a d (omega arith)

-- what a function makes of the element at a place
mapped_at : {X Y : Type 0} (f : X → Y) (xs : List X) (a : ℕ) (d : X) (e : Y) → a < length xs → slice_index_or (map f xs) a e ≡ f (slice_index_or xs a d)
mapped_at f [] a d e h = absurd (omega arith)
mapped_at f (x ∷ xs) zero d e h = refl
mapped_at f (x ∷ xs) (suc a) d e h = mapped_at f xs a d e (omega arith)

-- a number of a part, by its place
part_number : (f : Part → ℕ) (parts : List Part) (k : ℕ) → slice_index (map f parts) k ≡ unwrap_or (option_map f (slice_get parts k)) 0
part_number f [] k = refl
part_number f (p ∷ parts) zero = refl
part_number f (p ∷ parts) (suc k) = part_number f parts k

-- the segment of an operation is that of the plan
segment_same : (l : Layout) (a : ℕ) → a < length (ops_of l) → segment_in l (op_at (ops_of l) a) ≡ segment_of (plan_view l) a
unfolding plan_view
segment_same l a h =
    sym (ap (λ (o : Option Op). unwrap_or (option_map (λ (o : Op). slice_index (map (λ (p : Part). p.segment) l.parts) o.stmt) o) 0) (got (ops_of l) a (op_on kind.Free 0 0 [] 0 0 [] 1) h)
    ∙ part_number (λ (p : Part). p.segment) l.parts (op_at (ops_of l) a).stmt)

-- so are its footprints
touches_same : (l : Layout) (a : ℕ) → a < length (ops_of l) → footprints_of l (op_at (ops_of l) a) ≡ slice_index_or (plan_view l).touches a []
unfolding plan_view
touches_same l a h = sym (mapped_at (footprints_of l) (ops_of l) a (op_on kind.Free 0 0 [] 0 0 [] 1) [] h)

-- two operations of the list conflict where those of the plan do
pub conflicts_same : JobConflictsAreThePlans
conflicts_same l a b h k =
    ap₂ (λ x y. not x || y) (ap₂ nat_eq (segment_same l a h) (segment_same l b k)) (ap₂ some_meet (touches_same l a h) (touches_same l b k))

-- Facts --------------------------------------------------------------------------------------------------------------------

-- the job's list has frames
pub job_frames : JobsHaveFrames
job_frames l parts x =
    lists_framed l parts (ops_of l) (all_map IsDue HasWords (λ o h. h.1) (ops_of l) (ops_due l)) (is_listed (events_of (plan_view l))) (state_of l x)

-- each operation has a unit
units_due : (l : Layout) (a : ℕ) → a < length (ops_of l) → 0 < units_of l (op_at (ops_of l) a)
units_due l a h =
    op_within (λ o. 0 < units_of l o) (ops_of l) a
    (all_both IsDue (λ o. units_of l o ≡ o.units) (λ o. 0 < units_of l o) (λ o d e. subst (λ (n : ℕ). 0 < n) (sym e) d.0) (ops_of l) (ops_due l) (ops_have_units l)) h

-- the plan has the list's operations
count_same : (l : Layout) → length (plan_view l).ops ≡ length (ops_of l)
unfolding plan_view
count_same l = refl

-- a list that is defined is ordered
pub job_ordered : JobsAreOrdered
job_ordered l x defined = record {
  has_unit = units_due l;
  chained = λ a b h k e.
      chain_listed (conflict (plan_view l)) (length (plan_view l).ops) a b h (subst (λ (n : ℕ). b < n) (sym (count_same l)) k)
      (sym (conflicts_same l a b (omega (arith, h, k)) k) ∙ e);
  defined = defined;
}

-- Orders -------------------------------------------------------------------------------------------------------------------

-- every allowed list is defined
pub orders_defined : JobOrdersAreDefined
orders_defined l parts x defined u allowed = run_along_is (listing_of l x) (job_frames l parts x) (job_ordered l x defined) u allowed

-- complete ones end alike
pub orders_end : JobOrdersEndAlike
orders_end l parts x defined u allowed full = same_end (listing_of l x) (job_frames l parts x) (job_ordered l x defined) u allowed full

-- and turns look alike
pub orders_turn : JobTurnsAreAlike
orders_turn l parts x defined u allowed b enabled s e = same_turn (listing_of l x) (job_frames l parts x) (job_ordered l x defined) u allowed b enabled s e
