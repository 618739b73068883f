-- The listing of a job runs statement by statement, and so does every complete order end.
use Rattle.std.proofs.Common.{◌≡◌, ℕ, ◌+◌, List, [], ◌∷◌, ◌++◌, length, map, Some, is_some, refl, ap, ◌∙◌, subst, arith, append_assoc, length-append}
use Rattle.std.specs.Prelude.{slice_get}
use Rattle.std.specs.List.{AllByRecursion, flat_map, range_with_len, zip}
use Rattle.dt_base.specs.Ranges.{below}
use Rattle.dt_base.proofs.Ranges.{length-below, range_with_len-below}
use Rattle.dt_nest.specs.Meaning.{Entries}
use Rattle.dt_nest.proofs.Each.{all_both}
use Rattle.dt_argument.specs.Events.{is_listed}
use Rattle.dt_argument.specs.Orders.{counts_of, listing_order}
use Rattle.dt_argument.proofs.Counting.{counts_kept}
use Rattle.dt_argument.proofs.InTurn.{turn_defined}
use Rattle.dt_argument.proofs.MovingBack.{defined_at_turn}
use Rattle.dt_plan.specs.declared.ops.Op.{Op}
use Rattle.dt_plan.specs.declared.parts.Part.{Part}
use Rattle.dt_plan.specs.Layouts.{Layout}
use Rattle.dt_plan.specs.Brackets.{brackets}
use Rattle.dt_plan.specs.Limits.{plan_view}
use Rattle.dt_plan.specs.Operations.{outline_of, ops_of, key_of}
use Rattle.dt_plan.proofs.ListOrder.{list_is}
use Rattle.dt_plan.proofs.Meeting.{node_at}
use Rattle.dt_plan.proofs.OutlineFacts.{are_outlines}
use Rattle.dt_plan.proofs.Outlines.{IsOutline}
use Rattle.dt_events.specs.Events.{events_of}
use Rattle.dt_events.specs.Jobs.{state_of, listing_of, run_of}
use Rattle.dt_events.specs.JobLaws.{IsListingDefined}
use Rattle.dt_events.specs.ListingRuns.{IsReady, ListingsRun, TurnsAreDefined, ReadyListsAreOrdered, AllowedListsRun, AllowedTurnsAreDefined, CompleteListsLeaveTheNumbers}
use Rattle.dt_events.specs.StateLaws.{IsRunnable}
use Rattle.dt_events.specs.Placed.{IsPlaced, CanRun, AreNumbers, numbers_after, numbers_after_all}
use Rattle.dt_events.proofs.JobLists.{job_frames, job_ordered, orders_defined, orders_end}
use Rattle.dt_events.proofs.JobSums.{numbers_go_on, statement_runs}
use Rattle.dt_events.proofs.ListRuns.{run_all, chain, op_run, listing_runs}

-- Parts with their numbers ---------------------------------------------------------------------------------------------------

-- the part behind a list
part_behind : (zs ys : List Part) (y : Part) → slice_get (zs ++ y ∷ ys) (length zs) ≡ Some y
part_behind [] ys y = refl
part_behind (z ∷ zs) ys y = part_behind zs ys y

-- parts are at their numbers
numbered : (zs ys : List Part) (a : ℕ) → length zs ≡ a → AllByRecursion (λ (x : ℕ × Part). slice_get (zs ++ ys) x.0 ≡ Some x.1) (zip (range_with_len a (length ys)) ys)
numbered zs [] a e = tt
numbered zs (y ∷ ys) a e = (
  subst (λ i. slice_get (zs ++ y ∷ ys) i ≡ Some y) e (part_behind zs ys y),
  subst (λ (l : List Part). AllByRecursion (λ (x : ℕ × Part). slice_get l x.0 ≡ Some x.1) (zip (range_with_len (a + 1) (length ys)) ys)) (append_assoc zs (y ∷ []) ys)
      (numbered (zs ++ y ∷ []) ys (a + 1) (omega (arith, e, length-append zs (y ∷ [])))),
)

parts_numbered : (parts : List Part) → AllByRecursion (λ (x : ℕ × Part). slice_get parts x.0 ≡ Some x.1) (zip (below (length parts)) parts)
parts_numbered parts =
    subst (λ (is : List ℕ). AllByRecursion (λ (x : ℕ × Part). slice_get parts x.0 ≡ Some x.1) (zip is parts)) (range_with_len-below (length parts)) (numbered [] parts 0 refl)

-- what holds of each part holds of each with its number
zip_second : (P : Part → Type 0) (is : List ℕ) (ps : List Part) → AllByRecursion P ps → AllByRecursion (λ (x : ℕ × Part). P x.1) (zip is ps)
zip_second P [] ps h = tt
zip_second P (i ∷ is) [] h = tt
zip_second P (i ∷ is) (p ∷ ps) h = (h.0, zip_second P is ps h.1)

-- the parts are those with their numbers, without these
pub seconds : (is : List ℕ) (ps : List Part) → length is ≡ length ps → map (λ (x : ℕ × Part). x.1) (zip is ps) ≡ ps
seconds [] [] e = refl
seconds [] (p ∷ ps) e = absurd (omega (arith, e))
seconds (i ∷ is) [] e = absurd (omega (arith, e))
seconds (i ∷ is) (p ∷ ps) e = ap (λ qs. p ∷ qs) (seconds is ps (omega (arith, e)))

-- what holds of what a function makes of each
all_unmade : {X Y : Type 0} (P : Y → Type 0) (f : X → Y) (xs : List X) → AllByRecursion P (map f xs) → AllByRecursion (λ x. P (f x)) xs
all_unmade P f [] h = tt
all_unmade P f (x ∷ xs) h = (h.0, all_unmade P f xs h.1)

-- Statements -----------------------------------------------------------------------------------------------------------------

-- what holds of a part with its number
pub record IsDone (l : Layout) (y : ℕ × Part) : Type 0 where
  pub here : slice_get l.parts y.0 ≡ Some y.1
  pub outline : IsOutline key_of node_at (outline_of l y.0 y.1)
  pub fit : IsRunnable l y.1
  pub can : CanRun l y.1

-- statements run one after another
parts_run : (l : Layout) → IsPlaced l → (ys : List (ℕ × Part)) → AllByRecursion (IsDone l) ys → (x : Entries) → AreNumbers l x
    → run_all (op_run l) (flat_map brackets (map (λ (y : ℕ × Part). outline_of l y.0 y.1) ys)) (state_of l x) ≡ Some (state_of l (numbers_after_all l.stored (map (λ (y : ℕ × Part). y.1) ys) x))
parts_run l placed [] h x numbers = refl
parts_run l placed (y ∷ ys) h x numbers =
    chain (op_run l) (brackets (outline_of l y.0 y.1)) (flat_map brackets (map (λ (z : ℕ × Part). outline_of l z.0 z.1) ys)) (state_of l x) (state_of l (numbers_after l.stored y.1 x))
    (Some (state_of l (numbers_after_all l.stored (map (λ (z : ℕ × Part). z.1) ys) (numbers_after l.stored y.1 x))))
    (statement_runs l y.0 y.1 x h.0.fit placed numbers h.0.can h.0.outline h.0.here)
    (parts_run l placed ys h.1 (numbers_after l.stored y.1 x) (numbers_go_on l y.0 y.1 x h.0.fit placed numbers h.0.can h.0.outline))

module _ (l : Layout) (ready : IsReady l) (x : Entries) (numbers : AreNumbers l x) where
  -- the parts with their numbers
  abbrev ys : List (ℕ × Part)
  ys = zip (below (length l.parts)) l.parts

  -- each of them can be done
  pub parts_done : AllByRecursion (IsDone l) ys
  parts_done =
      all_both (λ (y : ℕ × Part). (slice_get l.parts y.0 ≡ Some y.1) × IsOutline key_of node_at (outline_of l y.0 y.1)) (λ (y : ℕ × Part). IsRunnable l y.1 × CanRun l y.1) (IsDone l)
      (λ y a b. record { here = a.0; outline = a.1; fit = b.0; can = b.1 }) ys
      (all_both (λ (y : ℕ × Part). slice_get l.parts y.0 ≡ Some y.1) (λ (y : ℕ × Part). IsOutline key_of node_at (outline_of l y.0 y.1))
      (λ (y : ℕ × Part). (slice_get l.parts y.0 ≡ Some y.1) × IsOutline key_of node_at (outline_of l y.0 y.1)) (λ y a b. (a, b)) ys
      (parts_numbered l.parts) (all_unmade (IsOutline key_of node_at) (λ (y : ℕ × Part). outline_of l y.0 y.1) ys (are_outlines l ready.layout)))
      (all_both (λ (y : ℕ × Part). IsRunnable l y.1) (λ (y : ℕ × Part). CanRun l y.1) (λ (y : ℕ × Part). IsRunnable l y.1 × CanRun l y.1) (λ y a b. (a, b)) ys
      (zip_second (IsRunnable l) (below (length l.parts)) l.parts ready.runnable) (zip_second (CanRun l) (below (length l.parts)) l.parts ready.parts))

  -- all operations
  job_runs : run_all (op_run l) (ops_of l) (state_of l x) ≡ Some (state_of l (numbers_after_all l.stored l.parts x))
  job_runs =
      ap (λ (os : List Op). run_all (op_run l) os (state_of l x)) (list_is l ready.layout)
      ∙ parts_run l ready.placed ys parts_done x numbers
      ∙ ap (λ (ps : List Part). Some (state_of l (numbers_after_all l.stored ps x))) (seconds (below (length l.parts)) l.parts (length-below (length l.parts)))

  -- the run in the order of the listing
  listing_run : run_of l x (listing_order (listing_of l x)) ≡ Some (state_of l (numbers_after_all l.stored l.parts x))
  listing_run = listing_runs l (ops_of l) (is_listed (events_of (plan_view l))) (state_of l x) ∙ job_runs

  is_defined : IsListingDefined l x
  is_defined = ap is_some listing_run

-- the listing runs
pub listings_run : ListingsRun
listings_run l ready x numbers = listing_run l ready x numbers

-- each unit is defined at its turn
pub turns_defined : TurnsAreDefined
turns_defined l ready x numbers a i h k = turn_defined (listing_of l x) (is_defined l ready x numbers) a i h k

-- the list is ordered
pub ready_ordered : ReadyListsAreOrdered
ready_ordered l ready x numbers = job_ordered l x (is_defined l ready x numbers)

-- every allowed list runs
pub allowed_run : AllowedListsRun
allowed_run l ready x numbers u allowed = orders_defined l ready.runnable x (is_defined l ready x numbers) u allowed

-- and each unit of it is defined at its turn
pub allowed_turns : AllowedTurnsAreDefined
allowed_turns l ready x numbers u allowed b enabled =
    defined_at_turn (listing_of l x) (job_frames l ready.runnable x) (ready_ordered l ready x numbers) (counts_of u) (counts_kept (listing_of l x) u allowed) b enabled

-- a complete one ends in the numbers
pub complete_leave : CompleteListsLeaveTheNumbers
complete_leave l ready x numbers u allowed full = orders_end l ready.runnable x (is_defined l ready x numbers) u allowed full ∙ listing_run l ready x numbers
