-- Each unit of an operation keeps to the operation's footprints, and lists of operations have frames.
use Rattle.std.proofs.Common.{◌≡◌, ℕ, zero, suc, ◌<◌, List, [], ◌∷◌, length, Option, Some, None, refl, subst}
use Rattle.std.specs.Prelude.{not, nat_eq, option_map, unwrap_or, slice_get}
use Rattle.std.specs.List.{AllByRecursion}
use Rattle.std.proofs.lemmas.Bool.{or_parts}
use Rattle.dt_nest.specs.Visits.{Item, visits_of}
use Rattle.dt_nest.proofs.Each.{all_get}
use Rattle.dt_argument.specs.Frames.{Mode, IsFramed}
use Rattle.dt_argument.proofs.Shapes.{framed_still}
use Rattle.dt_plan.specs.declared.kind.Kind.{Kind}
use Rattle.dt_plan.specs.declared.kind.Kind.TheVariants as kind
use Rattle.dt_plan.specs.declared.ops.Op.{Op}
use Rattle.dt_plan.specs.declared.parts.Part.{Part}
use Rattle.dt_plan.specs.declared.touches.Buffer.TheVariants.{Home}
use Rattle.dt_plan.specs.Layouts.{Layout}
use Rattle.dt_plan.specs.Operations.{op_on}
use Rattle.dt_plan.specs.Footprints.{task_touches, footprints_by, footprints_of}
use Rattle.dt_events.specs.Conflicts.{some_meet}
use Rattle.dt_events.specs.State.{Cell, touches_at}
use Rattle.dt_events.specs.Units.{of_unit, scratch_of, item_can, item_next, can_by, next_by}
use Rattle.dt_events.specs.Jobs.{op_at, segment_in}
use Rattle.dt_events.specs.StateLaws.{IsRunnable, AreRunnable, HasWords, UnitsAreFramed, UnmetAreApart, ListsHaveFrames}
use Rattle.dt_events.proofs.Cells.{contains_unit}
use Rattle.dt_events.proofs.Apart.{lists_apart}
use Rattle.dt_events.proofs.MoveFrames.{zero_framed, alloc_framed, free_framed, copy_framed, fold_framed}
use Rattle.dt_events.proofs.TaskFrames.{ItemWithin, item_framed}
use Rattle.dt_events.proofs.TaskItems.{items_within}

-- what holds of each element holds of the one at a place
pub all_got : {X : Type 0} (P : X → Type 0) (xs : List X) (k : ℕ) (x : X) → AllByRecursion P xs → slice_get xs k ≡ Some x → P x
all_got P [] k x h e = cc
all_got P (y ∷ xs) zero x h e = let f : y ≡ x = cc in subst P f h.0
all_got P (y ∷ xs) (suc k) x h e = all_got P xs k x h.1 e

-- and of that of a unit
all_unit : {X : Type 0} (P : X → Type 0) (xs : List X) (i : ℕ) (x : X) → AllByRecursion P xs → of_unit xs i ≡ Some x → P x
all_unit P xs zero x h e = cc
all_unit P xs (suc i) x h e = all_got P xs i x h e

-- Tasks --------------------------------------------------------------------------------------------------------------------

-- a unit of a task, if the task has it
item_unit_framed : (l : Layout) (o : Op) (p : Part) (modes : Cell → Mode) (x : Option Item) → ((item : Item) → x ≡ Some item → ItemWithin l p.sched o.stmt o.node modes item)
    → IsFramed modes (item_can l o (Some p) x) (item_next l o (Some p) x)
item_unit_framed l o p modes None h = framed_still modes (item_can l o (Some p) None) (λ s t g. refl)
item_unit_framed l o p modes (Some item) h = item_framed l p.sched o.stmt o.node modes item (h item refl)

-- a unit of a task whose statement has this part, if any
task_framed : (l : Layout) (o : Op) (i : ℕ) (part : Option Part) → ((p : Part) → part ≡ Some p → IsRunnable l p)
    → IsFramed (touches_at (unwrap_or (option_map (λ (p : Part). task_touches l o p.sched) part) []))
    (item_can l o part (of_unit (unwrap_or (option_map (λ (p : Part). visits_of l.stored p.sched o.path) part) []) i))
    (item_next l o part (of_unit (unwrap_or (option_map (λ (p : Part). visits_of l.stored p.sched o.path) part) []) i))
task_framed l o i None h = framed_still (touches_at []) (item_can l o None (of_unit [] i)) (λ s t g. refl)
task_framed l o i (Some p) h =
    item_unit_framed l o p (touches_at (task_touches l o p.sched)) (of_unit (visits_of l.stored p.sched o.path) i)
    (λ item e. all_unit (ItemWithin l p.sched o.stmt o.node (touches_at (task_touches l o p.sched))) (visits_of l.stored p.sched o.path) i item (items_within l o p (h p refl)) e)

-- All kinds ----------------------------------------------------------------------------------------------------------------

-- a unit of an operation of a kind
kind_framed : (l : Layout) → AreRunnable l → (o : Op) (i : ℕ) (what : Kind) → (what ≡ kind.Zero → 0 < length o.words) → IsFramed (touches_at (footprints_by what l o)) (can_by what l o i) (next_by what l o i)
kind_framed l parts o i kind.Zero h = zero_framed o.node (Home o.tensor) o.words i (h refl)
kind_framed l parts o i kind.Alloc h = alloc_framed o.node (scratch_of l o) o.words i
kind_framed l parts o i kind.Copy h = copy_framed o.other (Home o.tensor) o.node (scratch_of l o) o.words (of_unit o.words i) (contains_unit o.words i)
kind_framed l parts o i kind.Task h = task_framed l o i (slice_get l.parts o.stmt) (λ p e. all_got (IsRunnable l) l.parts o.stmt p parts e)
kind_framed l parts o i kind.Fold h = fold_framed o.node (scratch_of l o) o.other (Home o.tensor) o.words (of_unit o.words i) (contains_unit o.words i)
kind_framed l parts o i kind.Free h = free_framed o.node (scratch_of l o) i

-- each unit keeps to the footprints
pub units_framed : UnitsAreFramed
units_framed l parts o words i = kind_framed l parts o i o.kind words

-- footprints that don't meet clash at no cell
pub unmet_apart : UnmetAreApart
unmet_apart fs gs h = lists_apart fs gs h

-- an operation at a place of a list is one of it
pub op_within : (P : Op → Type 0) (ops : List Op) (a : ℕ) → AllByRecursion P ops → a < length ops → P (op_at ops a)
op_within P ops a h l = all_get P ops a (op_on kind.Free 0 0 [] 0 0 [] 1) h l

-- a list of operations has frames
pub lists_framed : ListsHaveFrames
lists_framed l parts ops words event opening = record {
  framed = λ a i h. units_framed l parts (op_at ops a) (op_within HasWords ops a words h) i;
  apart = λ a b h k e.
      lists_apart (footprints_of l (op_at ops a)) (footprints_of l (op_at ops b))
      (or_parts (not (nat_eq (segment_in l (op_at ops a)) (segment_in l (op_at ops b)))) (some_meet (footprints_of l (op_at ops a)) (footprints_of l (op_at ops b))) e).1;
}
