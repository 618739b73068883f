-- Laws of the units of operations, in any list.
use Rattle.std.specs.Prelude.{◌≡◌, ℕ, ◌<◌, Bool, false, List, length}
use Rattle.std.specs.List.{AllByRecursion}
use Rattle.dt_nest.specs.Lawful.{IsLawful}
use Rattle.dt_nest.specs.Outputs.{output_of, IsUnread}
use Rattle.dt_argument.specs.Frames.{IsFramed, AreApart}
use Rattle.dt_argument.specs.Facts.{HasFrames}
use Rattle.dt_plan.specs.declared.kind.Kind.TheVariants as kind
use Rattle.dt_plan.specs.declared.ops.Op.{Op}
use Rattle.dt_plan.specs.declared.parts.Part.{Part}
use Rattle.dt_plan.specs.declared.touches.Touch.{Touch}
use Rattle.dt_plan.specs.Layouts.{Layout}
use Rattle.dt_plan.specs.Footprints.{footprints_of}
use Rattle.dt_events.specs.Conflicts.{some_meet}
use Rattle.dt_events.specs.State.{State, touches_at}
use Rattle.dt_events.specs.Units.{can_do, next_of}
use Rattle.dt_events.specs.Jobs.{listing_over}

-- what is asked of a part: a lawful schedule of the layout's tensors, whose leaves don't read the left one
pub record IsRunnable (l : Layout) (p : Part) : Type 0 where
  pub lawful : IsLawful p.sched
  pub unread : IsUnread (output_of p.sched.nest) p.sched.nest
  pub tensors : length p.sched.tensors ≡ length l.stored

-- all parts are so
abbrev pub AreRunnable : Layout → Type 0
AreRunnable l = AllByRecursion (IsRunnable l) l.parts

-- a zero has words; other operations may have none
abbrev pub HasWords : Op → Type 0
HasWords o = o.kind ≡ kind.Zero → 0 < length o.words

-- Each unit of an operation, read by its own fields, keeps to the operation's footprints.
abbrev pub UnitsAreFramed : Type 0
UnitsAreFramed = (l : Layout) → AreRunnable l → (o : Op) → HasWords o → (i : ℕ) → IsFramed (touches_at (footprints_of l o)) (can_do l o i) (next_of l o i)

-- Two lists of footprints of which none meet clash at no cell.
abbrev pub UnmetAreApart : Type 0
UnmetAreApart = (fs gs : List Touch) → some_meet fs gs ≡ false → AreApart (touches_at fs) (touches_at gs)

-- So any list of operations, with any events and from any opening, has frames, and its pairs without conflict clash at no cell.
abbrev pub ListsHaveFrames : Type 0
ListsHaveFrames =
    (l : Layout) → AreRunnable l → (ops : List Op) → AllByRecursion HasWords ops → (event : ℕ → ℕ → Bool) (opening : State) → HasFrames (listing_over l ops event opening)
