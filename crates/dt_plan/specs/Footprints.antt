-- What operations touch.
use Rattle.std.specs.Prelude.{ℕ, ◌-◌, true, false, List, [], ◌∷◌, ◌++◌, length, map, option_map, unwrap_or, slice_get, if◌then◌else◌, nat_eq, nat_lt}
use Rattle.dt_base.specs.Ranges.{below}
use Rattle.dt_nest.specs.Schedule.{Schedule}
use Rattle.dt_nest.specs.Outputs.{output_of}
use Rattle.dt_nest.specs.Visits.{needed_of}
use Rattle.dt_nest.specs.Paths.{tensors_in}
use Rattle.dt_plan.specs.declared.kind.Kind.{Kind}
use Rattle.dt_plan.specs.declared.kind.Kind.TheVariants as kind
use Rattle.dt_plan.specs.declared.ops.Op.{Op}
use Rattle.dt_plan.specs.declared.parts.Part.{Part}
use Rattle.dt_plan.specs.declared.touches.Buffer.{Buffer}
use Rattle.dt_plan.specs.declared.touches.Buffer.TheVariants.{Home, Scratch, Work}
use Rattle.dt_plan.specs.declared.touches.Mode.{Mode}
use Rattle.dt_plan.specs.declared.touches.Mode.TheVariants as mode
use Rattle.dt_plan.specs.declared.touches.Touch.{Touch}
use Rattle.dt_plan.specs.Layouts.{Layout}

-- words of a buffer
abbrev pub some_words : ℕ → Buffer → List ℕ → Mode → Touch
some_words n buffer words how = record { node = n; buffer = buffer; whole = false; words = words; mode = how }

-- a buffer with all its words, as it is opened or closed
abbrev pub whole_buffer : ℕ → Buffer → Touch
whole_buffer n buffer = record { node = n; buffer = buffer; whole = true; words = []; mode = mode.Write }

-- the buffer that a statement has for a tensor or workspace, by its number in operations
abbrev pub buffer_by : Layout → ℕ → ℕ → Buffer
buffer_by l k t = if nat_lt t (length l.stored) then Scratch k t else Work k (t - length l.stored)

-- how a task touches the scratch of a tensor: it reads it, or folds into it where it is the left tensor's
abbrev pub task_mode : Schedule → ℕ → Mode
task_mode s t = if nat_eq t (output_of s.nest) then mode.Fold else mode.Read

-- a task touches the needed words of each tensor, and each workspace whole
abbrev pub task_touches : Layout → Op → Schedule → List Touch
task_touches l o s =
    map (λ t. some_words o.node (Scratch o.stmt t) (needed_of l.stored s t o.path) (task_mode s t)) (tensors_in s)
    ++ map (λ w. whole_buffer o.node (Work o.stmt w)) (below (length s.works))

-- what an operation of a kind touches
abbrev pub footprints_by : Kind → Layout → Op → List Touch
footprints_by kind.Zero l o = some_words o.node (Home o.tensor) o.words mode.Write ∷ []
footprints_by kind.Alloc l o = whole_buffer o.node (buffer_by l o.stmt o.tensor) ∷ []
footprints_by kind.Copy l o = some_words o.other (Home o.tensor) o.words mode.Read ∷ some_words o.node (buffer_by l o.stmt o.tensor) o.words mode.Write ∷ []
footprints_by kind.Task l o = unwrap_or (option_map (λ (p : Part). task_touches l o p.sched) (slice_get l.parts o.stmt)) []
footprints_by kind.Fold l o = some_words o.node (buffer_by l o.stmt o.tensor) o.words mode.Read ∷ some_words o.other (Home o.tensor) o.words mode.Fold ∷ []
footprints_by kind.Free l o = whole_buffer o.node (buffer_by l o.stmt o.tensor) ∷ []

abbrev pub footprints_of : Layout → Op → List Touch
footprints_of l o = footprints_by o.kind l o
