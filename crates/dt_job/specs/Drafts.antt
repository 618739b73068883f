-- What the lines read so far say.
use Rattle.std.specs.Prelude.{◌≡◌, ℕ, ◌≤◌, List, [], ◌∷◌, ◌++◌, length, All, false, Option, None, is_some, option_map, unwrap_or, IfSome, IsSomeAnd}
use Rattle.std.specs.List.{AllByRecursion, IsDistinct}
use Rattle.std.specs.Str.{bytes_eq}
use Rattle.dt_model.specs.Positions.{IsStored}
use Rattle.dt_place.specs.Machines.{MachineView, dims_of}
use Rattle.dt_place.specs.declared.placements.Placement.{Placement}
use Rattle.dt_job.specs.declared.outputs.Show.{Show}
use Rattle.dt_plan.specs.declared.parts.Part.{Part}
use Rattle.dt_job.specs.declared.phases.Phase.{Phase}
use Rattle.dt_job.specs.declared.phases.Phase.TheVariants as phase
use Rattle.dt_job.specs.Scheduled.{ScheduledView}
use Rattle.dt_job.specs.Contents.{Content, Contents, extents_of_all, names_of, stored_of_all}
use Rattle.dt_job.specs.Jobs.{FitsOn, IsJobStmt, ShowsBelow}
use Rattle.dt_job.specs.PartsOf.{IsPartOf}
use Rattle.dt_job.specs.Phases.{is_past_declarations, knows_machine, open_stmt}

-- the machine where a line gives it, the tensors, the closed statements and the outputs in order, and where the reading
-- stands
pub record DraftView : Type 0 where
  pub machine : Option MachineView
  pub tensors : Contents
  pub closed : List ScheduledView
  pub shows : List Show
  pub phase : Phase

-- no line is read yet
abbrev pub empty_draft : DraftView
empty_draft = record { machine = None; tensors = []; closed = []; shows = []; phase = phase.Version }

-- all statements so far: those that are closed, and the open one
abbrev pub stated : DraftView → List ScheduledView
stated d = unwrap_or (option_map (λ s. d.closed ++ s ∷ []) (open_stmt d.phase)) d.closed

-- the part that a statement with its schedule is: until barriers come, all stand in segment 0
abbrev pub part_of : ScheduledView → Part
part_of s = record { sched = s.sched; adds = s.stmt.adds; segment = 0 }

-- the machine's dimensions, and none until the machine is known
abbrev pub grid_of : Option MachineView → List ℕ
grid_of machine = unwrap_or (option_map dims_of machine) []

-- a statement over these tensors, with a schedule that means it on a machine with these dimensions
pub record IsScheduled (dims : List ℕ) (tensors : Contents) (s : ScheduledView) : Type 0 where
  pub stmt : IsJobStmt (extents_of_all tensors) s.stmt
  pub part : IsPartOf dims (stored_of_all tensors) (names_of tensors) s.stmt (part_of s)

-- a placement fits the machine, which is known
abbrev pub FitsMachine : Option MachineView → Placement → Type 0
FitsMachine machine p = IsSomeAnd machine (λ m. FitsOn m p)

-- the placement that a line says, if one does, fits the machine
abbrev pub IsPlaced : Option MachineView → List ℕ × Content → Type 0
IsPlaced machine t = IfSome t.1.placement (FitsMachine machine)

-- The machine is known from the declarations on, and each placement fits it. There are at most 32 tensors, whose names
-- differ, and at most 32 statements over them, the first of which ends the declarations; every output is one of them.
pub record IsDraft (d : DraftView) : Type 0 where
  pub machine : is_some d.machine ≡ knows_machine d.phase
  pub places : All (IsPlaced d.machine) d.tensors
  pub few : length d.tensors ≤ 32
  pub differ : IsDistinct bytes_eq (names_of d.tensors)
  pub stored : AllByRecursion IsStored (stored_of_all d.tensors)
  pub few_stmts : length (stated d) ≤ 32
  pub stmts : All (IsScheduled (grid_of d.machine) d.tensors) (stated d)
  pub begun : is_past_declarations d.phase ≡ false → stated d ≡ []
  pub shows : All (ShowsBelow (length d.tensors)) d.shows
