-- The operations of a layout.
use Rattle.std.specs.Prelude.{◌≡◌, ◌<◌, length, Some, slice_get}
use Rattle.std.specs.List.{AllByRecursion}
use Rattle.dt_nest.specs.Visits.{IsPath}
use Rattle.dt_place.specs.Machines.{nodes_of}
use Rattle.dt_plan.specs.declared.kind.Kind.{Kind}
use Rattle.dt_plan.specs.declared.kind.Kind.TheVariants as kind
use Rattle.dt_plan.specs.declared.ops.Op.{Op}
use Rattle.dt_plan.specs.declared.parts.Part.{Part}
use Rattle.dt_plan.specs.Layouts.{Layout}
use Rattle.dt_plan.specs.Operations.{ops_of}
use Rattle.dt_plan.specs.Statements.{HasHomes, FitsLayout}

-- the path of a task is one of its statement's
abbrev pub HasPathOf : Layout → Op → Type 0
HasPathOf l o = (p : Part) → slice_get l.parts o.stmt ≡ Some p → IsPath p.sched o.path

abbrev pub TaskHasPath : Kind → Layout → Op → Type 0
TaskHasPath kind.Zero l o = Unit {0}
TaskHasPath kind.Alloc l o = Unit {0}
TaskHasPath kind.Copy l o = Unit {0}
TaskHasPath kind.Task l o = HasPathOf l o
TaskHasPath kind.Fold l o = Unit {0}
TaskHasPath kind.Free l o = Unit {0}

-- an operation of a layout: its statement and nodes are there, and a task's path is one of its statement's
pub record IsOpOf (l : Layout) (o : Op) : Type 0 where
  pub stmt : o.stmt < length l.parts
  pub node : o.node < nodes_of l.machine
  pub other : o.other < nodes_of l.machine
  pub path : TaskHasPath o.kind l o

-- So are those of a layout's list.
abbrev pub OpsAreOfLayout : Type 0
OpsAreOfLayout = (l : Layout) → HasHomes l → FitsLayout l → AllByRecursion (IsOpOf l) (ops_of l)
