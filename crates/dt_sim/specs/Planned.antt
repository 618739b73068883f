-- A job whose plan is run.
use Rattle.std.specs.Prelude.{◌≡◌, List}
use Rattle.dt_model.specs.Positions.{StoredTensor}
use Rattle.dt_place.specs.Machines.{MachineView}
use Rattle.dt_plan.specs.declared.parts.Part.{Part}
use Rattle.dt_plan.specs.Layouts.{Layout}
use Rattle.dt_plan.specs.Limits.{PlanView, plan_view}

-- the layout of these parts, where a plan has the homes
abbrev pub planned_layout : MachineView → List StoredTensor → PlanView → List Part → Layout
planned_layout m stored plan parts = record { machine = m; stored = stored; homes = plan.homes; parts = parts }

-- the plan is that of the layout
abbrev pub IsPlanned : Layout → PlanView → Type 0
IsPlanned l plan = plan ≡ plan_view l
