-- What comes of planning a job.
use Rattle.std.specs.Prelude.{◌≡◌, Some, None}
use Rattle.dt_plan.specs.Layouts.{Layout}
use Rattle.dt_plan.specs.Limits.{plan_view}
use Rattle.dt_events.specs.Events.{events_of}
use Rattle.dt_run.specs.Planning.{limit_of}
use Rattle.dt_run.specs.declared.planning.Planned.{Planned}
use Rattle.dt_run.specs.declared.planning.Planned.TheVariants.{Made, Passes}

-- the layout's plan and its events, where no limit is passed; else the first one that is
abbrev pub IsPlanOrLimit : Layout → Planned → Type 0
IsPlanOrLimit l (Made plan events) = (limit_of l ≡ None) × (plan ≡ plan_view l) × (events ≡ events_of plan)
IsPlanOrLimit l (Passes cause) = limit_of l ≡ Some cause
