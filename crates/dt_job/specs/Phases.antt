-- Which lines may come when.
use Rattle.std.specs.Prelude.{Bool, true, false, Option, Some, None}
use Rattle.dt_job.specs.declared.phases.Phase.{Phase}
use Rattle.dt_job.specs.declared.phases.Phase.TheVariants as phase
use Rattle.dt_job.specs.Scheduled.{ScheduledView}

-- whether the line `distal` may come
abbrev pub takes_distal : Phase → Bool
takes_distal phase.Version = true
takes_distal _ = false

-- whether the line `machine` may come
abbrev pub takes_machine : Phase → Bool
takes_machine phase.Machine = true
takes_machine _ = false

-- whether the machine is known: its line has come
abbrev pub knows_machine : Phase → Bool
knows_machine phase.Version = false
knows_machine phase.Machine = false
knows_machine _ = true

-- whether a line `tensor`, `place`, `data` or `fill` may come
abbrev pub takes_declaration : Phase → Bool
takes_declaration phase.Declarations = true
takes_declaration _ = false

-- whether a line `stmt` may come
abbrev pub takes_stmt : Phase → Bool
takes_stmt phase.Declarations = true
takes_stmt phase.Statements = true
takes_stmt _ = false

-- the open statement, where one is open
abbrev pub open_stmt : Phase → Option ScheduledView
open_stmt (phase.Open s) = Some s
open_stmt _ = None

-- whether the declarations are over
abbrev pub is_past_declarations : Phase → Bool
is_past_declarations phase.Version = false
is_past_declarations phase.Machine = false
is_past_declarations phase.Declarations = false
is_past_declarations _ = true

-- whether an output may come
abbrev pub takes_output : Phase → Bool
takes_output phase.Declarations = true
takes_output phase.Statements = true
takes_output phase.Outputs = true
takes_output _ = false

-- whether the job may end here: its machine is known, and no statement is open
abbrev pub is_whole : Phase → Bool
is_whole phase.Declarations = true
is_whole phase.Statements = true
is_whole phase.Outputs = true
is_whole _ = false
