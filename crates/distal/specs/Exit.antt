-- How the program tells its status.
use Rattle.std.specs.Prelude.{ℕ}
use Rattle.dt_run.specs.declared.status.Status.{Status}
use Rattle.dt_run.specs.declared.status.Status.TheVariants as status

-- the exit status of each status
abbrev pub exit_code : Status → ℕ
exit_code status.Done = 0
exit_code status.BadWords = 1
exit_code status.Refused = 2
exit_code status.ReadFault = 3
exit_code status.WriteFault = 4
exit_code status.NoMemory = 9
