-- Why the reading of a job stops at a line.
use Rattle.std.specs.Prelude.{◌≡◌, Result, Ok, Err}
use Rattle.dt_model.specs.declared.cause.Cause.{Cause}
use Rattle.dt_model.specs.declared.cause.Cause.TheVariants as cause
use Rattle.dt_model.specs.declared.cause.LineEnd.{LineEnd}
use Rattle.dt_model.specs.declared.cause.LineEnd.TheVariants as line_ends
use Rattle.dt_tensor.specs.declared.packing.PackEnd.{PackEnd}
use Rattle.dt_tensor.specs.declared.packing.PackEnd.TheVariants as pack_ends
use Rattle.dt_job.specs.declared.line_stop.LineStop.{LineStop}
use Rattle.dt_job.specs.declared.line_stop.LineStop.TheVariants as stops

-- where a part of a line gives nothing, the line stops the reading
abbrev pub stop_of : LineEnd → LineStop
stop_of (line_ends.Refused cause) = stops.Refused cause
stop_of line_ends.NoMemory = stops.NoMemory

-- the cause for which entries give no tensor
abbrev pub cause_of_pack : PackEnd → Cause
cause_of_pack (pack_ends.OutOfShape k) = cause.OutOfShape k
cause_of_pack (pack_ends.Repeated k) = cause.Repeated k
cause_of_pack pack_ends.TooManyStored = cause.TooManyStored
cause_of_pack pack_ends.NoMemory = cause.TooManyStored

-- where entries give no tensor, the line stops the reading
abbrev pub stop_of_pack : PackEnd → LineStop
stop_of_pack (pack_ends.OutOfShape k) = stops.Refused (cause.OutOfShape k)
stop_of_pack (pack_ends.Repeated k) = stops.Refused (cause.Repeated k)
stop_of_pack pack_ends.TooManyStored = stops.Refused cause.TooManyStored
stop_of_pack pack_ends.NoMemory = stops.NoMemory

-- what stopped the reading is the cause that the definition gives, or want of memory
abbrev pub Stops : {Y : Type 0} → LineStop → Result Y Cause → Type 0
Stops (stops.Refused cause) read = read ≡ Err cause
Stops stops.NoMemory read = Unit {0}

-- what a call returned, seen by view, is what the definition gives, unless memory ran out
abbrev pub Says : {X Y : Type 0} → (X → Y) → Result X LineStop → Result Y Cause → Type 0
Says view (Ok x) read = read ≡ Ok (view x)
Says view (Err stop) read = Stops stop read
