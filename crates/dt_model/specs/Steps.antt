-- Reading step by step: what a part of a line gives, or the first cause against it.
use Rattle.std.specs.Prelude.{◌≡◌, Bool, if◌then◌else◌, Option, Some, None, Result, Ok, Err}
use Rattle.dt_model.specs.declared.cause.Cause.{Cause}
use Rattle.dt_model.specs.declared.cause.LineEnd.{LineEnd}
use Rattle.dt_model.specs.declared.cause.LineEnd.TheVariants as ends

-- a step, and the next one where it has no cause
infixl 10 ◌>>=◌
abbrev pub ◌>>=◌ : {A B : Type 0} → Result A Cause → (A → Result B Cause) → Result B Cause
(Ok x) >>= f = f x
(Err e) >>= f = Err e

-- a test that has to hold
abbrev pub need : Bool → Cause → Result (Unit {0}) Cause
need b cause = if b then Ok tt else Err cause

-- the value, where there is one
abbrev pub found : {A : Type 0} → Option A → Cause → Result A Cause
found None cause = Err cause
found (Some x) cause = Ok x

-- a search for offenders that has to find none
abbrev pub none : Option Cause → Result (Unit {0}) Cause
none None = Ok tt
none (Some cause) = Err cause

-- what ended a reading is the cause that the definition gives, or want of memory
abbrev pub Fails : {Y : Type 0} → LineEnd → Result Y Cause → Type 0
Fails ends.NoMemory read = Unit {0}
Fails (ends.Refused cause) read = read ≡ Err cause

-- what a call returned, seen by view, is what the definition gives, unless memory ran out
abbrev pub Gives : {X Y : Type 0} → (X → Y) → Result X LineEnd → Result Y Cause → Type 0
Gives view (Ok x) read = read ≡ Ok (view x)
Gives view (Err e) read = Fails e read
