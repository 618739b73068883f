-- Which bytes a source has lost when it was read up to a limit.
use Rattle.std.specs.Prelude.{◌≡◌, ℕ, ◌+◌, ◌≤◌, List, length, Result, Ok, Err, Option}
use Rattle.std.specs.Io.KnownBytes.{Consumes, IsAtEnd}
use Rattle.dt_io.specs.declared.ends.ReadEnd.{ReadEnd}
use Rattle.dt_io.specs.declared.ends.ReadEnd.TheVariants as ends

-- the source lost at most so many bytes
abbrev pub LosesAtMost : ℕ → Option (List ℕ) → Option (List ℕ) → Type 0
LosesAtMost most old new = (lost : List ℕ) × Consumes old new lost × (length lost ≤ most)

-- the bytes to the end at Ok, one more than the limit at TooLong, else no more than the limit
abbrev pub Takes : ℕ → Option (List ℕ) → Option (List ℕ) → Result (List ℕ) ReadEnd → Type 0
Takes limit old new (Ok all) = Consumes old new all × IsAtEnd new × (length all ≤ limit)
Takes limit old new (Err ends.TooLong) = (lost : List ℕ) × Consumes old new lost × (length lost ≡ limit + 1)
Takes limit old new (Err ends.Failed) = LosesAtMost limit old new
Takes limit old new (Err ends.NoMemory) = LosesAtMost limit old new
