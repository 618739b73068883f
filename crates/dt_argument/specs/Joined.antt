-- What an operation does at a cell where it does two things.
use Rattle.dt_argument.specs.Frames.{Mode, Untouched, Reads, Writes, Folds}

-- two things at one cell are one: a cell that is read and folded may be anything, so it is written
abbrev pub both : Mode → Mode → Mode
both Untouched m = m
both Reads Untouched = Reads
both Reads Reads = Reads
both Reads Writes = Writes
both Reads Folds = Writes
both Writes m = Writes
both Folds Untouched = Folds
both Folds Reads = Writes
both Folds Writes = Writes
both Folds Folds = Folds

-- the number in the cell may be used
abbrev pub IsInput : Mode → Type 0
IsInput Untouched = ⊥
IsInput Reads = Unit {0}
IsInput Writes = Unit {0}
IsInput Folds = ⊥

-- the number in the cell may grow
abbrev pub IsOutput : Mode → Type 0
IsOutput Untouched = ⊥
IsOutput Reads = ⊥
IsOutput Writes = Unit {0}
IsOutput Folds = Unit {0}
