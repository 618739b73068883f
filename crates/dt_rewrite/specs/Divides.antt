-- A loop in two, by the extent of the outer one: when it is lawful, and what it makes of a schedule.
use Rattle.std.specs.Prelude.{List, [], ◌∷◌, Option, slice_index, ◌<◌, length}
use Rattle.std.specs.Int.{div_ceil}
use Rattle.dt_model.specs.declared.cause.Cause.{Cause}
use Rattle.dt_cuts.specs.declared.cuts.Cut.{Cut}
use Rattle.dt_nest.specs.Schedule.{Schedule}
use Rattle.dt_nest.specs.Commands.{Rule}
use Rattle.dt_cuts.specs.Cutting.{cut_by, cut_rule}
use Rattle.dt_rewrite.specs.declared.divides.Divide.{Divide}
use Rattle.dt_cuts.specs.Causes.{first_cause}
use Rattle.dt_rewrite.specs.TwoLoops.{two_loops, two_loops_tests}

-- the tests of a divide, in their order
abbrev pub divide_tests : Divide → Schedule → List (Option Cause)
divide_tests c s = two_loops_tests c.var c.pieces (c.outer ∷ c.inner ∷ []) s

-- the first cause against a divide
abbrev pub divide_cause : Divide → Schedule → Option Cause
divide_cause c s = first_cause (divide_tests c s)

-- a loop over so many pieces around one over a piece, which is so long that all of them reach
abbrev pub divide_cut : Divide → Schedule → Cut
divide_cut c s =
    let n = slice_index s.extents c.var in two_loops c.var n c.pieces (div_ceil n c.pieces) (c.outer ∷ c.inner ∷ []) s

-- the schedule after a divide
abbrev pub divide_effect : Divide → Schedule → Schedule
divide_effect c s = cut_by (divide_cut c s) s

-- a divide as a command; all tensors suit it
abbrev pub divide_rule : Divide → Rule
divide_rule c = cut_rule (λ s. c.var < length s.names) (divide_cause c) (divide_cut c) (λ stored s. Unit {0})
