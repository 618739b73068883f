-- A loop in two, by the extent of the inner one: when it is lawful, and what it makes of a schedule.
use Rattle.std.specs.Prelude.{List, [], ◌∷◌, Option, slice_index, ◌<◌, length}
use Rattle.std.specs.Int.{div_ceil}
use Rattle.dt_model.specs.declared.cause.Cause.{Cause}
use Rattle.dt_cuts.specs.declared.cuts.Cut.{Cut}
use Rattle.dt_nest.specs.Schedule.{Schedule}
use Rattle.dt_nest.specs.Commands.{Rule}
use Rattle.dt_cuts.specs.Cutting.{cut_by, cut_rule}
use Rattle.dt_rewrite.specs.declared.splits.Split.{Split}
use Rattle.dt_cuts.specs.Causes.{first_cause}
use Rattle.dt_rewrite.specs.TwoLoops.{two_loops, two_loops_tests}

-- the tests of a split, in their order
abbrev pub split_tests : Split → Schedule → List (Option Cause)
split_tests c s = two_loops_tests c.var c.factor (c.outer ∷ c.inner ∷ []) s

-- the first cause against a split
abbrev pub split_cause : Split → Schedule → Option Cause
split_cause c s = first_cause (split_tests c s)

-- as many pieces of the factor's length as reach, one loop over them around one over a piece
abbrev pub split_cut : Split → Schedule → Cut
split_cut c s =
    let n = slice_index s.extents c.var in two_loops c.var n (div_ceil n c.factor) c.factor (c.outer ∷ c.inner ∷ []) s

-- the schedule after a split
abbrev pub split_effect : Split → Schedule → Schedule
split_effect c s = cut_by (split_cut c s) s

-- a split as a command; all tensors suit it
abbrev pub split_rule : Split → Rule
split_rule c = cut_rule (λ s. c.var < length s.names) (split_cause c) (split_cut c) (λ stored s. Unit {0})
