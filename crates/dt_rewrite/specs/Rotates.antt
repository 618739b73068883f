-- A loop rotated by loops around it: when it is lawful, and what it makes of a schedule.
use Rattle.std.specs.Prelude.{ℕ, not, List, [], ◌∷◌, length, Option, slice_index, ◌<◌}
use Rattle.std.specs.List.{AllByRecursion}
use Rattle.dt_model.specs.declared.cause.Cause.{Cause}
use Rattle.dt_model.specs.declared.cause.Cause.TheVariants as cause
use Rattle.dt_nest.specs.declared.derivations.Derive.TheVariants as how
use Rattle.dt_cuts.specs.declared.cuts.Cut.{Cut}
use Rattle.dt_nest.specs.Questions.{loops_to, is_in}
use Rattle.dt_nest.specs.Schedule.{Schedule}
use Rattle.dt_nest.specs.Commands.{Rule}
use Rattle.dt_cuts.specs.Cutting.{cut_by, cut_rule}
use Rattle.dt_rewrite.specs.declared.rotates.Rotate.{Rotate}
use Rattle.dt_nest.specs.PartNames.{name_of}
use Rattle.dt_cuts.specs.Causes.{first_cause, first_with, unknown_loop, taken_name, not_free}

-- NotOuter with the first that is no loop around t
abbrev pub not_outer : Schedule → ℕ → List ℕ → Option Cause
not_outer s t vs = first_with (λ v. not (is_in (loops_to t s.nest) v)) (λ v. cause.NotOuter (name_of s v)) vs

-- the tests of a rotate, in their order
abbrev pub rotate_tests : Rotate → Schedule → List (Option Cause)
rotate_tests c s =
    unknown_loop s (c.var ∷ [])
    ∷ unknown_loop s c.by
    ∷ taken_name s.names (c.fresh ∷ [])
    ∷ not_outer s c.var c.by
    ∷ not_free s (c.var ∷ [])
    ∷ []

-- the first cause against a rotate
abbrev pub rotate_cause : Rotate → Schedule → Option Cause
rotate_cause c s = first_cause (rotate_tests c s)

-- the loop is another with the same extent and the loops `by`, added, modulo the extent
abbrev pub rotate_cut : Rotate → Schedule → Cut
rotate_cut c s =
    let k = length s.names in
    let n = slice_index s.extents c.var in
    record {
      old = record { var = c.var; extent = n } ∷ [];
      heads = record { var = k; extent = n } ∷ [];
      guards = [];
      derived = record { var = c.var; how = how.Rotate k c.by n } ∷ [];
      names = c.fresh ∷ [];
      extents = n ∷ [];
    }

-- the schedule after a rotate
abbrev pub rotate_effect : Rotate → Schedule → Schedule
rotate_effect c s = cut_by (rotate_cut c s) s

-- a rotate as a command; all tensors suit it
abbrev pub rotate_rule : Rotate → Rule
rotate_rule c = cut_rule (λ s. (c.var < length s.names) × AllByRecursion (λ v. v < length s.names) c.by) (rotate_cause c) (rotate_cut c) (λ stored s. Unit {0})
