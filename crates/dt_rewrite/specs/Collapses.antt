-- Two loops as one: when it is lawful, and what it makes of a schedule.
use Rattle.std.specs.Prelude.{ℕ, ◌*◌, List, [], ◌∷◌, length, Option, nat_le, slice_index, ◌<◌}
use Rattle.dt_model.specs.declared.cause.Cause.{Cause}
use Rattle.dt_model.specs.declared.cause.Cause.TheVariants as cause
use Rattle.dt_nest.specs.declared.derivations.Derive.TheVariants as how
use Rattle.dt_cuts.specs.declared.cuts.Cut.{Cut}
use Rattle.dt_nest.specs.Schedule.{Schedule}
use Rattle.dt_nest.specs.Commands.{Rule}
use Rattle.dt_cuts.specs.Cutting.{cut_by, cut_rule}
use Rattle.dt_rewrite.specs.declared.collapses.Collapse.{Collapse}
use Rattle.dt_cuts.specs.Causes.{first_cause, unless, unknown_loop, taken_name, not_free}
use Rattle.dt_nest.specs.Questions.{is_chain}

-- TooLarge where the fused loop would have more than 16,777,216 values
abbrev pub too_large : ℕ → ℕ → Option Cause
too_large n m = unless (nat_le (n * m) 16777216) cause.TooLarge

-- the tests of a collapse, in their order
abbrev pub collapse_tests : Collapse → Schedule → List (Option Cause)
collapse_tests c s =
    unknown_loop s (c.outer ∷ c.inner ∷ [])
    ∷ taken_name s.names (c.fused ∷ [])
    ∷ unless (is_chain (c.outer ∷ c.inner ∷ []) s.nest) cause.NotAdjacent
    ∷ too_large (slice_index s.extents c.outer) (slice_index s.extents c.inner)
    ∷ not_free s (c.outer ∷ c.inner ∷ [])
    ∷ []

-- the first cause against a collapse
abbrev pub collapse_cause : Collapse → Schedule → Option Cause
collapse_cause c s = first_cause (collapse_tests c s)

-- the fused loop has a value for each pair of values; the outer loop is its quotient by the inner extent, the inner loop
-- its rest
abbrev pub collapse_cut : Collapse → Schedule → Cut
collapse_cut c s =
    let k = length s.names in
    let n = slice_index s.extents c.outer in
    let m = slice_index s.extents c.inner in
    record {
      old = record { var = c.outer; extent = n } ∷ record { var = c.inner; extent = m } ∷ [];
      heads = record { var = k; extent = n * m } ∷ [];
      guards = [];
      derived = record { var = c.outer; how = how.Quotient k m } ∷ record { var = c.inner; how = how.Rest k m } ∷ [];
      names = c.fused ∷ [];
      extents = n * m ∷ [];
    }

-- the schedule after a collapse
abbrev pub collapse_effect : Collapse → Schedule → Schedule
collapse_effect c s = cut_by (collapse_cut c s) s

-- a collapse as a command; all tensors suit it
abbrev pub collapse_rule : Collapse → Rule
collapse_rule c = cut_rule (λ s. (c.outer < length s.names) × (c.inner < length s.names)) (collapse_cause c) (collapse_cut c) (λ stored s. Unit {0})
