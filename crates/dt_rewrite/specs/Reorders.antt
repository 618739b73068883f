-- Loops in another order: when it is lawful, and what it makes of a schedule.
use Rattle.std.specs.Prelude.{ℕ, List, [], ◌∷◌, map, Option, slice_index, ◌<◌, length}
use Rattle.std.specs.List.{AllByRecursion}
use Rattle.dt_model.specs.declared.cause.Cause.{Cause}
use Rattle.dt_model.specs.declared.cause.Cause.TheVariants as cause
use Rattle.dt_cuts.specs.declared.cuts.Head.{Head}
use Rattle.dt_cuts.specs.declared.cuts.Cut.{Cut}
use Rattle.dt_nest.specs.Schedule.{Schedule}
use Rattle.dt_nest.specs.Commands.{Rule}
use Rattle.dt_cuts.specs.Cutting.{cut_by, cut_rule, heads_of}
use Rattle.dt_rewrite.specs.declared.reorders.Reorder.{Reorder}
use Rattle.dt_cuts.specs.Causes.{first_cause, unless, unknown_loop, not_free}
use Rattle.dt_nest.specs.Questions.{all_differ, is_chain, in_order}

-- the tests of a reorder, in their order
abbrev pub reorder_tests : Reorder → Schedule → List (Option Cause)
reorder_tests c s =
    unknown_loop s c.vars
    ∷ unless (all_differ c.vars) cause.BadLoops
    ∷ unless (is_chain (in_order c.vars s.nest) s.nest) cause.NotOneChain
    ∷ not_free s c.vars
    ∷ []

-- the first cause against a reorder
abbrev pub reorder_cause : Reorder → Schedule → Option Cause
reorder_cause c s = first_cause (reorder_tests c s)

-- the loops in the nest's order go, and come in the named order
abbrev pub reorder_cut : Reorder → Schedule → Cut
reorder_cut c s = record { old = heads_of s (in_order c.vars s.nest); heads = heads_of s c.vars; guards = []; derived = []; names = []; extents = [] }

-- the schedule after a reorder
abbrev pub reorder_effect : Reorder → Schedule → Schedule
reorder_effect c s = cut_by (reorder_cut c s) s

-- a reorder as a command; all tensors suit it
abbrev pub reorder_rule : Reorder → Rule
reorder_rule c = cut_rule (λ s. AllByRecursion (λ v. v < length s.names) c.vars) (reorder_cause c) (reorder_cut c) (λ stored s. Unit {0})
