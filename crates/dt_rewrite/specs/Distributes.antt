-- Loops over the machine's dimensions: when it is lawful, and what it makes of a schedule.
use Rattle.std.specs.Prelude.{ℕ, ◌-◌, List, [], ◌∷◌, length, Option, Some, None, option_map, if◌then◌else◌, nat_eq, slice_index, take, ◌≡◌, ◌<◌}
use Rattle.std.specs.List.{AllByRecursion}
use Rattle.dt_model.specs.declared.cause.Cause.{Cause}
use Rattle.dt_model.specs.declared.cause.Cause.TheVariants as cause
use Rattle.dt_nest.specs.Commands.{Rule}
use Rattle.dt_nest.specs.Schedule.{Schedule}
use Rattle.dt_rewrite.specs.declared.distributes.Distribute.{Distribute}
use Rattle.dt_nest.specs.PartNames.{name_of}
use Rattle.dt_cuts.specs.Causes.{first_cause, unless, unknown_loop, communicated_loop, fixed_loop}
use Rattle.dt_nest.specs.Questions.{misplaced}

-- Distributed with the first of these loops, where the statement is distributed
abbrev pub distributed_before : Schedule → List ℕ → Option Cause
distributed_before s [] = None
distributed_before s (v ∷ vs) = unless (nat_eq s.distributed 0) (cause.Distributed (name_of s v))

-- NotOutermost with the first that isn't at its place from the outside
abbrev pub not_outermost : Schedule → List ℕ → Option Cause
not_outermost s vs = option_map (λ v. cause.NotOutermost (name_of s v)) (misplaced vs s.nest)

-- WrongExtent with the first whose extent isn't that of its dimension
abbrev pub wrong_extent : Schedule → List ℕ → List ℕ → Option Cause
wrong_extent s [] grid = None
wrong_extent s (v ∷ vs) [] = None
wrong_extent s (v ∷ vs) (n ∷ ns) =
    if nat_eq (slice_index s.extents v) n then wrong_extent s vs ns else Some (cause.WrongExtent (name_of s v) (slice_index s.extents v) n)

-- all but the last
abbrev pub front_of : List ℕ → List ℕ
front_of vs = take (length vs - 1) vs

-- the tests of a distribute, in their order
abbrev pub distribute_tests : Distribute → Schedule → List (Option Cause)
distribute_tests c s =
    unknown_loop s c.vars
    ∷ unless (nat_eq (length c.vars) (length c.grid)) cause.WrongCount
    ∷ distributed_before s c.vars
    ∷ not_outermost s c.vars
    ∷ wrong_extent s c.vars c.grid
    ∷ communicated_loop s (front_of c.vars)
    ∷ fixed_loop s c.vars
    ∷ []

-- the first cause against a distribute
abbrev pub distribute_cause : Distribute → Schedule → Option Cause
distribute_cause c s = first_cause (distribute_tests c s)

-- the schedule after a distribute: so many of its outermost loops are distributed
abbrev pub distribute_effect : Distribute → Schedule → Schedule
distribute_effect c s = record s { distributed = length c.vars }

-- a distribute as a command, for the machine with its dimensions; all tensors suit it
abbrev pub distribute_rule : Distribute → Rule
distribute_rule c = record {
  can = λ s. AllByRecursion (λ v. v < length s.names) c.vars;
  cause = distribute_cause c;
  effect = distribute_effect c;
  suits = λ stored s. Unit {0};
  serves = λ dims. c.grid ≡ dims;
}
