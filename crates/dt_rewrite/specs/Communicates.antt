-- Tensors that are moved once for each iteration of a loop: when it is lawful, and what it makes of a schedule.
use Rattle.std.specs.Prelude.{ℕ, zero, suc, ◌+◌, ◌-◌, ◌&&◌, ◌||◌, Bool, not, List, [], ◌∷◌, ◌++◌, length, map, Option, Some, None, option_map, find, if◌then◌else◌, nat_eq, nat_lt, ◌<◌}
use Rattle.std.specs.List.{AllByRecursion, last_or, list_any}
use Rattle.std.specs.Option.{option_or}
use Rattle.dt_model.specs.declared.cause.Cause.{Cause}
use Rattle.dt_model.specs.declared.cause.Cause.TheVariants as cause
use Rattle.dt_nest.specs.declared.parts.Moved.{Moved}
use Rattle.dt_nest.specs.Tree.{Tree, Loop, Pre, Leaf, loop_count, accesses_of}
use Rattle.dt_nest.specs.Questions.{is_among, is_in, accesses_tensor}
use Rattle.dt_nest.specs.Commands.{Rule}
use Rattle.dt_nest.specs.Schedule.{Schedule}
use Rattle.dt_rewrite.specs.declared.communicates.Communicate.{Communicate}
use Rattle.dt_nest.specs.PartNames.{name_of, tensor_name}
use Rattle.dt_cuts.specs.Causes.{first_cause, first_with, unless, unknown_loop, fixed_loop}

-- UnknownTensor with the first that is a workspace, or that the statement doesn't access
abbrev pub unknown_tensor : Schedule → List ℕ → Option Cause
unknown_tensor s ts = first_with (λ t. not (nat_lt t (length s.tensors) && accesses_tensor s.nest t)) (λ t. cause.UnknownTensor (tensor_name s t)) ts

-- whether the tensor is communicated at some loop
abbrev pub is_moved : List Moved → ℕ → Bool
is_moved moved t = list_any (λ m. nat_eq t m.tensor) moved

-- Communicated with the first tensor that has a loop, or stands earlier in the line
abbrev pub communicated_tensor : Schedule → List ℕ → List ℕ → Option Cause
communicated_tensor s seen [] = None
communicated_tensor s seen (t ∷ ts) =
    if is_moved s.moved t || is_in seen t then Some (cause.Communicated (tensor_name s t)) else communicated_tensor s (seen ++ t ∷ []) ts

-- NotBelowTask where the loop is distributed, but not the last such loop
abbrev pub not_below_task : Schedule → ℕ → Option Cause
not_below_task s v = unless (not (is_among (s.distributed - 1) v s.nest)) (cause.NotBelowTask (name_of s v))

-- BelowPre where the loop is inside a precompute node
abbrev pub below_pre : Schedule → ℕ → Option Cause
below_pre s v = unless (is_among (loop_count s.nest) v s.nest) (cause.BelowPre (name_of s v))

-- the tests of a communicate, in their order
abbrev pub communicate_tests : Communicate → Schedule → List (Option Cause)
communicate_tests c s =
    unknown_loop s (c.var ∷ [])
    ∷ unknown_tensor s c.tensors
    ∷ communicated_tensor s [] c.tensors
    ∷ not_below_task s c.var
    ∷ below_pre s c.var
    ∷ fixed_loop s (c.var ∷ [])
    ∷ []

-- the first cause against a communicate
abbrev pub communicate_cause : Communicate → Schedule → Option Cause
communicate_cause c s = first_cause (communicate_tests c s)

-- these tensors at a loop
abbrev pub moves_at : ℕ → List ℕ → List Moved
moves_at v ts = map (λ t. record { tensor = t; at = v }) ts

-- the schedule after a communicate
abbrev pub communicate_effect : Communicate → Schedule → Schedule
communicate_effect c s = record s { moved = s.moved ++ moves_at c.var c.tensors }

-- a communicate as a command; all tensors suit it
abbrev pub communicate_rule : Communicate → Rule
communicate_rule c = record {
  can = λ s. (c.var < length s.names) × AllByRecursion (λ t. t < length s.tensors + length s.works) c.tensors;
  cause = communicate_cause c;
  effect = communicate_effect c;
  suits = λ stored s. Unit {0};
  serves = λ dims. Unit {0};
}
