-- The causes against commands, and tests that several commands have.
use Rattle.std.specs.Prelude.{ℕ, ◌+◌, ◌&&◌, Bool, true, false, not, List, [], ◌∷◌, ◌++◌, Option, Some, None, option_map, find, if◌then◌else◌, nat_eq, nat_le}
use Rattle.std.specs.List.{list_any}
use Rattle.std.specs.Str.{bytes_eq}
use Rattle.dt_model.specs.declared.cause.Cause.{Cause}
use Rattle.dt_model.specs.declared.cause.Cause.TheVariants as cause
use Rattle.dt_nest.specs.Tree.{has_loop, loop_count}
use Rattle.dt_nest.specs.PartNames.{name_of}
use Rattle.dt_nest.specs.Questions.{is_among, is_fixed}
use Rattle.dt_nest.specs.Schedule.{Schedule}

-- the first cause that tests give, in their order
abbrev pub first_cause : List (Option Cause) → Option Cause
first_cause [] = None
first_cause (None ∷ tests) = first_cause tests
first_cause (Some c ∷ tests) = Some c

-- a test that has to hold
abbrev pub unless : Bool → Cause → Option Cause
unless true c = None
unless false c = Some c

-- the cause with the first of these loops that passes the test
abbrev pub first_with : (ℕ → Bool) → (ℕ → Cause) → List ℕ → Option Cause
first_with test c vs = option_map c (find test vs)

-- UnknownLoop with the first that is no loop of the nest now
abbrev pub unknown_loop : Schedule → List ℕ → Option Cause
unknown_loop s vs = first_with (λ v. not (has_loop v s.nest)) (λ v. cause.UnknownLoop (name_of s v)) vs

-- NameTaken with the first new name that stands among the names, or earlier among the new ones
abbrev pub taken_name : List (List ℕ) → List (List ℕ) → Option Cause
taken_name names [] = None
taken_name names (n ∷ ns) = if list_any (bytes_eq n) names then Some (cause.NameTaken n) else taken_name (names ++ n ∷ []) ns

-- Distributed with the first that is distributed
abbrev pub distributed_loop : Schedule → List ℕ → Option Cause
distributed_loop s vs = first_with (λ v. is_among s.distributed v s.nest) (λ v. cause.Distributed (name_of s v)) vs

-- Communicated with the first at which a tensor is communicated
abbrev pub communicated_loop : Schedule → List ℕ → Option Cause
communicated_loop s vs = first_with (λ v. list_any (λ m. nat_eq m.at v) s.moved) (λ v. cause.Communicated (name_of s v)) vs

-- Fixed with the first that is walked or substituted
abbrev pub fixed_loop : Schedule → List ℕ → Option Cause
fixed_loop s vs = first_with (λ v. is_fixed v s.nest) (λ v. cause.Fixed (name_of s v)) vs

-- BadNumber outside 1 to 65,536
abbrev pub bad_number : ℕ → Option Cause
bad_number n = unless (nat_le 1 n && nat_le n 65536) cause.BadNumber

-- TooManyLoops where one loop more would be more than 16, those of both branches counted
abbrev pub too_many_loops : Schedule → Option Cause
too_many_loops s = unless (nat_le (loop_count s.nest + 1) 16) cause.TooManyLoops

-- the three tests of loops that have to be free
abbrev pub free_tests : Schedule → List ℕ → List (Option Cause)
free_tests s vs = distributed_loop s vs ∷ communicated_loop s vs ∷ fixed_loop s vs ∷ []

-- the first cause for which one of these loops isn't free
abbrev pub not_free : Schedule → List ℕ → Option Cause
not_free s vs = first_cause (free_tests s vs)
