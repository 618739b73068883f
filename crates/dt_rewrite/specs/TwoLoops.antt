-- A loop in two: the tests, and the cut.
use Rattle.std.specs.Prelude.{ℕ, ◌+◌, List, [], ◌∷◌, length, Option}
use Rattle.dt_model.specs.declared.cause.Cause.{Cause}
use Rattle.dt_nest.specs.declared.derivations.Derive.TheVariants as how
use Rattle.dt_cuts.specs.declared.cuts.Cut.{Cut}
use Rattle.dt_nest.specs.Schedule.{Schedule}
use Rattle.dt_cuts.specs.Causes.{bad_number, not_free, taken_name, too_many_loops, unknown_loop}

-- the tests of a cut of loop v in two by the number m, in their order
abbrev pub two_loops_tests : ℕ → ℕ → List (List ℕ) → Schedule → List (Option Cause)
two_loops_tests v m names s =
    unknown_loop s (v ∷ []) ∷ bad_number m ∷ taken_name s.names names ∷ too_many_loops s ∷ not_free s (v ∷ []) ∷ []

-- loop v of extent n becomes one of extent p around one of extent f
abbrev pub two_loops : ℕ → ℕ → ℕ → ℕ → List (List ℕ) → Schedule → Cut
two_loops v n p f names s =
    let k = length s.names in
    record {
      old = record { var = v; extent = n } ∷ [];
      heads = record { var = k; extent = p } ∷ record { var = k + 1; extent = f } ∷ [];
      guards = v ∷ [];
      derived = record { var = v; how = how.Split k (k + 1) f } ∷ [];
      names = names;
      extents = p ∷ f ∷ [];
    }
