-- Lines with another count of words than their command's.
use Rattle.std.proofs.Common.{◌≡◌, ℕ, ◌<◌, List, [], ◌∷◌, length, Err, refl, arith}
use Rattle.dt_model.specs.declared.cause.Cause.TheVariants as cause
use Rattle.dt_nest.specs.Schedule.{Schedule}
use Rattle.dt_schedule.specs.Collapses.{collapse_of}
use Rattle.dt_schedule.specs.TwoLoops.{two_loops_of}

pub two_loops_short : (s : Schedule) (words : List (List ℕ)) → length words < 4 → two_loops_of s words ≡ Err cause.Syntax
unfolding two_loops_of
two_loops_short s [] l = refl
two_loops_short s (a ∷ []) l = refl
two_loops_short s (a ∷ b ∷ []) l = refl
two_loops_short s (a ∷ b ∷ c ∷ []) l = refl
two_loops_short s (a ∷ b ∷ c ∷ d ∷ words) l = absurd (omega arith)

pub two_loops_long : (s : Schedule) (words : List (List ℕ)) → 4 < length words → two_loops_of s words ≡ Err cause.Syntax
unfolding two_loops_of
two_loops_long s [] l = refl
two_loops_long s (a ∷ []) l = refl
two_loops_long s (a ∷ b ∷ []) l = refl
two_loops_long s (a ∷ b ∷ c ∷ []) l = refl
two_loops_long s (a ∷ b ∷ c ∷ d ∷ []) l = absurd (omega arith)
two_loops_long s (a ∷ b ∷ c ∷ d ∷ e ∷ words) l = refl

pub collapse_short : (s : Schedule) (words : List (List ℕ)) → length words < 3 → collapse_of s words ≡ Err cause.Syntax
unfolding collapse_of
collapse_short s [] l = refl
collapse_short s (a ∷ []) l = refl
collapse_short s (a ∷ b ∷ []) l = refl
collapse_short s (a ∷ b ∷ c ∷ words) l = absurd (omega arith)

pub collapse_long : (s : Schedule) (words : List (List ℕ)) → 3 < length words → collapse_of s words ≡ Err cause.Syntax
unfolding collapse_of
collapse_long s [] l = refl
collapse_long s (a ∷ []) l = refl
collapse_long s (a ∷ b ∷ []) l = refl
collapse_long s (a ∷ b ∷ c ∷ []) l = absurd (omega arith)
collapse_long s (a ∷ b ∷ c ∷ d ∷ words) l = refl
