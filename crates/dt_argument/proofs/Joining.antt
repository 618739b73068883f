-- What is done at a cell by one of two things is done by both.
use Rattle.std.proofs.Common.{◌≡◌, ℕ, false, refl}
use Rattle.dt_argument.specs.Frames.{Mode, Untouched, Reads, Writes, Folds, clash}
use Rattle.dt_argument.specs.Joined.{both, IsInput, IsOutput}
use Rattle.dt_argument.proofs.Commuting.{apart_either}

-- the first may be used
pub input_left : (m n : Mode) → IsInput m → IsInput (both m n)
input_left Untouched n h = absurd h
input_left Reads Untouched h = tt
input_left Reads Reads h = tt
input_left Reads Writes h = tt
input_left Reads Folds h = tt
input_left Writes n h = tt
input_left Folds n h = absurd h

-- the second may be used
pub input_right : (m n : Mode) → IsInput n → IsInput (both m n)
input_right Untouched n h = h
input_right Reads Untouched h = tt
input_right Reads Reads h = tt
input_right Reads Writes h = tt
input_right Reads Folds h = tt
input_right Writes n h = tt
input_right Folds Untouched h = absurd h
input_right Folds Reads h = tt
input_right Folds Writes h = tt
input_right Folds Folds h = absurd h

-- the first may grow
pub output_left : (m n : Mode) → IsOutput m → IsOutput (both m n)
output_left Untouched n h = absurd h
output_left Reads n h = absurd h
output_left Writes n h = tt
output_left Folds Untouched h = tt
output_left Folds Reads h = tt
output_left Folds Writes h = tt
output_left Folds Folds h = tt

-- the second may grow
pub output_right : (m n : Mode) → IsOutput n → IsOutput (both m n)
output_right Untouched n h = h
output_right Reads Untouched h = absurd h
output_right Reads Reads h = absurd h
output_right Reads Writes h = tt
output_right Reads Folds h = tt
output_right Writes n h = tt
output_right Folds Untouched h = tt
output_right Folds Reads h = tt
output_right Folds Writes h = tt
output_right Folds Folds h = tt

-- the first is written
pub writes_left : (m n : Mode) → m ≡ Writes → both m n ≡ Writes
writes_left Untouched n h = cc
writes_left Reads n h = cc
writes_left Writes n h = refl
writes_left Folds n h = cc

-- the second is written
pub writes_right : (m n : Mode) → n ≡ Writes → both m n ≡ Writes
writes_right Untouched n h = h
writes_right Reads Untouched h = cc
writes_right Reads Reads h = cc
writes_right Reads Writes h = refl
writes_right Reads Folds h = cc
writes_right Writes n h = refl
writes_right Folds Untouched h = cc
writes_right Folds Reads h = cc
writes_right Folds Writes h = refl
writes_right Folds Folds h = cc

-- nothing clashes with what is untouched
pub clash_untouched : (m : Mode) → clash m Untouched ≡ false
clash_untouched Untouched = refl
clash_untouched Reads = refl
clash_untouched Writes = refl
clash_untouched Folds = refl

-- what clashes with one of two modes clashes with it from either side
clash_other : (m n : Mode) → clash m n ≡ false → clash n m ≡ false
clash_other m n h = apart_either {C = ℕ} (λ c. m) (λ c. n) (λ c. h) 0

-- what clashes with neither of two things does not clash with both
pub clash_both : (m n k : Mode) → clash m k ≡ false → clash n k ≡ false → clash (both m n) k ≡ false
clash_both Untouched n k h g = g
clash_both Writes n k h g = h
clash_both Reads Untouched k h g = h
clash_both Reads Reads k h g = h
clash_both Reads Writes k h g = g
clash_both Folds Untouched k h g = h
clash_both Folds Writes k h g = g
clash_both Folds Folds k h g = h
clash_both Reads Folds Untouched h g = refl
clash_both Reads Folds Reads h g = cc
clash_both Reads Folds Writes h g = cc
clash_both Reads Folds Folds h g = cc
clash_both Folds Reads Untouched h g = refl
clash_both Folds Reads Reads h g = cc
clash_both Folds Reads Writes h g = cc
clash_both Folds Reads Folds h g = cc

-- and the other way round
pub clash_with_both : (k m n : Mode) → clash k m ≡ false → clash k n ≡ false → clash k (both m n) ≡ false
clash_with_both k m n h g = clash_other (both m n) k (clash_both m n k (clash_other k m h) (clash_other k n g))
