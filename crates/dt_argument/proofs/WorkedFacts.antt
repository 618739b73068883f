-- The worked list meets what the argument asks of a list.
use Rattle.std.proofs.Common.{◌≡◌, ℕ, zero, suc, ◌<◌, false, ◌&&◌, not, Some, unwrap_or, refl, sym, ap, ap₂, arith, inr}
use Rattle.dt_argument.specs.Frames.{StateOf, grown, EffectAt, SamePresence, SameInputs, AreApart}
use Rattle.dt_argument.specs.Facts.{HasFrames, IsOrdered}
use Rattle.dt_argument.specs.Listings.{turn_of}
use Rattle.dt_argument.specs.Worked.{worked_list, worked_mode, worked_can, worked_next, worked_units, worked_conflict}
use Rattle.dt_argument.proofs.Chains.{chain}

defined_in : (a : ℕ) (s t : StateOf ℕ) → SamePresence (worked_mode a) s t → worked_can a s ≡ worked_can a t
defined_in zero s t h = ap not (h 1)
defined_in (suc zero) s t h = ap₂ (λ x y. x && y) (h 0) (h 1)
defined_in (suc (suc zero)) s t h = ap₂ (λ x y. x && y) (h 1) (h 2)
defined_in (suc (suc (suc zero))) s t h = ap₂ (λ x y. x && y) (h 0) (h 2)
defined_in (suc (suc (suc (suc a)))) s t h = refl

effect_in : (a : ℕ) (s t : StateOf ℕ) → SameInputs (worked_mode a) s t → (c : ℕ) → EffectAt (worked_mode a c) (s c) (worked_next a s c) (t c) (worked_next a t c)
effect_in zero s t h zero = (refl, refl)
effect_in zero s t h (suc zero) = refl
effect_in zero s t h (suc (suc c)) = (refl, refl)
effect_in (suc zero) s t h zero = (refl, refl)
effect_in (suc zero) s t h (suc zero) = h 0
effect_in (suc zero) s t h (suc (suc c)) = (refl, refl)
effect_in (suc (suc zero)) s t h zero = (refl, refl)
effect_in (suc (suc zero)) s t h (suc zero) = (refl, refl)
effect_in (suc (suc zero)) s t h (suc (suc zero)) = inr (unwrap_or (s 1) 0, refl, ap (λ x. grown (unwrap_or x 0) (t 2)) (sym (h 1)))
effect_in (suc (suc zero)) s t h (suc (suc (suc c))) = (refl, refl)
effect_in (suc (suc (suc zero))) s t h zero = (refl, refl)
effect_in (suc (suc (suc zero))) s t h (suc zero) = (refl, refl)
effect_in (suc (suc (suc zero))) s t h (suc (suc zero)) = inr (unwrap_or (s 0) 0, refl, ap (λ x. grown (unwrap_or x 0) (t 2)) (sym (h 0)))
effect_in (suc (suc (suc zero))) s t h (suc (suc (suc c))) = (refl, refl)
effect_in (suc (suc (suc (suc a)))) s t h c = (refl, refl)

-- the last operation meets none of the two before the first fold, and may change places with that
apart_in : (a b : ℕ) → a < b → b < 4 → worked_conflict a b ≡ false → AreApart (worked_mode a) (worked_mode b)
apart_in zero zero h g e c = absurd (omega arith)
apart_in zero (suc zero) h g e c = cc
apart_in zero (suc (suc zero)) h g e c = cc
apart_in zero (suc (suc (suc zero))) h g e zero = refl
apart_in zero (suc (suc (suc zero))) h g e (suc zero) = refl
apart_in zero (suc (suc (suc zero))) h g e (suc (suc c)) = refl
apart_in (suc zero) zero h g e c = absurd (omega arith)
apart_in (suc zero) (suc zero) h g e c = absurd (omega arith)
apart_in (suc zero) (suc (suc zero)) h g e c = cc
apart_in (suc zero) (suc (suc (suc zero))) h g e zero = refl
apart_in (suc zero) (suc (suc (suc zero))) h g e (suc zero) = refl
apart_in (suc zero) (suc (suc (suc zero))) h g e (suc (suc c)) = refl
apart_in (suc (suc zero)) (suc (suc (suc zero))) h g e zero = refl
apart_in (suc (suc zero)) (suc (suc (suc zero))) h g e (suc zero) = refl
apart_in (suc (suc zero)) (suc (suc (suc zero))) h g e (suc (suc zero)) = refl
apart_in (suc (suc zero)) (suc (suc (suc zero))) h g e (suc (suc (suc c))) = refl
apart_in (suc (suc zero)) zero h g e c = absurd (omega arith)
apart_in (suc (suc zero)) (suc zero) h g e c = absurd (omega arith)
apart_in (suc (suc zero)) (suc (suc zero)) h g e c = absurd (omega arith)
apart_in (suc (suc (suc a))) b h g e c = absurd (omega arith)
apart_in a (suc (suc (suc (suc b)))) h g e c = absurd (omega arith)

pub frames : HasFrames worked_list
frames = record { framed = λ a k h. record { defined = defined_in a; effect = effect_in a }; apart = apart_in }

one_unit : (a : ℕ) → 0 < worked_units a
one_unit zero = omega arith
one_unit (suc zero) = omega arith
one_unit (suc (suc zero)) = omega arith
one_unit (suc (suc (suc a))) = omega arith

pub ordered : IsOrdered worked_list
ordered = record { has_unit = λ a h. one_unit a; chained = λ a b h g e. chain worked_conflict a b h e; defined = refl }

-- in the list's own order the scratch has the source's number at each turn of the first fold
pub scratch_at_turn : (k : ℕ) → turn_of worked_list 2 k 1 ≡ Some 5
scratch_at_turn zero = refl
scratch_at_turn (suc k) = scratch_at_turn k
