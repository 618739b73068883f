-- Two states that look alike to an operation, and units that keep them so.
use Rattle.std.proofs.Common.{ℕ, Bool, Option, is_some, refl, sym, ap, ◌∙◌, inl, inr}
use Rattle.dt_argument.specs.Frames.{StateOf, Mode, Untouched, Reads, Writes, Folds, grown, PresentAt, InputAt, EffectAt, AlikeAt, SamePresence, SameInputs, IsFramed, AreApart, AreAlike}
use Rattle.dt_argument.proofs.Commuting.{grown_present, inputs_after, presence_after}

alike_refl_at : (m : Mode) (x : Option ℕ) → AlikeAt m x x
alike_refl_at Untouched x = tt
alike_refl_at Reads x = refl
alike_refl_at Writes x = refl
alike_refl_at Folds x = refl

alike_sym_at : (m : Mode) (x y : Option ℕ) → AlikeAt m x y → AlikeAt m y x
alike_sym_at Untouched x y h = tt
alike_sym_at Reads x y h = sym h
alike_sym_at Writes x y h = sym h
alike_sym_at Folds x y h = sym h

alike_trans_at : (m : Mode) (x y z : Option ℕ) → AlikeAt m x y → AlikeAt m y z → AlikeAt m x z
alike_trans_at Untouched x y z h k = tt
alike_trans_at Reads x y z h k = h ∙ k
alike_trans_at Writes x y z h k = h ∙ k
alike_trans_at Folds x y z h k = h ∙ k

presence_of : (m : Mode) (x y : Option ℕ) → AlikeAt m x y → PresentAt m x y
presence_of Untouched x y h = tt
presence_of Reads x y h = ap is_some h
presence_of Writes x y h = ap is_some h
presence_of Folds x y h = h

input_of : (m : Mode) (x y : Option ℕ) → AlikeAt m x y → InputAt m x y
input_of Untouched x y h = tt
input_of Reads x y h = h
input_of Writes x y h = h
input_of Folds x y h = tt

from_both : (m : Mode) (x y : Option ℕ) → InputAt m x y → PresentAt m x y → AlikeAt m x y
from_both Untouched x y h k = tt
from_both Reads x y h k = h
from_both Writes x y h k = h
from_both Folds x y h k = k

-- a unit keeps two states alike for every operation
still_at : (m n : Mode) (x xx y yy : Option ℕ) → EffectAt m x xx y yy → AlikeAt n x y → AlikeAt n xx yy
still_at m Untouched x xx y yy e h = tt
still_at Untouched Reads x xx y yy e h = cc
still_at Untouched Writes x xx y yy e h = cc
still_at Untouched Folds x xx y yy e h = cc
still_at Reads Reads x xx y yy e h = cc
still_at Reads Writes x xx y yy e h = cc
still_at Reads Folds x xx y yy e h = cc
still_at Writes Reads x xx y yy e h = e
still_at Writes Writes x xx y yy e h = e
still_at Writes Folds x xx y yy e h = ap is_some e
still_at Folds Reads x xx y yy (inl e) h = e.0 ∙ h ∙ sym e.1
still_at Folds Reads x xx y yy (inr e) h = e.1 ∙ ap (grown e.0) h ∙ sym e.2
still_at Folds Writes x xx y yy (inl e) h = e.0 ∙ h ∙ sym e.1
still_at Folds Writes x xx y yy (inr e) h = e.1 ∙ ap (grown e.0) h ∙ sym e.2
still_at Folds Folds x xx y yy (inl e) h = ap is_some e.0 ∙ h ∙ sym (ap is_some e.1)
still_at Folds Folds x xx y yy (inr e) h = ap is_some e.1 ∙ grown_present e.0 x ∙ h ∙ sym (ap is_some e.2 ∙ grown_present e.0 y)

module _ {C : Type 0} (m : C → Mode) where
  pub alike_refl : (s : StateOf C) → AreAlike m s s
  alike_refl s = record { each = λ c. alike_refl_at (m c) (s c) }

  pub alike_sym : (s t : StateOf C) → AreAlike m s t → AreAlike m t s
  alike_sym s t h = record { each = λ c. alike_sym_at (m c) (s c) (t c) (h.each c) }

  pub alike_trans : (s t u : StateOf C) → AreAlike m s t → AreAlike m t u → AreAlike m s u
  alike_trans s t u h k = record { each = λ c. alike_trans_at (m c) (s c) (t c) (u c) (h.each c) (k.each c) }

  pub presence : (s t : StateOf C) → AreAlike m s t → SamePresence m s t
  presence s t h c = presence_of (m c) (s c) (t c) (h.each c)

  inputs : (s t : StateOf C) → AreAlike m s t → SameInputs m s t
  inputs s t h c = input_of (m c) (s c) (t c) (h.each c)

  pub still_alike : (n : C → Mode) (can : StateOf C → Bool) (a : StateOf C → StateOf C) → IsFramed m can a → (s t : StateOf C) → AreAlike m s t → AreAlike n s t → AreAlike n (a s) (a t)
  still_alike n can a f s t h k = record { each = λ c. still_at (m c) (n c) (s c) (a s c) (t c) (a t c) (f.effect s t (inputs s t h) c) (k.each c) }

  -- a unit leaves alike what an operation apart from it sees
  pub alike_after : (n : C → Mode) (can_a can_b : StateOf C → Bool) (a b : StateOf C → StateOf C) → IsFramed m can_a a → IsFramed n can_b b → AreApart m n → (s : StateOf C) → AreAlike n s (a s)
  alike_after n can_a can_b a b fa fb apart s =
      record { each = λ c. from_both (n c) (s c) (a s c) (inputs_after m n can_a can_b a b fa fb apart s c) (presence_after m n can_a can_b a b fa fb apart s c) }
