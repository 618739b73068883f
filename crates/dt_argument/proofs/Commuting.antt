-- Two framed units that meet at no cell commute.
use Rattle.std.proofs.Common.{◌≡◌, ℕ, ◌+◌, ◌%◌, ◌^◌, Bool, false, Option, Some, None, is_some, refl, sym, ap, ◌∙◌, arith, inl, inr}
use Rattle.dt_argument.specs.Frames.{StateOf, Mode, Untouched, Reads, Writes, Folds, clash, grown, PresentAt, InputAt, EffectAt, SamePresence, SameInputs, IsFramed, AreApart}

-- states that are equal at each cell are equal
same_state : {C : Type 0} (s t : StateOf C) → ((c : C) → s c ≡ t c) → s ≡ t
same_state s t h = λ i c. h c i

add_mod : (v d e : ℕ) → (((v + d) % 2 ^ 64) + e) % 2 ^ 64 ≡ (((v + e) % 2 ^ 64) + d) % 2 ^ 64
add_mod v d e = omega arith

grown_twice : (d e : ℕ) (x : Option ℕ) → grown e (grown d x) ≡ grown d (grown e x)
grown_twice d e None = refl
grown_twice d e (Some v) = ap Some (add_mod v d e)

pub grown_present : (d : ℕ) (x : Option ℕ) → is_some (grown d x) ≡ is_some x
grown_present d None = refl
grown_present d (Some v) = refl

same_input : (m : Mode) (x : Option ℕ) → InputAt m x x
same_input Untouched x = tt
same_input Reads x = refl
same_input Writes x = refl
same_input Folds x = tt

-- one unit leaves the inputs of the other alone
input_kept : (m n : Mode) (x xx : Option ℕ) → clash m n ≡ false → EffectAt m x xx x xx → InputAt n x xx
input_kept m Untouched x xx e h = tt
input_kept m Folds x xx e h = tt
input_kept Untouched Reads x xx e h = sym h.0
input_kept Untouched Writes x xx e h = sym h.0
input_kept Reads Reads x xx e h = sym h.0
input_kept Reads Writes x xx e h = cc
input_kept Writes Reads x xx e h = cc
input_kept Writes Writes x xx e h = cc
input_kept Folds Reads x xx e h = cc
input_kept Folds Writes x xx e h = cc

-- and what is present for it
presence_kept : (m n : Mode) (x xx : Option ℕ) → clash m n ≡ false → EffectAt m x xx x xx → PresentAt n x xx
presence_kept m Untouched x xx e h = tt
presence_kept Untouched Reads x xx e h = sym (ap is_some h.0)
presence_kept Untouched Writes x xx e h = sym (ap is_some h.0)
presence_kept Untouched Folds x xx e h = sym (ap is_some h.0)
presence_kept Reads Reads x xx e h = sym (ap is_some h.0)
presence_kept Reads Writes x xx e h = cc
presence_kept Reads Folds x xx e h = cc
presence_kept Writes Reads x xx e h = cc
presence_kept Writes Writes x xx e h = cc
presence_kept Writes Folds x xx e h = cc
presence_kept Folds Reads x xx e h = cc
presence_kept Folds Writes x xx e h = cc
presence_kept Folds Folds x xx e (inl h) = sym (ap is_some h.0)
presence_kept Folds Folds x xx e (inr h) = sym (ap is_some h.1 ∙ grown_present h.0 x)

-- x after a is xa, after b is xb, after a and b it is xab, after b and a it is xba
swap_at : (m n : Mode) (x xa xb xab xba : Option ℕ) → clash m n ≡ false → EffectAt m x xa xb xba → EffectAt n x xb xa xab → xab ≡ xba
swap_at Untouched Untouched x xa xb xab xba e h k = cc
swap_at Untouched Reads x xa xb xab xba e h k = cc
swap_at Untouched Writes x xa xb xab xba e h k = cc
swap_at Untouched Folds x xa xb xab xba e h (inl k) = cc
swap_at Untouched Folds x xa xb xab xba e h (inr k) = cc
swap_at Reads Untouched x xa xb xab xba e h k = cc
swap_at Reads Reads x xa xb xab xba e h k = cc
swap_at Reads Writes x xa xb xab xba e h k = cc
swap_at Reads Folds x xa xb xab xba e h k = cc
swap_at Writes Untouched x xa xb xab xba e h k = cc
swap_at Writes Reads x xa xb xab xba e h k = cc
swap_at Writes Writes x xa xb xab xba e h k = cc
swap_at Writes Folds x xa xb xab xba e h k = cc
swap_at Folds Untouched x xa xb xab xba e (inl h) k = cc
swap_at Folds Untouched x xa xb xab xba e (inr h) k = cc
swap_at Folds Reads x xa xb xab xba e h k = cc
swap_at Folds Writes x xa xb xab xba e h k = cc
swap_at Folds Folds x xa xb xab xba e (inl h) (inl k) = cc
swap_at Folds Folds x xa xb xab xba e (inl h) (inr k) = cc
swap_at Folds Folds x xa xb xab xba e (inr h) (inl k) = cc
swap_at Folds Folds x xa xb xab xba e (inr h) (inr k) =
    k.2 ∙ ap (grown k.0) h.1 ∙ grown_twice h.0 k.0 x ∙ sym (h.2 ∙ ap (grown h.0) k.1)

clash_either : (m n : Mode) → clash m n ≡ false → clash n m ≡ false
clash_either Untouched Untouched e = refl
clash_either Untouched Reads e = refl
clash_either Untouched Writes e = refl
clash_either Untouched Folds e = refl
clash_either Reads Untouched e = refl
clash_either Reads Reads e = refl
clash_either Reads Writes e = e
clash_either Reads Folds e = e
clash_either Writes Untouched e = refl
clash_either Writes Reads e = e
clash_either Writes Writes e = e
clash_either Writes Folds e = e
clash_either Folds Untouched e = refl
clash_either Folds Reads e = e
clash_either Folds Writes e = e
clash_either Folds Folds e = e

pub apart_either : {C : Type 0} (m n : C → Mode) → AreApart m n → AreApart n m
apart_either m n h c = clash_either (m c) (n c) (h c)

module _ {C : Type 0} (m n : C → Mode) (can_a can_b : StateOf C → Bool) (a b : StateOf C → StateOf C) (fa : IsFramed m can_a a) (fb : IsFramed n can_b b) (apart : AreApart m n) where
  pub inputs_after : (s : StateOf C) → SameInputs n s (a s)
  inputs_after s c = input_kept (m c) (n c) (s c) (a s c) (apart c) (fa.effect s s (λ d. same_input (m d) (s d)) c)

  pub presence_after : (s : StateOf C) → SamePresence n s (a s)
  presence_after s c = presence_kept (m c) (n c) (s c) (a s c) (apart c) (fa.effect s s (λ d. same_input (m d) (s d)) c)

  pub defined_after : (s : StateOf C) → can_b s ≡ can_b (a s)
  defined_after s = fb.defined s (a s) (presence_after s)

pub commute : {C : Type 0} (m n : C → Mode) (can_a can_b : StateOf C → Bool) (a b : StateOf C → StateOf C) (fa : IsFramed m can_a a) (fb : IsFramed n can_b b) (apart : AreApart m n) (s : StateOf C) → b (a s) ≡ a (b s)
commute m n can_a can_b a b fa fb apart s =
    same_state (b (a s)) (a (b s)) (λ c. swap_at (m c) (n c) (s c) (a s c) (b s c) (b (a s) c) (a (b s) c) (apart c)
    (fa.effect s (b s) (inputs_after n m can_b can_a b a fb fa (apart_either m n apart) s) c)
    (fb.effect s (a s) (inputs_after m n can_a can_b a b fa fb apart s) c))
