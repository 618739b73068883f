-- The shapes of a unit's effect that keep to the modes of its operation.
use Rattle.std.proofs.Common.{◌≡◌, ◌≢◌, ℕ, Bool, true, false, Option, is_some, refl, sym, ap, ◌∙◌, subst, ⊎_elim, inl, inr, if◌then◌else◌}
use Rattle.std.proofs.lemmas.Bool.{cases_Bool}
use Rattle.dt_argument.specs.Frames.{StateOf, Mode, Untouched, Reads, Writes, Folds, grown, PresentAt, InputAt, EffectAt, SamePresence, SameInputs, IsFramed}
use Rattle.dt_argument.specs.Joined.{IsInput, IsOutput}

-- a choice where the test passes
pub if_true : {A : Type 0} (b : Bool) (x y : A) → b ≡ true → (if b then x else y) ≡ x
if_true true x y h = refl
if_true false x y h = cc

-- and where it fails
pub if_false : {A : Type 0} (b : Bool) (x y : A) → b ≡ false → (if b then x else y) ≡ y
if_false true x y h = cc
if_false false x y h = refl

-- At a cell --------------------------------------------------------------------------------------------------------------

-- a cell that stays
stays_at : (m : Mode) (x xx y yy : Option ℕ) → InputAt m x y → xx ≡ x → yy ≡ y → EffectAt m x xx y yy
stays_at Untouched x xx y yy h e f = (e, f)
stays_at Reads x xx y yy h e f = (e, f)
stays_at Writes x xx y yy h e f = e ∙ h ∙ sym f
stays_at Folds x xx y yy h e f = inl (e, f)

-- a cell that is written
written_at : (m : Mode) (x xx y yy : Option ℕ) → m ≡ Writes → xx ≡ yy → EffectAt m x xx y yy
written_at Untouched x xx y yy e h = cc
written_at Reads x xx y yy e h = cc
written_at Writes x xx y yy e h = h
written_at Folds x xx y yy e h = cc

-- a cell that grows
grown_at : (m : Mode) (x xx y yy : Option ℕ) (d : ℕ) → IsOutput m → InputAt m x y → xx ≡ grown d x → yy ≡ grown d y → EffectAt m x xx y yy
grown_at Untouched x xx y yy d o h e f = absurd o
grown_at Reads x xx y yy d o h e f = absurd o
grown_at Writes x xx y yy d o h e f = e ∙ ap (grown d) h ∙ sym f
grown_at Folds x xx y yy d o h e f = inr (d, e, f)

-- what is written was the same before
written_input : (m : Mode) (x y : Option ℕ) → m ≡ Writes → InputAt m x y → x ≡ y
written_input Untouched x y e h = cc
written_input Reads x y e h = cc
written_input Writes x y e h = h
written_input Folds x y e h = cc

-- what is touched is present in both states or in neither
pub present_at : (m : Mode) (x y : Option ℕ) → m ≢ Untouched → PresentAt m x y → is_some x ≡ is_some y
present_at Untouched x y n h = absurd (n refl)
present_at Reads x y n h = h
present_at Writes x y n h = h
present_at Folds x y n h = h

-- what may be used is the same in both
pub input_at : (m : Mode) (x y : Option ℕ) → IsInput m → InputAt m x y → x ≡ y
input_at Untouched x y i h = absurd i
input_at Reads x y i h = h
input_at Writes x y i h = h
input_at Folds x y i h = absurd i

-- what may be used is touched
pub input_touched : (m : Mode) → IsInput m → m ≢ Untouched
input_touched Untouched i e = i
input_touched Reads i e = cc
input_touched Writes i e = cc
input_touched Folds i e = cc

-- what may grow is touched
pub output_touched : (m : Mode) → IsOutput m → m ≢ Untouched
output_touched Untouched i e = i
output_touched Reads i e = cc
output_touched Writes i e = cc
output_touched Folds i e = cc

-- Units ------------------------------------------------------------------------------------------------------------------

module _ {C : Type 0} (m : C → Mode) (can : StateOf C → Bool) (defined : (s t : StateOf C) → SamePresence m s t → can s ≡ can t) where
  -- a unit that changes nothing
  pub framed_still : IsFramed m can (λ s. s)
  framed_still = record { defined = defined; effect = λ s t h c. stays_at (m c) (s c) (s c) (t c) (t c) (h c) refl refl }

  -- a unit that gives new numbers to cells that the operation writes
  pub framed_write : (is : C → Bool) (v : StateOf C → C → Option ℕ) → ((c : C) → is c ≡ true → m c ≡ Writes) → ((s t : StateOf C) → SameInputs m s t → (c : C) → is c ≡ true → s c ≡ t c → v s c ≡ v t c)
      → IsFramed m can (λ s c. if is c then v s c else s c)
  framed_write is v w same =
      record {
        defined = defined;
        effect = λ s t h c.
            ⊎_elim
            (λ (e : is c ≡ true). written_at (m c) (s c) (if is c then v s c else s c) (t c) (if is c then v t c else t c) (w c e)
            (if_true (is c) (v s c) (s c) e ∙ same s t h c e (written_input (m c) (s c) (t c) (w c e) (h c)) ∙ sym (if_true (is c) (v t c) (t c) e)))
            (λ (e : is c ≡ false). stays_at (m c) (s c) (if is c then v s c else s c) (t c) (if is c then v t c else t c) (h c)
            (if_false (is c) (v s c) (s c) e) (if_false (is c) (v t c) (t c) e))
            (cases_Bool (is c));
      }

  -- a unit that lets cells grow by one amount
  pub framed_grow : (is : C → Bool) (v : StateOf C → ℕ) → ((c : C) → is c ≡ true → IsOutput (m c)) → ((s t : StateOf C) → SameInputs m s t → v s ≡ v t)
      → IsFramed m can (λ s c. if is c then grown (v s) (s c) else s c)
  framed_grow is v o same =
      record {
        defined = defined;
        effect = λ s t h c.
            ⊎_elim
            (λ (e : is c ≡ true). grown_at (m c) (s c) (if is c then grown (v s) (s c) else s c) (t c) (if is c then grown (v t) (t c) else t c) (v s) (o c e) (h c)
            (if_true (is c) (grown (v s) (s c)) (s c) e)
            (if_true (is c) (grown (v t) (t c)) (t c) e ∙ ap (λ n. grown n (t c)) (sym (same s t h))))
            (λ (e : is c ≡ false). stays_at (m c) (s c) (if is c then grown (v s) (s c) else s c) (t c) (if is c then grown (v t) (t c) else t c) (h c)
            (if_false (is c) (grown (v s) (s c)) (s c) e) (if_false (is c) (grown (v t) (t c)) (t c) e))
            (cases_Bool (is c));
      }

-- a unit that is the same at each cell
pub framed_as : {C : Type 0} (m : C → Mode) (can : StateOf C → Bool) (next other : StateOf C → StateOf C) → ((s : StateOf C) (c : C) → next s c ≡ other s c) → IsFramed m can next → IsFramed m can other
framed_as {C} m can next other h f = let e : next ≡ other = λ i s c. h s c i in subst (λ (g : StateOf C → StateOf C). IsFramed m can g) e f
