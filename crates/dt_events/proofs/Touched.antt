-- What footprints do at their own cells.
use Rattle.std.proofs.Common.{◌≡◌, ℕ, ◌<◌, Bool, true, false, ◌&&◌, ◌||◌, List, [], ◌∷◌, ◌++◌, length, map, refl, sym, subst, eqb-true}
use Rattle.std.specs.Prelude.{nat_eq, nat_lt}
use Rattle.std.proofs.lemmas.Bool.{and_from, lt-ltb}
use Rattle.dt_runs.specs.Sets.{contains}
use Rattle.dt_argument.specs.Frames.{Mode, Untouched, Reads, Writes}
use Rattle.dt_argument.specs.Joined.{both, IsInput, IsOutput}
use Rattle.dt_argument.proofs.Joining.{input_left, output_left, output_right, writes_left, writes_right}
use Rattle.dt_argument.proofs.Shapes.{if_true}
use Rattle.dt_plan.specs.declared.touches.Buffer.{Buffer}
use Rattle.dt_plan.specs.declared.touches.Mode as access
use Rattle.dt_plan.specs.declared.touches.Mode.TheVariants as how
use Rattle.dt_plan.specs.declared.touches.Touch.{Touch}
use Rattle.dt_plan.specs.Footprints.{some_words, whole_buffer}
use Rattle.dt_events.specs.Conflicts.{is_same_buffer}
use Rattle.dt_events.specs.State.{Cell, Word, Sign, is_of, is_word_of, at_word, touch_at, touches_at}
use Rattle.dt_events.proofs.Cells.{sign_is_of, word_is_one}

-- One footprint ------------------------------------------------------------------------------------------------------------

-- words are touched in the footprint's mode
pub words_touched : (n : ℕ) (b : Buffer) (words : List ℕ) (m : access.Mode) (c : Cell) → is_word_of n b words c ≡ true → touch_at (some_words n b words m) c ≡ at_word m
words_touched n b words m (Word k d w) h = if_true (is_word_of n b words (Word k d w)) (at_word m) Untouched h
words_touched n b words m (Sign k d) h = cc

-- the word with a number that the footprint has
pub word_touched : (n : ℕ) (b : Buffer) (words : List ℕ) (m : access.Mode) (w : ℕ) → contains words w ≡ true → touch_at (some_words n b words m) (Word n b w) ≡ at_word m
word_touched n b words m w h = words_touched n b words m (Word n b w) (word_is_one n b words w h)

-- where there are words the sign is read
pub sign_read : (n : ℕ) (b : Buffer) (words : List ℕ) → 0 < length words → touch_at (some_words n b words how.Write) (Sign n b) ≡ Reads
sign_read n b words h =
    if_true ((nat_eq n n && is_same_buffer b b) && nat_lt 0 (length words)) Reads Untouched (and_from (nat_eq n n && is_same_buffer b b) (nat_lt 0 (length words)) (sign_is_of n b) (lt-ltb 0 (length words) h))

-- a whole buffer is written
pub whole_written : (n : ℕ) (b : Buffer) (c : Cell) → is_of n b c ≡ true → touch_at (whole_buffer n b) c ≡ Writes
whole_written n b (Word k d w) h = if_true ((nat_eq n k && is_same_buffer b d) && true) Writes Untouched (and_from (nat_eq n k && is_same_buffer b d) true h refl)
whole_written n b (Sign k d) h = if_true ((nat_eq n k && is_same_buffer b d) && true) Writes Untouched (and_from (nat_eq n k && is_same_buffer b d) true h refl)

-- Several ------------------------------------------------------------------------------------------------------------------

-- what the first of two footprints reads
pub first_input : (f g : Touch) (c : Cell) → touch_at f c ≡ Reads → IsInput (touches_at (f ∷ g ∷ []) c)
first_input f g c e = input_left (touch_at f c) (both (touch_at g c) Untouched) (subst IsInput (sym e) tt)

-- what the second one reads, writes or folds
pub second_written : (f g : Touch) (c : Cell) → touch_at g c ≡ Writes → touches_at (f ∷ g ∷ []) c ≡ Writes
second_written f g c e = writes_right (touch_at f c) (both (touch_at g c) Untouched) (writes_left (touch_at g c) Untouched e)

-- and folds
pub second_output : (f g : Touch) (c : Cell) → IsOutput (touch_at g c) → IsOutput (touches_at (f ∷ g ∷ []) c)
second_output f g c h = output_right (touch_at f c) (both (touch_at g c) Untouched) (output_left (touch_at g c) Untouched h)

-- what one footprint writes
pub only_written : (f : Touch) (c : Cell) → touch_at f c ≡ Writes → touches_at (f ∷ []) c ≡ Writes
only_written f c e = writes_left (touch_at f c) Untouched e

-- or reads
pub only_input : (f : Touch) (c : Cell) → touch_at f c ≡ Reads → IsInput (touches_at (f ∷ []) c)
only_input f c e = input_left (touch_at f c) Untouched (subst IsInput (sym e) tt)

-- A fact of modes that each of two things joined gives to both is given by one footprint of a list to all. -----------------

module _ (P : Mode → Type 0) (left : (m n : Mode) → P m → P (both m n)) (right : (m n : Mode) → P n → P (both m n)) where
  -- by one of the first
  pub in_front : (f : ℕ → Touch) (ts : List ℕ) (rest : List Touch) (t : ℕ) (c : Cell) → contains ts t ≡ true → P (touch_at (f t) c) → P (touches_at (map f ts ++ rest) c)
  in_front f [] rest t c h p = cc
  in_front f (v ∷ ts) rest t c h p = go (λ k. in_front f ts rest t c k p) (nat_eq v t) (eqb-true v t) h
    where
      go : (contains ts t ≡ true → P (touches_at (map f ts ++ rest) c)) → (b : Bool) → (b ≡ true → v ≡ t) → (b || contains ts t) ≡ true → P (both (touch_at (f v) c) (touches_at (map f ts ++ rest) c))
      go again true e k = left (touch_at (f v) c) (touches_at (map f ts ++ rest) c) (subst (λ (x : ℕ). P (touch_at (f x) c)) (sym (e refl)) p)
      go again false e k = right (touch_at (f v) c) (touches_at (map f ts ++ rest) c) (again k)

  -- by the later ones
  pub in_rest : (front rest : List Touch) (c : Cell) → P (touches_at rest c) → P (touches_at (front ++ rest) c)
  in_rest [] rest c p = p
  in_rest (f ∷ front) rest c p = right (touch_at f c) (touches_at (front ++ rest) c) (in_rest front rest c p)

  -- by one of all
  pub in_all : (f : ℕ → Touch) (ts : List ℕ) (t : ℕ) (c : Cell) → contains ts t ≡ true → P (touch_at (f t) c) → P (touches_at (map f ts) c)
  in_all f [] t c h p = cc
  in_all f (v ∷ ts) t c h p = go (λ k. in_all f ts t c k p) (nat_eq v t) (eqb-true v t) h
    where
      go : (contains ts t ≡ true → P (touches_at (map f ts) c)) → (b : Bool) → (b ≡ true → v ≡ t) → (b || contains ts t) ≡ true → P (both (touch_at (f v) c) (touches_at (map f ts) c))
      go again true e k = left (touch_at (f v) c) (touches_at (map f ts) c) (subst (λ (x : ℕ). P (touch_at (f x) c)) (sym (e refl)) p)
      go again false e k = right (touch_at (f v) c) (touches_at (map f ts) c) (again k)
