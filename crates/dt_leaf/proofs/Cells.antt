-- What a change of one word makes of the cells that slots name.
use Rattle.std.proofs.Common.{◌≡◌, ◌≢◌, ℕ, zero, suc, ◌+◌, ◌%◌, ◌^◌, ◌<◌, ◌&&◌, ◌||◌, Bool, true, false, List, [], ◌∷◌, length, get_or, Option, Some, None, slice_get, nat_eq, refl, sym, ap, ◌∙◌, subst, arith, ⊎_elim, if◌then◌else◌}
use Rattle.std.specs.Prelude.{option_map, option_and_then, is_some}
use Rattle.std.proofs.Math.Path.{fun_ext}
use Rattle.std.proofs.Math.Nat.{add-mod-mod}
use Rattle.std.proofs.lemmas.Bool.{cases_eq, eq-eqb, eqb-true, ne_eqb}
use Rattle.dt_mem.specs.Memory.{Held, Slot, changed, folded, held_at, value_at, value_in, words_at, written}
use Rattle.dt_mem.proofs.MapLaws.{folds_one_word, other-changed}
use Rattle.dt_nest.specs.Run.{is_among}
use Rattle.dt_nest.specs.Unit.{Cell, Word, Sign, grown_at}
use Rattle.dt_leaf.specs.NodeWords.{AreApart, LeavesRest, cells_in, frame_of, layout_of}

-- Buffers --------------------------------------------------------------------------------------------------------------

-- a change that leaves the frame of each buffer
pub layout_changed : (f : Slot → Slot) → ((s : Slot) → frame_of (f s) ≡ frame_of s) → (m : List Slot) (b : ℕ) → layout_of (changed f b m) ≡ layout_of m
layout_changed f h [] b = refl
layout_changed f h (s ∷ m) zero = ap (λ x. x ∷ layout_of m) (h s)
layout_changed f h (s ∷ m) (suc b) = ap (λ x. frame_of s ∷ x) (layout_changed f h m b)

pub folded_frame : (w d : ℕ) (s : Slot) → frame_of (folded w d s) ≡ frame_of s
folded_frame w d s = go s.held
  where
    go : (o : Option Held) → frame_of (folded w d (record { room = s.room; cost = s.cost; held = o })) ≡ (s.room, s.cost, option_map (λ (h : Held). h.words) o)
    go None = refl
    go (Some h) = refl

pub written_frame : (w v : ℕ) (s : Slot) → frame_of (written w v s) ≡ frame_of s
written_frame w v s = go s.held
  where
    go : (o : Option Held) → frame_of (written w v (record { room = s.room; cost = s.cost; held = o })) ≡ (s.room, s.cost, option_map (λ (h : Held). h.words) o)
    go None = refl
    go (Some h) = refl

-- the words of a buffer, from the frames
words_framed : (m : List Slot) (b : ℕ) → words_at m b ≡ option_and_then (λ (f : ℕ × ℕ × Option (List ℕ)). f.2) (slice_get (layout_of m) b)
words_framed [] b = refl
words_framed (s ∷ m) zero = refl
words_framed (s ∷ m) (suc b) = words_framed m b

pub same_words : (m n : List Slot) (b : ℕ) → layout_of n ≡ layout_of m → words_at n b ≡ words_at m b
same_words m n b e = words_framed n b ∙ ap (λ l. option_and_then (λ (f : ℕ × ℕ × Option (List ℕ)). f.2) (slice_get l b)) e ∙ sym (words_framed m b)

sign_of : (o : Option Held) → option_map {U = ℕ} (λ (h : Held). 0) o ≡ option_map {U = ℕ} (λ (w : List ℕ). 0) (option_map (λ (h : Held). h.words) o)
sign_of None = refl
sign_of (Some h) = refl

-- the signs that buffers are present
pub same_signs : (m n : List Slot) (slots : List ℕ) (t : ℕ) → layout_of n ≡ layout_of m → cells_in n slots (Sign t) ≡ cells_in m slots (Sign t)
same_signs m n slots t e =
    ap (λ f. option_and_then f (slice_get slots t)) (fun_ext (λ b. sign_of (held_at n b) ∙ ap (option_map {U = ℕ} (λ (w : List ℕ). 0)) (same_words m n b e) ∙ sym (sign_of (held_at m b))))

-- Slots ----------------------------------------------------------------------------------------------------------------

-- a slot names its buffer
pub among_slots : (slots : List ℕ) (t b : ℕ) → slice_get slots t ≡ Some b → is_among b slots ≡ true
among_slots [] t b e = absurd (cc)
among_slots (x ∷ slots) zero b e = (let q : x ≡ b = cc in rw (q, eq-eqb b b refl) refl)
among_slots (x ∷ slots) (suc t) b e = go (nat_eq b x) (among_slots slots t b e)
  where
    go : (p : Bool) → is_among b slots ≡ true → (p || is_among b slots) ≡ true
    go true h = refl
    go false h = h

-- what is held is in a buffer that a slot names
pub slot_of_held : {P : Type 0} (f : ℕ → Option ℕ) (o : Option ℕ) → is_some (option_and_then f o) ≡ true → ((b : ℕ) → o ≡ Some b → is_some (f b) ≡ true → P) → P
slot_of_held f None e k = absurd (cc)
slot_of_held f (Some b) e k = k b refl e

held_slot : (m : List Slot) (b : ℕ) (f : Held → Option ℕ) → is_some (option_and_then f (held_at m b)) ≡ true → b < length m
held_slot [] b f e = absurd (cc)
held_slot (s ∷ m) zero f e = omega arith
held_slot (s ∷ m) (suc b) f e = (let i = held_slot m b f e in omega (arith, i))

-- a buffer that has a word exists
pub value_slot : (m : List Slot) (b w : ℕ) → is_some (value_at m b w) ≡ true → b < length m
value_slot m b w e = held_slot m b (λ h. value_in h w) e

-- where a list names what is held, its element there is the buffer
pub slot_item : (slots : List ℕ) (t d : ℕ) (f : ℕ → Option ℕ) → is_some (option_and_then f (slice_get slots t)) ≡ true → (t < length slots) × (slice_get slots t ≡ Some (get_or slots t d)) × (is_some (f (get_or slots t d)) ≡ true)
slot_item [] t d f e = absurd (cc)
slot_item (x ∷ slots) zero d f e = (omega arith, refl, e)
slot_item (x ∷ slots) (suc t) d f e = (let h = slot_item slots t d f e in let i = h.0 in (omega (arith, i), h.1, h.2))

-- a buffer that changes is named by a slot
pub rest_after : (f : Slot → Slot) → ((s : Slot) → frame_of (f s) ≡ frame_of s) → (m : List Slot) (slots : List ℕ) (t b : ℕ) → slice_get slots t ≡ Some b → LeavesRest slots m (changed f b m)
rest_after f h m slots t b e = record {
  layout = layout_changed f h m b;
  others = λ c n. other-changed f m b c (λ q. (let z : is_among c slots ≡ true = subst (λ (y : ℕ). is_among y slots ≡ true) (sym q) (among_slots slots t b e) in cc));
}

pub rest_kept : (slots : List ℕ) (m : List Slot) → LeavesRest slots m m
rest_kept slots m = record { layout = refl; others = λ b n. refl }

-- Folds ----------------------------------------------------------------------------------------------------------------

none_both : (f : ℕ → ℕ) (p : Bool) → ◌≡◌ {A = Option ℕ} None (if p then option_map f None else None)
none_both f true = refl
none_both f false = refl

module _ (m : List Slot) (slots : List ℕ) (t b k x n d : ℕ) (apart : AreApart slots) (named : slice_get slots t ≡ Some b) (value : value_at m b k ≡ Some x) (ring : n ≡ d % 2 ^ 64) where
  abbrev New : List Slot
  New = changed (folded k n) b m

  same_test : (u c : ℕ) → slice_get slots u ≡ Some c → nat_eq c b ≡ nat_eq u t
  same_test u c e =
      ⊎_elim
      (λ (q : u ≡ t). let h : ◌≡◌ {A = Option ℕ} (Some c) (Some b) = sym e ∙ ap (slice_get slots) q ∙ named in let r : c ≡ b = cc in eq-eqb c b r ∙ sym (eq-eqb u t q))
      (λ (q : u ≢ t). ne_eqb c b (λ r. q (apart t u b named (e ∙ ap (λ (z : ℕ). Some z) r))) ∙ sym (ne_eqb u t q))
      (cases_eq u t)

  grown_word : (c j : ℕ) (p q : Bool) → nat_eq c b ≡ p → nat_eq j k ≡ q
      → (if p && q then Some ((x + n) % 2 ^ 64) else value_at m c j) ≡ (if p && q then option_map (λ y. (y + d) % 2 ^ 64) (value_at m c j) else value_at m c j)
  grown_word c j true true e f =
      let there : value_at m c j ≡ Some x = ap (λ (z : ℕ). value_at m z j) (eqb-true c b e) ∙ ap (λ (z : ℕ). value_at m b z) (eqb-true j k f) ∙ value in
      let sum : (x + n) % 2 ^ 64 ≡ (x + d) % 2 ^ 64 = ap (λ (z : ℕ). (x + z) % 2 ^ 64) ring ∙ add-mod-mod x d (2 ^ 64) in
      ap (λ (z : ℕ). Some z) sum ∙ sym (ap (option_map (λ y. (y + d) % 2 ^ 64)) there)
  grown_word c j true false e f = refl
  grown_word c j false true e f = refl
  grown_word c j false false e f = refl

  at_slot : (o : Option ℕ) (u j : ℕ) → slice_get slots u ≡ o
      → option_and_then (λ c. value_at New c j) o ≡ (if nat_eq u t && nat_eq j k then option_map (λ y. (y + d) % 2 ^ 64) (option_and_then (λ c. value_at m c j) o) else option_and_then (λ c. value_at m c j) o)
  at_slot None u j e = none_both (λ y. (y + d) % 2 ^ 64) (nat_eq u t && nat_eq j k)
  at_slot (Some c) u j e =
      folds_one_word m b k x n value c j ∙ grown_word c j (nat_eq c b) (nat_eq j k) refl refl
      ∙ ap (λ (p : Bool). if p && nat_eq j k then option_map (λ y. (y + d) % 2 ^ 64) (value_at m c j) else value_at m c j) (same_test u c e)

  each_cell : (cell : Cell) → cells_in New slots cell ≡ grown_at (cells_in m slots) t (Some k) d cell
  each_cell (Word u j) = at_slot (slice_get slots u) u j refl
  each_cell (Sign u) = same_signs m New slots u (layout_changed (folded k n) (folded_frame k n) m b)

  -- a fold grows the word that a slot names
  pub folds_cell : cells_in New slots ≡ grown_at (cells_in m slots) t (Some k) d
  folds_cell = fun_ext each_cell
