-- Words of a buffer become 0, one after another.
use Rattle.std.proofs.Common.{◌≡◌, ◌≢◌, ℕ, ◌+◌, ◌<◌, ◌&&◌, ◌||◌, Bool, true, false, List, [], ◌∷◌, ◌++◌, length, take, get_or, Option, Some, None, slice_get, ◌==◌, nat_eq, refl, sym, ap, ◌∙◌, subst, ⊎_elim, if◌then◌else◌}
use Rattle.std.specs.Prelude.{option_map, option_and_then, is_some, unwrap_or}
use Rattle.std.proofs.Math.Path.{fun_ext}
use Rattle.std.proofs.lemmas.Bool.{cases_eq, eq-eqb, eqb-true, ne_eqb}
use Rattle.std.proofs.lemmas.List.{take_more}
use Rattle.std.proofs.lemmas.List.Quantifiers.{position-Some}
use Rattle.std.proofs.lemmas.Option.{slice_get-get_or}
use Rattle.dt_mem.specs.Memory.{Held, Slot, changed, held_at, place_of, value_at, value_in, written}
use Rattle.dt_mem.proofs.MapLaws.{other-changed, writes_one_word}
use Rattle.dt_nest.specs.Run.{is_among}
use Rattle.dt_nest.specs.Unit.{Cell, Word, Sign, cleared_at}
use Rattle.dt_leaf.specs.NodeWords.{AreApart, LeavesRest, cells_in, layout_of}
use Rattle.dt_leaf.specs.Clearing.{Clears, buffer_words}
use Rattle.dt_leaf.proofs.Cells.{among_slots, layout_changed, same_signs, same_words, written_frame}

-- each number becomes 0
abbrev pub zeroed : Option ℕ → Option ℕ
zeroed o = option_map {U = ℕ} (λ (x : ℕ). 0) o

pub clears_none : (buf : ℕ) (m : List Slot) → Clears buf [] m m
clears_none buf m = record { values = λ b j. go (nat_eq b buf) (value_at m b j); layout = refl; others = λ b n. refl }
  where
    go : (p : Bool) (v : Option ℕ) → v ≡ (if p && false then zeroed v else v)
    go true v = refl
    go false v = refl

-- One word --------------------------------------------------------------------------------------------------------------

module _ (m : List Slot) (buf w : ℕ) where
  one_cleared : (x b j : ℕ) → value_at m buf w ≡ Some x → (p q : Bool) → nat_eq b buf ≡ p → nat_eq j w ≡ q
      → (if p && q then Some 0 else value_at m b j) ≡ (if p && (q || false) then zeroed (value_at m b j) else value_at m b j)
  one_cleared x b j e true true f g =
      let there : value_at m b j ≡ Some x = ap (λ (z : ℕ). value_at m z j) (eqb-true b buf f) ∙ ap (λ (z : ℕ). value_at m buf z) (eqb-true j w g) ∙ e in
      sym (ap zeroed there)
  one_cleared x b j e true false f g = refl
  one_cleared x b j e false true f g = refl
  one_cleared x b j e false false f g = refl

  none_cleared : (b j : ℕ) → value_at m buf w ≡ None → (p q : Bool) → nat_eq b buf ≡ p → nat_eq j w ≡ q
      → value_at m b j ≡ (if p && (q || false) then zeroed (value_at m b j) else value_at m b j)
  none_cleared b j e true true f g =
      let there : value_at m b j ≡ None = ap (λ (z : ℕ). value_at m z j) (eqb-true b buf f) ∙ ap (λ (z : ℕ). value_at m buf z) (eqb-true j w g) ∙ e in
      there ∙ sym (ap zeroed there)
  none_cleared b j e true false f g = refl
  none_cleared b j e false true f g = refl
  none_cleared b j e false false f g = refl

  held_clears : (o : Option ℕ) → value_at m buf w ≡ o → is_some o ≡ true → Clears buf (w ∷ []) m (changed (written w 0) buf m)
  held_clears None e h = absurd (cc)
  held_clears (Some x) e h = record {
    values = λ b j. writes_one_word m buf w x 0 e b j ∙ one_cleared x b j e (nat_eq b buf) (nat_eq j w) refl refl;
    layout = layout_changed (written w 0) (written_frame w 0) m buf;
    others = λ b n. other-changed (written w 0) m buf b n;
  }

  free_clears : (o : Option ℕ) → value_at m buf w ≡ o → is_some o ≡ false → Clears buf (w ∷ []) m m
  free_clears (Some x) e h = absurd (cc)
  free_clears None e h = record { values = λ b j. none_cleared b j e (nat_eq b buf) (nat_eq j w) refl refl; layout = refl; others = λ b n. refl }

  -- a word that is present is written
  pub word_clears : is_some (value_at m buf w) ≡ true → Clears buf (w ∷ []) m (changed (written w 0) buf m)
  word_clears h = held_clears (value_at m buf w) refl h

  -- one that is absent has no value
  pub absent_clears : is_some (value_at m buf w) ≡ false → Clears buf (w ∷ []) m m
  absent_clears h = free_clears (value_at m buf w) refl h

-- One word more ---------------------------------------------------------------------------------------------------------

among_append : (j : ℕ) (xs ys : List ℕ) → is_among j (xs ++ ys) ≡ (is_among j xs || is_among j ys)
among_append j [] ys = refl
among_append j (x ∷ xs) ys = go (nat_eq j x) (among_append j xs ys)
  where
    go : (p : Bool) → is_among j (xs ++ ys) ≡ (is_among j xs || is_among j ys) → (p || is_among j (xs ++ ys)) ≡ ((p || is_among j xs) || is_among j ys)
    go true e = refl
    go false e = e

twice : (v : Option ℕ) → zeroed (zeroed v) ≡ zeroed v
twice None = refl
twice (Some x) = refl

both_cleared : (p q r : Bool) (v : Option ℕ) → (if p && r then zeroed (if p && q then zeroed v else v) else (if p && q then zeroed v else v)) ≡ (if p && (q || r) then zeroed v else v)
both_cleared true true true v = twice v
both_cleared true true false v = refl
both_cleared true false true v = refl
both_cleared true false false v = refl
both_cleared false true true v = refl
both_cleared false true false v = refl
both_cleared false false true v = refl
both_cleared false false false v = refl

clears_append : (buf w : ℕ) (ws : List ℕ) (old mid new : List Slot) → Clears buf ws old mid → Clears buf (w ∷ []) mid new → Clears buf (ws ++ w ∷ []) old new
clears_append buf w ws old mid new a b = record {
  values = λ c j. b.values c j ∙ ap (λ (v : Option ℕ). if nat_eq c buf && is_among j (w ∷ []) then zeroed v else v) (a.values c j)
      ∙ both_cleared (nat_eq c buf) (is_among j ws) (is_among j (w ∷ [])) (value_at old c j)
      ∙ ap (λ (q : Bool). if nat_eq c buf && q then zeroed (value_at old c j) else value_at old c j) (sym (among_append j ws (w ∷ [])));
  layout = b.layout ∙ a.layout;
  others = λ c n. b.others c n ∙ a.others c n;
}

-- so the first words of a buffer are cleared, one after another
pub clears_more : (buf w k : ℕ) (old mid new : List Slot) → Clears buf (take k (buffer_words old buf)) old mid → slice_get (buffer_words mid buf) k ≡ Some w → k < length (buffer_words old buf) → Clears buf (w ∷ []) mid new
    → Clears buf (take (k + 1) (buffer_words old buf)) old new
clears_more buf w k old mid new a e l b =
    let same : buffer_words mid buf ≡ buffer_words old buf = ap (λ o. unwrap_or o []) (same_words old mid buf a.layout) in
    let item : ◌≡◌ {A = Option ℕ} (Some (get_or (buffer_words old buf) k 0)) (Some w) = sym (slice_get-get_or (buffer_words old buf) k 0 l) ∙ sym (ap (λ l. slice_get l k) same) ∙ e in
    let word : get_or (buffer_words old buf) k 0 ≡ w = cc in
    let longer : take k (buffer_words old buf) ++ w ∷ [] ≡ take (k + 1) (buffer_words old buf) = sym (take_more (buffer_words old buf) k 0 l ∙ ap (λ (z : ℕ). take k (buffer_words old buf) ++ z ∷ []) word) in
    subst (λ (l : List ℕ). Clears buf l old new) longer (clears_append buf w (take k (buffer_words old buf)) old mid new a b)

-- Cells ------------------------------------------------------------------------------------------------------------------

value_among : (h : Held) (j : ℕ) (o : Option ℕ) → place_of h.words j ≡ o → is_among j h.words ≡ false → option_and_then (slice_get h.values) o ≡ None
value_among h j None e n = refl
value_among h j (Some k) e n =
    let at = position-Some (λ y. y == j) h.words k 0 e in
    let there : slice_get h.words k ≡ Some j = slice_get-get_or h.words k 0 at.0 ∙ ap (λ (z : ℕ). Some z) (eqb-true (get_or h.words k 0) j at.1) in
    let yes : is_among j h.words ≡ true = among_slots h.words k j there in
    absurd (cc)

held_among : (o : Option Held) (j : ℕ) → is_among j (unwrap_or (option_map (λ (h : Held). h.words) o) []) ≡ false → option_and_then (λ h. value_in h j) o ≡ None
held_among None j n = refl
held_among (Some h) j n = value_among h j (place_of h.words j) refl n

module _ (old new : List Slot) (slots : List ℕ) (t b : ℕ) (apart : AreApart slots) (named : slice_get slots t ≡ Some b) (clears : Clears b (buffer_words old b) old new) where
  same_test : (u c : ℕ) → slice_get slots u ≡ Some c → nat_eq c b ≡ nat_eq u t
  same_test u c e =
      ⊎_elim
      (λ (q : u ≡ t). let h : ◌≡◌ {A = Option ℕ} (Some c) (Some b) = sym e ∙ ap (slice_get slots) q ∙ named in let r : c ≡ b = cc in eq-eqb c b r ∙ sym (eq-eqb u t q))
      (λ (q : u ≢ t). ne_eqb c b (λ r. q (apart t u b named (e ∙ ap (λ (z : ℕ). Some z) r))) ∙ sym (ne_eqb u t q))
      (cases_eq u t)

  cleared_word : (c j : ℕ) (p q : Bool) → nat_eq c b ≡ p → is_among j (buffer_words old b) ≡ q
      → (if p && q then zeroed (value_at old c j) else value_at old c j) ≡ (if p then zeroed (value_at old c j) else value_at old c j)
  cleared_word c j true true e f = refl
  cleared_word c j true false e f =
      let none : value_at old c j ≡ None = ap (λ (z : ℕ). value_at old z j) (eqb-true c b e) ∙ held_among (held_at old b) j f in
      none ∙ sym (ap zeroed none)
  cleared_word c j false true e f = refl
  cleared_word c j false false e f = refl

  none_both : (p : Bool) → ◌≡◌ {A = Option ℕ} None (if p then None else None)
  none_both true = refl
  none_both false = refl

  at_slot : (o : Option ℕ) (u j : ℕ) → slice_get slots u ≡ o
      → option_and_then (λ c. value_at new c j) o ≡ (if nat_eq u t then zeroed (option_and_then (λ c. value_at old c j) o) else option_and_then (λ c. value_at old c j) o)
  at_slot None u j e = none_both (nat_eq u t)
  at_slot (Some c) u j e =
      clears.values c j ∙ cleared_word c j (nat_eq c b) (is_among j (buffer_words old b)) refl refl
      ∙ ap (λ (p : Bool). if p then zeroed (value_at old c j) else value_at old c j) (same_test u c e)

  each_cell : (cell : Cell) → cells_in new slots cell ≡ cleared_at (cells_in old slots) t cell
  each_cell (Word u j) = at_slot (slice_get slots u) u j refl
  each_cell (Sign u) = same_signs old new slots u clears.layout

  -- the words of the buffer are 0
  pub clears_cells : cells_in new slots ≡ cleared_at (cells_in old slots) t
  clears_cells = fun_ext each_cell

  -- and the rest is as it was
  pub clears_rest : LeavesRest slots old new
  clears_rest = record {
    layout = clears.layout;
    others = λ c n. clears.others c (λ q. (let z : is_among c slots ≡ true = subst (λ (y : ℕ). is_among y slots ≡ true) (sym q) (among_slots slots t b named) in cc));
  }

-- each number below the count of words has one
pub no_word : (buf k : ℕ) (old mid : List Slot) → layout_of mid ≡ layout_of old → k < length (buffer_words old buf) → slice_get (buffer_words mid buf) k ≡ None → ⊥
no_word buf k old mid a l e =
    let same : buffer_words mid buf ≡ buffer_words old buf = ap (λ o. unwrap_or o []) (same_words old mid buf a) in
    let item : ◌≡◌ {A = Option ℕ} (Some (get_or (buffer_words old buf) k 0)) None = sym (slice_get-get_or (buffer_words old buf) k 0 l) ∙ sym (ap (λ l. slice_get l k) same) ∙ e in
    absurd (cc)
