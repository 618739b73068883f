-- A change of one buffer of one node, cell by cell.
use Rattle.std.proofs.Common.{◌≡◌, ◌≢◌, ℕ, zero, suc, ◌+◌, ◌%◌, ◌^◌, ◌<◌, ◌&&◌, ◌||◌, Bool, true, false, not, List, [], ◌∷◌, length, get_or, Option, Some, None, nat_eq, nat_lt, refl, sym, ap, ◌∙◌, subst, arith, if◌then◌else◌, eqb-true, eq-eqb}
use Rattle.std.specs.Prelude.{option_and_then, option_map}
use Rattle.std.specs.List.{list_any, position_or_len}
use Rattle.std.proofs.Math.Path.{fun_ext}
use Rattle.std.proofs.lemmas.Bool.{and_parts, lt-ltb, ne_eqb}
use Rattle.std.proofs.lemmas.Grind.{common_steps}
use Rattle.std.proofs.lemmas.List.{get_or-set_same, get_or-set_other}
use Rattle.std.proofs.lemmas.List.Quantifiers.{position-Some}
use Rattle.dt_argument.proofs.Shapes.{if_true, if_false}
use Rattle.dt_mem.specs.Memory.{Held, Slot, changed, ended, folded, held_at, opened, place_of, value_at, with_more, with_value, written}
use Rattle.dt_mem.proofs.MapLaws.{begins_with_zeros, ends_with_nothing, folds_one_word, other-changed, writes_one_word}
use Rattle.dt_runs.specs.Sets.{contains}
use Rattle.dt_plan.specs.declared.touches.Buffer.{Buffer}
use Rattle.dt_argument.specs.Frames.{grown}
use Rattle.dt_events.specs.Conflicts.{is_same_buffer}
use Rattle.dt_events.specs.State.{Cell, Word, Sign, added_to, overwritten, with_buffer, without_buffer}
use Rattle.dt_events.proofs.Cells.{same_buffer_refl, same_buffer_true}
use Rattle.dt_sim.specs.Memories.{changed_on, memory_at, number_in, sign_of, state_in}

-- Places ----------------------------------------------------------------------------------------------------------------

further : (k n : ℕ) (b : Bool) → nat_lt k n ≡ b → nat_lt (1 + k) (suc n) ≡ b
further k n true h = grind (arith, common_steps)
further k n false h = grind (arith, common_steps)

first_any : {X : Type 0} (p : X → Bool) (xs : List X) → nat_lt (position_or_len p xs) (length xs) ≡ list_any p xs
first_any p [] = refl
first_any p (x ∷ xs) = go (p x) (first_any p xs)
  where
    go : (b : Bool) → nat_lt (position_or_len p xs) (length xs) ≡ list_any p xs → nat_lt (if not b then 1 + position_or_len p xs else 0) (suc (length xs)) ≡ (b || list_any p xs)
    go true h = lt-ltb 0 (suc (length xs)) (omega arith)
    go false h = further (position_or_len p xs) (length xs) (list_any p xs) h

-- a word has a place among words where they contain it
pub zero_placed : (words : List ℕ) (w : ℕ) → option_map {U = ℕ} (λ (k : ℕ). 0) (place_of words w) ≡ (if contains words w then Some 0 else None)
zero_placed words w = go (nat_lt (position_or_len (λ y. nat_eq y w) words) (length words)) (first_any (λ y. nat_eq y w) words)
  where
    go : (b : Bool) → b ≡ contains words w → option_map {U = ℕ} (λ (k : ℕ). 0) (if b then Some (position_or_len (λ y. nat_eq y w) words) else None) ≡ (if contains words w then Some 0 else None)
    go true e = rw (sym e) refl
    go false e = rw (sym e) refl

-- two buffers with one number are one
pub one_number : (buffers : List Buffer) (b c : Buffer) (k : ℕ) → number_in buffers b ≡ Some k → number_in buffers c ≡ Some k → b ≡ c
one_number buffers b c k e f =
    same_buffer_true b (get_or buffers k b) (position-Some (is_same_buffer b) buffers k b e).1
    ∙ sym (same_buffer_true c (get_or buffers k b) (position-Some (is_same_buffer c) buffers k b f).1)

-- Signs -----------------------------------------------------------------------------------------------------------------

-- the sign of a buffer in a memory
abbrev pub sign_at : List Slot → ℕ → Option ℕ
sign_at m k = sign_of (held_at m k)

other_sign : (f : Slot → Slot) (m : List Slot) (k j : ℕ) → j ≢ k → sign_at (changed f k m) j ≡ sign_at m j
other_sign f m k j d = ap (λ (o : Option Slot). sign_of (option_and_then (λ (s : Slot). s.held) o)) (other-changed f m k j d)

opened_sign : (words : List ℕ) (m : List Slot) (k : ℕ) → k < length m → sign_at (changed (opened words) k m) k ≡ Some 0
opened_sign words [] k h = absurd (omega arith)
opened_sign words (s ∷ m) zero h = refl
opened_sign words (s ∷ m) (suc k) h = opened_sign words m k (omega arith)

ended_sign : (m : List Slot) (k : ℕ) → sign_at (changed ended k m) k ≡ None
ended_sign [] k = refl
ended_sign (s ∷ m) zero = refl
ended_sign (s ∷ m) (suc k) = ended_sign m k

-- a change that keeps the sign of each buffer
kept_sign : (f : Slot → Slot) → ((s : Slot) → sign_of (f s).held ≡ sign_of s.held) → (m : List Slot) (k j : ℕ) → sign_at (changed f k m) j ≡ sign_at m j
kept_sign f h [] k j = refl
kept_sign f h (s ∷ m) zero zero = h s
kept_sign f h (s ∷ m) zero (suc j) = refl
kept_sign f h (s ∷ m) (suc k) zero = refl
kept_sign f h (s ∷ m) (suc k) (suc j) = kept_sign f h m k j

valued_sign : (f : Held → Held) (o : Option Held) → sign_of (option_map f o) ≡ sign_of o
valued_sign f None = refl
valued_sign f (Some h) = refl

written_sign : (w v : ℕ) (m : List Slot) (k j : ℕ) → sign_at (changed (written w v) k m) j ≡ sign_at m j
written_sign w v m k j = kept_sign (written w v) (λ s. valued_sign (with_value w v) s.held) m k j

folded_sign : (w d : ℕ) (m : List Slot) (k j : ℕ) → sign_at (changed (folded w d) k m) j ≡ sign_at m j
folded_sign w d m k j = kept_sign (folded w d) (λ s. valued_sign (with_more w d) s.held) m k j

-- Cells -----------------------------------------------------------------------------------------------------------------

-- what is chosen where a test is met
if_same : {A : Type 0} (b : Bool) (x y z : A) → (b ≡ true → x ≡ y) → (if b then x else z) ≡ (if b then y else z)
if_same true x y z h = h refl
if_same false x y z h = refl

if_both : {A : Type 0} (a b : Bool) (x y : A) → (if a && b then x else y) ≡ (if a then (if b then x else y) else y)
if_both true b x y = refl
if_both false b x y = refl

not_equal : (n m : ℕ) → nat_eq n m ≡ false → m ≢ n
not_equal n m e q = (let t : nat_eq n m ≡ true = eq-eqb n m (sym q) in cc)

module _ (buffers : List Buffer) (mems : List (List Slot)) (n k : ℕ) (b : Buffer) (at : number_in buffers b ≡ Some k) (there : n < length mems) (f : Slot → Slot) where
  here : memory_at (changed_on f n k mems) n ≡ changed f k (memory_at mems n)
  here = get_or-set_same mems n (changed f k (memory_at mems n)) [] there

  elsewhere : (m : ℕ) → m ≢ n → memory_at (changed_on f n k mems) m ≡ memory_at mems m
  elsewhere m d = get_or-set_other mems n m (changed f k (memory_at mems n)) [] d

  module _ (look : List Slot → ℕ → Option ℕ) (others : (j : ℕ) → j ≢ k → look (changed f k (memory_at mems n)) j ≡ look (memory_at mems n) j) where
    -- another buffer of the node
    other_number : (c : Buffer) → is_same_buffer b c ≡ false → (o : Option ℕ) → number_in buffers c ≡ o → option_and_then (look (changed f k (memory_at mems n))) o ≡ option_and_then (look (memory_at mems n)) o
    other_number c g None e = refl
    other_number c g (Some j) e = others j (λ q. (let t : is_same_buffer b c ≡ true = subst (λ (x : Buffer). is_same_buffer b x ≡ true) (one_number buffers b c k at (e ∙ ap Some q)) (same_buffer_refl b) in cc))

    -- what is at a cell of any buffer of any node
    at_cell : (m : ℕ) (c : Buffer)
        → option_and_then (look (memory_at (changed_on f n k mems) m)) (number_in buffers c)
        ≡ (if nat_eq n m && is_same_buffer b c then look (changed f k (memory_at mems n)) k else option_and_then (look (memory_at mems m)) (number_in buffers c))
    at_cell m c = go (nat_eq n m) refl (is_same_buffer b c) refl
      where
        go : (x : Bool) → nat_eq n m ≡ x → (y : Bool) → is_same_buffer b c ≡ y
            → option_and_then (look (memory_at (changed_on f n k mems) m)) (number_in buffers c)
            ≡ (if x && y then look (changed f k (memory_at mems n)) k else option_and_then (look (memory_at mems m)) (number_in buffers c))
        go false e y g = ap (λ (mem : List Slot). option_and_then (look mem) (number_in buffers c)) (elsewhere m (not_equal n m e))
        go true e true g =
            ap (λ (i : ℕ). option_and_then (look (memory_at (changed_on f n k mems) i)) (number_in buffers c)) (sym (eqb-true n m e))
            ∙ ap (λ (d : Buffer). option_and_then (look (memory_at (changed_on f n k mems) n)) (number_in buffers d)) (sym (same_buffer_true b c g))
            ∙ ap (option_and_then (look (memory_at (changed_on f n k mems) n))) at
            ∙ ap (λ (mem : List Slot). look mem k) here
        go true e false g =
            ap (λ (i : ℕ). option_and_then (look (memory_at (changed_on f n k mems) i)) (number_in buffers c)) (sym (eqb-true n m e))
            ∙ ap (λ (mem : List Slot). option_and_then (look mem) (number_in buffers c)) here
            ∙ other_number c g (number_in buffers c) refl
            ∙ ap (λ (i : ℕ). option_and_then (look (memory_at mems i)) (number_in buffers c)) (eqb-true n m e)

-- The four changes ------------------------------------------------------------------------------------------------------

pub beginnings_open : (buffers : List Buffer) (mems : List (List Slot)) (n k : ℕ) (b : Buffer) (words : List ℕ) → number_in buffers b ≡ Some k → n < length mems → k < length (memory_at mems n)
    → state_in buffers (changed_on (opened words) n k mems) ≡ with_buffer n b words (state_in buffers mems)
beginnings_open buffers mems n k b words at there room = fun_ext cell
  where
    mem : List Slot
    mem = memory_at mems n

    cell : (c : Cell) → state_in buffers (changed_on (opened words) n k mems) c ≡ with_buffer n b words (state_in buffers mems) c
    cell (Word m c w) =
        at_cell buffers mems n k b at there (opened words) (λ x j. value_at x j w)
        (λ j d. begins_with_zeros (memory_at mems n) k words room j w ∙ if_false (nat_eq j k) (option_map (λ (i : ℕ). 0) (place_of words w)) (value_at (memory_at mems n) j w) (ne_eqb j k d)) m c
        ∙ if_same (nat_eq n m && is_same_buffer b c) (value_at (changed (opened words) k (memory_at mems n)) k w) (if contains words w then Some 0 else None) (state_in buffers mems (Word m c w))
        (λ e. begins_with_zeros (memory_at mems n) k words room k w ∙ if_true (nat_eq k k) (option_map (λ (i : ℕ). 0) (place_of words w)) (value_at (memory_at mems n) k w) (eq-eqb k k refl) ∙ zero_placed words w)
    cell (Sign m c) =
        at_cell buffers mems n k b at there (opened words) sign_at (λ j d. other_sign (opened words) (memory_at mems n) k j d) m c
        ∙ if_same (nat_eq n m && is_same_buffer b c) (sign_at (changed (opened words) k (memory_at mems n)) k) (Some 0) (state_in buffers mems (Sign m c)) (λ e. opened_sign words (memory_at mems n) k room)

pub ends_close : (buffers : List Buffer) (mems : List (List Slot)) (n k : ℕ) (b : Buffer) → number_in buffers b ≡ Some k → n < length mems
    → state_in buffers (changed_on ended n k mems) ≡ without_buffer n b (state_in buffers mems)
ends_close buffers mems n k b at there = fun_ext cell
  where
    cell : (c : Cell) → state_in buffers (changed_on ended n k mems) c ≡ without_buffer n b (state_in buffers mems) c
    cell (Word m c w) =
        at_cell buffers mems n k b at there ended (λ x j. value_at x j w)
        (λ j d. ends_with_nothing (memory_at mems n) k j w ∙ if_false (nat_eq j k) None (value_at (memory_at mems n) j w) (ne_eqb j k d)) m c
        ∙ if_same (nat_eq n m && is_same_buffer b c) (value_at (changed ended k (memory_at mems n)) k w) None (state_in buffers mems (Word m c w))
        (λ e. ends_with_nothing (memory_at mems n) k k w ∙ if_true (nat_eq k k) None (value_at (memory_at mems n) k w) (eq-eqb k k refl))
    cell (Sign m c) =
        at_cell buffers mems n k b at there ended sign_at (λ j d. other_sign ended (memory_at mems n) k j d) m c
        ∙ if_same (nat_eq n m && is_same_buffer b c) (sign_at (changed ended k (memory_at mems n)) k) None (state_in buffers mems (Sign m c)) (λ e. ended_sign (memory_at mems n) k)

-- the cell of the buffer at which a word is changed
module _ (buffers : List Buffer) (mems : List (List Slot)) (n k : ℕ) (b : Buffer) (w x : ℕ) (at : number_in buffers b ≡ Some k) (there : n < length mems) (held : value_at (memory_at mems n) k w ≡ Some x) where
  same_cell : (m u : ℕ) (c : Buffer) → (nat_eq n m && is_same_buffer b c) ≡ true → value_at (memory_at mems n) k u ≡ state_in buffers mems (Word m c u)
  same_cell m u c e =
      let p = and_parts (nat_eq n m) (is_same_buffer b c) e in
      sym (ap (option_and_then (λ (j : ℕ). value_at (memory_at mems n) j u)) at)
      ∙ ap (λ (i : ℕ). state_in buffers mems (Word i b u)) (eqb-true n m p.0)
      ∙ ap (λ (d : Buffer). state_in buffers mems (Word m d u)) (same_buffer_true b c p.1)

  module _ (f : Slot → Slot) (y : ℕ) (change : Option ℕ → Option ℕ) (makes : change (Some x) ≡ Some y) (signs : (j : ℕ) → sign_at (changed f k (memory_at mems n)) j ≡ sign_at (memory_at mems n) j)
      (values : (c u : ℕ) → value_at (changed f k (memory_at mems n)) c u ≡ (if nat_eq c k && nat_eq u w then Some y else value_at (memory_at mems n) c u)) where
    other_values : (u j : ℕ) → j ≢ k → value_at (changed f k (memory_at mems n)) j u ≡ value_at (memory_at mems n) j u
    other_values u j d = values j u ∙ ap (λ (t : Bool). if t && nat_eq u w then Some y else value_at (memory_at mems n) j u) (ne_eqb j k d)

    own_value : (m u : ℕ) (c : Buffer) → (nat_eq n m && is_same_buffer b c) ≡ true
        → value_at (changed f k (memory_at mems n)) k u ≡ (if contains (w ∷ []) u then change (state_in buffers mems (Word m c u)) else state_in buffers mems (Word m c u))
    own_value m u c e = values k u ∙ ap (λ (t : Bool). if t && nat_eq u w then Some y else value_at (memory_at mems n) k u) (eq-eqb k k refl) ∙ go (nat_eq u w) refl (nat_eq w u) refl
      where
        go : (s : Bool) → nat_eq u w ≡ s → (t : Bool) → nat_eq w u ≡ t
            → (if s then Some y else value_at (memory_at mems n) k u) ≡ (if t || false then change (state_in buffers mems (Word m c u)) else state_in buffers mems (Word m c u))
        go true p true q = sym makes ∙ ap change (sym held ∙ ap (value_at (memory_at mems n) k) (eqb-true w u q) ∙ same_cell m u c e)
        go true p false q = (let z : nat_eq w u ≡ true = eq-eqb w u (sym (eqb-true u w p)) in absurd (cc))
        go false p true q = (let z : nat_eq u w ≡ true = eq-eqb u w (sym (eqb-true w u q)) in absurd (cc))
        go false p false q = same_cell m u c e

    pub one_word_cells : (c : Cell) → state_in buffers (changed_on f n k mems) c ≡ elim c as (λ (z : Cell). Option ℕ) [
      | Word m d u ↦ (if (nat_eq n m && is_same_buffer b d) && contains (w ∷ []) u then change (state_in buffers mems (Word m d u)) else state_in buffers mems (Word m d u))
      | Sign m d ↦ state_in buffers mems (Sign m d)
    ]
    one_word_cells (Word m c u) =
        at_cell buffers mems n k b at there f (λ z j. value_at z j u) (λ j d. other_values u j d) m c
        ∙ if_same (nat_eq n m && is_same_buffer b c) (value_at (changed f k (memory_at mems n)) k u) (if contains (w ∷ []) u then change (state_in buffers mems (Word m c u)) else state_in buffers mems (Word m c u)) (state_in buffers mems (Word m c u))
        (own_value m u c)
        ∙ sym (if_both (nat_eq n m && is_same_buffer b c) (contains (w ∷ []) u) (change (state_in buffers mems (Word m c u))) (state_in buffers mems (Word m c u)))
    one_word_cells (Sign m c) =
        at_cell buffers mems n k b at there f sign_at (λ j d. signs j) m c
        ∙ if_same (nat_eq n m && is_same_buffer b c) (sign_at (changed f k (memory_at mems n)) k) (state_in buffers mems (Sign m c)) (state_in buffers mems (Sign m c)) (λ e.
        let p = and_parts (nat_eq n m) (is_same_buffer b c) e in
        signs k ∙ sym (ap (option_and_then (sign_at (memory_at mems n))) at) ∙ ap (λ (i : ℕ). state_in buffers mems (Sign i b)) (eqb-true n m p.0) ∙ ap (λ (d : Buffer). state_in buffers mems (Sign m d)) (same_buffer_true b c p.1))
        ∙ if_equal (nat_eq n m && is_same_buffer b c) (state_in buffers mems (Sign m c))
      where
        if_equal : (t : Bool) (z : Option ℕ) → (if t then z else z) ≡ z
        if_equal true z = refl
        if_equal false z = refl

pub writes_overwrite : (buffers : List Buffer) (mems : List (List Slot)) (n k : ℕ) (b : Buffer) (w x v : ℕ) → number_in buffers b ≡ Some k → n < length mems → value_at (memory_at mems n) k w ≡ Some x
    → state_in buffers (changed_on (written w v) n k mems) ≡ overwritten n b (w ∷ []) v (state_in buffers mems)
writes_overwrite buffers mems n k b w x v at there held = fun_ext cell
  where
    all : (c : Cell) → state_in buffers (changed_on (written w v) n k mems) c ≡ elim c as (λ (z : Cell). Option ℕ) [
      | Word m d u ↦ (if (nat_eq n m && is_same_buffer b d) && contains (w ∷ []) u then option_map (λ (i : ℕ). v) (state_in buffers mems (Word m d u)) else state_in buffers mems (Word m d u))
      | Sign m d ↦ state_in buffers mems (Sign m d)
    ]
    all = one_word_cells buffers mems n k b w x at there held (written w v) v (option_map (λ (i : ℕ). v)) refl (λ j. written_sign w v (memory_at mems n) k j) (writes_one_word (memory_at mems n) k w x v held)

    cell : (c : Cell) → state_in buffers (changed_on (written w v) n k mems) c ≡ overwritten n b (w ∷ []) v (state_in buffers mems) c
    cell (Word m c u) = all (Word m c u)
    cell (Sign m c) = all (Sign m c)

pub folds_add : (buffers : List Buffer) (mems : List (List Slot)) (n k : ℕ) (b : Buffer) (w x d : ℕ) → number_in buffers b ≡ Some k → n < length mems → value_at (memory_at mems n) k w ≡ Some x
    → state_in buffers (changed_on (folded w d) n k mems) ≡ added_to n b (w ∷ []) d (state_in buffers mems)
folds_add buffers mems n k b w x d at there held = fun_ext cell
  where
    all : (c : Cell) → state_in buffers (changed_on (folded w d) n k mems) c ≡ elim c as (λ (z : Cell). Option ℕ) [
      | Word m e u ↦ (if (nat_eq n m && is_same_buffer b e) && contains (w ∷ []) u then grown d (state_in buffers mems (Word m e u)) else state_in buffers mems (Word m e u))
      | Sign m e ↦ state_in buffers mems (Sign m e)
    ]
    all = one_word_cells buffers mems n k b w x at there held (folded w d) ((x + d) % 2 ^ 64) (grown d) refl (λ j. folded_sign w d (memory_at mems n) k j) (folds_one_word (memory_at mems n) k w x d held)

    cell : (c : Cell) → state_in buffers (changed_on (folded w d) n k mems) c ≡ added_to n b (w ∷ []) d (state_in buffers mems) c
    cell (Word m c u) = all (Word m c u)
    cell (Sign m c) = all (Sign m c)
