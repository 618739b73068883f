-- What the tests on buffers, cells and words tell.
use Rattle.std.proofs.Common.{◌≡◌, ℕ, zero, suc, Bool, true, false, ◌&&◌, ◌||◌, List, [], ◌∷◌, Some, refl, sym, ap, ap₂, ◌∙◌, eqb-true, eq-eqb}
use Rattle.std.specs.Prelude.{slice_get, nat_eq}
use Rattle.std.proofs.lemmas.Bool.{and_parts, and_from, or_left, or_right}
use Rattle.dt_runs.specs.Sets.{contains}
use Rattle.dt_plan.specs.declared.touches.Buffer.{Buffer}
use Rattle.dt_plan.specs.declared.touches.Buffer.TheVariants.{Home, Scratch, Work}
use Rattle.dt_events.specs.Conflicts.{is_same_buffer}
use Rattle.dt_events.specs.State.{Cell, Word, Sign, is_of, is_word_of}
use Rattle.dt_events.specs.Units.{of_unit}

-- Buffers ------------------------------------------------------------------------------------------------------------------

-- buffers of one kind with the same numbers are one
pub same_buffer_true : (a b : Buffer) → is_same_buffer a b ≡ true → a ≡ b
same_buffer_true (Home t) (Home u) h = ap Home (eqb-true t u h)
same_buffer_true (Home t) (Scratch k u) h = cc
same_buffer_true (Home t) (Work k u) h = cc
same_buffer_true (Scratch j t) (Home u) h = cc
same_buffer_true (Scratch j t) (Scratch k u) h = let p = and_parts (nat_eq j k) (nat_eq t u) h in ap₂ Scratch (eqb-true j k p.0) (eqb-true t u p.1)
same_buffer_true (Scratch j t) (Work k u) h = cc
same_buffer_true (Work j t) (Home u) h = cc
same_buffer_true (Work j t) (Scratch k u) h = cc
same_buffer_true (Work j t) (Work k u) h = let p = and_parts (nat_eq j k) (nat_eq t u) h in ap₂ Work (eqb-true j k p.0) (eqb-true t u p.1)

-- and each is itself
pub same_buffer_refl : (b : Buffer) → is_same_buffer b b ≡ true
same_buffer_refl (Home t) = eq-eqb t t refl
same_buffer_refl (Scratch j t) = and_from (nat_eq j j) (nat_eq t t) (eq-eqb j j refl) (eq-eqb t t refl)
same_buffer_refl (Work j t) = and_from (nat_eq j j) (nat_eq t t) (eq-eqb j j refl) (eq-eqb t t refl)

-- Words --------------------------------------------------------------------------------------------------------------------

-- a list has the element at each of its places
contains_got : (words : List ℕ) (k w : ℕ) → slice_get words k ≡ Some w → contains words w ≡ true
contains_got [] k w h = cc
contains_got (v ∷ vs) zero w h = let e : v ≡ w = cc in or_left (nat_eq v w) (contains vs w) (eq-eqb v w e)
contains_got (v ∷ vs) (suc k) w h = or_right (nat_eq v w) (contains vs w) (contains_got vs k w h)

-- and the one of each unit
pub contains_unit : (words : List ℕ) (i w : ℕ) → of_unit words i ≡ Some w → contains words w ≡ true
contains_unit words zero w h = cc
contains_unit words (suc i) w h = contains_got words i w h

-- one word is itself
contains_one : (w : ℕ) → contains (w ∷ []) w ≡ true
contains_one w = or_left (nat_eq w w) false (eq-eqb w w refl)

-- and no other
one_contained : (w v : ℕ) → contains (w ∷ []) v ≡ true → w ≡ v
one_contained w v h = go (nat_eq w v) refl h
  where
    go : (b : Bool) → nat_eq w v ≡ b → (b || false) ≡ true → w ≡ v
    go true e h = eqb-true w v e
    go false e h = cc

-- Cells --------------------------------------------------------------------------------------------------------------------

-- a word is of its buffer
pub word_is_of : (n : ℕ) (b : Buffer) (w : ℕ) → is_of n b (Word n b w) ≡ true
word_is_of n b w = and_from (nat_eq n n) (is_same_buffer b b) (eq-eqb n n refl) (same_buffer_refl b)

-- so is the sign
pub sign_is_of : (n : ℕ) (b : Buffer) → is_of n b (Sign n b) ≡ true
sign_is_of n b = and_from (nat_eq n n) (is_same_buffer b b) (eq-eqb n n refl) (same_buffer_refl b)

-- a word is one of the words with its number
pub word_is_one : (n : ℕ) (b : Buffer) (words : List ℕ) (w : ℕ) → contains words w ≡ true → is_word_of n b words (Word n b w) ≡ true
word_is_one n b words w h = and_from (nat_eq n n && is_same_buffer b b) (contains words w) (word_is_of n b w) h

-- it is the one word with its number
pub word_is_itself : (n : ℕ) (b : Buffer) (w : ℕ) → is_word_of n b (w ∷ []) (Word n b w) ≡ true
word_is_itself n b w = word_is_one n b (w ∷ []) w (contains_one w)

-- a cell that is one of these words
pub record IsWordOf (n : ℕ) (b : Buffer) (words : List ℕ) (c : Cell) : Type 0 where
  pub word : ℕ
  pub is : c ≡ Word n b word
  pub among : contains words word ≡ true

-- what passes the test is one
pub is_word : (n : ℕ) (b : Buffer) (words : List ℕ) (c : Cell) → is_word_of n b words c ≡ true → IsWordOf n b words c
is_word n b words (Sign m d) h = cc
is_word n b words (Word m d w) h =
    let p = and_parts (nat_eq n m && is_same_buffer b d) (contains words w) h in
    let q = and_parts (nat_eq n m) (is_same_buffer b d) p.0 in
    record { word = w; is = sym (ap₂ (λ x y. Word x y w) (eqb-true n m q.0) (same_buffer_true b d q.1)); among = p.1 }

-- and where there is one word, that one
pub is_the_word : (n : ℕ) (b : Buffer) (w : ℕ) (c : Cell) → is_word_of n b (w ∷ []) c ≡ true → c ≡ Word n b w
is_the_word n b w c h = let p = is_word n b (w ∷ []) c h in p.is ∙ ap (Word n b) (sym (one_contained w p.word p.among))

-- One cell -----------------------------------------------------------------------------------------------------------------

-- whether two cells are one
abbrev pub same_cell : Cell → Cell → Bool
same_cell (Word n b v) (Word m c w) = nat_eq n m && (is_same_buffer b c && nat_eq v w)
same_cell (Word n b v) (Sign m c) = false
same_cell (Sign n b) (Word m c w) = false
same_cell (Sign n b) (Sign m c) = nat_eq n m && is_same_buffer b c

-- what passes the test is one
pub same_cell_true : (c d : Cell) → same_cell c d ≡ true → c ≡ d
same_cell_true (Sign n b) (Sign m c) h = let p = and_parts (nat_eq n m) (is_same_buffer b c) h in ap₂ Sign (eqb-true n m p.0) (same_buffer_true b c p.1)
same_cell_true (Sign n b) (Word m c w) h = cc
same_cell_true (Word n b v) (Sign m c) h = cc
same_cell_true (Word n b v) (Word m c w) h =
    let p = and_parts (nat_eq n m) (is_same_buffer b c && nat_eq v w) h in
    let q = and_parts (is_same_buffer b c) (nat_eq v w) p.1 in
    let e : n ≡ m = eqb-true n m p.0 in
    let f : b ≡ c = same_buffer_true b c q.0 in
    let g : v ≡ w = eqb-true v w q.1 in
    cc

-- a cell is itself
pub same_cell_refl : (c : Cell) → same_cell c c ≡ true
same_cell_refl (Sign n b) = sign_is_of n b
same_cell_refl (Word n b w) = and_from (nat_eq n n) (is_same_buffer b b && nat_eq w w) (eq-eqb n n refl) (and_from (is_same_buffer b b) (nat_eq w w) (same_buffer_refl b) (eq-eqb w w refl))
