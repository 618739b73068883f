-- A word that a state holds, and what a fold and a clearing make of the cells.
use Rattle.std.proofs.Common.{◌≡◌, ℕ, zero, suc, arith, ◌%◌, ◌^◌, ◌<◌, true, List, [], ◌∷◌, length, get_or, Option, Some, None, slice_get, refl, ap, ◌∙◌}
use Rattle.std.specs.Prelude.{option_map, option_and_then, is_some}
use Rattle.dt_mem.specs.Memory.{Slot, changed, folded, held_at, value_at, Held}
use Rattle.dt_nest.specs.Unit.{Word, Sign, grown_at, number_in}
use Rattle.dt_leaf.specs.NodeWords.{AreApart, LeavesRest, cells_in}
use Rattle.dt_leaf.proofs.Cells.{folded_frame, folds_cell, rest_after, slot_item, value_slot}

some_of : {P : Type 0} (o : Option ℕ) → is_some o ≡ true → ((x : ℕ) → o ≡ Some x → P) → P
some_of None e k = absurd (cc)
some_of (Some x) e k = k x refl

-- the buffer of a held word exists, and the slot that names it
pub held_buffer : (m : List Slot) (slots : List ℕ) (t k : ℕ) → is_some (cells_in m slots (Word t k)) ≡ true → (t < length slots) × (get_or slots t 0 < length m) × (is_some (value_at m (get_or slots t 0) k) ≡ true)
held_buffer m slots t k h =
    let at = slot_item slots t 0 (λ b. value_at m b k) h in
    (at.0, value_slot m (get_or slots t 0) k at.2, at.2)

-- what is read there is the number of the cell
pub read_number : (m : List Slot) (slots : List ℕ) (t k x : ℕ) → is_some (cells_in m slots (Word t k)) ≡ true → value_at m (get_or slots t 0) k ≡ Some x → x ≡ number_in (cells_in m slots) t (Some k)
read_number m slots t k x h e =
    let at = slot_item slots t 0 (λ b. value_at m b k) h in
    let cell : cells_in m slots (Word t k) ≡ Some x = ap (option_and_then (λ b. value_at m b k)) at.1 ∙ e in
    rw cell refl

-- a fold of a held word grows it
pub folds_held : (m : List Slot) (slots : List ℕ) (t k n d : ℕ) → AreApart slots → is_some (cells_in m slots (Word t k)) ≡ true → n ≡ d % 2 ^ 64
    → cells_in (changed (folded k n) (get_or slots t 0) m) slots ≡ grown_at (cells_in m slots) t (Some k) d
folds_held m slots t k n d apart h ring =
    let at = slot_item slots t 0 (λ b. value_at m b k) h in
    some_of {P = cells_in (changed (folded k n) (get_or slots t 0) m) slots ≡ grown_at (cells_in m slots) t (Some k) d} (value_at m (get_or slots t 0) k) at.2
    (λ x e. folds_cell m slots t (get_or slots t 0) k x n d apart at.1 e ring)

-- and leaves the rest
pub folds_rest : (m : List Slot) (slots : List ℕ) (t k n : ℕ) → is_some (cells_in m slots (Word t k)) ≡ true → LeavesRest slots m (changed (folded k n) (get_or slots t 0) m)
folds_rest m slots t k n h = (let at = slot_item slots t 0 (λ b. value_at m b k) h in rest_after (folded k n) (folded_frame k n) m slots t (get_or slots t 0) at.1)

sign_slot : (m : List Slot) (b : ℕ) → is_some (option_map {U = ℕ} (λ (h : Held). 0) (held_at m b)) ≡ true → b < length m
sign_slot [] b e = absurd (cc)
sign_slot (s ∷ m) zero e = omega arith
sign_slot (s ∷ m) (suc b) e = (let i = sign_slot m b e in omega (arith, i))

-- a buffer that is present exists, and the slot that names it
pub sign_buffer : (m : List Slot) (slots : List ℕ) (t : ℕ) → is_some (cells_in m slots (Sign t)) ≡ true → (t < length slots) × (get_or slots t 0 < length m) × (slice_get slots t ≡ Some (get_or slots t 0))
sign_buffer m slots t h =
    let at = slot_item slots t 0 (λ b. option_map {U = ℕ} (λ (h : Held). 0) (held_at m b)) h in
    (at.0, sign_slot m (get_or slots t 0) at.2, at.1)
