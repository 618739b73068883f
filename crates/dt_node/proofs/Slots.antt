-- Slots that name the buffers in order.
use Rattle.std.proofs.Common.{◌≡◌, ℕ, zero, suc, ◌+◌, ◌<◌, List, [], ◌∷◌, length, Some, arith, slice_get}
use Rattle.std.proofs.lemmas.Option.{slice_get_within}
use Rattle.dt_leaf.specs.NodeWords.{AreApart}

-- the numbers from k on, in order
abbrev pub InOrder : ℕ → List ℕ → Type 0
InOrder k [] = Unit {0}
InOrder k (x ∷ xs) = (x ≡ k) × InOrder (k + 1) xs

slot_number : (k : ℕ) (xs : List ℕ) → InOrder k xs → (t b : ℕ) → slice_get xs t ≡ Some b → b ≡ k + t
slot_number k [] h t b e = absurd (cc)
slot_number k (x ∷ xs) h zero b e = (let q : x ≡ b = cc in let r = h.0 in omega (arith, q, r))
slot_number k (x ∷ xs) h (suc t) b e = (let r = slot_number (k + 1) xs h.1 t b e in omega (arith, r))

-- they differ
pub in_order_apart : (xs : List ℕ) → InOrder 0 xs → AreApart xs
in_order_apart xs h t u b e f = (let i = slot_number 0 xs h t b e in let j = slot_number 0 xs h u b f in omega (arith, i, j))

-- and each is one of as many buffers
pub in_order_there : (xs : List ℕ) → InOrder 0 xs → (t b : ℕ) → slice_get xs t ≡ Some b → b < length xs
in_order_there xs h t b e = (let i = slot_number 0 xs h t b e in let l = slice_get_within xs t b e in omega (arith, i, l))
