-- Blocks of an extent.
use Rattle.std.proofs.Common.{◌≡◌, ℕ, zero, suc, ◌+◌, ◌*◌, ◌/◌, ◌%◌, ◌<◌, ◌≤◌, min, arith, inl, inr}
use Rattle.std.proofs.lemmas.Bool.{cases_lt}
use Rattle.std.proofs.lemmas.Nat.{div_below, mod_below, mul-le}
use Rattle.dt_place.specs.Blocks.{AreBlocks, IsIn, block_of, block_size}

-- so many blocks have room for all numbers
pub block_size-room : (n p : ℕ) → 0 < p → n ≤ p * block_size n p
block_size-room n p h =
    let rest : n % p < p = mod_below n p h in
    let whole : n ≡ n / p * p + n % p = omega arith in
    elim (cases_lt 0 (n % p)) [
      | inl some ↦ (let up : min 1 (n % p) ≡ 1 = omega arith in rw up (omega arith))
      | inr none ↦ (let down : min 1 (n % p) ≡ 0 = omega arith in rw down (omega arith))
    ]

-- where there is a number, a block is not empty
pub block_size-some : (n p : ℕ) → 0 < p → 0 < n → 0 < block_size n p
block_size-some n p h some = positive p (block_size n p) n some (block_size-room n p h)
  where
    positive : (p b n : ℕ) → 0 < n → n ≤ p * b → 0 < b
    positive p zero n some room = absurd (omega arith)
    positive p (suc b) n some room = omega arith

-- the block in which a number lies, where blocks have b numbers
pub record Within (b p x q : ℕ) : Type 0 where
  pub piece : q < p
  pub from : q * b ≤ x
  pub to : x < q * b + b

pub quotient_within : (b p x : ℕ) → 0 < b → x < p * b → Within b p x (x / b)
quotient_within b p x some room =
    let rest : x % b < b = mod_below x b some in
    let whole : x ≡ x / b * b + x % b = omega arith in
    record { piece = div_below x b p some room; from = omega arith; to = omega arith }

next : (q b : ℕ) → (q + 1) * b ≡ q * b + b
next q b = omega arith

covered : (n p x : ℕ) → 0 < p → x < n → (q : ℕ) × (q < p) × IsIn x (block_of n p q)
covered n p x h within =
    let b : ℕ = block_size n p in
    let room : n ≤ p * b = block_size-room n p h in
    let some : 0 < b = block_size-some n p h (omega arith) in
    let at : Within b p x (x / b) = quotient_within b p x some (omega arith) in
    (x / b, at.piece, (omega (arith, at.from), omega (arith, at.to, next (x / b) b, within)))

ascending : (n p q r x y : ℕ) → q < r → IsIn x (block_of n p q) → IsIn y (block_of n p r) → x < y
ascending n p q r x y h left right =
    let b : ℕ = block_size n p in
    let up : (q + 1) * b ≤ r * b = mul-le (q + 1) b r b (omega arith) (omega arith) in
    omega (arith, left.1, right.0, up)

pub are_blocks : (n p : ℕ) → 0 < p → AreBlocks n p
are_blocks n p h = record {
  covers = λ x within. covered n p x h within;
  within = λ q x inside. omega (arith, inside.1);
  ascends = λ q r x y lt left right. ascending n p q r x y lt left right;
}

-- a block ends behind its beginning, within the extent
pub block_of-order : (n p q : ℕ) → ((block_of n p q).0 ≤ (block_of n p q).1) × ((block_of n p q).1 ≤ n)
block_of-order n p q =
    let b : ℕ = block_size n p in
    let up : q * b ≤ (q + 1) * b = mul-le q b (q + 1) b (omega arith) (omega arith) in
    (omega (arith, up), omega arith)
