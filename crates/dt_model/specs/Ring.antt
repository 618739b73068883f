-- The ring of the numbers below 2 ^ 64.
use Rattle.std.specs.Prelude.{ℕ, ◌+◌, ◌-◌, ◌*◌, ◌^◌, ◌%◌, List, Bool, fold, if◌then◌else◌}

abbrev pub ring_add : ℕ → ℕ → ℕ
ring_add a b = (a + b) % 2 ^ 64

abbrev pub ring_mul : ℕ → ℕ → ℕ
ring_mul a b = (a * b) % 2 ^ 64

-- the number that gives 0 when it is added to a
abbrev pub ring_neg : ℕ → ℕ
ring_neg a = (2 ^ 64 - a) % 2 ^ 64

-- the ring's sum of a function over a list
abbrev pub ring_sum_by : {A : Type 0} → (A → ℕ) → List A → ℕ
ring_sum_by f xs = fold (λ s x. ring_add s (f x)) 0 xs

-- the ring's product of a function over a list
abbrev pub ring_product_by : {A : Type 0} → (A → ℕ) → List A → ℕ
ring_product_by f xs = fold (λ p x. ring_mul p (f x)) 1 xs

-- a number, or its negative
abbrev pub ring_signed : Bool → ℕ → ℕ
ring_signed minus a = if minus then ring_neg a else a
