-- A list of operations, and its states by counts of units.
use Rattle.std.specs.Prelude.{ℕ, zero, suc, Bool}
use Rattle.dt_argument.specs.Frames.{Mode, StateOf}

-- Operations in a list, by their numbers from 0. Each has a number of units, a mode at each cell, and for each of its units, from 1,
-- a test whether a state defines it and what it makes of the state. Conflicts and events are given apart.
pub record Listing (C : Type 0) : Type 0 where
  pub count : ℕ
  pub units : ℕ → ℕ
  pub conflict : ℕ → ℕ → Bool
  pub event : ℕ → ℕ → Bool
  pub mode : ℕ → C → Mode
  pub can : ℕ → ℕ → StateOf C → Bool
  pub next : ℕ → ℕ → StateOf C → StateOf C
  pub opening : StateOf C

-- the state after the first k units of an operation
abbrev pub after_units : {C : Type 0} → Listing C → ℕ → ℕ → StateOf C → StateOf C
after_units l a zero s = s
after_units l a (suc k) s = l.next a (suc k) (after_units l a k s)

-- the state after so many units of each of the first n operations, operation by operation
abbrev pub after_ops : {C : Type 0} → Listing C → ℕ → (ℕ → ℕ) → StateOf C
after_ops l zero done = l.opening
after_ops l (suc n) done = after_units l n (done n) (after_ops l n done)

-- the state by counts: after so many units of each operation, in the order of the list
abbrev pub state_at : {C : Type 0} → Listing C → (ℕ → ℕ) → StateOf C
state_at l done = after_ops l l.count done

-- the state in which the list comes to the unit after the first k of an operation
abbrev pub turn_of : {C : Type 0} → Listing C → ℕ → ℕ → StateOf C
turn_of l a k = after_units l a k (after_ops l a l.units)
