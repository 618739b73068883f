-- States, what an operation does at a cell, and what it means that a unit keeps to that.
use Rattle.std.specs.Prelude.{◌≡◌, ◌⊎◌, ℕ, ◌+◌, ◌%◌, ◌^◌, Bool, true, false, Option, Some, None, is_some}

-- the number in each cell that is present
abbrev pub StateOf : Type 0 → Type 0
StateOf C = C → Option ℕ

-- what an operation does at a cell
pub data Mode : Type 0 where
  Untouched : Mode
  Reads : Mode
  Writes : Mode
  Folds : Mode

-- whether two operations may not change places at a cell: one writes or folds there what the other touches, and they don't both fold
abbrev pub clash : Mode → Mode → Bool
clash Untouched m = false
clash Reads Untouched = false
clash Reads Reads = false
clash Reads Writes = true
clash Reads Folds = true
clash Writes Untouched = false
clash Writes Reads = true
clash Writes Writes = true
clash Writes Folds = true
clash Folds Untouched = false
clash Folds Reads = true
clash Folds Writes = true
clash Folds Folds = false

-- the number that is d more, modulo 2 ^ 64, where there is one
abbrev pub grown : ℕ → Option ℕ → Option ℕ
grown d None = None
grown d (Some v) = Some ((v + d) % 2 ^ 64)

-- a cell that is touched is present in both states or in neither
abbrev pub PresentAt : Mode → Option ℕ → Option ℕ → Type 0
PresentAt Untouched x y = Unit {0}
PresentAt Reads x y = is_some x ≡ is_some y
PresentAt Writes x y = is_some x ≡ is_some y
PresentAt Folds x y = is_some x ≡ is_some y

-- a cell that is read or written is the same in both states
abbrev pub InputAt : Mode → Option ℕ → Option ℕ → Type 0
InputAt Untouched x y = Unit {0}
InputAt Reads x y = x ≡ y
InputAt Writes x y = x ≡ y
InputAt Folds x y = Unit {0}

-- a cell looks alike to an operation: the same where it reads or writes, present in both states or in neither where it folds
abbrev pub AlikeAt : Mode → Option ℕ → Option ℕ → Type 0
AlikeAt Untouched x y = Unit {0}
AlikeAt Reads x y = x ≡ y
AlikeAt Writes x y = x ≡ y
AlikeAt Folds x y = is_some x ≡ is_some y

-- What a unit makes of a cell in two states with the same inputs, where x becomes xx and y becomes yy. What it doesn't write or
-- fold stays; what it writes is the same in both; what it folds stays in both or grows in both by one amount.
abbrev pub EffectAt : Mode → (x xx y yy : Option ℕ) → Type 0
EffectAt Untouched x xx y yy = (xx ≡ x) × (yy ≡ y)
EffectAt Reads x xx y yy = (xx ≡ x) × (yy ≡ y)
EffectAt Writes x xx y yy = xx ≡ yy
EffectAt Folds x xx y yy = ((xx ≡ x) × (yy ≡ y)) ⊎ ((d : ℕ) × (xx ≡ grown d x) × (yy ≡ grown d y))

-- each touched cell is present in both states or in neither
abbrev pub SamePresence : {C : Type 0} → (C → Mode) → StateOf C → StateOf C → Type 0
SamePresence {C} mode s t = (c : C) → PresentAt (mode c) (s c) (t c)

-- each cell that is read or written is the same in both states
abbrev pub SameInputs : {C : Type 0} → (C → Mode) → StateOf C → StateOf C → Type 0
SameInputs {C} mode s t = (c : C) → InputAt (mode c) (s c) (t c)

-- two states look alike to an operation
pub record AreAlike {C : Type 0} (mode : C → Mode) (s t : StateOf C) : Type 0 where
  pub each : (c : C) → AlikeAt (mode c) (s c) (t c)

-- A unit keeps to the modes of its operation: whether it is defined depends on which touched cells are present, and its effect on
-- what is read or written.
pub record IsFramed {C : Type 0} (mode : C → Mode) (can : StateOf C → Bool) (next : StateOf C → StateOf C) : Type 0 where
  pub defined : (s t : StateOf C) → SamePresence mode s t → can s ≡ can t
  pub effect : (s t : StateOf C) → SameInputs mode s t → (c : C) → EffectAt (mode c) (s c) (next s c) (t c) (next t c)

-- two operations meet at no cell
abbrev pub AreApart : {C : Type 0} → (C → Mode) → (C → Mode) → Type 0
AreApart {C} m n = (c : C) → clash (m c) (n c) ≡ false
