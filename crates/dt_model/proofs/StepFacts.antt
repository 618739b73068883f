-- Readings in steps that give a value.
use Rattle.std.proofs.Common.{◌≡◌, Result, Ok, Err, refl}
use Rattle.dt_model.specs.declared.cause.Cause.{Cause}
use Rattle.dt_model.specs.Steps.{◌>>=◌}

-- a reading that gives a value has its first step's value
pub first_ok : {A B : Type 0} (r : Result A Cause) (f : A → Result B Cause) (y : B) → (r >>= f) ≡ Ok y → (x : A) × (r ≡ Ok x) × (f x ≡ Ok y)
first_ok (Ok x) f y h = (x, refl, h)
first_ok (Err e) f y h = cc

-- two readings that give values give the same value
abbrev pub GivesSame : {A : Type 0} → A → A → Type 0
GivesSame {A} x y = ◌≡◌ {A = Result A Cause} (Ok x) (Ok y)

-- So the values are one.
pub same_ok : {A : Type 0} (x y : A) → GivesSame x y → x ≡ y
same_ok x y h = cc
