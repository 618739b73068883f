-- The value of digits, read from the front.
use Rattle.std.proofs.Common.{◌≡◌, ℕ, ◌+◌, ◌-◌, ◌*◌, ◌^◌, ◌<◌, List, [], ◌∷◌, ◌++◌, length, take, get_or, true, arith, sym, ap, ◌∙◌, add-one, length-append}
use Rattle.std.proofs.lemmas.Grind.{common_steps}
use Rattle.std.proofs.lemmas.List.{take_more}
use Rattle.std.proofs.Math.Nat.{pow-suc}
use Rattle.dt_text.specs.Numbers.{digits_value, is_digit}

-- ten times as much for each digit behind
power_more : (xs : List ℕ) (d : ℕ) → 10 ^ length (xs ++ d ∷ []) ≡ 10 ^ length xs * 10
power_more xs d = ap (λ (k : ℕ). 10 ^ k) (length-append xs (d ∷ []) ∙ add-one (length xs)) ∙ pow-suc 10 (length xs)

-- one digit more at the end
pub digits_value-push : (ds : List ℕ) (d : ℕ) → digits_value (ds ++ d ∷ []) ≡ digits_value ds * 10 + (d - 48)
digits_value-push [] d = omega arith
digits_value-push (x ∷ xs) d = rw (power_more xs d, digits_value-push xs d) (omega arith)

-- a loop's step
pub digits_more : (ds : List ℕ) (i v d : ℕ) → i < length ds → d ≡ get_or ds i 0 - 48 → v ≡ digits_value (take i ds) → v * 10 + d ≡ digits_value (take (i + 1) ds)
digits_more ds i v d h e q = rw (e, q) (sym (ap (λ (x : List ℕ). digits_value x) (take_more ds i 0 h) ∙ digits_value-push (take i ds) (get_or ds i 0)))

-- fewer digits than i are below ten to the i
pub small_more : (i v d : ℕ) → d < 10 → v < 10 ^ i → v * 10 + d < 10 ^ (i + 1)
small_more i v d h e = rw (add-one, pow-suc 10 i) (omega arith)

-- a digit's value is below ten
pub digit_small : (b d : ℕ) → is_digit b ≡ true → d ≡ b - 48 → d < 10
digit_small b d h e = grind (arith, common_steps)
