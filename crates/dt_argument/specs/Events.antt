-- Events: the pairs of operations that conflict with no operation between them that conflicts with both.
use Rattle.std.specs.Prelude.{◌≡◌, ℕ, zero, suc, ◌<◌, Bool, true, false, not, ◌&&◌, ◌||◌, List, map, filter, nat_eq, nat_lt}
use Rattle.std.specs.List.{flat_map, list_any}
use Rattle.dt_base.specs.Ranges.{below}

-- whether a test holds of some number below n
abbrev pub any_below : (ℕ → Bool) → ℕ → Bool
any_below test zero = false
any_below test (suc n) = test n || any_below test n

-- whether x is behind a and conflicts with both a and b
abbrev pub is_between : (ℕ → ℕ → Bool) → ℕ → ℕ → ℕ → Bool
is_between conflict a b x = nat_lt a x && (conflict a x && conflict x b)

-- whether a conflicts with b, and no operation between them conflicts with both
abbrev pub nearest : (ℕ → ℕ → Bool) → ℕ → ℕ → Bool
nearest conflict a b = conflict a b && not (any_below (is_between conflict a b) b)

-- the events among the first operations, ascending
abbrev pub events_among : (ℕ → ℕ → Bool) → ℕ → List (ℕ × ℕ)
events_among conflict count = flat_map (λ a. map (λ b. (a, b)) (filter (λ b. nat_lt a b && nearest conflict a b) (below count))) (below count)

-- whether a pair is in a list
abbrev pub is_listed : List (ℕ × ℕ) → ℕ → ℕ → Bool
is_listed pairs a b = list_any (λ (e : ℕ × ℕ). nat_eq e.0 a && nat_eq e.1 b) pairs

-- an event leads from an operation to one behind it
abbrev pub IsEvent : (ℕ → ℕ → Bool) → ℕ → ℕ → Type 0
IsEvent event a b = (a < b) × (event a b ≡ true)

-- events lead from a to b, one after another
pub data Chain (event : ℕ → ℕ → Bool) : ℕ → ℕ → Type 0 where
  Last : {a b : ℕ} → IsEvent event a b → Chain event a b
  Then : {a x b : ℕ} → IsEvent event a x → Chain event x b → Chain event a b
