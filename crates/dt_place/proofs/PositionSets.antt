-- Positions that pass a test.
use Rattle.std.proofs.Common.{◌≡◌, ℕ, zero, suc, ◌+◌, ◌-◌, ◌≤◌, List, [], ◌∷◌, length, map, refl, ap, sym, ◌∙◌, arith, Some, None, is_some, Bool, true, false, cond, ◌&&◌, nat_le, nat_lt}
use Rattle.std.specs.List.{filter, filter_map, flat_map, list_any, position, position_or_len}
use Rattle.std.proofs.lemmas.Bool.{lt-ltb}
use Rattle.std.proofs.lemmas.Bool.Decides.{nat_tests}
use Rattle.dt_base.specs.Ranges.{below}
use Rattle.dt_base.specs.Rows.{row_major}
use Rattle.dt_runs.specs.Boxes.{box_numbers}
use Rattle.dt_runs.specs.Intervals.{ascending, range}
use Rattle.dt_runs.proofs.BelowSets.{Ascends-below, contains-below, range_ascends}
use Rattle.dt_runs.proofs.SetLemmas.{contains-range, filter_by_contains}
use Rattle.dt_text.proofs.Places.{list_any-place}

single_rows : (n a k : ℕ) → a + k ≤ n → filter_map (row_major (n ∷ [])) (flat_map (λ i. map (λ c. i ∷ c) ([] ∷ [])) (ascending a k)) ≡ ascending a k
single_rows n a zero h = refl
single_rows n a (suc k) h =
    let here : row_major (n ∷ []) (a ∷ []) ≡ Some a = rw (lt-ltb a n (omega arith)) (ap Some (omega arith)) in
    rw here (ap (λ (l : List ℕ). a ∷ l) (single_rows n (suc a) k (omega arith)))

-- an interval, as a box and as a test
pub interval_is : (n a b : ℕ) → a ≤ b → b ≤ n → box_numbers (n ∷ []) (a ∷ []) (b ∷ []) ≡ filter (λ x. nat_le a x && nat_lt x b) (below n)
interval_is n a b h k =
    single_rows n a (b - a) (omega arith)
    ∙ filter_by_contains (λ x. nat_le a x && nat_lt x b) (range a b) (below n) (Ascends-below n) (range_ascends a b) (λ x. contains-range a b x ∙ inner x ∙ ap (λ (c : Bool). c && (nat_le a x && nat_lt x b)) (sym (contains-below n x)))
  where
    inner : (x : ℕ) → (nat_le a x && nat_lt x b) ≡ (nat_lt x n && (nat_le a x && nat_lt x b))
    inner x = grind (arith, nat_tests)

-- a place is found where an element passes
pub is_some-position : {A : Type 0} (p : A → Bool) (xs : List A) → is_some (position p xs) ≡ list_any p xs
is_some-position p xs = tested (nat_lt (position_or_len p xs) (length xs)) (position_or_len p xs) ∙ sym (list_any-place p xs)
  where
    tested : (b : Bool) (k : ℕ) → is_some {T = ℕ} (cond b (Some k) None) ≡ b
    tested true k = refl
    tested false k = refl
