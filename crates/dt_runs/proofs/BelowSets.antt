-- The numbers below n as a set.
use Rattle.std.proofs.Common.{◌≡◌, ℕ, ◌-◌, ◌<◌, ◌≤◌, List, [], refl, ap, sym, ◌∙◌, subst, arith, append-nil, Bool, true, ◌&&◌, nat_le, nat_lt}
use Rattle.std.specs.List.{All, filter}
use Rattle.std.specs.List.Sorted.{IsStrictlyIncreasing}
use Rattle.std.proofs.lemmas.Bool.{and_from, lt-ltb}
use Rattle.std.proofs.lemmas.Bool.Decides.{nat_tests}
use Rattle.std.proofs.lemmas.List.Elements.{All-filter}
use Rattle.dt_base.specs.Ranges.{below}
use Rattle.dt_runs.specs.Intervals.{ascending, range}
use Rattle.dt_runs.specs.Sets.{contains}
use Rattle.dt_runs.proofs.RangeLemmas.{All-range}
use Rattle.dt_runs.proofs.SetLemmas.{Ascends, Ascends-ascending, Ascends-filter, contains-filter, contains-range, strictly_increasing_from_ascends}
use Rattle.dt_runs.proofs.WholeBoxes.{range-below}

-- the numbers below n ascend
pub Ascends-below : (n : ℕ) → Ascends 0 (below n)
Ascends-below n =
    subst (λ (l : List ℕ). Ascends 0 l) (append-nil (ascending 0 (n - 0)) ∙ range-below n) (Ascends-ascending 0 (n - 0) [] tt)

-- and so do those of a range
pub range_ascends : (a b : ℕ) → IsStrictlyIncreasing (range a b)
range_ascends a b =
    strictly_increasing_from_ascends a (range a b) (subst (λ (l : List ℕ). Ascends a l) (append-nil (range a b)) (Ascends-ascending a (b - a) [] tt))

-- the set has exactly the numbers that are below n
pub contains-below : (n x : ℕ) → contains (below n) x ≡ nat_lt x n
contains-below n x = ap (λ (l : List ℕ). contains l x) (sym (range-below n)) ∙ contains-range 0 n x ∙ first (nat_lt x n) (nat_le 0 x) (grind (arith, nat_tests))
  where
    first : (b c : Bool) → c ≡ true → (c && b) ≡ b
    first b c h = rw h refl

-- numbers that pass a test ascend
pub filter_below-ascends : (p : ℕ → Bool) (n : ℕ) → IsStrictlyIncreasing (filter p (below n))
filter_below-ascends p n = strictly_increasing_from_ascends 0 (filter p (below n)) (Ascends-filter p 0 (below n) (Ascends-below n))

-- numbers below n that pass a test are below n
pub filter_below-small : (p : ℕ → Bool) (n m : ℕ) → n ≤ m → All (λ x. x < m) (filter p (below n))
filter_below-small p n m h = All-filter p (λ x. x < m) (below n) (subst (λ (l : List ℕ). All (λ x. x < m) l) (range-below n) (All-range 0 n m h))

-- a number that passes is among them
pub contains-passing : (p : ℕ → Bool) (n x : ℕ) → x < n → p x ≡ true → contains (filter p (below n)) x ≡ true
contains-passing p n x h t = contains-filter p (below n) x ∙ and_from (contains (below n) x) (p x) (contains-below n x ∙ lt-ltb x n h) t
