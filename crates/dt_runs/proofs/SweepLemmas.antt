-- A sweep over two lists of intervals: what holds between two changes.
use Rattle.std.proofs.Common.{◌≡◌, ℕ, zero, suc, ◌+◌, ◌-◌, ◌<◌, ◌≤◌, ◌^◌, List, [], ◌∷◌, ◌++◌, length, refl, ap, ◌∙◌, sym, arith, subst, Bool, true, false, not, ◌&&◌, ◌||◌, nat_le, nat_lt, max, get_or, inl, inr, ◌⊎◌}
use Rattle.std.specs.List.{filter, All, list_any}
use Rattle.std.specs.List.Sorted.{IsStrictlyIncreasing}
use Rattle.std.proofs.lemmas.Bool.Decides.{nat_tests, leb_tells}
use Rattle.std.proofs.lemmas.List.Elements.{filter-append, All-filter}
use Rattle.std.proofs.lemmas.List.{append-nil}
use Rattle.dt_runs.specs.declared.interval.Interval.{Interval}
use Rattle.dt_runs.specs.declared.combine.Combination.{Combination}
use Rattle.dt_runs.specs.declared.combine.Combination.TheVariants.{Both, OnlyLeft, Either}
use Rattle.dt_runs.specs.Combination.{keeps_of, is_begun, change_after, past_of}
use Rattle.dt_runs.specs.Intervals.{ascending, range, numbers_of, IsApart}
use Rattle.dt_runs.specs.Sets.{contains}
use Rattle.dt_runs.proofs.RangeLemmas.{range-append, All-range}
use Rattle.dt_runs.proofs.SetLemmas.{contains-append, contains-range, contains-filter, Ascends, Ascends-lower, Ascends-ascending, Ascends-filter, strictly_increasing_from_ascends, filter_by_contains, list_any-some, list_any-none}

-- whether a number is in one of the intervals
abbrev pub covers : List Interval → ℕ → Bool
covers [] x = false
covers (i ∷ is) x = (nat_le i.first x && nat_lt x i.end) || covers is x

pub contains-numbers_of : (is : List Interval) (x : ℕ) → contains (numbers_of is) x ≡ covers is x
contains-numbers_of [] x = refl
contains-numbers_of (i ∷ is) x = contains-append (range i.first i.end) (numbers_of is) x ∙ grind (arith, contains-range i.first i.end x, contains-numbers_of is x)

pub Ascends-numbers_of : (low : ℕ) (is : List Interval) → IsApart low is → Ascends low (numbers_of is)
Ascends-numbers_of low [] a = tt
Ascends-numbers_of low (i ∷ is) a =
    Ascends-lower low i.first (numbers_of (i ∷ is)) a.0 (Ascends-ascending i.first (i.end - i.first) (numbers_of is)
    (Ascends-lower (i.first + (i.end - i.first)) (suc i.end) (numbers_of is) (omega arith) (Ascends-numbers_of (suc i.end) is a.2)))

-- the intervals are apart, and the first ends after the number
abbrev pub IsAhead : ℕ → List Interval → Type 0
IsAhead at [] = Unit {0}
IsAhead at (i ∷ is) = (at < i.end) × (i.first < i.end) × IsApart (suc i.end) is

pub covers-below : (low : ℕ) (is : List Interval) (x : ℕ) → IsApart low is → x < low → covers is x ≡ false
covers-below low [] x a lt = refl
covers-below low (i ∷ is) x a lt = grind (arith, nat_tests, covers-below (suc i.end) is x a.2 (omega arith))

pub IsAhead-start : (is : List Interval) → IsApart 0 is → IsAhead 0 is
IsAhead-start [] a = tt
IsAhead-start (i ∷ is) a = (omega arith, a.1, a.2)

pub at_lt-change_after : (at : ℕ) (i : Interval) (is : List Interval) → IsAhead at (i ∷ is) → at < change_after (i ∷ is) at
at_lt-change_after at i is a = grind (arith, nat_tests)

-- up to the next change, the first interval has a number exactly where it has begun
pub covers-unchanged : (is : List Interval) (at x : ℕ) → IsAhead at is → at ≤ x → x < change_after is at → covers is x ≡ is_begun is at
covers-unchanged [] at x a le lt = refl
covers-unchanged (i ∷ is) at x a le lt = grind (arith, nat_tests, covers-below (suc i.end) is x a.2)

IsAhead-apart : (at end : ℕ) (is : List Interval) → end ≤ at → IsApart (suc at) is → IsAhead end is
IsAhead-apart at end [] le a = tt
IsAhead-apart at end (i ∷ is) le a = (omega arith, a.1, a.2)

change_after-le : (at : ℕ) (i : Interval) (is : List Interval) → IsAhead at (i ∷ is) → change_after (i ∷ is) at ≤ i.end
change_after-le at i is a = grind (arith, nat_tests)

pub IsAhead-past : (is : List Interval) (at end : ℕ) → IsAhead at is → end ≤ change_after is at → IsAhead end (past_of is end)
IsAhead-past [] at end a le = tt
IsAhead-past (i ∷ is) at end a le = elim (leb_tells i.end end) [
  | inl h ↦ rw h.0 (IsAhead-apart i.end end is (omega (arith, change_after-le at i is a)) a.2)
  | inr h ↦ rw h.0 (h.1, a.1, a.2)
]

pub covers-past : (is : List Interval) (end x : ℕ) → end ≤ x → covers is x ≡ covers (past_of is end) x
covers-past [] end x le = refl
covers-past (i ∷ is) end x le = grind (arith, nat_tests)

filter-all : (p : ℕ → Bool) (a n : ℕ) → ((x : ℕ) → a ≤ x → x < a + n → p x ≡ true) → filter p (ascending a n) ≡ ascending a n
filter-all p a zero all = refl
filter-all p a (suc n) all =
    rw (all a (omega arith) (omega arith)) (ap {B = List ℕ} (λ xs. a ∷ xs) (filter-all p (suc a) n (λ x low high. all x (omega arith) (omega arith))))

filter-none : (p : ℕ → Bool) (a n : ℕ) → ((x : ℕ) → a ≤ x → x < a + n → p x ≡ false) → filter p (ascending a n) ≡ []
filter-none p a zero none = refl
filter-none p a (suc n) none =
    rw (none a (omega arith) (omega arith)) (filter-none p (suc a) n (λ x low high. none x (omega arith) (omega arith)))

-- whether a combination keeps a number of these intervals
abbrev pub is_kept : Combination → List Interval → List Interval → ℕ → Bool
is_kept how left right x = keeps_of how (covers left x) (covers right x)

-- below the number `at` all that is to be kept has been kept, and from there on the two rests have what the two lists have
pub record IsSwept (how : Combination) (left right left_rest right_rest : List Interval) (at : ℕ) (kept : List ℕ) : Type 0 where
  pub left_ahead : IsAhead at left_rest
  pub right_ahead : IsAhead at right_rest
  pub left_same : (x : ℕ) → at ≤ x → covers left x ≡ covers left_rest x
  pub right_same : (x : ℕ) → at ≤ x → covers right x ≡ covers right_rest x
  pub so_far : kept ≡ filter (is_kept how left right) (range 0 at)

pub IsSwept-start : (how : Combination) (left right : List Interval) → IsApart 0 left → IsApart 0 right → IsSwept how left right left right 0 []
IsSwept-start how left right a b = record {
  left_ahead = IsAhead-start left a;
  right_ahead = IsAhead-start right b;
  left_same = λ x le. refl;
  right_same = λ x le. refl;
  so_far = refl;
}

-- between two changes each number is kept, or none is
is_kept-unchanged : (how : Combination) (left right lr rr : List Interval) (at end : ℕ) (kept : List ℕ) → IsSwept how left right lr rr at kept
    → end ≤ change_after lr at → end ≤ change_after rr at → (x : ℕ) → at ≤ x → x < end
    → is_kept how left right x ≡ keeps_of how (is_begun lr at) (is_begun rr at)
is_kept-unchanged how left right lr rr at end kept s l r x low high =
    let in_left = s.left_same x low ∙ covers-unchanged lr at x s.left_ahead low (omega arith) in
    let in_right = s.right_same x low ∙ covers-unchanged rr at x s.right_ahead low (omega arith) in
    ap (λ b. keeps_of how b (covers right x)) in_left ∙ ap (λ b. keeps_of how (is_begun lr at) b) in_right

-- the state after the next change
IsSwept-past : (how : Combination) (left right lr rr : List Interval) (at end : ℕ) (kept more : List ℕ) → IsSwept how left right lr rr at kept
    → at ≤ end → end ≤ change_after lr at → end ≤ change_after rr at
    → more ≡ filter (is_kept how left right) (range 0 end)
    → IsSwept how left right (past_of lr end) (past_of rr end) end more
IsSwept-past how left right lr rr at end kept more s le l r so_far = record {
  left_ahead = IsAhead-past lr at end s.left_ahead l;
  right_ahead = IsAhead-past rr at end s.right_ahead r;
  left_same = λ x h. s.left_same x (omega arith) ∙ covers-past lr end x h;
  right_same = λ x h. s.right_same x (omega arith) ∙ covers-past rr end x h;
  so_far = so_far;
}

pub IsSwept-kept : (how : Combination) (left right lr rr : List Interval) (at end : ℕ) (kept : List ℕ) → IsSwept how left right lr rr at kept
    → at ≤ end → end ≤ change_after lr at → end ≤ change_after rr at → keeps_of how (is_begun lr at) (is_begun rr at) ≡ true
    → IsSwept how left right (past_of lr end) (past_of rr end) end (kept ++ range at end)
IsSwept-kept how left right lr rr at end kept s le l r keeps =
    let p = is_kept how left right in
    let between : filter p (range at end) ≡ range at end =
    filter-all p at (end - at) (λ x low high. is_kept-unchanged how left right lr rr at end kept s l r x low (omega arith) ∙ keeps) in
    IsSwept-past how left right lr rr at end kept (kept ++ range at end) s le l r
    (ap (λ xs. xs ++ range at end) s.so_far ∙ ap (λ xs. filter p (range 0 at) ++ xs) (sym between)
    ∙ sym (filter-append p (range 0 at) (range at end)) ∙ ap (λ xs. filter p xs) (range-append 0 at end (omega arith) le))

pub IsSwept-skipped : (how : Combination) (left right lr rr : List Interval) (at end : ℕ) (kept : List ℕ) → IsSwept how left right lr rr at kept
    → at ≤ end → end ≤ change_after lr at → end ≤ change_after rr at → keeps_of how (is_begun lr at) (is_begun rr at) ≡ false
    → IsSwept how left right (past_of lr end) (past_of rr end) end kept
IsSwept-skipped how left right lr rr at end kept s le l r skips =
    let p = is_kept how left right in
    let between : filter p (range at end) ≡ [] =
    filter-none p at (end - at) (λ x low high. is_kept-unchanged how left right lr rr at end kept s l r x low (omega arith) ∙ skips) in
    IsSwept-past how left right lr rr at end kept kept s le l r
    (s.so_far ∙ sym (append-nil (filter p (range 0 at))) ∙ ap (λ xs. filter p (range 0 at) ++ xs) (sym between)
    ∙ sym (filter-append p (range 0 at) (range at end)) ∙ ap (λ xs. filter p xs) (range-append 0 at end (omega arith) le))

-- what was kept is below where the sweep stands
pub All-swept : (how : Combination) (left right lr rr : List Interval) (at : ℕ) (kept : List ℕ) → IsSwept how left right lr rr at kept → All (λ x. x < at) kept
All-swept how left right lr rr at kept s =
    subst (λ xs. All (λ x. x < at) xs) (sym s.so_far) (All-filter (is_kept how left right) (λ x. x < at) (range 0 at) (All-range 0 at at (omega arith)))

-- the next change comes later
pub at_lt-end : (lr rr : List Interval) (at : ℕ) → IsAhead at lr → IsAhead at rr → change_after lr at < 2 ^ 32 → change_after rr at < 2 ^ 32
    → (length lr ≡ 0 → length rr ≡ 0 → ⊥) → (at < change_after lr at) × (at < change_after rr at)
at_lt-end [] [] at a b l r some = absurd (some refl refl)
at_lt-end [] (j ∷ js) at a b l r some = let right = at_lt-change_after at j js b in (omega arith, right)
at_lt-end (i ∷ is) [] at a b l r some = let left = at_lt-change_after at i is a in (left, omega arith)
at_lt-end (i ∷ is) (j ∷ js) at a b l r some = (at_lt-change_after at i is a, at_lt-change_after at j js b)

keeps_of-neither : (how : Combination) → keeps_of how false false ≡ false
keeps_of-neither Both = refl
keeps_of-neither OnlyLeft = refl
keeps_of-neither Either = refl

-- at the end the numbers that were kept ascend, and are those that the combination keeps

pub Ascends-swept : (how : Combination) (left right lr rr : List Interval) (at : ℕ) (kept : List ℕ) → IsSwept how left right lr rr at kept → IsStrictlyIncreasing kept
Ascends-swept how left right lr rr at kept s =
    let p = is_kept how left right in
    let ascends : Ascends 0 (range 0 at) = subst (λ xs. Ascends 0 xs) (append-nil (range 0 at)) (Ascends-ascending 0 (at - 0) [] tt) in
    subst IsStrictlyIncreasing (sym s.so_far) (strictly_increasing_from_ascends 0 (filter p (range 0 at)) (Ascends-filter p 0 (range 0 at) ascends))

contains-swept_all : (how : Combination) (left right : List Interval) (at : ℕ) (kept : List ℕ) → IsSwept how left right [] [] at kept
    → (x : ℕ) → contains kept x ≡ keeps_of how (contains (numbers_of left) x) (contains (numbers_of right) x)
contains-swept_all how left right at kept s x =
    let p = is_kept how left right in
    let both : keeps_of how (contains (numbers_of left) x) (contains (numbers_of right) x) ≡ p x =
    ap (λ b. keeps_of how b (contains (numbers_of right) x)) (contains-numbers_of left x) ∙ ap (λ b. keeps_of how (covers left x) b) (contains-numbers_of right x) in
    let past : at ≤ x → p x ≡ false = λ le. ap (λ b. keeps_of how b (covers right x)) (s.left_same x le) ∙ ap (λ b. keeps_of how false b) (s.right_same x le) ∙ keeps_of-neither how in
    ap (λ xs. contains xs x) s.so_far ∙ contains-filter p (range 0 at) x ∙ kept_below x at (p x) past ∙ sym both
  where
    kept_below : (x at : ℕ) (b : Bool) → (at ≤ x → b ≡ false) → (contains (range 0 at) x && b) ≡ b
    kept_below x at b past = grind (arith, nat_tests, contains-range 0 at x)

pub contains-swept : (how : Combination) (left right lr rr : List Interval) (at : ℕ) (kept : List ℕ) → IsSwept how left right lr rr at kept
    → length lr ≡ 0 → length rr ≡ 0 → (x : ℕ) → contains kept x ≡ keeps_of how (contains (numbers_of left) x) (contains (numbers_of right) x)
contains-swept how left right [] [] at kept s a b x = contains-swept_all how left right at kept s x
contains-swept how left right [] (j ∷ js) at kept s a b x = absurd (omega arith)
contains-swept how left right (i ∷ is) rr at kept s a b x = absurd (omega arith)

pub meet_is : (left right : List Interval) (self other runs : List ℕ) → IsApart 0 left → numbers_of left ≡ self → numbers_of right ≡ other → IsStrictlyIncreasing runs
    → ((x : ℕ) → contains runs x ≡ keeps_of Both (contains (numbers_of left) x) (contains (numbers_of right) x)) → runs ≡ filter (contains other) self
meet_is left right self other runs apart a b up members =
    rw (← a, ← b) (filter_by_contains (contains (numbers_of right)) runs (numbers_of left) (Ascends-numbers_of 0 left apart) up members)

pub minus_is : (left right : List Interval) (self other runs : List ℕ) → IsApart 0 left → numbers_of left ≡ self → numbers_of right ≡ other → IsStrictlyIncreasing runs
    → ((x : ℕ) → contains runs x ≡ keeps_of OnlyLeft (contains (numbers_of left) x) (contains (numbers_of right) x)) → runs ≡ filter (λ x. not (contains other x)) self
minus_is left right self other runs apart a b up members =
    rw (← a, ← b) (filter_by_contains (λ x. not (contains (numbers_of right) x)) runs (numbers_of left) (Ascends-numbers_of 0 left apart) up members)

-- Whether two lists of intervals have a number in common.

-- what two lists have in common, their rests have
pub record HaveCommon (left right left_rest right_rest : List Interval) : Type 0 where
  pub left_apart : IsApart 0 left_rest
  pub right_apart : IsApart 0 right_rest
  pub same : (x : ℕ) → (covers left x && covers right x) ≡ (covers left_rest x && covers right_rest x)

-- intervals that lie apart from a bound do so from a lower one
pub IsApart-lower : (low high : ℕ) (is : List Interval) → low ≤ high → IsApart high is → IsApart low is
IsApart-lower low high [] le a = tt
IsApart-lower low high (i ∷ is) le a = (omega arith, a.1, a.2)

IsApart-past : (low bound : ℕ) (is : List Interval) → IsApart low is → IsApart low (past_of is bound)
IsApart-past low bound [] a = tt
IsApart-past low bound (i ∷ is) a = elim (leb_tells i.end bound) [
  | inl h ↦ rw h.0 (IsApart-lower low (suc i.end) is (omega arith) a.2)
  | inr h ↦ rw h.0 a
]

-- intervals that end before all of another list have nothing in common with it
common-past : (bound : ℕ) (is js : List Interval) (x : ℕ) → IsApart bound js → (covers is x && covers js x) ≡ (covers (past_of is bound) x && covers js x)
common-past bound [] js x a = refl
common-past bound (i ∷ is) js x a = grind (arith, nat_tests, covers-below bound js x a)

HaveCommon-past : (left right : List Interval) (i : Interval) (is : List Interval) (j : Interval) (js : List Interval) → HaveCommon left right (i ∷ is) (j ∷ js)
    → HaveCommon left right (past_of (i ∷ is) j.first) (past_of (j ∷ js) i.first)
HaveCommon-past left right i is j js h =
    let left_apart : IsApart i.first (i ∷ is) = (omega arith, h.left_apart.1, h.left_apart.2) in
    let right_apart : IsApart j.first (j ∷ js) = (omega arith, h.right_apart.1, h.right_apart.2) in
    record {
      left_apart = IsApart-past 0 j.first (i ∷ is) h.left_apart;
      right_apart = IsApart-past 0 i.first (j ∷ js) h.right_apart;
      same = λ x. h.same x ∙ and_comm (covers (i ∷ is) x) (covers (j ∷ js) x)
          ∙ common-past i.first (j ∷ js) (i ∷ is) x left_apart
          ∙ and_comm (covers (past_of (j ∷ js) i.first) x) (covers (i ∷ is) x)
          ∙ common-past j.first (i ∷ is) (past_of (j ∷ js) i.first) x (IsApart-past j.first i.first (j ∷ js) right_apart);
    }
  where
    and_comm : (a b : Bool) → (a && b) ≡ (b && a)
    and_comm a b = grind arith

pub HaveCommon-on : (left right lr rr : List Interval) (d e : Interval) → HaveCommon left right lr rr → 0 < length lr → 0 < length rr
    → HaveCommon left right (past_of lr (get_or rr 0 e).first) (past_of rr (get_or lr 0 d).first)
HaveCommon-on left right [] rr d e h a b = absurd (omega arith)
HaveCommon-on left right (i ∷ is) [] d e h a b = absurd (omega arith)
HaveCommon-on left right (i ∷ is) (j ∷ js) d e h a b = HaveCommon-past left right i is j js h

pub covers-first : (i : Interval) (is : List Interval) (x : ℕ) → i.first ≤ x → x < i.end → covers (i ∷ is) x ≡ true
covers-first i is x le lt = grind (arith, nat_tests)

-- a number in both rests is in both lists
list_any-common : (left right lr rr : List Interval) (x : ℕ) → HaveCommon left right lr rr → covers lr x ≡ true → covers rr x ≡ true
    → list_any (contains (numbers_of right)) (numbers_of left) ≡ true
list_any-common left right lr rr x h a b =
    let both : (covers left x && covers right x) ≡ true = h.same x ∙ ap (λ z. z && covers rr x) a ∙ b in
    list_any-some (contains (numbers_of right)) (numbers_of left) x
    (contains-numbers_of left x ∙ and_left (covers left x) (covers right x) both)
    (contains-numbers_of right x ∙ and_right (covers left x) (covers right x) both)
  where
    and_left : (a b : Bool) → (a && b) ≡ true → a ≡ true
    and_left a b h = grind arith

    and_right : (a b : Bool) → (a && b) ≡ true → b ≡ true
    and_right a b h = grind arith

-- first intervals that overlap have a number in common
pub list_any-overlap : (left right lr rr : List Interval) (d e : Interval) → HaveCommon left right lr rr → 0 < length lr → 0 < length rr
    → (get_or lr 0 d).first < (get_or rr 0 e).end → (get_or rr 0 e).first < (get_or lr 0 d).end
    → list_any (contains (numbers_of right)) (numbers_of left) ≡ true
list_any-overlap left right [] rr d e h a b over under = absurd (omega arith)
list_any-overlap left right (i ∷ is) [] d e h a b over under = absurd (omega arith)
list_any-overlap left right (i ∷ is) (j ∷ js) d e h a b over under =
    let x = max i.first j.first in
    let in_left : x < i.end = omega arith in
    let in_right : x < j.end = omega arith in
    list_any-common left right (i ∷ is) (j ∷ js) x h (covers-first i is x (omega arith) in_left) (covers-first j js x (omega arith) in_right)

pub list_any-apart : (left right lr rr : List Interval) → HaveCommon left right lr rr → (length lr ≡ 0) ⊎ (length rr ≡ 0)
    → list_any (contains (numbers_of right)) (numbers_of left) ≡ false
list_any-apart left right lr rr h over =
    list_any-none (contains (numbers_of right)) (numbers_of left)
    (λ x. ap (λ b. b && contains (numbers_of right) x) (contains-numbers_of left x) ∙ ap (λ b. covers left x && b) (contains-numbers_of right x) ∙ h.same x ∙ nothing_left lr rr x over)
  where
    nothing_left : (lr rr : List Interval) (x : ℕ) → (length lr ≡ 0) ⊎ (length rr ≡ 0) → (covers lr x && covers rr x) ≡ false
    nothing_left [] rr x over = refl
    nothing_left (i ∷ is) [] x over = grind arith
    nothing_left (i ∷ is) (j ∷ js) x over = absurd (omega arith)
