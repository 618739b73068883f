-- The segments of a compressed level.
use Rattle.std.proofs.Common.{◌≡◌, ℕ, zero, suc, ◌+◌, ◌-◌, ◌<◌, ◌≤◌, List, [], ◌∷◌, length, take, drop, get_or, refl, ap, sym, ◌∙◌, arith, true, ◌&&◌, leb-true, eqb-true, add-one, ◌==◌, ◌^◌}
use Rattle.std.specs.Prelude.{nat_le, nat_lt, All}
use Rattle.std.specs.List.{list_all, slice_range, sum_by}
use Rattle.std.specs.List.Sorted.{IsStrictlyIncreasing}
use Rattle.std.proofs.lemmas.Bool.{and_parts}
use Rattle.std.proofs.lemmas.Bool.Decides.{nat_tests}
use Rattle.std.proofs.lemmas.List.{length-take-le, length-drop}
use Rattle.std.proofs.lemmas.List.Elements.{All-from_get_or, All-get_or}
use Rattle.std.proofs.lemmas.List.Sums.{sum_by-cons, sum_by_more_le}
use Rattle.dt_level.specs.Levels.{IsLevel, children_of, first_child}
use Rattle.dt_level.specs.Segments.{segments, never_falls, ascends, cuts_whole, are_parts}

-- a segment for each number of pos but the last
pub length-segments : (pos crd : List ℕ) → length (segments pos crd) ≡ length pos - 1
length-segments [] crd = refl
length-segments (a ∷ []) crd = refl
length-segments (a ∷ b ∷ rest) crd = omega (arith, length-segments (b ∷ rest) crd)

pub segment_at : (pos crd : List ℕ) (p : ℕ) → suc p < length pos → get_or (segments pos crd) p [] ≡ slice_range crd (get_or pos p 0) (get_or pos (suc p) 0)
segment_at [] crd p h = absurd (omega arith)
segment_at (a ∷ []) crd p h = absurd (omega arith)
segment_at (a ∷ b ∷ rest) crd zero h = refl
segment_at (a ∷ b ∷ rest) crd (suc p) h = segment_at (b ∷ rest) crd p (omega arith)

-- the next number is not less
pub next_le : (pos : List ℕ) (p : ℕ) → never_falls pos ≡ true → suc p < length pos → get_or pos p 0 ≤ get_or pos (suc p) 0
next_le [] p up h = absurd (omega arith)
next_le (a ∷ []) p up h = absurd (omega arith)
next_le (a ∷ b ∷ rest) zero up h = leb-true a b (and_parts _ _ up).0
next_le (a ∷ b ∷ rest) (suc p) up h = next_le (b ∷ rest) p (and_parts (nat_le a b) _ up).1 (omega arith)

-- the last number is that of the numbers behind the first
pub last_behind : (a b : ℕ) (rest : List ℕ) → get_or (a ∷ b ∷ rest) (length (a ∷ b ∷ rest) - 1) 0 ≡ get_or (b ∷ rest) (length (b ∷ rest) - 1) 0
last_behind a b rest =
    ap (λ (k : ℕ). get_or (a ∷ b ∷ rest) k 0) (let e : length (a ∷ b ∷ rest) - 1 ≡ suc (length (b ∷ rest) - 1) = omega arith in e)

-- no number is greater than the last
pub le_last : (pos : List ℕ) (p : ℕ) → never_falls pos ≡ true → p < length pos → get_or pos p 0 ≤ get_or pos (length pos - 1) 0
le_last [] p up h = absurd (omega arith)
le_last (a ∷ []) zero up h = omega arith
le_last (a ∷ []) (suc p) up h = absurd (omega arith)
le_last (a ∷ b ∷ rest) zero up h =
    let first = leb-true a b (and_parts _ _ up).0 in
    omega (arith, first, le_last (b ∷ rest) zero (and_parts (nat_le a b) _ up).1 (omega arith), last_behind a b rest)
le_last (a ∷ b ∷ rest) (suc p) up h =
    omega (arith, le_last (b ∷ rest) p (and_parts (nat_le a b) _ up).1 (omega arith), last_behind a b rest)

-- as many children as the segment's ends are apart
pub length-segment : (pos crd : List ℕ) (p : ℕ) → never_falls pos ≡ true → get_or pos (length pos - 1) 0 ≡ length crd → suc p < length pos
    → get_or pos p 0 + length (get_or (segments pos crd) p []) ≡ get_or pos (suc p) 0
length-segment pos crd p up end h =
    let le = next_le pos p up h in
    let within = le_last pos (suc p) up h in
    omega (arith, ap length (segment_at pos crd p h), length-take-le (get_or pos (suc p) 0 - get_or pos p 0) (drop (get_or pos p 0) crd) (omega (arith, length-drop (get_or pos p 0) crd)))

-- the segments before a place have the numbers before the one at which the next begins
pub length-before : (pos crd : List ℕ) (p : ℕ) → never_falls pos ≡ true → get_or pos (length pos - 1) 0 ≡ length crd → p < length pos
    → get_or pos 0 0 + sum_by length (take p (segments pos crd)) ≡ get_or pos p 0
length-before [] crd p up end h = absurd (omega arith)
length-before (a ∷ rest) crd zero up end h = omega arith
length-before (a ∷ []) crd (suc p) up end h = absurd (omega arith)
length-before (a ∷ b ∷ rest) crd (suc p) up end h =
    let le = leb-true a b (and_parts _ _ up).0 in
    let tail = (and_parts (nat_le a b) _ up).1 in
    let behind : get_or (b ∷ rest) (length (b ∷ rest) - 1) 0 ≡ length crd = sym (last_behind a b rest) ∙ end in
    let within = le_last (b ∷ rest) zero tail (omega arith) in
    omega (arith, length-before (b ∷ rest) crd p tail behind (omega arith), length-take-le (b - a) (drop a crd) (omega (arith, length-drop a crd)), sum_by-cons length (slice_range crd a b) (take p (segments (b ∷ rest) crd)))

-- all segments together are crd behind the first number
pub length-all : (pos crd : List ℕ) → never_falls pos ≡ true → get_or pos (length pos - 1) 0 ≡ length crd → 0 < length pos
    → get_or pos 0 0 + sum_by length (segments pos crd) ≡ length crd
length-all [] crd up end h = absurd (omega arith)
length-all (a ∷ []) crd up end h = omega (arith, end)
length-all (a ∷ b ∷ rest) crd up end h =
    let le = leb-true a b (and_parts _ _ up).0 in
    let tail = (and_parts (nat_le a b) _ up).1 in
    let behind : get_or (b ∷ rest) (length (b ∷ rest) - 1) 0 ≡ length crd = sym (last_behind a b rest) ∙ end in
    let within = le_last (b ∷ rest) zero tail (omega arith) in
    omega (arith, length-all (b ∷ rest) crd tail behind (omega arith), length-take-le (b - a) (drop a crd) (omega (arith, length-drop a crd)), sum_by-cons length (slice_range crd a b) (segments (b ∷ rest) crd))

-- each number is less than the next
next_lt : (xs : List ℕ) (k : ℕ) → ascends xs ≡ true → suc k < length xs → get_or xs k 0 < get_or xs (suc k) 0
next_lt [] k up h = absurd (omega arith)
next_lt (a ∷ []) k up h = absurd (omega arith)
next_lt (a ∷ b ∷ rest) zero up h = leb-true (suc a) b (and_parts _ _ up).0
next_lt (a ∷ b ∷ rest) (suc k) up h = next_lt (b ∷ rest) k (and_parts (nat_lt a b) _ up).1 (omega arith)

pub increasing_from_ascends : (xs : List ℕ) → ascends xs ≡ true → IsStrictlyIncreasing xs
increasing_from_ascends xs up k h = rw add-one (next_lt xs k up (omega arith))

ascends_at : (xss : List (List ℕ)) (i : ℕ) → list_all ascends xss ≡ true → i < length xss → ascends (get_or xss i []) ≡ true
ascends_at [] i up h = absurd (omega arith)
ascends_at (xs ∷ xss) zero up h = (and_parts _ _ up).0
ascends_at (xs ∷ xss) (suc i) up h = ascends_at xss i (and_parts (ascends xs) _ up).1 (omega arith)

pub increasing_at : (xss : List (List ℕ)) (i : ℕ) → list_all ascends xss ≡ true → i < length xss → IsStrictlyIncreasing (get_or xss i [])
increasing_at xss i up h = increasing_from_ascends _ (ascends_at xss i up h)

pub all_increasing : (xss : List (List ℕ)) → list_all ascends xss ≡ true → All IsStrictlyIncreasing xss
all_increasing xss up = All-from_get_or IsStrictlyIncreasing xss [] (λ i h. increasing_at xss i up h)

-- The tests, a number at a time.

pub never_falls-short : (xs : List ℕ) → length xs ≤ 1 → never_falls xs ≡ true
never_falls-short [] h = refl
never_falls-short (a ∷ []) h = refl
never_falls-short (a ∷ b ∷ rest) h = absurd (omega arith)

pub never_falls-step : (xs : List ℕ) → 1 < length xs → never_falls xs ≡ (nat_le (get_or xs 0 0) (get_or xs 1 0) && never_falls (drop 1 xs))
never_falls-step [] h = absurd (omega arith)
never_falls-step (a ∷ []) h = absurd (omega arith)
never_falls-step (a ∷ b ∷ rest) h = refl

pub ascends-short : (xs : List ℕ) → length xs ≤ 1 → ascends xs ≡ true
ascends-short [] h = refl
ascends-short (a ∷ []) h = refl
ascends-short (a ∷ b ∷ rest) h = absurd (omega arith)

pub ascends-step : (xs : List ℕ) → 1 < length xs → ascends xs ≡ (nat_lt (get_or xs 0 0) (get_or xs 1 0) && ascends (drop 1 xs))
ascends-step [] h = absurd (omega arith)
ascends-step (a ∷ []) h = absurd (omega arith)
ascends-step (a ∷ b ∷ rest) h = refl

pub segments-short : (pos crd : List ℕ) → length pos ≤ 1 → list_all ascends (segments pos crd) ≡ true
segments-short [] crd h = refl
segments-short (a ∷ []) crd h = refl
segments-short (a ∷ b ∷ rest) crd h = absurd (omega arith)

pub segments-step : (pos crd : List ℕ) → 1 < length pos
    → list_all ascends (segments pos crd) ≡ (ascends (slice_range crd (get_or pos 0 0) (get_or pos 1 0)) && list_all ascends (segments (drop 1 pos) crd))
segments-step [] crd h = absurd (omega arith)
segments-step (a ∷ []) crd h = absurd (omega arith)
segments-step (a ∷ b ∷ rest) crd h = refl

-- what stays of cutting whole behind the first number
pub cuts_behind : (pos : List ℕ) (count : ℕ) → 1 < length pos → never_falls pos ≡ true → get_or pos (length pos - 1) 0 ≡ count
    → (never_falls (drop 1 pos) ≡ true) × (get_or (drop 1 pos) (length (drop 1 pos) - 1) 0 ≡ count)
cuts_behind [] count h up end = absurd (omega arith)
cuts_behind (a ∷ []) count h up end = absurd (omega arith)
cuts_behind (a ∷ b ∷ rest) count h up end = ((and_parts (nat_le a b) _ up).1, sym (last_behind a b rest) ∙ end)

-- What the numbers of a level say.

-- the five conditions
pub conditions : (pos crd : List ℕ) → are_parts pos crd ≡ true
    → (0 < length pos) × (get_or pos 0 0 ≡ 0) × (get_or pos (length pos - 1) 0 ≡ length crd) × (never_falls pos ≡ true) × (list_all ascends (segments pos crd) ≡ true)
conditions pos crd h =
    let parts = and_parts (cuts_whole pos (length crd)) (list_all ascends (segments pos crd)) h in
    let up = and_parts ((nat_lt 0 (length pos) && (get_or pos 0 0 == 0)) && (get_or pos (length pos - 1) 0 == length crd)) (never_falls pos) parts.0 in
    let last = and_parts (nat_lt 0 (length pos) && (get_or pos 0 0 == 0)) (get_or pos (length pos - 1) 0 == length crd) up.0 in
    let first = and_parts (nat_lt 0 (length pos)) (get_or pos 0 0 == 0) last.0 in
    let a : nat_lt 0 (length pos) ≡ true = first.0 in
    let b : (get_or pos 0 0 == 0) ≡ true = first.1 in
    let c : (get_or pos (length pos - 1) 0 == length crd) ≡ true = last.1 in
    (grind (arith, nat_tests, a), eqb-true _ _ b, eqb-true _ _ c, up.1, parts.1)

pub from_is : (pos crd : List ℕ) (p : ℕ) → are_parts pos crd ≡ true → p < length (segments pos crd) → get_or pos p 0 ≡ first_child (segments pos crd) p
from_is pos crd p h lt =
    let f = conditions pos crd h in
    omega (arith, f.1, length-before pos crd p f.3 f.2 (omega (arith, length-segments pos crd)))

pub to_is : (pos crd : List ℕ) (p : ℕ) → are_parts pos crd ≡ true → p < length (segments pos crd)
    → get_or pos (p + 1) 0 ≡ first_child (segments pos crd) p + length (children_of (segments pos crd) p)
to_is pos crd p h lt =
    let f = conditions pos crd h in
    rw add-one (omega (arith, from_is pos crd p h lt, length-segment pos crd p f.3 f.2 (omega (arith, length-segments pos crd))))

pub to_within : (pos crd : List ℕ) (p : ℕ) → are_parts pos crd ≡ true → p < length (segments pos crd) → get_or pos (p + 1) 0 ≤ length crd
to_within pos crd p h lt =
    let f = conditions pos crd h in
    let le = le_last pos (p + 1) f.3 (omega (arith, length-segments pos crd)) in
    omega (arith, f.2)

pub parent_within : (pos crd : List ℕ) (p : ℕ) → p < length (segments pos crd) → p + 1 < length pos
parent_within pos crd p lt = omega (arith, length-segments pos crd)

pub children_are : (pos crd : List ℕ) (p : ℕ) → p < length (segments pos crd) → slice_range crd (get_or pos p 0) (get_or pos (p + 1) 0) ≡ children_of (segments pos crd) p
children_are pos crd p lt = rw add-one (sym (segment_at pos crd p (omega (arith, length-segments pos crd))))

pub parts_level : (pos crd : List ℕ) → are_parts pos crd ≡ true → length crd < 2 ^ 32 → IsLevel (segments pos crd)
parts_level pos crd h few =
    let f = conditions pos crd h in
    record {
      ascending = all_increasing _ f.4;
      numbered = omega (arith, f.1, length-all pos crd f.3 f.2 f.0, few);
    }

-- The segment of a parent, between these ends.

pub segment_lies : (pos crd : List ℕ) (p : ℕ) → are_parts pos crd ≡ true → (level : List (List ℕ)) → segments pos crd ≡ level → p < length level
    → (from : ℕ) → from ≡ first_child level p → (to : ℕ) → to ≡ first_child level p + length (children_of level p) → (from ≤ to) × (to ≤ length crd)
segment_lies pos crd p h level is lt from f to t =
    let within : p < length (segments pos crd) = omega (arith, ap length is, lt) in
    let first = ap (λ (l : List (List ℕ)). first_child l p) is in
    let both = ap (λ (l : List (List ℕ)). first_child l p + length (children_of l p)) is in
    (omega (arith, f, t), omega (arith, t, both, to_is pos crd p h within, to_within pos crd p h within))

pub segment_read : (pos crd : List ℕ) (p : ℕ) → are_parts pos crd ≡ true → (level : List (List ℕ)) → segments pos crd ≡ level → p < length level
    → (from : ℕ) → from ≡ first_child level p → (to : ℕ) → to ≡ first_child level p + length (children_of level p)
    → take (to - from) (drop from crd) ≡ children_of level p
segment_read pos crd p h level is lt from f to t =
    let within : p < length (segments pos crd) = omega (arith, ap length is, lt) in
    let first : from ≡ get_or pos p 0 = f ∙ sym (ap (λ (l : List (List ℕ)). first_child l p) is) ∙ sym (from_is pos crd p h within) in
    let last : to ≡ get_or pos (p + 1) 0 = t ∙ sym (ap (λ (l : List (List ℕ)). first_child l p + length (children_of l p)) is) ∙ sym (to_is pos crd p h within) in
    ap (λ (n : ℕ). take (to - n) (drop n crd)) first
    ∙ ap (λ (n : ℕ). take (n - get_or pos p 0) (drop (get_or pos p 0) crd)) last
    ∙ children_are pos crd p within
    ∙ ap (λ (l : List (List ℕ)). children_of l p) is

pub segment_lawful : (level : List (List ℕ)) (p : ℕ) → IsLevel level → p < length level → IsStrictlyIncreasing (children_of level p) × (length (children_of level p) < 2 ^ 32)
segment_lawful level p lawful h = (
  All-get_or IsStrictlyIncreasing level p [] h lawful.ascending,
  omega (arith, lawful.numbered, sum_by_more_le {X = List ℕ} length level p [] h),
)
