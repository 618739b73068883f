-- A tracker at its begin.
use Rattle.std.proofs.Common.{◌≡◌, ◌≢◌, ℕ, zero, suc, ◌+◌, ◌*◌, ◌<◌, ◌≤◌, Bool, true, false, not, ◌&&◌, ◌||◌, cond, nat_eq, List, [], ◌∷◌, ◌++◌, length, map, filter, take, replicate, get_or, slice_set, refl, ap, ap₂, sym, ◌∙◌, subst, arith, ⊎_elim, ◌⊎◌, inl, inr, length-set, get_or-set_same, get_or-set_other}
use Rattle.std.specs.List.{list_any}
use Rattle.std.proofs.lemmas.Bool.{cases_eq, cases_lt, eq-eqb, ne_eqb}
use Rattle.std.proofs.lemmas.Bool.Decides.{nat_tests}
use Rattle.std.proofs.lemmas.List.{append-nil, get_or_past, get_or_read, length-map, length-replicate, map-append, take_more}
use Rattle.std.proofs.lemmas.List.Elements.{filter-append}
use Rattle.dt_base.specs.Ranges.{below}
use Rattle.dt_base.proofs.Ranges.{length-below}
use Rattle.dt_tracker.specs.Tracks.{IsLawful, follows, followers_in, has_left}
use Rattle.dt_tracker.specs.Waiting.{AreReady, IsTracked, IsWaiting, one_if, times_from, times_in, waiting_of}
use Rattle.dt_tracker.proofs.Below.{at_below, set_changed, sum_one, sum_zero}
use Rattle.dt_tracker.proofs.Opens.{track_of}

if_kept : (e : ℕ × ℕ) (b : Bool) → map (λ (x : ℕ × ℕ). x.1) (cond b (e ∷ []) []) ≡ cond b (e.1 ∷ []) []
if_kept e true = refl
if_kept e false = refl

-- one more event
pub followers_more : (es : List (ℕ × ℕ)) (e : ℕ × ℕ) (a : ℕ) → followers_in (es ++ e ∷ []) a ≡ followers_in es a ++ cond (nat_eq e.0 a) (e.1 ∷ []) []
followers_more es e a =
    ap (map (λ (x : ℕ × ℕ). x.1)) (filter-append (λ (x : ℕ × ℕ). nat_eq x.0 a) es (e ∷ []))
    ∙ map-append (λ (x : ℕ × ℕ). x.1) (filter (λ (x : ℕ × ℕ). nat_eq x.0 a) es) (cond (nat_eq e.0 a) (e ∷ []) [])
    ∙ ap (λ (xs : List ℕ). followers_in es a ++ xs) (if_kept e (nat_eq e.0 a))

followers_here : (es : List (ℕ × ℕ)) (e : ℕ × ℕ) → followers_in (es ++ e ∷ []) e.0 ≡ followers_in es e.0 ++ e.1 ∷ []
followers_here es e = followers_more es e e.0 ∙ ap (λ (b : Bool). followers_in es e.0 ++ cond b (e.1 ∷ []) []) (eq-eqb e.0 e.0 refl)

followers_there : (es : List (ℕ × ℕ)) (e : ℕ × ℕ) (a : ℕ) → a ≢ e.0 → followers_in (es ++ e ∷ []) a ≡ followers_in es a
followers_there es e a ne =
    let other : nat_eq e.0 a ≡ false = grind (arith, nat_tests, ne) in
    followers_more es e a ∙ ap (λ (b : Bool). followers_in es a ++ cond b (e.1 ∷ []) []) other ∙ append-nil (followers_in es a)

pub rows_more : (events : List (ℕ × ℕ)) (n i : ℕ) (rows : List (List ℕ)) (row after : List ℕ) → i < length events → (get_or events i (0, 0)).0 < n
    → rows ≡ map (followers_in (take i events)) (below n) → row ≡ get_or rows (get_or events i (0, 0)).0 row → after ≡ row ++ (get_or events i (0, 0)).1 ∷ []
    → slice_set rows (get_or events i (0, 0)).0 after ≡ map (followers_in (take (i + 1) events)) (below n)
rows_more events n i rows row after h near e read new =
    let all : take (i + 1) events ≡ take i events ++ get_or events i (0, 0) ∷ [] = take_more events i (0, 0) h in
    let was : row ≡ followers_in (take i events) (get_or events i (0, 0)).0 =
    read ∙ ap (λ (rs : List (List ℕ)). get_or rs (get_or events i (0, 0)).0 row) e ∙ at_below (followers_in (take i events)) n (get_or events i (0, 0)).0 row near in
    let now : after ≡ followers_in (take i events ++ get_or events i (0, 0) ∷ []) (get_or events i (0, 0)).0 =
    new ∙ ap (λ (xs : List ℕ). xs ++ (get_or events i (0, 0)).1 ∷ []) was ∙ sym (followers_here (take i events) (get_or events i (0, 0))) in
    ap₂ (λ (rs : List (List ℕ)) (xs : List ℕ). slice_set rs (get_or events i (0, 0)).0 xs) e now
    ∙ set_changed (followers_in (take i events)) (followers_in (take i events ++ get_or events i (0, 0) ∷ [])) n (get_or events i (0, 0)).0 near
    (λ a ne. followers_there (take i events) (get_or events i (0, 0)) a ne)
    ∙ ap (λ (es : List (ℕ × ℕ)). map (followers_in es) (below n)) (sym all)

-- How many are waited for --------------------------------------------------------------------------------------------

times-append : (xs : List ℕ) (y b : ℕ) → times_in (xs ++ y ∷ []) b ≡ times_in xs b + one_if (nat_eq b y)
times-append [] y b = omega arith
times-append (x ∷ xs) y b = let rest = times-append xs y b in omega (arith, rest)

scaled : (h : Bool) (t u : ℕ) → one_if h * (t + u) ≡ one_if h * t + one_if h * u
scaled true t u = omega arith
scaled false t u = omega arith

module _ (units done : List ℕ) (es : List (ℕ × ℕ)) (e : ℕ × ℕ) (b : ℕ) (near : e.0 < length units) where
  row_is : (fs : List (ℕ × ℕ)) (a : ℕ) → a < length units → times_from units done (map (followers_in fs) (below (length units))) b a ≡ one_if (has_left units done a) * times_in (followers_in fs a) b
  row_is fs a l = ap (λ (xs : List ℕ). one_if (has_left units done a) * times_in xs b) (at_below (followers_in fs) (length units) a [] l)

  pub waits_more : waiting_of units done (map (followers_in (es ++ e ∷ [])) (below (length units))) b
      ≡ waiting_of units done (map (followers_in es) (below (length units))) b + one_if (has_left units done e.0) * one_if (nat_eq b e.1)
  waits_more =
      sum_one (times_from units done (map (followers_in es) (below (length units))) b) (times_from units done (map (followers_in (es ++ e ∷ [])) (below (length units))) b) (length units) e.0
      (one_if (has_left units done e.0) * one_if (nat_eq b e.1)) near
      (λ a l ne. row_is (es ++ e ∷ []) a l ∙ ap (λ (xs : List ℕ). one_if (has_left units done a) * times_in xs b) (followers_there es e a ne) ∙ sym (row_is es a l))
      (row_is (es ++ e ∷ []) e.0 near ∙ ap (λ (xs : List ℕ). one_if (has_left units done e.0) * times_in xs b) (followers_here es e)
      ∙ ap (λ (n : ℕ). one_if (has_left units done e.0) * n) (times-append (followers_in es e.0) e.1 b)
      ∙ scaled (has_left units done e.0) (times_in (followers_in es e.0) b) (one_if (nat_eq b e.1))
      ∙ ap (λ (n : ℕ). n + one_if (has_left units done e.0) * one_if (nat_eq b e.1)) (sym (row_is es e.0 near)))

times_none : (h : Bool) → one_if h * 0 ≡ 0
times_none h = omega arith

pub zero_get : (n b : ℕ) → ◌≡◌ {A = ℕ} (get_or (replicate n 0) b 0) 0
zero_get zero b = refl
zero_get (suc n) zero = refl
zero_get (suc n) (suc b) = zero_get n b

-- no event, none waited for
pub waits_for_none : (units done waiting : List ℕ) → waiting ≡ replicate (length units) 0 → IsWaiting units done [] waiting
waits_for_none units done waiting e = (
  ap length e ∙ length-replicate {A = ℕ} (length units) 0,
  λ b h. ap (λ (ws : List ℕ). get_or ws b 0) e ∙ zero_get (length units) b
      ∙ sym (sum_zero (times_from units done (map (followers_in []) (below (length units))) b) (length units)
      (λ a l. ap (λ (xs : List ℕ). one_if (has_left units done a) * times_in xs b) (at_below (followers_in []) (length units) a [] l) ∙ times_none (has_left units done a))),
)

most_one : (h : Bool) → one_if h ≤ 1
most_one true = omega arith
most_one false = omega arith

times_one : (h : Bool) → one_if h * 1 ≡ one_if h
times_one h = omega arith

module _ (units done : List ℕ) (events : List (ℕ × ℕ)) (waiting : List ℕ) (i v k : ℕ) (h : i < length events) (first : (get_or events i (0, 0)).0 < length units)
    (second : (get_or events i (0, 0)).1 < length units) (w : IsWaiting units done (take i events) waiting) (few : (b : ℕ) → get_or waiting b 0 ≤ i)
    (read : v ≡ get_or waiting (get_or events i (0, 0)).1 v) (one : k ≡ one_if (has_left units done (get_or events i (0, 0)).0)) where
  value_is : v ≡ get_or waiting (get_or events i (0, 0)).1 0
  value_is = get_or_read waiting (get_or events i (0, 0)).1 v (omega (arith, second, w.0)) read 0

  pub most_is : v + k ≤ i + 1
  most_is =
      let a = few (get_or events i (0, 0)).1 in
      let c = most_one (has_left units done (get_or events i (0, 0)).0) in
      omega (arith, a, c, value_is, one)

  pub few_more : (b : ℕ) → get_or (slice_set waiting (get_or events i (0, 0)).1 (v + k)) b 0 ≤ i + 1
  few_more b =
      ⊎_elim
      (λ (e : b ≡ (get_or events i (0, 0)).1).
      let g = get_or-set_same waiting (get_or events i (0, 0)).1 (v + k) 0 (omega (arith, second, w.0)) in
      subst (λ (x : ℕ). get_or (slice_set waiting (get_or events i (0, 0)).1 (v + k)) x 0 ≤ i + 1) (sym e) (omega (arith, g, most_is)))
      (λ (ne : b ≢ (get_or events i (0, 0)).1). let g = get_or-set_other waiting (get_or events i (0, 0)).1 b (v + k) 0 ne in let a = few b in omega (arith, g, a))
      (cases_eq b (get_or events i (0, 0)).1)

  pub waiting_more : IsWaiting units done (take (i + 1) events) (slice_set waiting (get_or events i (0, 0)).1 (v + k))
  waiting_more = (
    length-set waiting (get_or events i (0, 0)).1 (v + k) ∙ w.0,
    λ b l.
        let all : take (i + 1) events ≡ take i events ++ get_or events i (0, 0) ∷ [] = take_more events i (0, 0) h in
        let more = waits_more units done (take i events) (get_or events i (0, 0)) b first in
        let old = w.1 b l in
        let number : get_or (slice_set waiting (get_or events i (0, 0)).1 (v + k)) b 0 ≡ get_or waiting b 0 + one_if (has_left units done (get_or events i (0, 0)).0) * one_if (nat_eq b (get_or events i (0, 0)).1) =
        ⊎_elim
        (λ (e : b ≡ (get_or events i (0, 0)).1).
        let g = get_or-set_same waiting (get_or events i (0, 0)).1 (v + k) 0 (omega (arith, second, w.0)) in
        let u = times_one (has_left units done (get_or events i (0, 0)).0) in
        let q : one_if (has_left units done (get_or events i (0, 0)).0) * one_if (nat_eq (get_or events i (0, 0)).1 (get_or events i (0, 0)).1) ≡ one_if (has_left units done (get_or events i (0, 0)).0) * 1 =
        ap (λ (c : Bool). one_if (has_left units done (get_or events i (0, 0)).0) * one_if c) (eq-eqb (get_or events i (0, 0)).1 (get_or events i (0, 0)).1 refl) in
        subst (λ (x : ℕ). get_or (slice_set waiting (get_or events i (0, 0)).1 (v + k)) x 0 ≡ get_or waiting x 0 + one_if (has_left units done (get_or events i (0, 0)).0) * one_if (nat_eq x (get_or events i (0, 0)).1)) (sym e)
        (g ∙ ap₂ (λ (x y : ℕ). x + y) value_is (one ∙ sym u ∙ sym q)))
        (λ (ne : b ≢ (get_or events i (0, 0)).1).
        let g = get_or-set_other waiting (get_or events i (0, 0)).1 b (v + k) 0 ne in
        let u = times_none (has_left units done (get_or events i (0, 0)).0) in
        let q : one_if (has_left units done (get_or events i (0, 0)).0) * one_if (nat_eq b (get_or events i (0, 0)).1) ≡ one_if (has_left units done (get_or events i (0, 0)).0) * 0 =
        ap (λ (c : Bool). one_if (has_left units done (get_or events i (0, 0)).0) * one_if c) (ne_eqb b (get_or events i (0, 0)).1 ne) in
        let s : get_or waiting b 0 ≡ get_or waiting b 0 + 0 = omega arith in
        g ∙ s ∙ ap (λ (x : ℕ). get_or waiting b 0 + x) (sym u ∙ sym q))
        (cases_eq b (get_or events i (0, 0)).1) in
        number ∙ ap (λ (x : ℕ). x + one_if (has_left units done (get_or events i (0, 0)).0) * one_if (nat_eq b (get_or events i (0, 0)).1)) old ∙ sym more
        ∙ ap (λ (es : List (ℕ × ℕ)). waiting_of units done (map (followers_in es) (below (length units))) b) (sym all),
  )

-- All of it -----------------------------------------------------------------------------------------------------------

any_kept : (e : ℕ × ℕ) (es : List (ℕ × ℕ)) (b n : ℕ) (c : Bool) → list_any (nat_eq b) (map (λ (x : ℕ × ℕ). x.1) (cond c (e ∷ es) es)) ≡ true
    → ((c ≡ true) × (nat_eq b e.1 ≡ true)) ⊎ (list_any (nat_eq b) (map (λ (x : ℕ × ℕ). x.1) es) ≡ true)
any_kept e es b n false h = inr h
any_kept e es b n true h = or_cases (nat_eq b e.1) (list_any (nat_eq b) (map (λ (x : ℕ × ℕ). x.1) es)) h
  where
    or_cases : (x y : Bool) → (x || y) ≡ true → ((true ≡ true) × (x ≡ true)) ⊎ (y ≡ true)
    or_cases true y e = inl (refl, refl)
    or_cases false y e = inr e

-- an event leads to a later operation
pub ascends_by : (events : List (ℕ × ℕ)) (n a b : ℕ) → ((k : ℕ) (d : ℕ × ℕ) → k < length events → ((get_or events k d).0 < (get_or events k d).1) × ((get_or events k d).1 < n))
    → list_any (nat_eq b) (followers_in events a) ≡ true → (a < b) × (b < n)
ascends_by [] n a b all h = absurd (cc)
ascends_by (e ∷ es) n a b all h =
    ⊎_elim
    (λ (here : (nat_eq e.0 a ≡ true) × (nat_eq b e.1 ≡ true)).
    let first = all 0 (0, 0) (omega arith) in
    let from : e.0 ≡ a = grind (arith, nat_tests, here.0) in
    let to : b ≡ e.1 = grind (arith, nat_tests, here.1) in
    (omega (arith, first.0, from, to), omega (arith, first.1, to)))
    (λ (rest : list_any (nat_eq b) (followers_in es a) ≡ true). ascends_by es n a b (λ k d l. all (suc k) d (omega arith)) rest)
    (any_kept e (filter (λ (x : ℕ × ℕ). nat_eq x.0 a) es) b n (nat_eq e.0 a) h)

module _ (units : List ℕ) (events : List (ℕ × ℕ)) (done : List ℕ) (rows : List (List ℕ)) (waiting : List ℕ) (flags : List Bool) (small : length units < 4294967296)
    (all : (k : ℕ) (d : ℕ × ℕ) → k < length events → ((get_or events k d).0 < (get_or events k d).1) × ((get_or events k d).1 < length units))
    (d : done ≡ replicate (length units) 0) (r : rows ≡ map (followers_in events) (below (length units))) where
  rows_count : length rows ≡ length units
  rows_count = ap length r ∙ length-map (below (length units)) (followers_in events) ∙ length-below (length units)

  none_get : (b : ℕ) → get_or done b 0 ≡ 0
  none_get b = ap (λ (ds : List ℕ). get_or ds b 0) d ∙ zero_get (length units) b

  ascends : (a b : ℕ) → follows rows a b ≡ true → (a < b) × (b < length units)
  ascends a b f =
      ⊎_elim
      (λ (near : a < length units).
      let row : get_or rows a [] ≡ followers_in events a = ap (λ (rs : List (List ℕ)). get_or rs a []) r ∙ at_below (followers_in events) (length units) a [] near in
      ascends_by events (length units) a b all (subst (λ (xs : List ℕ). list_any (nat_eq b) xs ≡ true) row f))
      (λ (far : length units ≤ a).
      let row : get_or rows a [] ≡ [] = get_or_past rows a [] (omega (arith, far, rows_count)) in
      let bad : list_any (nat_eq b) [] ≡ true = subst (λ (xs : List ℕ). list_any (nat_eq b) xs ≡ true) row f in
      absurd (cc))
      (cases_lt a (length units))

  pub opens : IsWaiting units done events waiting → length flags ≡ length waiting → AreReady units done waiting flags → IsTracked units done rows waiting flags
  opens w len are = record {
    lawful = record {
      small = small;
      dones = ap length d ∙ length-replicate {A = ℕ} (length units) 0;
      ascends = ascends;
      within = λ a l. let z = none_get a in omega (arith, z);
      begun = λ a b f g. let z = none_get b in absurd (omega (arith, z, g));
    };
    some_rows = rows_count;
    counted = w.0;
    flagged = len ∙ w.0;
    waits = λ b l. w.1 b l ∙ ap (λ (rs : List (List ℕ)). waiting_of units done rs b) (sym r);
    ready = are;
  }
