-- What conflicts with an operation is compared with it, and what the buckets of a plan have.
use Rattle.std.proofs.Common.{◌≡◌, ℕ, zero, suc, ◌+◌, ◌*◌, ◌<◌, ◌≤◌, Bool, true, false, not, ◌&&◌, ◌||◌, List, [], ◌∷◌, ◌++◌, length, map, filter, get_or, refl, ap, ap₂, sym, ◌∙◌, subst, take, arith, ⊎_elim, nat_eq, nat_lt}
use Rattle.std.specs.Prelude.{if◌then◌else◌, slice_index_or}
use Rattle.std.specs.List.{AllByRecursion, All, list_all, list_any}
use Rattle.std.specs.List.Sorted.{IsNonDecreasing}
use Rattle.std.proofs.lemmas.Bool.{cases_lt, cases_order, cases_Bool, and_parts, and_from, and_left, and_right, eqb-true, eq-eqb, ne_eqb, lt-ltb, le-ltb, ltb-true, or_left, or_right}
use Rattle.std.proofs.Math.Nat.{mod-lt}
use Rattle.std.proofs.lemmas.List.{get_or-map, length-map, map-append, take_more}
use Rattle.std.proofs.lemmas.List.Elements.{filter-append}
use Rattle.std.proofs.lemmas.List.Folds.{list_all-append, list_any-append}
use Rattle.dt_base.specs.Ranges.{below}
use Rattle.dt_base.proofs.Ranges.{get_or-below, length-below}
use Rattle.dt_runs.specs.Sets.{contains}
use Rattle.dt_runs.proofs.SetLemmas.{contains-append}
use Rattle.dt_copy.proofs.Shared.{one_more}
use Rattle.dt_nest.proofs.Each.{all_append, all_get, all_map}
use Rattle.dt_nest.proofs.Truth.{any_more}
use Rattle.dt_tracker.specs.Tracks.{followers_in}
use Rattle.dt_plan.specs.declared.touches.Buffer.{Buffer}
use Rattle.dt_plan.specs.declared.touches.Buffer.TheVariants.{Home, Scratch, Work}
use Rattle.dt_plan.specs.declared.touches.Touch.{Touch}
use Rattle.dt_plan.specs.Limits.{PlanView}
use Rattle.dt_events.specs.Candidates.{bucket_by, bucket_count, bucket_of, bucket_pairs, buckets_of, in_bucket, is_candidate, is_one_segment, share_bucket}
use Rattle.dt_events.specs.Conflicts.{conflict, is_same_buffer, may_swap, have_common, segment_of, some_meet, touches_meet}
use Rattle.dt_argument.specs.Events.{any_below, is_between, nearest}
use Rattle.dt_events.proofs.NearestSteps.{none_between}
use Rattle.dt_events.proofs.NextNumbers.{Rises, rises_append, rises_up}

-- Conflicts -------------------------------------------------------------------------------------------------------------

same_bucket : (n m : ℕ) (b c : Buffer) → n ≡ m → is_same_buffer b c ≡ true → bucket_by m c ≡ bucket_by n b
same_bucket n m (Home t) (Home u) h e = ap₂ (λ x y. bucket_by x (Home y)) (sym h) (sym (eqb-true t u e))
same_bucket n m (Home t) (Scratch j u) h e = absurd (cc)
same_bucket n m (Home t) (Work j u) h e = absurd (cc)
same_bucket n m (Scratch k t) (Home u) h e = absurd (cc)
same_bucket n m (Scratch k t) (Scratch j u) h e =
    let s = and_parts (nat_eq k j) (nat_eq t u) e in
    ap₂ (λ x y. bucket_by x (Scratch j y)) (sym h) (sym (eqb-true t u s.1)) ∙ ap (λ x. bucket_by n (Scratch x t)) (sym (eqb-true k j s.0))
same_bucket n m (Scratch k t) (Work j u) h e = absurd (cc)
same_bucket n m (Work k t) (Home u) h e = absurd (cc)
same_bucket n m (Work k t) (Scratch j u) h e = absurd (cc)
same_bucket n m (Work k t) (Work j u) h e =
    let s = and_parts (nat_eq k j) (nat_eq t u) e in
    ap₂ (λ x y. bucket_by x (Work j y)) (sym h) (sym (eqb-true t u s.1)) ∙ ap (λ x. bucket_by n (Work x t)) (sym (eqb-true k j s.0))

meeting : (f g : Touch) → touches_meet f g ≡ true → nat_eq (bucket_of g) (bucket_of f) ≡ true
meeting f g e =
    let outer = and_parts (nat_eq f.node g.node) (is_same_buffer f.buffer g.buffer && (not (may_swap f.mode g.mode) && have_common f g)) e in
    let inner = and_parts (is_same_buffer f.buffer g.buffer) (not (may_swap f.mode g.mode) && have_common f g) outer.1 in
    eq-eqb (bucket_of g) (bucket_of f) (same_bucket f.node g.node f.buffer g.buffer (eqb-true f.node g.node outer.0) inner.0)

meeting_shares : (fs gs : List Touch) → some_meet fs gs ≡ true → share_bucket fs gs ≡ true
meeting_shares fs gs e =
    any_more (λ x. list_any (touches_meet x) gs) (λ f. in_bucket gs (bucket_of f))
    (λ f k. any_more (touches_meet f) (λ g. nat_eq (bucket_of g) (bucket_of f)) (λ g m. meeting f g m) gs k) fs e

all_below : (f : ℕ → Bool) (n a : ℕ) → list_all f (below n) ≡ true → a < n → f a ≡ true
all_below f zero a e h = absurd (omega (arith, h))
all_below f (suc n) a e h =
    let s = and_parts (list_all f (below n)) (f n && true) (sym (list_all-append f (below n) (n ∷ [])) ∙ e) in
    ⊎_elim
    (λ (k : a < n). all_below f n a s.0 k)
    (λ (k : n ≤ a). let same : n ≡ a = omega (arith, h, k) in ap f (sym same) ∙ (and_parts (f n) true s.1).0)
    (cases_lt a n)

-- one more number passes
pub all_more : (f : ℕ → Bool) (n : ℕ) → list_all f (below n) ≡ true → f n ≡ true → list_all f (below (n + 1)) ≡ true
all_more f n e k = let next : n + 1 ≡ suc n = omega arith in rw next (list_all-append f (below n) (n ∷ []) ∙ and_from (list_all f (below n)) (f n && true) e (and_from (f n) true k refl))

-- a number doesn't pass
pub not_all : (f : ℕ → Bool) (n k : ℕ) → k < n → f k ≡ false → list_all f (below n) ≡ false
not_all f n k h e = ⊎_elim (λ (t : list_all f (below n) ≡ true). let g = all_below f n k t h in absurd (cc)) (λ (t : list_all f (below n) ≡ false). t) (cases_Bool (list_all f (below n)))

first_false : (a b : Bool) → a ≡ true → (not a || b) ≡ true → b ≡ true
first_false true b e h = h
first_false false b e h = absurd (cc)

-- an operation conflicts only with candidates
pub conflicts_are_candidates : (p : PlanView) (a b : ℕ) → a < length p.ops → b < length p.ops → conflict p a b ≡ true → is_candidate p a b ≡ true
conflicts_are_candidates p a b h k e =
    and_from (nat_lt b (length p.ops)) (not (is_one_segment p) || share_bucket (slice_index_or p.touches a []) (slice_index_or p.touches b []))
    (lt-ltb b (length p.ops) k)
    (⊎_elim
    (λ (one : is_one_segment p ≡ true).
    let f = eqb-true (segment_of p a) (segment_of p 0) (all_below (λ x. nat_eq (segment_of p x) (segment_of p 0)) (length p.ops) a one h) in
    let g = eqb-true (segment_of p b) (segment_of p 0) (all_below (λ x. nat_eq (segment_of p x) (segment_of p 0)) (length p.ops) b one k) in
    let same = eq-eqb (segment_of p a) (segment_of p b) (f ∙ sym g) in
    or_right (not (is_one_segment p)) (share_bucket (slice_index_or p.touches a []) (slice_index_or p.touches b []))
    (meeting_shares (slice_index_or p.touches a []) (slice_index_or p.touches b []) (first_false (nat_eq (segment_of p a) (segment_of p b)) (some_meet (slice_index_or p.touches a []) (slice_index_or p.touches b [])) same e)))
    (λ (more : is_one_segment p ≡ false).
    or_left (not (is_one_segment p)) (share_bucket (slice_index_or p.touches a []) (slice_index_or p.touches b [])) (ap not more))
    (cases_Bool (is_one_segment p)))

-- so what is no candidate doesn't conflict
pub others_are_apart : (p : PlanView) (a b : ℕ) → a < length p.ops → b < length p.ops → is_candidate p a b ≡ false → conflict p a b ≡ false
others_are_apart p a b h k e =
    ⊎_elim (λ (c : conflict p a b ≡ true). let d = conflicts_are_candidates p a b h k c in absurd (cc)) (λ (c : conflict p a b ≡ false). c) (cases_Bool (conflict p a b))

-- Buckets ---------------------------------------------------------------------------------------------------------------

-- those of one operation
abbrev own : ℕ → List Touch → List (ℕ × ℕ)
own a fs = map (λ f. (bucket_of f, a)) fs

own_has : (a h x : ℕ) (fs : List Touch) → contains (followers_in (own a fs) h) x ≡ (nat_eq a x && in_bucket fs h)
own_has a h x [] = sym (and_right (nat_eq a x) false refl)
own_has a h x (f ∷ fs) = go (nat_eq (bucket_of f) h) (own_has a h x fs)
  where
    both : (t u : Bool) → (t || (t && u)) ≡ (t && true)
    both true u = refl
    both false u = refl

    go : (b : Bool) → contains (followers_in (own a fs) h) x ≡ (nat_eq a x && in_bucket fs h)
        → contains (map (λ (e : ℕ × ℕ). e.1) (if b then (bucket_of f, a) ∷ filter (λ (e : ℕ × ℕ). nat_eq e.0 h) (own a fs) else filter (λ (e : ℕ × ℕ). nat_eq e.0 h) (own a fs))) x ≡ (nat_eq a x && (b || in_bucket fs h))
    go true e = ap (λ r. nat_eq a x || r) e ∙ both (nat_eq a x) (in_bucket fs h)
    go false e = e

own_rises : (a h : ℕ) (fs : List Touch) → Rises a (followers_in (own a fs) h) × AllByRecursion (λ x. x ≤ a) (followers_in (own a fs) h)
own_rises a h [] = (tt, tt)
own_rises a h (f ∷ fs) = go (nat_eq (bucket_of f) h) (own_rises a h fs)
  where
    go : (b : Bool) → Rises a (followers_in (own a fs) h) × AllByRecursion (λ x. x ≤ a) (followers_in (own a fs) h)
        → Rises a (map (λ (e : ℕ × ℕ). e.1) (if b then (bucket_of f, a) ∷ filter (λ (e : ℕ × ℕ). nat_eq e.0 h) (own a fs) else filter (λ (e : ℕ × ℕ). nat_eq e.0 h) (own a fs)))
        × AllByRecursion (λ x. x ≤ a) (map (λ (e : ℕ × ℕ). e.1) (if b then (bucket_of f, a) ∷ filter (λ (e : ℕ × ℕ). nat_eq e.0 h) (own a fs) else filter (λ (e : ℕ × ℕ). nat_eq e.0 h) (own a fs)))
    go true r = ((omega arith, r.0), (omega arith, r.1))
    go false r = r

followers_append : (es fs : List (ℕ × ℕ)) (h : ℕ) → followers_in (es ++ fs) h ≡ followers_in es h ++ followers_in fs h
followers_append es fs h =
    ap (λ l. map (λ (e : ℕ × ℕ). e.1) l) (filter-append (λ (e : ℕ × ℕ). nat_eq e.0 h) es fs)
    ∙ map-append (λ (e : ℕ × ℕ). e.1) (filter (λ (e : ℕ × ℕ). nat_eq e.0 h) es) (filter (λ (e : ℕ × ℕ). nat_eq e.0 h) fs)

module _ (touches : List (List Touch)) (h : ℕ) where
  -- one more operation
  bucket_more : (n : ℕ) → followers_in (bucket_pairs touches (suc n)) h ≡ followers_in (bucket_pairs touches n) h ++ followers_in (own n (slice_index_or touches n [])) h
  bucket_more n =
      let next : suc n ≡ n + 1 = omega arith in
      ap (λ k. followers_in (bucket_pairs touches k) h) next ∙ ap (λ l. followers_in l h) (sym (one_more (λ a. own a (slice_index_or touches a [])) n))
      ∙ followers_append (bucket_pairs touches n) (own n (slice_index_or touches n [])) h

  last_one : (x n : ℕ) (t : ℕ → Bool) → ((nat_lt x n && t x) || (nat_eq n x && t n)) ≡ (nat_lt x (suc n) && t x)
  last_one x n t =
      ⊎_elim
      (λ (e : x ≡ n). rw e (rw (le-ltb n n (omega arith), eq-eqb n n refl, lt-ltb n (suc n) (omega arith)) refl))
      (⊎_elim
      (λ (l : x < n). rw (lt-ltb x n l, ne_eqb n x (λ e. omega (arith, e, l)), lt-ltb x (suc n) (omega (arith, l))) (or_same (t x)))
      (λ (l : n < x). rw (le-ltb x n (omega (arith, l)), ne_eqb n x (λ e. omega (arith, e, l)), le-ltb x (suc n) (omega (arith, l))) refl))
      (cases_order x n)
    where
      or_same : (b : Bool) → (b || false) ≡ b
      or_same true = refl
      or_same false = refl

  -- a bucket has exactly the operations with a footprint in it
  pub bucket_has : (n x : ℕ) → contains (followers_in (bucket_pairs touches n) h) x ≡ (nat_lt x n && in_bucket (slice_index_or touches x []) h)
  bucket_has zero x = sym (and_left (nat_lt x 0) (in_bucket (slice_index_or touches x []) h) (le-ltb x 0 (omega arith)))
  bucket_has (suc n) x =
      ap (λ l. contains l x) (bucket_more n)
      ∙ contains-append (followers_in (bucket_pairs touches n) h) (followers_in (own n (slice_index_or touches n [])) h) x
      ∙ ap₂ (λ s t. s || t) (bucket_has n x) (own_has n h x (slice_index_or touches n []))
      ∙ last_one x n (λ y. in_bucket (slice_index_or touches y []) h)

  bucket_rises : (n : ℕ) → Rises 0 (followers_in (bucket_pairs touches n) h) × AllByRecursion (λ x. x ≤ n) (followers_in (bucket_pairs touches n) h)
  bucket_rises zero = (tt, tt)
  bucket_rises (suc n) =
      let old = bucket_rises n in
      let new = own_rises n h (slice_index_or touches n []) in
      let olds = followers_in (bucket_pairs touches n) h in
      let news = followers_in (own n (slice_index_or touches n [])) h in
      let e = bucket_more n in
      rw e (
        rises_append 0 n olds news (omega arith) old.0 old.1 new.0,
        all_append (λ x. x ≤ suc n) olds news (all_map (λ x. x ≤ n) (λ x. x ≤ suc n) (λ x l. omega (arith, l)) olds old.1) (all_map (λ x. x ≤ n) (λ x. x ≤ suc n) (λ x l. omega (arith, l)) news new.1),
      )

  -- ascending
  pub bucket_up : (n : ℕ) → IsNonDecreasing (followers_in (bucket_pairs touches n) h)
  bucket_up n = rises_up 0 (followers_in (bucket_pairs touches n) h) (bucket_rises n).0

-- each pair begins with a bucket
pub pairs_within : (touches : List (List Touch)) (n : ℕ) → All (λ (e : ℕ × ℕ). e.0 < bucket_count) (bucket_pairs touches n)
pairs_within touches n = λ k d h. all_get (λ (e : ℕ × ℕ). e.0 < bucket_count) (bucket_pairs touches n) k d (each n) h
  where
    within : (n : ℕ) (b : Buffer) → bucket_by n b < bucket_count
    within n (Home t) = mod-lt (7919 * n + 104729 * t) (omega arith)
    within n (Scratch k t) = mod-lt (7919 * n + (104729 * t + 1299709 * (2 * k + 1))) (omega arith)
    within n (Work k w) = mod-lt (7919 * n + (104729 * w + 1299709 * (2 * k + 2))) (omega arith)

    one : (a : ℕ) (fs : List Touch) → AllByRecursion (λ (e : ℕ × ℕ). e.0 < bucket_count) (own a fs)
    one a [] = tt
    one a (f ∷ fs) = (within f.node f.buffer, one a fs)

    each : (n : ℕ) → AllByRecursion (λ (e : ℕ × ℕ). e.0 < bucket_count) (bucket_pairs touches n)
    each zero = tt
    each (suc n) =
        let next : n + 1 ≡ suc n = omega arith in
        let more : bucket_pairs touches n ++ own n (slice_index_or touches n []) ≡ bucket_pairs touches (suc n) = one_more (λ a. own a (slice_index_or touches a [])) n ∙ ap (λ k. bucket_pairs touches k) next in
        subst (λ es. AllByRecursion (λ (e : ℕ × ℕ). e.0 < bucket_count) es) more
        (all_append (λ (e : ℕ × ℕ). e.0 < bucket_count) (bucket_pairs touches n) (own n (slice_index_or touches n [])) (each n) (one n (slice_index_or touches n [])))

-- there are so many buckets
pub buckets_length : (p : PlanView) → length (buckets_of p) ≡ bucket_count
buckets_length p = length-map (below bucket_count) (followers_in (bucket_pairs p.touches (length p.ops))) ∙ length-below bucket_count

-- what a bucket has
pub bucket_at : (p : PlanView) (h : ℕ) (d : List ℕ) → h < bucket_count → get_or (buckets_of p) h d ≡ followers_in (bucket_pairs p.touches (length p.ops)) h
bucket_at p h d k = at bucket_count k
  where
    at : (n : ℕ) → h < n → get_or (map (followers_in (bucket_pairs p.touches (length p.ops))) (below n)) h d ≡ followers_in (bucket_pairs p.touches (length p.ops)) h
    at n k =
        let inside : h < length (below n) = omega (arith, length-below n, k) in
        get_or-map (followers_in (bucket_pairs p.touches (length p.ops))) (below n) h 0 d inside ∙ ap (followers_in (bucket_pairs p.touches (length p.ops))) (get_or-below n h 0 k)

both_parts : (l s t : Bool) → ((l && s) || (l && t)) ≡ (l && (s || t))
both_parts true s t = refl
both_parts false s t = refl

none_more : (s t : Bool) → (s || (t || false)) ≡ (s || t)
none_more s true = refl
none_more true false = refl
none_more false false = refl

-- one more footprint, with the operations of its bucket
pub share_more : (p : PlanView) (fs : List Touch) (i : ℕ) (d : Touch) (x : ℕ) → i < length fs
    → ((nat_lt x (length p.ops) && share_bucket (take i fs) (slice_index_or p.touches x [])) || contains (followers_in (bucket_pairs p.touches (length p.ops)) (bucket_of (get_or fs i d))) x)
    ≡ (nat_lt x (length p.ops) && share_bucket (take (i + 1) fs) (slice_index_or p.touches x []))
share_more p fs i d x h =
    let gs = slice_index_or p.touches x [] in
    let l = nat_lt x (length p.ops) in
    let t : Touch → Bool = λ f. in_bucket gs (bucket_of f) in
    ap (λ b. (l && share_bucket (take i fs) gs) || b) (bucket_has p.touches (bucket_of (get_or fs i d)) (length p.ops) x)
    ∙ both_parts l (share_bucket (take i fs) gs) (t (get_or fs i d))
    ∙ ap (λ b. l && b) (sym (none_more (share_bucket (take i fs) gs) (t (get_or fs i d))))
    ∙ ap (λ b. l && b) (sym (ap (list_any t) (take_more fs i d h) ∙ list_any-append t (take i fs) (get_or fs i d ∷ [])))

-- Stretches without candidates ------------------------------------------------------------------------------------------

-- a candidate is an operation of the plan
pub candidate_inside : (p : PlanView) (a b : ℕ) → is_candidate p a b ≡ true → b < length p.ops
candidate_inside p a b e =
    ltb-true b (length p.ops) (and_parts (nat_lt b (length p.ops)) (not (is_one_segment p) || share_bucket (slice_index_or p.touches a []) (slice_index_or p.touches b [])) e).0

module _ (p : PlanView) (a m b : ℕ) (first : a < length p.ops) (up : m < b) (end : b ≤ length p.ops) (none : (x : ℕ) → m < x → x < b → is_candidate p a x ≡ false) where
  apart : (x : ℕ) → m + 1 ≤ x → x < b → conflict p a x ≡ false
  apart x k l = others_are_apart p a x first (omega (arith, l, end)) (none x (omega (arith, k)) l)

  -- between two candidates none conflicts
  pub none_met : filter (λ x. nat_lt a x && conflict p a x) (below b) ≡ filter (λ x. nat_lt a x && conflict p a x) (below (m + 1))
  none_met = none_between (λ x. nat_lt a x && conflict p a x) (m + 1) b (omega (arith, up)) (λ x k l. and_right (nat_lt a x) (conflict p a x) (apart x k l))

  -- and none is an event's second
  pub none_nearest : filter (λ x. nat_lt a x && nearest (conflict p) a x) (below b) ≡ filter (λ x. nat_lt a x && nearest (conflict p) a x) (below (m + 1))
  none_nearest =
      none_between (λ x. nat_lt a x && nearest (conflict p) a x) (m + 1) b (omega (arith, up))
      (λ x k l. and_right (nat_lt a x) (nearest (conflict p) a x) (ap (λ t. t && not (any_below (is_between (conflict p) a x) x)) (apart x k l)))
