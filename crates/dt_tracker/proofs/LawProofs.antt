-- Why the laws of trackers hold.
use Rattle.std.proofs.Common.{◌≡◌, ◌≢◌, ◌↔◌, ℕ, zero, suc, ◌+◌, ◌<◌, ◌≤◌, Bool, true, false, not, ◌&&◌, ◌||◌, cond, nat_eq, nat_lt, List, [], ◌∷◌, length, map, filter, get_or, slice_set, Option, Some, None, refl, ap, ap₂, sym, ◌∙◌, subst, arith, ⊎_elim, length-set, get_or-set_same, get_or-set_other}
use Rattle.std.specs.Option.{is_some}
use Rattle.std.specs.List.{find, list_any}
use Rattle.std.proofs.lemmas.Bool.{and_from, and_parts, cases_eq, lt-ltb}
use Rattle.std.proofs.lemmas.Bool.Decides.{nat_tests}
use Rattle.dt_base.specs.Ranges.{below}
use Rattle.dt_base.proofs.Firsts.{find-below-none}
use Rattle.dt_argument.specs.Events.{is_listed}
use Rattle.dt_argument.specs.Listings.{Listing}
use Rattle.dt_argument.specs.Orders.{IsEnabled, one_more}
use Rattle.dt_argument.proofs.Counting.{one_more_other, one_more_same}
use Rattle.dt_tracker.specs.declared.step.Step.{Step}
use Rattle.dt_tracker.specs.declared.step.Step.TheVariants.{Stepped, Unknown, Waits, Finished}
use Rattle.dt_tracker.specs.Tracks.{IsLawful, Track, answer_by, answer_of, enabled_of, follows, followers_in, has_left, holds, is_enabled, least_left, taken, waits_of}
use Rattle.dt_tracker.specs.TrackerLaws.{IsTrackOf}
use Rattle.dt_tracker.proofs.Below.{at_below}
use Rattle.dt_tracker.proofs.Finds.{found, keeps_none, kept, none_found, none_kept}

lt_of : (x y : ℕ) → nat_lt x y ≡ true → x < y
lt_of x y e = grind (arith, nat_tests)

le_of : (x y : ℕ) → nat_lt x y ≡ false → y ≤ x
le_of x y e = grind (arith, nat_tests)

not_lt : (x y : ℕ) → x ≡ y → nat_lt x y ≡ false
not_lt x y e = grind (arith, nat_tests)

no_wait : (o : Option ℕ) → not (is_some o) ≡ true → is_some o ≡ false
no_wait None e = refl
no_wait (Some x) e = absurd (cc)

free_of : (h q : Bool) → (h && q) ≡ false → q ≡ true → h ≡ false
free_of true true e f = absurd (cc)
free_of true false e f = absurd (cc)
free_of false q e f = refl

and_none : (h q : Bool) → (q ≡ true → h ≡ false) → (h && q) ≡ false
and_none true true f = f refl
and_none true false f = refl
and_none false q f = refl

none_is : (o : Option ℕ) → o ≡ None → not (is_some o) ≡ true
none_is None e = refl
none_is (Some x) e = absurd (cc)

-- an operation may go on whose predecessors have no unit left
pub enabled_if : (t : Track) (b : ℕ) → has_left t.units t.done b ≡ true → ((a : ℕ) → a < length t.units → follows t.followers a b ≡ true → has_left t.units t.done a ≡ false) → is_enabled t b ≡ true
enabled_if t b left free =
    and_from (has_left t.units t.done b) (not (is_some (waits_of t b))) left
    (none_is (waits_of t b) (find-below-none (holds t b) (length t.units) (λ a h. and_none (has_left t.units t.done a) (follows t.followers a b) (free a h))))

-- and they have none left where it may go on
pub free_before : (t : Track) (b : ℕ) → is_enabled t b ≡ true → (a : ℕ) → a < length t.units → follows t.followers a b ≡ true → has_left t.units t.done a ≡ false
free_before t b en a h f =
    let parts = and_parts (has_left t.units t.done b) (not (is_some (waits_of t b))) en in
    free_of (has_left t.units t.done a) (follows t.followers a b) (none_found (holds t b) (length t.units) a (no_wait (waits_of t b) parts.1) h) f

pub least_goes_on : (t : Track) (p : ℕ) → IsLawful t → least_left t ≡ Some p → (p < length t.units) × (is_enabled t p ≡ true)
least_goes_on t p k e =
    let f = found (has_left t.units t.done) (length t.units) p e in
    (f.0, enabled_if t p f.1 (λ a h follow. f.2 a (k.ascends a p follow).0))

none_to_enabled : (t : Track) → least_left t ≡ None → enabled_of t ≡ []
none_to_enabled t e =
    keeps_none (is_enabled t) (length t.units) (λ a h.
    let free = none_found (has_left t.units t.done) (length t.units) a (ap (λ (o : Option ℕ). is_some o) e) h in
    ap (λ (c : Bool). c && not (is_some (waits_of t a))) free)

none_is_left : (t : Track) → IsLawful t → (o : Option ℕ) → least_left t ≡ o → enabled_of t ≡ [] → o ≡ None
none_is_left t k None e f = refl
none_is_left t k (Some p) e f =
    let go = least_goes_on t p k e in
    let bad : is_enabled t p ≡ false = none_kept (is_enabled t) (length t.units) p f go.0 in
    absurd (cc)

pub stuck : (t : Track) → IsLawful t → (enabled_of t ≡ []) ↔ (least_left t ≡ None)
stuck t k = (none_is_left t k (least_left t) refl, none_to_enabled t)

-- What answers -----------------------------------------------------------------------------------------------------------

by_stepped : (o : Option ℕ) (h : Bool) → answer_by o h ≡ Stepped → (h ≡ true) × (not (is_some o) ≡ true)
by_stepped (Some p) h e = absurd (cc)
by_stepped None true e = (refl, refl)
by_stepped None false e = absurd (cc)

by_enabled : (o : Option ℕ) (h : Bool) → h ≡ true → not (is_some o) ≡ true → answer_by o h ≡ Stepped
by_enabled (Some p) h e f = absurd (cc)
by_enabled None true e f = refl
by_enabled None false e f = absurd (cc)

known : (t : Track) (b : ℕ) (c : Bool) → nat_lt b (length t.units) ≡ c → cond c (answer_by (waits_of t b) (has_left t.units t.done b)) Unknown ≡ Stepped
    → (b < length t.units) × (is_enabled t b ≡ true)
known t b true e f =
    let parts = by_stepped (waits_of t b) (has_left t.units t.done b) f in
    (lt_of b (length t.units) e, and_from (has_left t.units t.done b) (not (is_some (waits_of t b))) parts.0 parts.1)
known t b false e f = absurd (cc)

pub steps_if : (t : Track) (b : ℕ) → (answer_of t b ≡ Stepped) ↔ ((b < length t.units) × (is_enabled t b ≡ true))
steps_if t b = (
  known t b (nat_lt b (length t.units)) refl,
  λ h.
      let parts = and_parts (has_left t.units t.done b) (not (is_some (waits_of t b))) h.1 in
      ap (λ (c : Bool). cond c (answer_by (waits_of t b) (has_left t.units t.done b)) Unknown) (lt-ltb b (length t.units) h.0)
      ∙ by_enabled (waits_of t b) (has_left t.units t.done b) parts.0 parts.1,
)

pub enabled_pass : (t : Track) (k : ℕ) → k < length (enabled_of t) → (get_or (enabled_of t) k 0 < length t.units) × (is_enabled t (get_or (enabled_of t) k 0) ≡ true)
enabled_pass t k h = kept (is_enabled t) (length t.units) k h

-- Events and counts ------------------------------------------------------------------------------------------------------

any_row : (q : ℕ → Bool) (e : ℕ × ℕ) (es : List (ℕ × ℕ)) (c : Bool) → list_any q (map (λ (x : ℕ × ℕ). x.1) (cond c (e ∷ es) es)) ≡ ((c && q e.1) || list_any q (map (λ (x : ℕ × ℕ). x.1) es))
any_row q e es true = refl
any_row q e es false = refl

turned : (x y : ℕ) → nat_eq x y ≡ nat_eq y x
turned x y = grind (arith, nat_tests)

row_listed : (events : List (ℕ × ℕ)) (a b : ℕ) → list_any (nat_eq b) (followers_in events a) ≡ is_listed events a b
row_listed [] a b = refl
row_listed (e ∷ es) a b =
    any_row (nat_eq b) e (filter (λ (x : ℕ × ℕ). nat_eq x.0 a) es) (nat_eq e.0 a)
    ∙ ap₂ (λ (c d : Bool). (nat_eq e.0 a && c) || d) (turned b e.1) (row_listed es a b)

pub followers_listed : (events : List (ℕ × ℕ)) (n a b : ℕ) → a < n → follows (map (followers_in events) (below n)) a b ≡ is_listed events a b
followers_listed events n a b h = ap (λ (xs : List ℕ). list_any (nat_eq b) xs) (at_below (followers_in events) n a [] h) ∙ row_listed events a b

module _ {C : Type 0} (t : Track) (l : Listing C) (done : ℕ → ℕ) (k : IsLawful t) (s : IsTrackOf t l done) (b : ℕ) where
  to_enabled : (b < length t.units) × (is_enabled t b ≡ true) → IsEnabled l done b
  to_enabled h =
      let parts = and_parts (has_left t.units t.done b) (not (is_some (waits_of t b))) h.1 in
      let near : b < l.count = omega (arith, h.0, s.count) in
      let less = lt_of (get_or t.done b 0) (get_or t.units b 0) parts.0 in
      let units = s.units b near in
      let counts = s.counts b near in
      record {
        exists = near;
        left = omega (arith, less, units, counts);
        waited = λ a e.
            let there : a < l.count = omega (arith, e.0, near) in
            let follow = s.events a b e.0 near ∙ e.1 in
            let free = free_before t b h.1 a (omega (arith, there, s.count)) follow in
            let low = le_of (get_or t.done a 0) (get_or t.units a 0) free in
            let high = k.within a (omega (arith, there, s.count)) in
            let u = s.units a there in
            let d = s.counts a there in
            omega (arith, low, high, u, d);
      }

  from_enabled : IsEnabled l done b → (b < length t.units) × (is_enabled t b ≡ true)
  from_enabled e =
      let near : b < l.count = e.exists in
      let units = s.units b near in
      let counts = s.counts b near in
      let less : get_or t.done b 0 < get_or t.units b 0 = omega (arith, e.left, units, counts) in (
        omega (arith, near, s.count),
        enabled_if t b (lt-ltb (get_or t.done b 0) (get_or t.units b 0) less) (λ a h f.
            let up = k.ascends a b f in
            let there : a < l.count = omega (arith, h, s.count) in
            let full : done a ≡ l.units a = e.waited a (up.0, sym (s.events a b up.0 near) ∙ f) in
            let u = s.units a there in
            let d = s.counts a there in
            not_lt (get_or t.done a 0) (get_or t.units a 0) (d ∙ full ∙ sym u)),
      )

  pub tells : ((b < length t.units) × (is_enabled t b ≡ true)) ↔ IsEnabled l done b
  tells = (to_enabled, from_enabled)

  pub track_more : b < l.count → IsTrackOf (taken t b) l (one_more done b)
  track_more h = record {
    count = s.count;
    units = s.units;
    events = s.events;
    counts = λ a near.
        let old = s.counts a near in
        ⊎_elim
        (λ (e : a ≡ b).
        let g = get_or-set_same t.done b (get_or t.done b 0 + 1) 0 (omega (arith, h, s.count, k.dones)) in
        let m = one_more_same done b in
        let here = s.counts b h in
        subst (λ (x : ℕ). get_or (slice_set t.done b (get_or t.done b 0 + 1)) x 0 ≡ one_more done b x) (sym e) (omega (arith, g, m, here)))
        (λ (ne : a ≢ b). get_or-set_other t.done b a (get_or t.done b 0 + 1) 0 ne ∙ old ∙ sym (one_more_other done b a ne))
        (cases_eq a b);
  }
