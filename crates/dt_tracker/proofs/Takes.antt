-- One more unit of an operation that may go on.
use Rattle.std.proofs.Common.{◌≡◌, ◌≢◌, ℕ, zero, suc, ◌+◌, ◌-◌, ◌*◌, ◌<◌, ◌≤◌, Bool, true, false, not, ◌&&◌, nat_eq, nat_lt, List, [], ◌∷◌, length, get_or, slice_set, refl, ap, sym, ◌∙◌, subst, arith, ⊎_elim, length-set, get_or-set_same, get_or-set_other}
use Rattle.std.specs.Option.{is_some}
use Rattle.std.specs.List.{list_any}
use Rattle.std.proofs.lemmas.Bool.{and_from, and_parts, cases_eq}
use Rattle.std.proofs.lemmas.Bool.Decides.{nat_tests}
use Rattle.dt_tracker.specs.Tracks.{IsLawful, follows, has_left, holds, is_enabled, waits_of}
use Rattle.dt_tracker.specs.Waiting.{AreReady, CanRelease, IsFirst, IsTracked, fewer, is_ready, one_if, times_from, times_in, waiting_of}
use Rattle.dt_tracker.proofs.Below.{each_zero, sum_one, sum_same}
use Rattle.dt_tracker.proofs.Opens.{term_is, track_of, waiting_open}
use Rattle.dt_tracker.proofs.Releases.{can_release, fewer_at, length-fewer}

below_of : (x y : ℕ) → nat_lt x y ≡ true → x < y
below_of x y e = grind (arith, nat_tests)

not_below : (x y : ℕ) → nat_lt x y ≡ false → y ≤ x
not_below x y e = grind (arith, nat_tests)

zero_of : (x : ℕ) → nat_eq x 0 ≡ true → x ≡ 0
zero_of x e = grind (arith, nat_tests)

none_of : (h q : Bool) → true ≡ not (h && q) → q ≡ true → h ≡ false
none_of true true e f = absurd (cc)
none_of true false e f = absurd (cc)
none_of false q e f = refl

module _ (units done : List ℕ) (rows : List (List ℕ)) (waiting : List ℕ) (flags : List Bool) (b : ℕ) (t : IsTracked units done rows waiting flags) (h : b < length units) where
  abbrev more : List ℕ
  more = slice_set done b (get_or done b 0 + 1)

  more_here : get_or (slice_set done b (get_or done b 0 + 1)) b 0 ≡ get_or done b 0 + 1
  more_here = get_or-set_same done b (get_or done b 0 + 1) 0 (omega (arith, h, t.lawful.dones))

  more_there : (a : ℕ) → a ≢ b → get_or (slice_set done b (get_or done b 0 + 1)) a 0 ≡ get_or done a 0
  more_there a ne = get_or-set_other done b a (get_or done b 0 + 1) 0 ne

  left_there : (a : ℕ) → a ≢ b → has_left units (slice_set done b (get_or done b 0 + 1)) a ≡ has_left units done a
  left_there a ne = ap (λ (d : ℕ). nat_lt d (get_or units a 0)) (more_there a ne)

  module _ (en : is_enabled (track_of units done rows) b ≡ true) where
    pub has_one : has_left units done b ≡ true
    has_one = (and_parts (has_left units done b) (not (is_some (waits_of (track_of units done rows) b))) en).0

    one_less : get_or done b 0 < get_or units b 0
    one_less = below_of (get_or done b 0) (get_or units b 0) has_one

    waits_zero : waiting_of units done rows b ≡ 0
    waits_zero =
        zero_of (waiting_of units done rows b)
        (waiting_open units done rows b ∙ (and_parts (has_left units done b) (not (is_some (waits_of (track_of units done rows) b))) en).1)

    -- all that lead to it are finished
    full_before : (a : ℕ) → follows rows a b ≡ true → get_or done a 0 ≡ get_or units a 0
    full_before a f =
        let near = t.lawful.ascends a b f in
        let none : times_from units done rows b a ≡ 0 = each_zero (times_from units done rows b) (length units) a waits_zero (omega (arith, near.0, near.1)) in
        let free : has_left units done a ≡ false = none_of (has_left units done a) (follows rows a b) (sym (ap (λ (n : ℕ). nat_eq n 0) none) ∙ term_is units done rows b a) f in
        let low = not_below (get_or done a 0) (get_or units a 0) free in
        let high = t.lawful.within a (omega (arith, near.0, near.1)) in
        omega (arith, low, high)

    within_more : (a : ℕ) → a < length units → get_or (slice_set done b (get_or done b 0 + 1)) a 0 ≤ get_or units a 0
    within_more a l =
        ⊎_elim
        (λ (e : a ≡ b). subst (λ (x : ℕ). get_or (slice_set done b (get_or done b 0 + 1)) x 0 ≤ get_or units x 0) (sym e) (omega (arith, more_here, one_less)))
        (λ (ne : a ≢ b). let same = more_there a ne in let old = t.lawful.within a l in omega (arith, same, old))
        (cases_eq a b)

    -- what is finished stays
    full_more : (a : ℕ) → get_or done a 0 ≡ get_or units a 0 → get_or (slice_set done b (get_or done b 0 + 1)) a 0 ≡ get_or units a 0
    full_more a full =
        ⊎_elim
        (λ (e : a ≡ b). let bad : get_or done b 0 ≡ get_or units b 0 = subst (λ (x : ℕ). get_or done x 0 ≡ get_or units x 0) e full in absurd (omega (arith, bad, one_less)))
        (λ (ne : a ≢ b). more_there a ne ∙ full)
        (cases_eq a b)

    begun_more : (a c : ℕ) → follows rows a c ≡ true → 0 < get_or (slice_set done b (get_or done b 0 + 1)) c 0 → get_or (slice_set done b (get_or done b 0 + 1)) a 0 ≡ get_or units a 0
    begun_more a c f g =
        full_more a
        (⊎_elim
        (λ (e : c ≡ b). full_before a (subst (λ (x : ℕ). follows rows a x ≡ true) e f))
        (λ (ne : c ≢ b). let same = more_there c ne in t.lawful.begun a c f (omega (arith, same, g)))
        (cases_eq c b))

    lawful_more : IsLawful (track_of units (slice_set done b (get_or done b 0 + 1)) rows)
    lawful_more = record {
      small = t.lawful.small;
      dones = length-set done b (get_or done b 0 + 1) ∙ t.lawful.dones;
      ascends = t.lawful.ascends;
      within = within_more;
      begun = begun_more;
    }

    -- Units are left --------------------------------------------------------------------------------------------------
    module _ (left : has_left units (slice_set done b (get_or done b 0 + 1)) b ≡ true) where
      left_same : (a : ℕ) → has_left units (slice_set done b (get_or done b 0 + 1)) a ≡ has_left units done a
      left_same a =
          ⊎_elim
          (λ (e : a ≡ b). subst (λ (x : ℕ). has_left units (slice_set done b (get_or done b 0 + 1)) x ≡ has_left units done x) (sym e) (left ∙ sym has_one))
          (λ (ne : a ≢ b). left_there a ne)
          (cases_eq a b)

      pub goes_on : IsTracked units (slice_set done b (get_or done b 0 + 1)) rows waiting flags
      goes_on = record {
        lawful = lawful_more;
        some_rows = t.some_rows;
        counted = t.counted;
        flagged = t.flagged;
        waits = λ x l. t.waits x l ∙ sum_same (times_from units done rows x) (times_from units (slice_set done b (get_or done b 0 + 1)) rows x) (length units)
            (λ a l2. ap (λ (c : Bool). one_if c * times_in (get_or rows a []) x) (sym (left_same a)));
        ready = λ x l. t.ready x l ∙ ap (λ (c : Bool). c && nat_eq (get_or waiting x 0) 0) (sym (left_same x));
      }

    -- It is finished --------------------------------------------------------------------------------------------------
    module _ (none : has_left units (slice_set done b (get_or done b 0 + 1)) b ≡ false) where
      waits_less : (x : ℕ) → waiting_of units done rows x ≡ waiting_of units (slice_set done b (get_or done b 0 + 1)) rows x + times_in (get_or rows b []) x
      waits_less x =
          let was : one_if (has_left units done b) * times_in (get_or rows b []) x ≡ 1 * times_in (get_or rows b []) x = ap (λ (c : Bool). one_if c * times_in (get_or rows b []) x) has_one in
          let now : one_if (has_left units (slice_set done b (get_or done b 0 + 1)) b) * times_in (get_or rows b []) x ≡ 0 * times_in (get_or rows b []) x = ap (λ (c : Bool). one_if c * times_in (get_or rows b []) x) none in
          sum_one (times_from units (slice_set done b (get_or done b 0 + 1)) rows x) (times_from units done rows x) (length units) b (times_in (get_or rows b []) x) h
          (λ a l ne. ap (λ (c : Bool). one_if c * times_in (get_or rows a []) x) (sym (left_there a ne)))
          (omega (arith, was, now))

      pub can_finish : CanRelease (get_or rows b []) waiting
      can_finish = can_release (get_or rows b []) waiting (λ x f.
          let near = t.lawful.ascends b x f in
          let less = waits_less x in
          let number = t.waits x near.1 in
          (omega (arith, near.1, t.counted), omega (arith, less, number)))

      pub cleared : AreReady units (slice_set done b (get_or done b 0 + 1)) waiting (slice_set flags b false)
      cleared = λ x l.
          ⊎_elim
          (λ (e : x ≡ b).
          subst (λ (y : ℕ). get_or (slice_set flags b false) y false ≡ is_ready units (slice_set done b (get_or done b 0 + 1)) waiting y) (sym e)
          (get_or-set_same flags b false false (omega (arith, h, t.flagged)) ∙ sym (ap (λ (c : Bool). c && nat_eq (get_or waiting b 0) 0) none)))
          (λ (ne : x ≢ b).
          get_or-set_other flags b x false false ne ∙ t.ready x l ∙ ap (λ (c : Bool). c && nat_eq (get_or waiting x 0) 0) (sym (left_there x ne)))
          (cases_eq x b)

      pub finishes : (after : List ℕ) (flags2 : List Bool) → after ≡ fewer (get_or rows b []) waiting → length flags2 ≡ length (slice_set flags b false)
          → AreReady units (slice_set done b (get_or done b 0 + 1)) after flags2 → IsTracked units (slice_set done b (get_or done b 0 + 1)) rows after flags2
      finishes after flags2 e len are =
          let size : length after ≡ length waiting = ap length e ∙ length-fewer (get_or rows b []) waiting in
          record {
            lawful = lawful_more;
            some_rows = t.some_rows;
            counted = size ∙ t.counted;
            flagged = len ∙ length-set flags b false ∙ t.flagged;
            waits = λ x l.
                let less = waits_less x in
                let number = t.waits x l in
                let moved = fewer_at (get_or rows b []) waiting x can_finish in
                let same : get_or after x 0 ≡ get_or (fewer (get_or rows b []) waiting) x 0 = ap (λ (ws : List ℕ). get_or ws x 0) e in
                omega (arith, less, number, moved, same);
            ready = are;
          }

-- the same by what the code read and wrote
module _ (units done : List ℕ) (rows : List (List ℕ)) (waiting : List ℕ) (flags : List Bool) (b : ℕ) (units2 done2 : List ℕ) (t : IsTracked units done rows waiting flags) (h : b < length units)
    (en : is_enabled (track_of units done rows) b ≡ true) (u : units2 ≡ units) (d : done2 ≡ slice_set done b (get_or done b 0 + 1)) where
  left_is : (c : Bool) → has_left units2 done2 b ≡ c → has_left units (slice_set done b (get_or done b 0 + 1)) b ≡ c
  left_is c l = subst (λ (ds : List ℕ). has_left units ds b ≡ c) d (subst (λ (us : List ℕ). has_left us done2 b ≡ c) u l)

  moved : (after : List ℕ) (flags2 : List Bool) → IsTracked units (slice_set done b (get_or done b 0 + 1)) rows after flags2 → IsTracked units2 done2 rows after flags2
  moved after flags2 k =
      subst (λ (us : List ℕ). IsTracked us done2 rows after flags2) (sym u) (subst (λ (ds : List ℕ). IsTracked units ds rows after flags2) (sym d) k)

  pub advance_on : has_left units2 done2 b ≡ true → IsTracked units2 done2 rows waiting flags
  advance_on l = moved waiting flags (goes_on units done rows waiting flags b t h en (left_is true l))

  module _ (l : has_left units2 done2 b ≡ false) (row : List ℕ) (read : row ≡ get_or rows b []) where
    pub advance_can : CanRelease row waiting
    advance_can = subst (λ (xs : List ℕ). CanRelease xs waiting) (sym read) (can_finish units done rows waiting flags b t h en (left_is false l))

    pub advance_ready : AreReady units2 done2 waiting (slice_set flags b false)
    advance_ready =
        subst (λ (us : List ℕ). AreReady us done2 waiting (slice_set flags b false)) (sym u)
        (subst (λ (ds : List ℕ). AreReady units ds waiting (slice_set flags b false)) (sym d) (cleared units done rows waiting flags b t h en (left_is false l)))

    pub advance_off : (after : List ℕ) (flags2 cleared2 : List Bool) → after ≡ fewer row waiting → cleared2 ≡ slice_set flags b false → length flags2 ≡ length cleared2
        → AreReady units2 done2 after flags2 → IsTracked units2 done2 rows after flags2
    advance_off after flags2 cleared2 e f len are =
        moved after flags2 (finishes units done rows waiting flags b t h en (left_is false l) after flags2
        (e ∙ ap (λ (xs : List ℕ). fewer xs waiting) read) (len ∙ ap length f)
        (subst (λ (ds : List ℕ). AreReady units ds after flags2) d (subst (λ (us : List ℕ). AreReady us done2 after flags2) u are)))

  -- the least operation with a unit left
  pub first_before : (first : ℕ) → IsFirst units done first → (a : ℕ) → a < first → has_left units2 done2 a ≡ false
  first_before first f a l =
      let old = f.before a l in
      let other : a ≢ b = λ e. absurd (differ (has_left units done b) (has_one units done rows waiting flags b t h en) (subst (λ (x : ℕ). has_left units done x ≡ false) e old)) in
      ap (λ (us : List ℕ). has_left us done2 a) u ∙ ap (λ (ds : List ℕ). has_left units ds a) d ∙ left_there units done rows waiting flags b t h a other ∙ old
    where
      differ : (c : Bool) → c ≡ true → c ≡ false → ⊥
      differ true e f = absurd (cc)
      differ false e f = absurd (cc)

  pub first_on : (first : ℕ) → has_left units2 done2 b ≡ true → IsFirst units done first → IsFirst units2 done2 first
  first_on first l f =
      let size : length units2 ≡ length units = ap length u in
      record {
        most = omega (arith, size, f.most);
        before = first_before first f;
        here = λ h2.
            ⊎_elim
            (λ (e : first ≡ b). subst (λ (x : ℕ). has_left units2 done2 x ≡ true) (sym e) l)
            (λ (ne : first ≢ b).
            ap (λ (us : List ℕ). has_left us done2 first) u ∙ ap (λ (ds : List ℕ). has_left units ds first) d ∙ left_there units done rows waiting flags b t h first ne
            ∙ f.here (omega (arith, h2, size)))
            (cases_eq first b);
      }

  pub first_most : (first : ℕ) → IsFirst units done first → first ≤ length units2
  first_most first f = let size : length units2 ≡ length units = ap length u in omega (arith, size, f.most)
