-- What is kept tells which operations may go on.
use Rattle.std.proofs.Common.{◌≡◌, ℕ, zero, suc, ◌+◌, ◌*◌, ◌<◌, Bool, true, false, not, ◌&&◌, ◌||◌, nat_eq, List, [], ◌∷◌, ◌++◌, length, filter, get_or, Option, Some, None, refl, ap, ap₂, sym, ◌∙◌, arith}
use Rattle.std.specs.Option.{is_some}
use Rattle.std.specs.List.{list_any}
use Rattle.dt_base.specs.Ranges.{below}
use Rattle.dt_flags.specs.Flags.{is_set, set_ones}
use Rattle.dt_tracker.specs.Tracks.{Track, enabled_of, follows, has_left, holds, is_enabled, waits_of}
use Rattle.dt_tracker.specs.Waiting.{IsTracked, one_if, times_from, times_in, waiting_of}
use Rattle.dt_tracker.proofs.Below.{filter_same, find_counted, zero_sum}

abbrev pub track_of : List ℕ → List ℕ → List (List ℕ) → Track
track_of units done rows = record { units = units; followers = rows; done = done }

one_test : (c : Bool) → nat_eq (one_if c) 0 ≡ not c
one_test true = refl
one_test false = refl

not_or : (c d : Bool) → (not c && not d) ≡ not (c || d)
not_or true d = refl
not_or false d = refl

-- a number is nowhere in a list
pub times_any : (xs : List ℕ) (b : ℕ) → nat_eq (times_in xs b) 0 ≡ not (list_any (nat_eq b) xs)
times_any [] b = refl
times_any (x ∷ xs) b =
    zero_sum (one_if (nat_eq b x)) (times_in xs b) ∙ ap₂ (λ (c d : Bool). c && d) (one_test (nat_eq b x)) (times_any xs b) ∙ not_or (nat_eq b x) (list_any (nat_eq b) xs)

term_test : (h : Bool) (t : ℕ) (q : Bool) → nat_eq t 0 ≡ not q → nat_eq (one_if h * t) 0 ≡ not (h && q)
term_test true t q e = let same : 1 * t ≡ t = omega arith in ap (λ (n : ℕ). nat_eq n 0) same ∙ e
term_test false t q e = let none : 0 * t ≡ 0 = omega arith in ap (λ (n : ℕ). nat_eq n 0) none

pub term_is : (units done : List ℕ) (rows : List (List ℕ)) (b a : ℕ) → nat_eq (times_from units done rows b a) 0 ≡ not (holds (track_of units done rows) b a)
term_is units done rows b a = term_test (has_left units done a) (times_in (get_or rows a []) b) (follows rows a b) (times_any (get_or rows a []) b)

-- nothing is waited for
pub waiting_open : (units done : List ℕ) (rows : List (List ℕ)) (b : ℕ) → nat_eq (waiting_of units done rows b) 0 ≡ not (is_some (waits_of (track_of units done rows) b))
waiting_open units done rows b = find_counted (times_from units done rows b) (holds (track_of units done rows) b) (length units) (term_is units done rows b)

none_is : (o : Option ℕ) → true ≡ not (is_some o) → None ≡ o
none_is None e = refl
none_is (Some x) e = absurd (cc)

module _ (units done : List ℕ) (rows : List (List ℕ)) (waiting : List ℕ) (flags : List Bool) (t : IsTracked units done rows waiting flags) where
  pub flag_is : (b : ℕ) → b < length units → get_or flags b false ≡ is_enabled (track_of units done rows) b
  flag_is b h =
      t.ready b (omega (arith, h, t.counted))
      ∙ ap (λ (w : ℕ). has_left units done b && nat_eq w 0) (t.waits b h)
      ∙ ap (λ (c : Bool). has_left units done b && c) (waiting_open units done rows b)

  pub enabled_is : set_ones flags ≡ enabled_of (track_of units done rows)
  enabled_is =
      ap (λ (n : ℕ). filter (is_set flags) (below n)) t.flagged
      ∙ filter_same (is_set flags) (is_enabled (track_of units done rows)) (length units) (λ b h. flag_is b h)

  pub waits_none : (b w : ℕ) → b < length units → w ≡ get_or waiting b 0 → w ≡ 0 → None ≡ waits_of (track_of units done rows) b
  waits_none b w h read z =
      let none : waiting_of units done rows b ≡ 0 = sym (t.waits b h) ∙ sym read ∙ z in
      none_is (waits_of (track_of units done rows) b) (sym (ap (λ (n : ℕ). nat_eq n 0) none) ∙ waiting_open units done rows b)
