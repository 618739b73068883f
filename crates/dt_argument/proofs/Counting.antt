-- Counts of units, and chains of finished operations.
use Rattle.std.proofs.Common.{◌≡◌, ◌≢◌, ◌↔◌, ℕ, zero, suc, ◌+◌, ◌<◌, ◌≤◌, ◌⊎◌, true, List, [], ◌∷◌, ◌++◌, length, refl, ◌∙◌, arith, ⊎_elim, inl, inr}
use Rattle.std.proofs.lemmas.Bool.{cases_lt, cases_eq}
use Rattle.std.proofs.lemmas.Bool.Decides.{nat_tests}
use Rattle.dt_argument.specs.Events.{IsEvent, Chain, Last, Then}
use Rattle.dt_argument.specs.Listings.{Listing}
use Rattle.dt_argument.specs.Facts.{IsOrdered}
use Rattle.dt_argument.specs.Orders.{AreCounts, IsEnabled, IsAllowedFrom, IsAllowed, IsComplete, one_more, counts_from, counts_of, none_done, total}
use Rattle.dt_argument.proofs.Chains.{chain_up}

pub one_more_same : (done : ℕ → ℕ) (b : ℕ) → one_more done b b ≡ suc (done b)
one_more_same done b = grind (arith, nat_tests)

pub one_more_other : (done : ℕ → ℕ) (b a : ℕ) → a ≢ b → one_more done b a ≡ done a
one_more_other done b a h = grind (arith, nat_tests)

pub none_are_counts : {C : Type 0} (l : Listing C) → AreCounts l none_done
none_are_counts l = record { within = λ a h. omega arith; begun = λ a b hb e g. absurd (omega arith) }

module _ {C : Type 0} (l : Listing C) (o : IsOrdered l) where
  -- with the event predecessors of b finished, all that leads to b is finished
  finished_chain : {a b : ℕ} (done : ℕ → ℕ) → AreCounts l done → b < l.count → ((x : ℕ) → IsEvent l.event x b → done x ≡ l.units x) → Chain l.event a b → done a ≡ l.units a
  finished_chain done k hb w (Last e) = w _ e
  finished_chain {a} {b} done k hb w (Then {x = x} e c) =
      let up : x < b = chain_up c in
      let hx : x < l.count = omega arith in
      let same : done x ≡ l.units x = finished_chain done k hb w c in
      let some : 0 < l.units x = o.has_unit x hx in
      k.begun a x hx e (omega arith)

  pub finished : (done : ℕ → ℕ) → AreCounts l done → (a b : ℕ) → a < b → b < l.count → ((x : ℕ) → IsEvent l.event x b → done x ≡ l.units x) → l.conflict a b ≡ true → done a ≡ l.units a
  finished done k a b h hb w c = finished_chain done k hb w (o.chained a b h hb c)

  -- an operation that has begun has all that it conflicts with before it finished
  pub begun_finished : (done : ℕ → ℕ) → AreCounts l done → (a b : ℕ) → a < b → b < l.count → 0 < done b → l.conflict a b ≡ true → done a ≡ l.units a
  begun_finished done k a b h hb g c = finished done k a b h hb (λ x e. k.begun x b hb e g) c

module _ {C : Type 0} (l : Listing C) (done : ℕ → ℕ) (k : AreCounts l done) (b : ℕ) (en : IsEnabled l done b) where
  more_within : (a : ℕ) → a < l.count → one_more done b a ≤ l.units a
  more_within a h =
      ⊎_elim
      (λ (e : a ≡ b). let s = one_more_same done b in let x : done b < l.units b = en.left in rw e (omega arith))
      (λ (n : a ≢ b). let s = one_more_other done b a n in let x : done a ≤ l.units a = k.within a h in omega arith)
      (cases_eq a b)

  more_begun : (a c : ℕ) → c < l.count → IsEvent l.event a c → 0 < one_more done b c → one_more done b a ≡ l.units a
  more_begun a c hc ev g =
      let full : done a ≡ l.units a =
      ⊎_elim
      (λ (e : c ≡ b). en.waited a (rw e at ev))
      (λ (n : c ≢ b). k.begun a c hc ev (rw (one_more_other done b c n) at g))
      (cases_eq c b) in
      let x : done b < l.units b = en.left in
      ⊎_elim
      (λ (e : a ≡ b). let bad : done b ≡ l.units b = rw e at full in absurd (omega arith))
      (λ (n : a ≢ b). one_more_other done b a n ∙ full)
      (cases_eq a b)

  -- one more unit of an enabled operation keeps what counts are
  pub more_are_counts : AreCounts l (one_more done b)
  more_are_counts = record { within = more_within; begun = more_begun }

pub more_full : (d e : ℕ → ℕ) (n : ℕ) → ((a : ℕ) → a < n → d a ≡ e a) → d n ≡ e n → (a : ℕ) → a < suc n → d a ≡ e a
more_full d e n all here a h = ⊎_elim (λ (lt : a < n). all a lt) (λ (le : n ≤ a). let eq : a ≡ n = omega arith in rw eq here) (cases_lt a n)

-- while a unit is left, the least unfinished operation is enabled
least_enabled : {C : Type 0} (l : Listing C) (done : ℕ → ℕ) → AreCounts l done → (n : ℕ) → n ≤ l.count → ((a : ℕ) → a < n → done a ≡ l.units a) ⊎ ((b : ℕ) × IsEnabled l done b × ((a : ℕ) → a < b → done a ≡ l.units a))
least_enabled l done k zero h = inl (λ a g. absurd (omega arith))
least_enabled l done k (suc n) h =
    ⊎_elim
    (λ (all : (a : ℕ) → a < n → done a ≡ l.units a).
    let w : done n ≤ l.units n = k.within n (omega arith) in
    ⊎_elim
    (λ (lt : done n < l.units n). inr (n, record { exists = omega arith; left = lt; waited = λ a e. all a e.0 }, all))
    (λ (le : l.units n ≤ done n). inl (more_full done l.units n all (omega arith)))
    (cases_lt (done n) (l.units n)))
    (λ (some : (b : ℕ) × IsEnabled l done b × ((a : ℕ) → a < b → done a ≡ l.units a)). inr some)
    (least_enabled l done k n (omega arith))

pub never_stuck : {C : Type 0} (l : Listing C) (done : ℕ → ℕ) → AreCounts l done → IsComplete l done ⊎ ((b : ℕ) × IsEnabled l done b × ((a : ℕ) → a < b → done a ≡ l.units a))
never_stuck l done k = least_enabled l done k l.count (omega arith)

total_same : (n : ℕ) (d e : ℕ → ℕ) → ((a : ℕ) → a < n → d a ≡ e a) → total n d ≡ total n e
total_same zero d e h = refl
total_same (suc n) d e h = let here = h n (omega arith) in let ih = total_same n d e (λ a l. h a (omega arith)) in omega (arith, here, ih)

total-one_more : (n b : ℕ) (d : ℕ → ℕ) → b < n → total n (one_more d b) ≡ suc (total n d)
total-one_more zero b d h = absurd (omega arith)
total-one_more (suc n) b d h =
    ⊎_elim
    (λ (lt : b < n). let ih = total-one_more n b d lt in let ne : n ≢ b = omega arith in let same = one_more_other d b n ne in omega (arith, ih, same))
    (λ (le : n ≤ b).
    let e : b ≡ n = omega arith in
    let one : one_more d b n ≡ suc (d n) = rw e (one_more_same d n) in
    let rest = total_same n (one_more d b) d (λ a l. one_more_other d b a (omega arith)) in
    omega (arith, one, rest))
    (cases_lt b n)

total_most : (n : ℕ) (d e : ℕ → ℕ) → ((a : ℕ) → a < n → d a ≤ e a) → total n d ≤ total n e
total_most zero d e h = omega arith
total_most (suc n) d e h = let here = h n (omega arith) in let ih = total_most n d e (λ a l. h a (omega arith)) in omega (arith, here, ih)

-- as many units as there are finish each operation
total_full : (n : ℕ) (d e : ℕ → ℕ) → ((a : ℕ) → a < n → d a ≤ e a) → total n d ≡ total n e → (a : ℕ) → a < n → d a ≡ e a
total_full zero d e h q a l = absurd (omega arith)
total_full (suc n) d e h q a l =
    let here = h n (omega arith) in
    let most = total_most n d e (λ x k. h x (omega arith)) in
    ⊎_elim
    (λ (lt : a < n). total_full n d e (λ x k. h x (omega arith)) (omega (arith, here, most, q)) a lt)
    (λ (le : n ≤ a). let s : a ≡ n = omega arith in rw s (omega (arith, here, most, q)))
    (cases_lt a n)

none_total : (n : ℕ) → total n none_done ≡ 0
none_total zero = refl
none_total (suc n) = omega (arith, none_total n)

module _ {C : Type 0} (l : Listing C) where
  -- the counts after an allowed list, and how many they are
  counts_after : (u : List ℕ) (done : ℕ → ℕ) → AreCounts l done → IsAllowedFrom l done u → AreCounts l (counts_from done u) × (total l.count (counts_from done u) ≡ total l.count done + length u)
  counts_after [] done k h = (k, omega arith)
  counts_after (b ∷ u) done k h =
      let ih = counts_after u (one_more done b) (more_are_counts l done k b h.0) h.1 in
      let one = total-one_more l.count b done h.0.exists in
      (ih.0, omega (arith, ih.1, one))

  pub long_is_complete : (u : List ℕ) → IsAllowedFrom l none_done u → length u ≡ total l.count l.units → IsComplete l (counts_from none_done u)
  long_is_complete u h q =
      let r = counts_after u none_done (none_are_counts l) h in
      let z = none_total l.count in
      total_full l.count (counts_from none_done u) l.units r.0.within (omega (arith, r.1, q, z))

-- a list that goes on by one
counts_more : (d : ℕ → ℕ) (u : List ℕ) (b : ℕ) → counts_from d (u ++ b ∷ []) ≡ one_more (counts_from d u) b
counts_more d [] b = refl
counts_more d (x ∷ u) b = counts_more (one_more d x) u b

allowed_more : {C : Type 0} (l : Listing C) (d : ℕ → ℕ) (u : List ℕ) (b : ℕ) → IsAllowedFrom l d u → IsEnabled l (counts_from d u) b → IsAllowedFrom l d (u ++ b ∷ [])
allowed_more l d [] b h e = (e, tt)
allowed_more l d (x ∷ u) b h e = (h.0, allowed_more l (one_more d x) u b h.1 e)

allowed_less : {C : Type 0} (l : Listing C) (d : ℕ → ℕ) (u : List ℕ) (b : ℕ) → IsAllowedFrom l d (u ++ b ∷ []) → IsAllowedFrom l d u × IsEnabled l (counts_from d u) b
allowed_less l d [] b h = (tt, h.0)
allowed_less l d (x ∷ u) b h = let rest = allowed_less l (one_more d x) u b h.1 in ((h.0, rest.0), rest.1)

pub goes_on : {C : Type 0} (l : Listing C) (u : List ℕ) (b : ℕ) → (IsAllowed l (u ++ b ∷ []) ↔ (IsAllowed l u × IsEnabled l (counts_of u) b)) × (counts_of (u ++ b ∷ []) ≡ one_more (counts_of u) b)
goes_on l u b = ((allowed_less l none_done u b, λ h. allowed_more l none_done u b h.0 h.1), counts_more none_done u b)

pub counts_kept : {C : Type 0} (l : Listing C) (u : List ℕ) → IsAllowed l u → AreCounts l (counts_of u)
counts_kept l u h = (counts_after l u none_done (none_are_counts l) h).0
