-- What is present on a node costs no more than the node's bound.
use Rattle.std.proofs.Common.{◌≡◌, ◌≢◌, ◌⊎◌, ℕ, zero, suc, ◌+◌, ◌-◌, ◌*◌, ◌<◌, ◌≤◌, Bool, true, false, List, [], ◌∷◌, ◌++◌, length, map, filter, Some, None, is_some, refl, sym, ap, ◌∙◌, subst, inl, inr, arith}
use Rattle.std.specs.Prelude.{if◌then◌else◌, nat_eq, nat_lt, slice_get, sum_by}
use Rattle.std.specs.List.{AllByRecursion, flat_map, zip}
use Rattle.std.proofs.lemmas.Bool.{and_parts, cases_eq, eqb-false}
use Rattle.std.proofs.lemmas.List.Sums.{sum_by-append, sum_by-cons}
use Rattle.std.proofs.lemmas.Nat.{mul-le}
use Rattle.dt_base.specs.Ranges.{below}
use Rattle.dt_base.proofs.Ranges.{length-below}
use Rattle.dt_base.proofs.Sums.{sum_by-map}
use Rattle.dt_runs.specs.Sets.{contains}
use Rattle.dt_model.specs.Positions.{cost_of, coords_at, tensor_at}
use Rattle.dt_nest.specs.Meaning.{Entries}
use Rattle.dt_nest.specs.Paths.{tensors_in}
use Rattle.dt_nest.specs.declared.parts.Work.{Work as Workspace}
use Rattle.dt_nest.proofs.Each.{all_map}
use Rattle.dt_copy.specs.Sources.{home_at}
use Rattle.dt_argument.specs.Events.{is_listed}
use Rattle.dt_argument.specs.Orders.{IsAllowed, counts_of, none_done}
use Rattle.dt_plan.specs.declared.ops.Op.{Op}
use Rattle.dt_plan.specs.declared.parts.Part.{Part}
use Rattle.dt_plan.specs.declared.touches.Buffer.{Buffer}
use Rattle.dt_plan.specs.declared.touches.Buffer.TheVariants.{Home, Scratch, Work}
use Rattle.dt_plan.specs.Layouts.{Layout, homes_at}
use Rattle.dt_plan.specs.Listed.{IsIn}
use Rattle.dt_plan.specs.Bounds.{greatest_of, home_words, scratch_words, part_words, segment_words, bound_of}
use Rattle.dt_plan.specs.Operations.{ops_of}
use Rattle.dt_plan.specs.Limits.{plan_view}
use Rattle.dt_plan.proofs.Ascending.{all_in, map_in}
use Rattle.dt_plan.proofs.OperationUnits.{parts_numbered}
use Rattle.dt_plan.proofs.OutlineFacts.{zip_second}
use Rattle.dt_events.specs.Conflicts.{is_same_buffer}
use Rattle.dt_events.specs.Events.{events_of}
use Rattle.dt_events.specs.State.{Word, State}
use Rattle.dt_events.specs.Units.{scratch_of}
use Rattle.dt_events.specs.Jobs.{op_at, state_of, listing_of, at_of}
use Rattle.dt_events.specs.ListingRuns.{IsReady}
use Rattle.dt_events.specs.LiveWords.{size_of, held_words, live_of, HomesStay, LiveWordsAreBounded}
use Rattle.dt_events.specs.Placed.{CanRun, AreNumbers}
use Rattle.dt_events.specs.PresenceLaws.{count_below}
use Rattle.dt_events.proofs.AllocWords.{greatest_in}
use Rattle.dt_events.proofs.JobRuns.{allowed_run, seconds}
use Rattle.dt_events.proofs.OneSegment.{some_state, starts, segments_same}
use Rattle.dt_events.proofs.Presence.{is_on}
use Rattle.dt_events.proofs.PresenceChanges.{ops_alike}
use Rattle.dt_events.proofs.PresentCounts.{count_same, count_contains}
use Rattle.dt_events.proofs.ScratchWords.{scratch_bounded}

-- Sums -----------------------------------------------------------------------------------------------------------------------

-- a sum over lists that are joined
sum_joined : {X Y : Type 0} (f : Y → ℕ) (g : X → List Y) (xs : List X) → sum_by f (flat_map g xs) ≡ sum_by (λ x. sum_by f (g x)) xs
sum_joined f g [] = refl
sum_joined f g (x ∷ xs) = sum_by-append f (g x) (flat_map g xs) ∙ ap (λ n. sum_by f (g x) + n) (sum_joined f g xs) ∙ sym (sum_by-cons (λ x. sum_by f (g x)) x xs)

-- a sum of no greater numbers is no greater
sum_le : {X : Type 0} (f g : X → ℕ) (xs : List X) → AllByRecursion (λ x. f x ≤ g x) xs → sum_by f xs ≤ sum_by g xs
sum_le f g [] h = omega arith
sum_le f g (x ∷ xs) h = let a = sum_by-cons f x xs in let b = sum_by-cons g x xs in let c = sum_le f g xs h.1 in let d = h.0 in omega (arith, a, b, c, d)

-- a sum of the numbers that pass a test
sum_passing : {X : Type 0} (test : X → Bool) (f : X → ℕ) (xs : List X) → sum_by (λ x. if test x then f x else 0) xs ≡ sum_by f (filter test xs)
sum_passing test f [] = refl
sum_passing {X} test f (x ∷ xs) = sum_by-cons (λ y. if test y then f y else 0) x xs ∙ ap (λ n. (if test x then f x else 0) + n) (sum_passing test f xs) ∙ go (test x)
  where
    go : (b : Bool) → (if b then f x else 0) + sum_by f (filter test xs) ≡ sum_by f (if b then x ∷ filter test xs else filter test xs)
    go true = sym (sum_by-cons f x (filter test xs))
    go false = omega arith

-- what holds of each element holds of those of a list
each : {X : Type 0} (P : X → Type 0) → ((x : X) → P x) → (xs : List X) → AllByRecursion P xs
each P h [] = tt
each P h (x ∷ xs) = (h x, each P h xs)

-- an element that counts in a sum
record Counted {X : Type 0} (f : X → ℕ) (xs : List X) : Type 0 where
  item : X
  is_in : IsIn item xs
  counts : 0 < f item

counted : {X : Type 0} (f : X → ℕ) (xs : List X) → (sum_by f xs ≡ 0) ⊎ Counted f xs
counted f [] = inl refl
counted {X} f (x ∷ xs) = go (cases_eq (f x) 0) (counted f xs)
  where
    go : (f x ≡ 0) ⊎ (f x ≢ 0) → (sum_by f xs ≡ 0) ⊎ Counted f xs → (sum_by f (x ∷ xs) ≡ 0) ⊎ Counted f (x ∷ xs)
    go (inr d) y = inr (record { item = x; is_in = inl refl; counts = omega (arith, d) })
    go (inl e) (inl z) = inl (let a = sum_by-cons f x xs in omega (arith, a, e, z))
    go (inl e) (inr k) = inr (record { item = k.item; is_in = inr k.is_in; counts = k.counts })

-- a number that passes a test, where some do
found : (test : ℕ → Bool) (n : ℕ) → 0 < count_below test n → (w : ℕ) × (test w ≡ true)
found test zero h = absurd (omega (arith, h))
found test (suc n) h = go (test n) refl h (found test n)
  where
    go : (b : Bool) → test n ≡ b → 0 < (if b then 1 else 0) + count_below test n → (0 < count_below test n → (w : ℕ) × (test w ≡ true)) → (w : ℕ) × (test w ≡ true)
    go true e k again = (n, e)
    go false e k again = again (omega (arith, k))

factor_counts : (a b : ℕ) → 0 < a * b → 0 < b
factor_counts a zero h = absurd (omega (arith, h))
factor_counts a (suc b) h = omega arith

there : (b : Bool) (v : ℕ) → is_some (if b then Some v else None) ≡ b
there true v = refl
there false v = refl

-- The parts of a bound --------------------------------------------------------------------------------------------------------

-- no operation opens or closes a home
not_on_home : (l : Layout) (o : Op) (n t : ℕ) → is_on l o n (Home t) ≡ true → ⊥
not_on_home l o n t h = go (nat_lt o.tensor (length l.stored)) (and_parts (nat_eq o.node n) (is_same_buffer (scratch_of l o) (Home t)) h).1
  where
    go : (b : Bool) → is_same_buffer (if b then Scratch o.stmt o.tensor else Work o.stmt (o.tensor - length l.stored)) (Home t) ≡ true → ⊥
    go true g = cc
    go false g = cc

-- so exactly the words of the homes are present
pub homes_stay : HomesStay
homes_stay l x done n t w =
    ops_alike l (ops_of l) (is_listed (events_of (plan_view l))) (state_of l x) n (Home t) done none_done (length (ops_of l)) (λ a h on. absurd (not_on_home l (op_at (ops_of l) a) n t on)) w
    ∙ ap (λ (s : State). is_some (s (Word n (Home t) w))) (starts l x (length (ops_of l)))
    ∙ there (contains (home_at (homes_at l t) n) w) (x t (coords_at (tensor_at l.stored t) w))

module _ (l : Layout) (ready : IsReady l) (x : Entries) (numbers : AreNumbers l x) (u : List ℕ) (allowed : IsAllowed (listing_of l x) u) (n : ℕ) where
  abbrev S : State
  S = at_of l x (counts_of u)

  abbrev held : Buffer → ℕ
  held b = held_words l n S b

  abbrev numbered : List (ℕ × Part)
  numbered = zip (below (length l.parts)) l.parts

  home_costs : (t : ℕ) → held (Home t) ≤ cost_of (tensor_at l.stored t) * length (home_at (homes_at l t) n)
  home_costs t =
      let same : count_below (λ w. is_some (S (Word n (Home t) w))) (size_of l (Home t)) ≡ count_below (contains (home_at (homes_at l t) n)) (size_of l (Home t)) =
      count_same (λ w. is_some (S (Word n (Home t) w))) (contains (home_at (homes_at l t) n)) (size_of l (Home t)) (homes_stay l x (counts_of u) n t) in
      let few = count_contains (home_at (homes_at l t) n) (size_of l (Home t)) in
      mul-le (cost_of (tensor_at l.stored t)) (count_below (λ w. is_some (S (Word n (Home t) w))) (size_of l (Home t))) (cost_of (tensor_at l.stored t)) (length (home_at (homes_at l t) n)) (omega arith) (omega (arith, same, few))

  homes_cost : sum_by held (map Home (below (length l.stored))) ≤ home_words l n
  homes_cost =
      let a = sum_by-map held Home (below (length l.stored)) in
      let b = sum_le (λ t. held (Home t)) (λ t. cost_of (tensor_at l.stored t) * length (home_at (homes_at l t) n)) (below (length l.stored))
      (each (λ t. held (Home t) ≤ cost_of (tensor_at l.stored t) * length (home_at (homes_at l t) n)) home_costs (below (length l.stored))) in
      omega (arith, a, b)

  -- what a statement's scratch costs
  abbrev part_held : ℕ × Part → ℕ
  part_held y = sum_by held (map (Scratch y.0) (tensors_in y.1.sched))

  part_costs : (y : ℕ × Part) → slice_get l.parts y.0 ≡ Some y.1 → part_held y ≤ part_words l n y.1
  part_costs y here =
      let a = sum_by-map held (Scratch y.0) (tensors_in y.1.sched) in
      let b = sum_le (λ t. held (Scratch y.0 t)) (scratch_words l y.1.sched n) (tensors_in y.1.sched)
      (each (λ t. held (Scratch y.0 t) ≤ scratch_words l y.1.sched n t) (λ t. scratch_bounded l ready.runnable x (counts_of u) n y.0 t y.1 here) (tensors_in y.1.sched)) in
      omega (arith, a, b)

  -- a statement whose scratch costs something has a word present
  present_in : (y : ℕ × Part) → 0 < part_held y → (t : ℕ) × (w : ℕ) × (is_some (S (Word n (Scratch y.0 t) w)) ≡ true)
  present_in y h = go (counted (λ t. held (Scratch y.0 t)) (tensors_in y.1.sched))
    where
      go : (sum_by (λ t. held (Scratch y.0 t)) (tensors_in y.1.sched) ≡ 0) ⊎ Counted (λ t. held (Scratch y.0 t)) (tensors_in y.1.sched) → (t : ℕ) × (w : ℕ) × (is_some (S (Word n (Scratch y.0 t) w)) ≡ true)
      go (inl z) = let a = sum_by-map held (Scratch y.0) (tensors_in y.1.sched) in absurd (omega (arith, a, h, z))
      go (inr k) =
          let f = found (λ w. is_some (S (Word n (Scratch y.0 k.item) w))) (size_of l (Scratch y.0 k.item))
          (factor_counts (cost_of (tensor_at l.stored k.item)) (count_below (λ w. is_some (S (Word n (Scratch y.0 k.item) w))) (size_of l (Scratch y.0 k.item))) k.counts) in
          (k.item, f.0, f.1)

  -- then no statement of another segment has scratch
  other_none : (y z : ℕ × Part) → slice_get l.parts y.0 ≡ Some y.1 → slice_get l.parts z.0 ≡ Some z.1 → 0 < part_held y → (z.1.segment ≡ y.1.segment → ⊥) → part_held z ≡ 0
  other_none y z hy hz c apart = go (cases_eq (part_held z) 0)
    where
      go : (part_held z ≡ 0) ⊎ (part_held z ≢ 0) → part_held z ≡ 0
      go (inl e) = e
      go (inr d) =
          let a = present_in y c in
          let b = present_in z (omega (arith, d)) in
          absurd (apart (segments_same l ready x numbers u allowed n z.0 b.0 b.1 n y.0 a.0 a.1 z.1 y.1 hz hy b.2 a.2))

  one_costs : (y : ℕ × Part) → slice_get l.parts y.0 ≡ Some y.1 → 0 < part_held y → (z : ℕ × Part) → slice_get l.parts z.0 ≡ Some z.1 → part_held z ≤ (if nat_eq z.1.segment y.1.segment then part_words l n z.1 else 0)
  one_costs y hy c z hz = go (nat_eq z.1.segment y.1.segment) refl
    where
      go : (b : Bool) → nat_eq z.1.segment y.1.segment ≡ b → part_held z ≤ (if b then part_words l n z.1 else 0)
      go true e = part_costs z hz
      go false e = let none = other_none y z hy hz c (eqb-false z.1.segment y.1.segment e) in omega (arith, none)

  -- the parts are those with their numbers
  parts_are : map (λ (y : ℕ × Part). y.1) numbered ≡ l.parts
  parts_are = seconds (below (length l.parts)) l.parts (length-below (length l.parts))

  segment_is : (s : ℕ) → sum_by (λ (z : ℕ × Part). if nat_eq z.1.segment s then part_words l n z.1 else 0) numbered ≡ segment_words l n s
  segment_is s =
      sym (sum_by-map (λ (p : Part). if nat_eq p.segment s then part_words l n p else 0) (λ (y : ℕ × Part). y.1) numbered)
      ∙ ap (λ (ps : List Part). sum_by (λ (p : Part). if nat_eq p.segment s then part_words l n p else 0) ps) parts_are
      ∙ sum_passing (λ (p : Part). nat_eq p.segment s) (part_words l n) l.parts

  scratch_costs : sum_by part_held numbered ≤ greatest_of (map (λ (p : Part). segment_words l n p.segment) l.parts)
  scratch_costs = go (counted part_held numbered)
    where
      go : (sum_by part_held numbered ≡ 0) ⊎ Counted part_held numbered → sum_by part_held numbered ≤ greatest_of (map (λ (p : Part). segment_words l n p.segment) l.parts)
      go (inl z) = omega (arith, z)
      go (inr k) =
          let here : slice_get l.parts k.item.0 ≡ Some k.item.1 = all_in (λ (y : ℕ × Part). slice_get l.parts y.0 ≡ Some y.1) k.item numbered (parts_numbered l) k.is_in in
          let a = sum_le part_held (λ (z : ℕ × Part). if nat_eq z.1.segment k.item.1.segment then part_words l n z.1 else 0) numbered
          (all_map (λ (z : ℕ × Part). slice_get l.parts z.0 ≡ Some z.1) (λ (z : ℕ × Part). part_held z ≤ (if nat_eq z.1.segment k.item.1.segment then part_words l n z.1 else 0)) (λ z h. one_costs k.item here k.counts z h) numbered (parts_numbered l)) in
          let b = segment_is k.item.1.segment in
          let c = greatest_in (λ (p : Part). segment_words l n p.segment) k.item.1 l.parts (subst (λ (ps : List Part). IsIn k.item.1 ps) parts_are (map_in (λ (y : ℕ × Part). y.1) k.item numbered k.is_in)) in
          omega (arith, a, b, c)

  -- there are no workspaces
  part_workless : (y : ℕ × Part) → CanRun l y.1 → sum_by held (map (Work y.0) (below (length y.1.sched.works))) ≤ 0
  part_workless y can = let e = ap (λ (ws : List Workspace). sum_by held (map (Work y.0) (below (length ws)))) can.workless in omega (arith, e)

  nothing : (ys : List (ℕ × Part)) → sum_by (λ (y : ℕ × Part). 0) ys ≡ 0
  nothing [] = refl
  nothing (y ∷ ys) = let a = sum_by-cons (λ (z : ℕ × Part). 0) y ys in let b = nothing ys in omega (arith, a, b)

  works_cost : sum_by held (flat_map (λ (y : ℕ × Part). map (Work y.0) (below (length y.1.sched.works))) numbered) ≡ 0
  works_cost =
      let a = sum_joined held (λ (y : ℕ × Part). map (Work y.0) (below (length y.1.sched.works))) numbered in
      let b = sum_le (λ (y : ℕ × Part). sum_by held (map (Work y.0) (below (length y.1.sched.works)))) (λ y. 0) numbered
      (all_map (λ (y : ℕ × Part). CanRun l y.1) (λ (y : ℕ × Part). sum_by held (map (Work y.0) (below (length y.1.sched.works))) ≤ 0) part_workless numbered (zip_second (CanRun l) (below (length l.parts)) l.parts ready.parts)) in
      let c = nothing numbered in
      omega (arith, a, b, c)

  pub live_within : live_of l n S ≤ bound_of l n
  live_within =
      let a = sum_by-append held (map Home (below (length l.stored))) (flat_map (λ (y : ℕ × Part). map (Scratch y.0) (tensors_in y.1.sched)) numbered ++ flat_map (λ (y : ℕ × Part). map (Work y.0) (below (length y.1.sched.works))) numbered) in
      let b = sum_by-append held (flat_map (λ (y : ℕ × Part). map (Scratch y.0) (tensors_in y.1.sched)) numbered) (flat_map (λ (y : ℕ × Part). map (Work y.0) (below (length y.1.sched.works))) numbered) in
      let c = sum_joined held (λ (y : ℕ × Part). map (Scratch y.0) (tensors_in y.1.sched)) numbered in
      let d = homes_cost in
      let e = scratch_costs in
      let f = works_cost in
      omega (arith, a, b, c, d, e, f)

-- so it is after each list that the events allow
pub live_bounded : LiveWordsAreBounded
live_bounded l ready x numbers u allowed s run n =
    subst (λ (z : State). live_of l n z ≤ bound_of l n) (some_state (at_of l x (counts_of u)) s (sym (allowed_run l ready x numbers u allowed) ∙ run)) (live_within l ready x numbers u allowed n)
