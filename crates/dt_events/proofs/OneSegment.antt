-- All scratch that is present is of statements of one segment.
use Rattle.std.proofs.Common.{◌≡◌, ◌≢◌, ◌⊎◌, ℕ, zero, suc, ◌<◌, ◌≤◌, true, false, not, ◌&&◌, List, [], ◌∷◌, ◌++◌, length, map, Option, Some, is_some, refl, sym, ap, ◌∙◌, subst, inl, inr, arith, eqb-true, ne_eqb, ltb-true}
use Rattle.std.specs.Prelude.{nat_eq, nat_lt, option_map, unwrap_or, slice_get}
use Rattle.std.proofs.lemmas.Bool.{cases_eq, cases_lt, or_cases, or_left, and_parts}
use Rattle.dt_model.specs.PositionLaws.{is_before}
use Rattle.dt_nest.specs.Meaning.{Entries}
use Rattle.dt_nest.proofs.Each.{all_map}
use Rattle.dt_argument.specs.Events.{is_listed}
use Rattle.dt_argument.specs.Listings.{Listing, after_ops, state_at}
use Rattle.dt_argument.specs.Orders.{IsAllowed, counts_of, none_done}
use Rattle.dt_argument.proofs.Counting.{begun_finished, counts_kept}
use Rattle.dt_argument.proofs.InTurn.{in_turn_ends}
use Rattle.dt_plan.specs.declared.ops.Op.{Op}
use Rattle.dt_plan.specs.declared.parts.Part.{Part}
use Rattle.dt_plan.specs.declared.touches.Buffer.TheVariants.{Scratch}
use Rattle.dt_plan.specs.Layouts.{Layout}
use Rattle.dt_plan.specs.Listed.{Ascends}
use Rattle.dt_plan.specs.Operations.{class_of, kind_rank, path_end, ops_of, key_of}
use Rattle.dt_plan.specs.Footprints.{footprints_of}
use Rattle.dt_plan.specs.Limits.{plan_view}
use Rattle.dt_plan.proofs.ListOrder.{list_ascends}
use Rattle.dt_events.specs.Conflicts.{some_meet}
use Rattle.dt_events.specs.Events.{events_of}
use Rattle.dt_events.specs.State.{Cell, Word, State}
use Rattle.dt_events.specs.Jobs.{op_at, segment_in, ops_conflict, state_of, listing_of, at_of}
use Rattle.dt_events.specs.ListingRuns.{IsReady}
use Rattle.dt_events.specs.LiveWords.{ScratchIsOfOneSegment}
use Rattle.dt_events.specs.Placed.{AreNumbers, numbers_after_all}
use Rattle.dt_events.proofs.AllocWords.{some_same}
use Rattle.dt_events.proofs.Frames.{op_within}
use Rattle.dt_events.proofs.JobRuns.{listings_run, ready_ordered, allowed_run}
use Rattle.dt_events.proofs.PresenceChanges.{Differs, differs}
use Rattle.dt_events.proofs.ScratchWords.{is_for}

-- Statements ascend ----------------------------------------------------------------------------------------------------------

-- a key that comes before another begins with no greater number
first_up : (x y : ℕ) (xs ys : List ℕ) → is_before (x ∷ xs) (y ∷ ys) ≡ true → x ≤ y
first_up x y xs ys h = go (or_cases (nat_lt x y) (nat_eq x y && is_before xs ys) h)
  where
    go : (nat_lt x y ≡ true) ⊎ ((nat_eq x y && is_before xs ys) ≡ true) → x ≤ y
    go (inl e) = let l = ltb-true x y e in omega (arith, l)
    go (inr e) = let s = eqb-true x y (and_parts (nat_eq x y) (is_before xs ys) e).0 in omega (arith, s)

stmt_up : (o p : Op) → is_before (key_of o) (key_of p) ≡ true → o.stmt ≤ p.stmt
stmt_up o p h =
    first_up o.stmt p.stmt (class_of o.kind ∷ o.node ∷ (map suc o.path ++ path_end o.kind ∷ kind_rank o.kind ∷ o.tensor ∷ o.other ∷ []))
    (class_of p.kind ∷ p.node ∷ (map suc p.path ++ path_end p.kind ∷ kind_rank p.kind ∷ p.tensor ∷ p.other ∷ [])) h

stmts_up : (ops : List Op) → Ascends key_of ops → (a b : ℕ) → a < b → b < length ops → (op_at ops a).stmt ≤ (op_at ops b).stmt
stmts_up [] h a b up inside = absurd (omega (arith, inside))
stmts_up (o ∷ os) h zero zero up inside = absurd (omega (arith, up))
stmts_up (o ∷ os) h zero (suc b) up inside =
    op_within (λ (p : Op). o.stmt ≤ p.stmt) os b (all_map (λ (p : Op). is_before (key_of o) (key_of p) ≡ true) (λ (p : Op). o.stmt ≤ p.stmt) (λ p k. stmt_up o p k) os h.0) (omega (arith, inside))
stmts_up (o ∷ os) h (suc a) zero up inside = absurd (omega (arith, up))
stmts_up (o ∷ os) h (suc a) (suc b) up inside = stmts_up os h.1 a b (omega (arith, up)) (omega (arith, inside))

-- so an operation of an earlier statement is earlier
stmt_earlier : (ops : List Op) → Ascends key_of ops → (a b : ℕ) → a < length ops → (op_at ops a).stmt < (op_at ops b).stmt → a < b
stmt_earlier ops h a b inside less = go (cases_lt a b) (cases_eq b a)
  where
    go : (a < b) ⊎ (b ≤ a) → (b ≡ a) ⊎ (b ≢ a) → a < b
    go (inl e) y = e
    go (inr e) (inl s) = let same = ap (λ (c : ℕ). (op_at ops c).stmt) s in absurd (omega (arith, same, less))
    go (inr e) (inr d) = let up = stmts_up ops h b a (omega (arith, e, d)) inside in absurd (omega (arith, up, less))

-- Segments -------------------------------------------------------------------------------------------------------------------

pub some_state : (s t : State) → Some s ≡ Some t → s ≡ t
some_state s t e = cc

-- the segment of an operation is that of its statement's part
segment_is : (l : Layout) (o : Op) (k : ℕ) (p : Part) → o.stmt ≡ k → slice_get l.parts k ≡ Some p → segment_in l o ≡ p.segment
segment_is l o k p e here = ap (λ (x : Option Part). unwrap_or (option_map (λ (q : Part). q.segment) x) 0) (ap (λ (j : ℕ). slice_get l.parts j) e ∙ here)

-- the state at the start
pub starts : (l : Layout) (x : Entries) (first : ℕ) → after_ops (listing_of l x) first none_done ≡ state_of l x
starts l x zero = refl
starts l x (suc first) = starts l x first

module _ (l : Layout) (ready : IsReady l) (x : Entries) (numbers : AreNumbers l x) where
  abbrev J : Listing Cell
  J = listing_of l x

  -- the state at the end
  ends : state_at J J.units ≡ state_of l (numbers_after_all l.stored l.parts x)
  ends = some_state (state_at J J.units) (state_of l (numbers_after_all l.stored l.parts x)) (sym (in_turn_ends J (ready_ordered l ready x numbers).defined) ∙ listings_run l ready x numbers)

  module _ (u : List ℕ) (allowed : IsAllowed J u) where
    -- scratch that is present has an operation that has begun
    begun : (n k t w : ℕ) → is_some (at_of l x (counts_of u) (Word n (Scratch k t) w)) ≡ true → Differs l (ops_of l) n (Scratch k t) (counts_of u) none_done (length (ops_of l))
    begun n k t w h =
        differs l (ops_of l) (is_listed (events_of (plan_view l))) (state_of l x) n (Scratch k t) (counts_of u) none_done w h (ap (λ (s : State). is_some (s (Word n (Scratch k t) w))) (starts l x (length (ops_of l))))

    -- and one that is not finished
    unfinished : (n k t w : ℕ) → is_some (at_of l x (counts_of u) (Word n (Scratch k t) w)) ≡ true → Differs l (ops_of l) n (Scratch k t) (counts_of u) J.units (length (ops_of l))
    unfinished n k t w h =
        differs l (ops_of l) (is_listed (events_of (plan_view l))) (state_of l x) n (Scratch k t) (counts_of u) J.units w h (ap (λ (s : State). is_some (s (Word n (Scratch k t) w))) ends)

    -- an operation that is not finished keeps back those of later statements of other segments
    kept_back : (a b j k : ℕ) (p q : Part) → a < length (ops_of l) → b < length (ops_of l) → (op_at (ops_of l) a).stmt ≡ j → (op_at (ops_of l) b).stmt ≡ k → slice_get l.parts j ≡ Some p → slice_get l.parts k ≡ Some q
        → j < k → (p.segment ≡ q.segment → ⊥) → (counts_of u b ≡ 0 → ⊥) → (counts_of u a ≡ J.units a → ⊥) → ⊥
    kept_back a b j k p q ha hb ea eb hp hq less apart some unfin =
        unfin (begun_finished J (ready_ordered l ready x numbers) (counts_of u) (counts_kept J u allowed) a b
        (stmt_earlier (ops_of l) (list_ascends l) a b ha (omega (arith, ea, eb, less))) hb (omega (arith, some)) conflict)
      where
        other : nat_eq (segment_in l (op_at (ops_of l) a)) (segment_in l (op_at (ops_of l) b)) ≡ false
        other =
            ne_eqb (segment_in l (op_at (ops_of l) a)) (segment_in l (op_at (ops_of l) b))
            (λ e. apart (sym (segment_is l (op_at (ops_of l) a) j p ea hp) ∙ e ∙ segment_is l (op_at (ops_of l) b) k q eb hq))

        conflict : ops_conflict l (op_at (ops_of l) a) (op_at (ops_of l) b) ≡ true
        conflict =
            or_left (not (nat_eq (segment_in l (op_at (ops_of l) a)) (segment_in l (op_at (ops_of l) b)))) (some_meet (footprints_of l (op_at (ops_of l) a)) (footprints_of l (op_at (ops_of l) b))) (ap not other)

    pub segments_same : (m j t v n k r w : ℕ) (p q : Part) → slice_get l.parts j ≡ Some p → slice_get l.parts k ≡ Some q
        → is_some (at_of l x (counts_of u) (Word m (Scratch j t) v)) ≡ true → is_some (at_of l x (counts_of u) (Word n (Scratch k r) w)) ≡ true → p.segment ≡ q.segment
    segments_same m j t v n k r w p q hp hq g h = go (cases_eq p.segment q.segment) (cases_lt j k) (cases_lt k j)
      where
        ones : (d : Differs l (ops_of l) m (Scratch j t) (counts_of u) J.units (length (ops_of l))) (c : Differs l (ops_of l) n (Scratch k r) (counts_of u) none_done (length (ops_of l))) → j < k → (p.segment ≡ q.segment → ⊥) → ⊥
        ones d c less apart =
            kept_back d.at c.at j k p q d.before c.before (is_for l (op_at (ops_of l) d.at) m j t d.buffer).stmt (is_for l (op_at (ops_of l) c.at) n k r c.buffer).stmt hp hq less apart c.apart d.apart

        others : (d : Differs l (ops_of l) n (Scratch k r) (counts_of u) J.units (length (ops_of l))) (c : Differs l (ops_of l) m (Scratch j t) (counts_of u) none_done (length (ops_of l))) → k < j → (q.segment ≡ p.segment → ⊥) → ⊥
        others d c less apart =
            kept_back d.at c.at k j q p d.before c.before (is_for l (op_at (ops_of l) d.at) n k r d.buffer).stmt (is_for l (op_at (ops_of l) c.at) m j t c.buffer).stmt hq hp less apart c.apart d.apart

        go : (p.segment ≡ q.segment) ⊎ (p.segment ≢ q.segment) → (j < k) ⊎ (k ≤ j) → (k < j) ⊎ (j ≤ k) → p.segment ≡ q.segment
        go (inl e) y z = e
        go (inr d) (inl y) z = absurd (ones (unfinished m j t v g) (begun n k r w h) y d)
        go (inr d) (inr y) (inl z) = absurd (others (unfinished n k r w h) (begun m j t v g) z (λ e. d (sym e)))
        go (inr d) (inr y) (inr z) =
            let same : j ≡ k = omega (arith, y, z) in
            ap (λ (o : Part). o.segment) (some_same p q (sym hp ∙ ap (λ (i : ℕ). slice_get l.parts i) same ∙ hq))

-- so it is after each list that the events allow
pub one_segment : ScratchIsOfOneSegment
one_segment l ready x numbers u allowed s run m j t v n k r w p q hp hq g h =
    segments_same l ready x numbers u allowed m j t v n k r w p q hp hq
    (subst (λ (z : State). is_some (z (Word m (Scratch j t) v)) ≡ true) (sym is) g) (subst (λ (z : State). is_some (z (Word n (Scratch k r) w)) ≡ true) (sym is) h)
  where
    is : at_of l x (counts_of u) ≡ s
    is = some_state (at_of l x (counts_of u)) s (sym (allowed_run l ready x numbers u allowed) ∙ run)
