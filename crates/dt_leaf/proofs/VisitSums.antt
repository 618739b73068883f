-- What a visit adds, as the sum of its terms over the valid values of its substituted loop.
use Rattle.std.proofs.Common.{◌≡◌, ℕ, ◌+◌, ◌%◌, ◌^◌, Bool, true, false, List, [], ◌∷◌, ◌++◌, map, filter, sum_by, Option, Some, None, option_map, refl, sym, ap, ◌∙◌, subst, arith}
use Rattle.std.specs.Prelude.{All, MatchOption, ◌<◌, ◌||◌, if◌then◌else◌, get_or, nat_eq, slice_index, slice_set}
use Rattle.std.proofs.lemmas.Bool.{eqb-true}
use Rattle.std.specs.List.{AllByRecursion, flat_map, range_with_len}
use Rattle.std.proofs.Math.Nat.{add-mod}
use Rattle.std.proofs.lemmas.List.Elements.{filter-append}
use Rattle.std.proofs.lemmas.List.Sums.{sum_by-cons, sum_by-append}
use Rattle.dt_base.proofs.Sums.{sum_by-map}
use Rattle.dt_model.specs.declared.stmt.Access.{Access}
use Rattle.dt_model.specs.declared.stmt.Factor.{Factor}
use Rattle.dt_model.specs.declared.stmt.Factor.TheVariants.{Read, Literal}
use Rattle.dt_model.specs.declared.stmt.Term.{Term}
use Rattle.dt_nest.specs.declared.derivations.Derived.{Derived}
use Rattle.dt_nest.specs.Tree.{factor_accesses, read_accesses}
use Rattle.dt_nest.specs.Meaning.{Env, World, Entries, terms_of, renamed}
use Rattle.dt_nest.specs.World.{world_of}
use Rattle.dt_nest.specs.Lawful.{Follows}
use Rattle.dt_nest.proofs.Each.{all_both, all_map, all_get}
use Rattle.dt_nest.proofs.PointFacts.{on_visit}
use Rattle.dt_nest.proofs.Agree.{all_parts}
use Rattle.dt_nest.specs.Visits.{Lanes, LeafVisit, Item, IsReset, IsVisit, environments, value_in, slots_of}
use Rattle.dt_nest.specs.Effects.{visit_sum}
use Rattle.dt_nest.specs.Run.{Run, OnVisit, OnLanes, HasValue, HasLaneValue, AreAscending, among, with_lane, is_among}
use Rattle.dt_nest.proofs.Moves.{range-add}
use Rattle.dt_nest.specs.Point.{visit_in, visit_of, env_at, valid_in, valid_of, slots_with, HasValueAt}
use Rattle.dt_leaf.specs.AtVisit.{AreReadable, IsFactorAt, IsReadAt, IsShort, IsTermAt, Readable}

-- facts on a visit, and on its substituted loop
pub on_visit_map : (P Q : LeafVisit → Type 0) (last : Option Item) → (P (visit_in last) → Q (visit_in last)) → OnVisit last P → OnVisit last Q
on_visit_map P Q None f h = h
on_visit_map P Q (Some (IsReset work)) f h = h
on_visit_map P Q (Some (IsVisit visit)) f h = f h

match_lanes : (P Q : Lanes → Type 0) (lanes : Option Lanes) → ((l : Lanes) → P l → Q l) → MatchOption lanes ⊥ P → MatchOption lanes ⊥ Q
match_lanes P Q None f h = h
match_lanes P Q (Some l) f h = f l h

pub on_lanes_map : (P Q : Lanes → Type 0) (r : Run) → ((l : Lanes) → P l → Q l) → OnLanes r P → OnLanes r Q
on_lanes_map P Q r f h = on_visit_map (λ visit. MatchOption visit.lanes ⊥ P) (λ visit. MatchOption visit.lanes ⊥ Q) r.last (match_lanes P Q (visit_in r.last).lanes f) h

-- a substituted loop's valid values where a run stands
-- where no loop is substituted a variable has a value without one
pub lane_free : (r : Run) → (visit_of r).lanes ≡ None → (u : ℕ) → HasLaneValue r u → HasValue r u
lane_free r e u h =
    on_visit_map (λ visit. Follows r.sched.derived (with_lane visit.lanes (among visit.around)) (renamed visit.pairs) (renamed visit.pairs u)) (λ visit. Follows r.sched.derived (among visit.around) (renamed visit.pairs) (renamed visit.pairs u)) r.last
    (λ k. subst (λ (o : Option Lanes). Follows r.sched.derived (with_lane o (among (visit_in r.last).around)) (renamed (visit_in r.last).pairs) (renamed (visit_in r.last).pairs u)) e k) h

-- Terms ---------------------------------------------------------------------------------------------------------------

module _ (can : Readable) (r : Run) (lane : Option ℕ) (small : (u : ℕ) → slice_index r.sched.extents u < 2 ^ 32) (may : (u : ℕ) → HasLaneValue r u → HasValueAt r lane u) where
  -- a short access, whose variables have values, and which has a number
  abbrev IsRead : Access → Type 0
  IsRead a = (IsShort a × AllByRecursion (HasLaneValue r) a.vars) × can a.tensor (map (env_at r lane) a.vars)

  read_at : (a : Access) → IsRead a → IsReadAt can r lane a
  read_at a h = record {
    coordinates = record { few = h.0.0; valued = λ k d l. all_get (HasValueAt r lane) a.vars k d (all_map (HasLaneValue r) (HasValueAt r lane) may a.vars h.0.1) l; small = λ k d l. small (get_or a.vars k d) };
    there = h.1;
  }

  factor_at : (f : Factor) → AllByRecursion IsRead (factor_accesses f) → IsFactorAt can r lane f
  factor_at (Read a) h = read_at a h.0
  factor_at (Literal n) h = tt

  factors_at : (fs : List Factor) → AllByRecursion IsRead (flat_map factor_accesses fs) → AllByRecursion (IsFactorAt can r lane) fs
  factors_at [] h = tt
  factors_at (f ∷ fs) h = let p = all_parts IsRead (factor_accesses f) (flat_map factor_accesses fs) h in (factor_at f p.0, factors_at fs p.1)

  each_term : (terms : List Term) → AllByRecursion IsRead (read_accesses terms) → AllByRecursion (IsTermAt can r lane) terms
  each_term [] h = tt
  each_term (t ∷ terms) h =
      let p = all_parts IsRead (flat_map factor_accesses t.factors) (read_accesses terms) h in
      ((λ k d l. all_get (IsFactorAt can r lane) t.factors k d (factors_at t.factors p.0) l), each_term terms p.1)

  -- so the terms can be computed
  pub terms_at : (terms : List Term) → AllByRecursion IsShort (read_accesses terms) → AllByRecursion (λ a. AllByRecursion (HasLaneValue r) a.vars) (read_accesses terms) → AreReadable can terms (env_at r lane) → All (IsTermAt can r lane) terms
  terms_at terms few valued there =
      let both = all_both IsShort (λ a. AllByRecursion (HasLaneValue r) a.vars) (λ a. IsShort a × AllByRecursion (HasLaneValue r) a.vars) (λ a x y. (x, y)) (read_accesses terms) few valued in
      λ k d l. all_get (IsTermAt can r lane) terms k d (each_term terms (all_both (λ a. IsShort a × AllByRecursion (HasLaneValue r) a.vars) (λ a. can a.tensor (map (env_at r lane) a.vars)) IsRead (λ a x y. (x, y)) (read_accesses terms) both there)) l

-- Points ---------------------------------------------------------------------------------------------------------------

-- what holds in each environment of a visit holds at the visit, where no loop is substituted
pub at_once : (P : Env → Type 0) (r : Run) → (visit_of r).lanes ≡ None → AllByRecursion P (environments (world_of r.stored r.sched) r.sched.derived (visit_of r)) → P (env_at r None)
unfolding env_at
at_once P r e h =
    (subst (λ (o : Option Lanes). AllByRecursion P (map (value_in (world_of r.stored r.sched) r.sched.derived (visit_of r).pairs) (slots_of (visit_of r).slots o))) e h).0

among_step : (Q : ℕ → Type 0) (x y : ℕ) (b r : Bool) → nat_eq x y ≡ b → (b || r) ≡ true → Q y → (r ≡ true → Q x) → Q x
among_step Q x y true r f k h more = subst Q (sym (eqb-true x y f)) h
among_step Q x y false r f k h more = more k

among_each : (Q : ℕ → Type 0) (x : ℕ) (xs : List ℕ) → is_among x xs ≡ true → AllByRecursion Q xs → Q x
among_each Q x [] e h = absurd (cc)
among_each Q x (y ∷ ys) e h = among_step Q x y (nat_eq x y) (is_among x ys) refl e h.0 (λ k. among_each Q x ys k h.1)

all_of_map : (R : Env → Type 0) (f : List ℕ → Env) (g : ℕ → List ℕ) (xs : List ℕ) → AllByRecursion R (map f (map g xs)) → AllByRecursion (λ y. R (f (g y))) xs
all_of_map R f g [] k = tt
all_of_map R f g (y ∷ ys) k = (k.0, all_of_map R f g ys k.1)

lane_among : (P : Env → Type 0) (w : World) (ds : List Derived) (visit : LeafVisit) (lanes : Option Lanes) (x : ℕ) → MatchOption lanes ⊥ (λ (l : Lanes). is_among x l.valid ≡ true)
    → AllByRecursion P (map (value_in w ds visit.pairs) (slots_of visit.slots lanes)) → P (value_in w ds visit.pairs (slots_with visit.slots lanes (Some x)))
lane_among P w ds visit None x e h = absurd e
lane_among P w ds visit (Some l) x e h =
    among_each (λ y. P (value_in w ds visit.pairs (slice_set visit.slots l.var y))) x l.valid e (all_of_map P (value_in w ds visit.pairs) (λ y. slice_set visit.slots l.var y) l.valid h)

-- and at each valid value of a substituted loop
pub at_lane : (P : Env → Type 0) (r : Run) (x : ℕ) → OnLanes r (λ lanes. is_among x lanes.valid ≡ true) → AllByRecursion P (environments (world_of r.stored r.sched) r.sched.derived (visit_of r)) → P (env_at r (Some x))
unfolding env_at
at_lane P r x o h =
    lane_among P (world_of r.stored r.sched) r.sched.derived (visit_of r) (visit_of r).lanes x (on_visit (λ visit. MatchOption visit.lanes ⊥ (λ (l : Lanes). is_among x l.valid ≡ true)) r.last o) h

-- Sums ----------------------------------------------------------------------------------------------------------------

module _ (w : World) (ds : List Derived) (x : Entries) (visit : LeafVisit) where
  abbrev Over : Option Lanes → ℕ
  Over lanes = sum_by (λ val. terms_of x val visit.leaf.terms) (map (value_in w ds visit.pairs) (slots_of visit.slots lanes))

  -- without a substituted loop a visit adds its terms once
  sum_once : visit.lanes ≡ None → visit_sum w ds x visit ≡ terms_of x (value_in w ds visit.pairs visit.slots) visit.leaf.terms
  sum_once e = ap Over e ∙ omega (arith, sum_by-cons (λ val. terms_of x val visit.leaf.terms) (value_in w ds visit.pairs visit.slots) [])

  over_lanes : (extent : ℕ) (lanes : Option Lanes) → Some extent ≡ option_map (λ (l : Lanes). l.extent) lanes → AreAscending lanes
      → Over lanes ≡ sum_by (λ y. terms_of x (value_in w ds visit.pairs (slots_with visit.slots lanes (Some y))) visit.leaf.terms) (filter (λ y. is_among y (valid_in lanes)) (range_with_len 0 extent))
  over_lanes extent None e a = absurd (cc)
  over_lanes extent (Some l) e a =
      let n : l.extent ≡ extent = cc in
      sum_by-map (λ val. terms_of x val visit.leaf.terms) (value_in w ds visit.pairs) (map (λ y. slice_set visit.slots l.var y) l.valid)
      ∙ sum_by-map (λ slots. terms_of x (value_in w ds visit.pairs slots) visit.leaf.terms) (λ y. slice_set visit.slots l.var y) l.valid
      ∙ ap (sum_by (λ y. terms_of x (value_in w ds visit.pairs (slice_set visit.slots l.var y)) visit.leaf.terms)) (a ∙ ap (λ (m : ℕ). filter (λ y. is_among y l.valid) (range_with_len 0 m)) n)

-- the sum of a visit without a substituted loop
pub visit_once : (r : Run) (x : Entries) (terms : List Term) → (visit_of r).lanes ≡ None → terms ≡ (visit_of r).leaf.terms → terms_of x (env_at r None) terms ≡ visit_sum (world_of r.stored r.sched) r.sched.derived x (visit_of r)
unfolding env_at
visit_once r x terms e t =
    ap (terms_of x (value_in (world_of r.stored r.sched) r.sched.derived (visit_of r).pairs (visit_of r).slots)) t
    ∙ sym (sum_once (world_of r.stored r.sched) r.sched.derived x (visit_of r) e)

-- and with one
pub visit_lanes : (r : Run) (x : Entries) (terms : List Term) (extent : ℕ) → Some extent ≡ option_map (λ (l : Lanes). l.extent) (visit_of r).lanes → AreAscending (visit_of r).lanes → terms ≡ (visit_of r).leaf.terms
    → sum_by (λ y. terms_of x (env_at r (Some y)) terms) (filter (λ y. is_among y (valid_of r)) (range_with_len 0 extent)) ≡ visit_sum (world_of r.stored r.sched) r.sched.derived x (visit_of r)
unfolding env_at
visit_lanes r x terms extent e a t =
    ap (λ (ts : List Term). sum_by (λ y. terms_of x (value_in (world_of r.stored r.sched) r.sched.derived (visit_of r).pairs (slots_with (visit_of r).slots (visit_of r).lanes (Some y))) ts) (filter (λ y. is_among y (valid_of r)) (range_with_len 0 extent))) t
    ∙ sym (over_lanes (world_of r.stored r.sched) r.sched.derived x (visit_of r) extent (visit_of r).lanes e a)

-- one more value of a substituted loop
pub lanes_more : (f : ℕ → ℕ) (p : ℕ → Bool) (n s x : ℕ) → s ≡ sum_by f (filter p (range_with_len 0 n)) % 2 ^ 64 → x ≡ (if p n then f n else 0) % 2 ^ 64
    → (s + x) % 2 ^ 64 ≡ sum_by f (filter p (range_with_len 0 (n + 1))) % 2 ^ 64
lanes_more f p n s x e q =
    let z : 0 + n ≡ n = omega arith in
    let longer : range_with_len 0 (n + 1) ≡ range_with_len 0 n ++ n ∷ [] = range-add 0 n 1 ∙ ap (λ (k : ℕ). range_with_len 0 n ++ k ∷ []) z in
    let whole : sum_by f (filter p (range_with_len 0 (n + 1))) ≡ sum_by f (filter p (range_with_len 0 n)) + (if p n then f n else 0) =
    ap (λ (l : List ℕ). sum_by f (filter p l)) longer ∙ ap (sum_by f) (filter-append p (range_with_len 0 n) (n ∷ []))
    ∙ sum_by-append f (filter p (range_with_len 0 n)) (filter p (n ∷ [])) ∙ ap (λ (k : ℕ). sum_by f (filter p (range_with_len 0 n)) + k) (one (p n)) in
    rw (e, q, whole) (sym (add-mod (sum_by f (filter p (range_with_len 0 n))) (if p n then f n else 0) (2 ^ 64)))
  where
    one : (b : Bool) → sum_by f (if b then n ∷ [] else []) ≡ (if b then f n else 0)
    one true = omega (arith, sum_by-cons f n [])
    one false = refl
