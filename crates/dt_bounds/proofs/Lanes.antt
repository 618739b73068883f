-- The points of a visit.
use Rattle.std.proofs.Common.{◌≡◌, ℕ, zero, suc, ◌+◌, Bool, true, false, ◌||◌, ◌&&◌, List, [], ◌∷◌, ◌++◌, map, Option, Some, None, option_map, cond, refl, ap, sym, ◌∙◌, subst, arith, add-one}
use Rattle.std.specs.Prelude.{MatchOption, nat_eq, slice_set}
use Rattle.std.specs.List.{AllByRecursion, filter, list_any, range_with_len}
use Rattle.std.proofs.lemmas.List.Elements.{filter-append}
use Rattle.std.proofs.lemmas.List.Folds.{list_any-append}
use Rattle.std.proofs.Math.Bool.{or-false}
use Rattle.dt_base.proofs.Ranges.{range_with_len-more}
use Rattle.dt_model.specs.Positions.{StoredTensor, coords_at}
use Rattle.dt_model.specs.declared.stmt.Access.{Access}
use Rattle.dt_model.specs.declared.stmt.Term.{Term}
use Rattle.dt_nest.specs.Tree.{read_accesses}
use Rattle.dt_nest.specs.Meaning.{Env, renamed}
use Rattle.dt_nest.specs.World.{world_of}
use Rattle.dt_nest.specs.Lawful.{Loops, Follows}
use Rattle.dt_nest.proofs.Each.{all_map}
use Rattle.dt_nest.proofs.Agree.{follows_more}
use Rattle.dt_nest.specs.Visits.{Lanes, Item, IsReset, IsVisit, slots_of, value_in, is_accessed}
use Rattle.dt_nest.specs.Point.{visit_in, slots_with, env_in, env_at, valid_in, valid_of}
use Rattle.dt_nest.specs.Run.{Run, AreAscending, AreValued, IsExtent, OnLanes, OnVisit, among, is_among, with_lane}
use Rattle.dt_bounds.specs.Points.{AreValuedAt, IsVisitOf, accesses_in, is_lane_reached, is_reached, is_some_lane_reached, item_touches, last_touches}

-- Values ---------------------------------------------------------------------------------------------------------------

-- loops around a visit are around its substituted loop
more_around : (lanes : Option Lanes) (around : Loops) (u : ℕ) → around u ≡ true → with_lane lanes around u ≡ true
more_around None around u h = h
more_around (Some lanes) around u h = or_true (nat_eq u lanes.var) (around u) h
  where
    or_true : (a b : Bool) → b ≡ true → (a || b) ≡ true
    or_true true b e = refl
    or_true false b e = e

-- at each valid value of a substituted loop, the variables of all accesses have values
pub lane_valued : (r : Run) (x : ℕ) (lhs : Access) (terms : List Term) → IsVisitOf r lhs terms → AreValued r → AreValuedAt r (Some x) (accesses_in lhs terms)
lane_valued r x lhs terms is valued = go r.last is valued
  where
    go : (last : Option Item) → OnVisit last (λ visit. (visit.leaf.lhs ≡ lhs) × (visit.leaf.terms ≡ terms))
        → OnVisit last (λ visit. AllByRecursion (λ u. OnVisit last (λ v. Follows r.sched.derived (among v.around) (renamed v.pairs) (renamed v.pairs u))) visit.leaf.lhs.vars
        × AllByRecursion (λ a. AllByRecursion (λ u. OnVisit last (λ v. Follows r.sched.derived (with_lane v.lanes (among v.around)) (renamed v.pairs) (renamed v.pairs u))) a.vars) (read_accesses visit.leaf.terms))
        → AllByRecursion (λ a. AllByRecursion (λ u. OnVisit last (λ v. Follows r.sched.derived (with_lane v.lanes (among v.around)) (renamed v.pairs) (renamed v.pairs u))) a.vars) (accesses_in lhs terms)
    go None is valued = absurd is
    go (Some (IsReset work)) is valued = absurd is
    go (Some (IsVisit visit)) is valued =
        let P : ℕ → Type 0 = λ u. Follows r.sched.derived (among visit.around) (renamed visit.pairs) (renamed visit.pairs u) in
        let Q : ℕ → Type 0 = λ u. Follows r.sched.derived (with_lane visit.lanes (among visit.around)) (renamed visit.pairs) (renamed visit.pairs u) in
        let more : (u : ℕ) → P u → Q u = λ u f. follows_more r.sched.derived (among visit.around) (with_lane visit.lanes (among visit.around)) (renamed visit.pairs) (more_around visit.lanes (among visit.around)) (renamed visit.pairs u) f in (
          subst (λ (a : Access). AllByRecursion Q a.vars) is.0 (all_map P Q more visit.leaf.lhs.vars valued.0),
          subst (λ (ts : List Term). AllByRecursion (λ a. AllByRecursion Q a.vars) (read_accesses ts)) is.1 valued.1,
        )

-- Valid values -----------------------------------------------------------------------------------------------------------

-- one more value of a substituted loop
pub lane_more : (r : Run) (t : StoredTensor) (tensor : ℕ) (accesses : List Access) (n p : ℕ)
    → is_some_lane_reached r t tensor accesses (n + 1) p ≡ (is_some_lane_reached r t tensor accesses n p || is_lane_reached r t tensor accesses n p)
lane_more r t tensor accesses n p =
    ap (λ (l : List ℕ). list_any F (filter q l)) (ap (range_with_len 0) (add-one n) ∙ range_with_len-more 0 n)
    ∙ ap (λ (l : List ℕ). list_any F l) (filter-append q (range_with_len 0 n) ((0 + n) ∷ [])) ∙ list_any-append F (filter q (range_with_len 0 n)) (filter q ((0 + n) ∷ []))
    ∙ ap (λ (b : Bool). list_any F (filter q (range_with_len 0 n)) || b) (one (0 + n) ∙ ap (λ (k : ℕ). q k && F k) (let e : 0 + n ≡ n = omega arith in e))
  where
    F : ℕ → Bool
    F x = is_reached t tensor (env_at r (Some x)) accesses p

    q : ℕ → Bool
    q x = is_among x (valid_of r)

    one : (k : ℕ) → list_any F (filter q (k ∷ [])) ≡ (q k && F k)
    one k = go (q k)
      where
        go : (b : Bool) → list_any F (cond b (k ∷ []) []) ≡ (b && F k)
        go true = or-false (F k)
        go false = refl

-- Touched positions ------------------------------------------------------------------------------------------------------

-- a test of the elements that a function makes
any_map : {A B : Type 0} (F : B → Bool) (f : A → B) (xs : List A) → list_any F (map f xs) ≡ list_any (λ x. F (f x)) xs
any_map F f [] = refl
any_map F f (x ∷ xs) = ap (λ (b : Bool). F (f x) || b) (any_map F f xs)

-- where no loop is substituted, the visit is its only point
only_point : (F : Env → Bool) (V : List ℕ → Env) (slots : List ℕ) (lanes : Option Lanes) → ◌≡◌ {A = Option ℕ} None (option_map (λ (lanes : Lanes). lanes.extent) lanes) → F (V slots) ≡ list_any F (map V (slots_of slots lanes))
only_point F V slots None e = sym (or-false (F (V slots)))
only_point F V slots (Some lanes) e = absurd (cc)

pub plain_touched : (r : Run) (t : StoredTensor) (tensor : ℕ) (lhs : Access) (terms : List Term) → IsVisitOf r lhs terms → IsExtent r None → (p : ℕ) → is_reached t tensor (env_at r None) (accesses_in lhs terms) p ≡ last_touches r t tensor p
unfolding env_at
plain_touched r t tensor lhs terms is none p = go r.last is none
  where
    go : (last : Option Item) → OnVisit last (λ visit. (visit.leaf.lhs ≡ lhs) × (visit.leaf.terms ≡ terms)) → OnVisit last (λ visit. ◌≡◌ {A = Option ℕ} None (option_map (λ (lanes : Lanes). lanes.extent) visit.lanes))
        → is_accessed tensor (coords_at t p) (env_in (world_of r.stored r.sched) r.sched.derived (visit_in last) None) (accesses_in lhs terms) ≡ item_touches (world_of r.stored r.sched) r.sched.derived tensor (coords_at t p) last
    go None is none = absurd is
    go (Some (IsReset work)) is none = absurd is
    go (Some (IsVisit visit)) is none =
        ap (λ (a : Access). is_accessed tensor (coords_at t p) (value_in (world_of r.stored r.sched) r.sched.derived visit.pairs visit.slots) (a ∷ read_accesses terms)) (sym is.0)
        ∙ ap (λ (ts : List Term). is_accessed tensor (coords_at t p) (value_in (world_of r.stored r.sched) r.sched.derived visit.pairs visit.slots) (visit.leaf.lhs ∷ read_accesses ts)) (sym is.1)
        ∙ only_point (λ val. is_accessed tensor (coords_at t p) val (visit.leaf.lhs ∷ read_accesses visit.leaf.terms)) (value_in (world_of r.stored r.sched) r.sched.derived visit.pairs) visit.slots visit.lanes none

-- where one is, its valid values are the points
valid_points : (F : Env → Bool) (V : List ℕ → Env) (slots : List ℕ) (extent : ℕ) (lanes : Option Lanes)
    → MatchOption lanes ⊥ (λ lanes. (extent ≡ lanes.extent) × (lanes.valid ≡ filter (λ x. is_among x lanes.valid) (range_with_len 0 lanes.extent)))
    → list_any (λ x. F (V (slots_with slots lanes (Some x)))) (filter (λ x. is_among x (valid_in lanes)) (range_with_len 0 extent)) ≡ list_any F (map V (slots_of slots lanes))
valid_points F V slots extent None h = absurd h
valid_points F V slots extent (Some lanes) h =
    ap (λ (n : ℕ). list_any (λ x. F (V (slice_set slots lanes.var x))) (filter (λ x. is_among x lanes.valid) (range_with_len 0 n))) h.0
    ∙ ap (λ (l : List ℕ). list_any (λ x. F (V (slice_set slots lanes.var x))) l) (sym h.1)
    ∙ sym (any_map F V (map (λ x. slice_set slots lanes.var x) lanes.valid) ∙ any_map (λ slots. F (V slots)) (λ x. slice_set slots lanes.var x) lanes.valid)

pub lanes_touched : (r : Run) (t : StoredTensor) (tensor extent : ℕ) (lhs : Access) (terms : List Term) → IsVisitOf r lhs terms → OnLanes r (λ lanes. (extent ≡ lanes.extent) × AreAscending (Some lanes))
    → (p : ℕ) → is_some_lane_reached r t tensor (accesses_in lhs terms) extent p ≡ last_touches r t tensor p
unfolding env_at
lanes_touched r t tensor extent lhs terms is lanes p = go r.last is lanes
  where
    go : (last : Option Item) → OnVisit last (λ visit. (visit.leaf.lhs ≡ lhs) × (visit.leaf.terms ≡ terms)) → OnVisit last (λ visit. MatchOption visit.lanes ⊥ (λ lanes. (extent ≡ lanes.extent) × AreAscending (Some lanes)))
        → list_any (λ x. is_accessed tensor (coords_at t p) (env_in (world_of r.stored r.sched) r.sched.derived (visit_in last) (Some x)) (accesses_in lhs terms)) (filter (λ x. is_among x (valid_in (visit_in last).lanes)) (range_with_len 0 extent))
        ≡ item_touches (world_of r.stored r.sched) r.sched.derived tensor (coords_at t p) last
    go None is lanes = absurd is
    go (Some (IsReset work)) is lanes = absurd is
    go (Some (IsVisit visit)) is lanes =
        let V : List ℕ → Env = value_in (world_of r.stored r.sched) r.sched.derived visit.pairs in
        ap (λ (a : Access). list_any (λ x. is_accessed tensor (coords_at t p) (V (slots_with visit.slots visit.lanes (Some x))) (a ∷ read_accesses terms)) (filter (λ x. is_among x (valid_in visit.lanes)) (range_with_len 0 extent))) (sym is.0)
        ∙ ap (λ (ts : List Term). list_any (λ x. is_accessed tensor (coords_at t p) (V (slots_with visit.slots visit.lanes (Some x))) (visit.leaf.lhs ∷ read_accesses ts)) (filter (λ x. is_among x (valid_in visit.lanes)) (range_with_len 0 extent))) (sym is.1)
        ∙ valid_points (λ val. is_accessed tensor (coords_at t p) val (visit.leaf.lhs ∷ read_accesses visit.leaf.terms)) V visit.slots extent visit.lanes lanes
