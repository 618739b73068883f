use Rattle.std.proofs.Common.{◌≡◌, ℕ, ◌+◌, ◌<◌, ◌≤◌, ◌++◌, ◌∷◌, [], Bool, ◌&&◌, not, List, length, map, filter, nat_lt, append-nil, ap, sym, ◌∙◌, subst, arith}
use Rattle.std.specs.Prelude.{cond}
use Rattle.std.specs.List.{All, list_any}
use Rattle.dt_base.specs.Ranges.{below}
use Rattle.dt_argument.specs.Events.{nearest}
use Rattle.dt_nest.proofs.Each.{all_map, all_filter, all_get, below_all}
use Rattle.dt_plan.specs.Limits.{PlanView}
use Rattle.dt_events.specs.Conflicts.{conflict}
use Rattle.dt_events.specs.Events.{event_limit}
use Rattle.dt_events.proofs.NearestSteps.{none_later, event_step, met_step, fewer_pass}
use Rattle.dt_events.proofs.Buckets.{candidate_inside, none_met, none_nearest}
use Rattle.dt_events.proofs.events.push_events.Goals as goal

pub loop-second-init : goal.loop-second-init
loop-second-init c =
    let a = c.args.first in
    let p = c.args.plan.now in
    let old = c.args.pairs.now.items in
    record {
      pairs = sym (ap (λ (l : List ℕ). old ++ map (λ b. (a, b)) l) (none_later (conflict p) a (nearest (conflict p) a) (a + 1) (omega arith)) ∙ append-nil old);
      met = c.new-met.ensures.items ∙ sym (none_later (conflict p) a (conflict p a) (a + 1) (omega arith));
      within = c.requires.within;
      above = omega arith;
      inside = c.requires.first;
    }

pub conflict-conflicts-requires-clause-second : goal.conflict-conflicts-requires-clause-second
conflict-conflicts-requires-clause-second c = candidate_inside c.args.plan.now c.args.first c.in-Some.second c.in-Some.ensures.1

pub is_nearest-is_event-requires-clause-op : goal.is_nearest-is_event-requires-clause-op
is_nearest-is_event-requires-clause-op c = candidate_inside c.args.plan.now c.args.first c.in-Some.second c.in-Some.ensures.1

pub is_nearest-is_event-requires-clause-met : goal.is_nearest-is_event-requires-clause-met
is_nearest-is_event-requires-clause-met c =
    let p = c.args.plan.now in
    let a = c.args.first in
    let n = c.loop-second.last + 1 in
    let q : ℕ → Bool = λ x. nat_lt a x && conflict p a x in
    subst (λ (xs : List ℕ). All (λ x. x < length p.ops) xs) (sym (c.as_slice.ensures.value ∙ c.loop-second.invariant.met))
    (λ k d l. all_get (λ x. x < length p.ops) (filter q (below n)) k d (all_filter (λ x. x < length p.ops) q (below n) (all_map (λ x. x < n) (λ x. x < length p.ops) (λ x h. omega (arith, h, c.loop-second.invariant.inside)) (below n) (below_all n))) l)

-- the pairs so far, with this one where it is an event
pairs_more : (p : PlanView) (a b : ℕ) (old now : List (ℕ × ℕ)) (met : List ℕ) (conflicts nearest_one : Bool) → a < b
    → now ≡ old ++ map (λ x. (a, x)) (filter (λ x. nat_lt a x && nearest (conflict p) a x) (below b))
    → met ≡ filter (λ x. nat_lt a x && conflict p a x) (below b)
    → conflicts ≡ conflict p a b
    → nearest_one ≡ (conflicts && not (list_any (λ x. conflict p x b) met))
    → now ++ cond nearest_one ((a, b) ∷ []) [] ≡ old ++ map (λ x. (a, x)) (filter (λ x. nat_lt a x && nearest (conflict p) a x) (below (b + 1)))
pairs_more p a b old now met conflicts nearest_one up pairs is_met meets is =
    ap (λ (l : List (ℕ × ℕ)). l ++ cond nearest_one ((a, b) ∷ []) []) pairs
    ∙ ap (λ t. (old ++ map (λ x. (a, x)) (filter (λ x. nat_lt a x && nearest (conflict p) a x) (below b))) ++ cond t ((a, b) ∷ []) []) (is ∙ ap (λ m. m && not (list_any (λ x. conflict p x b) met)) meets)
    ∙ event_step (conflict p) a old b met up is_met

pub returns-in-Err-clause-many : goal.returns-in-Err-clause-many
returns-in-Err-clause-many c e =
    let p = c.args.plan.now in
    let a = c.args.first in
    let m = c.loop-second.last in
    let b = c.in-Some.second in
    let old = c.args.pairs.now.items in
    let f : ℕ → ℕ × ℕ = λ x. (a, x) in
    let q : ℕ → Bool = λ x. nat_lt a x && nearest (conflict p) a x in
    let inside : b < length p.ops = candidate_inside p a b c.in-Some.ensures.1 in
    let end : b ≤ length p.ops = omega (arith, inside) in
    let more = pairs_more p a b old c.loop-second.pairs.items c.as_slice.result.now c.conflict-conflicts.result c.is_nearest-is_event.result
    (omega (arith, c.loop-second.invariant.above, c.in-Some.ensures.0))
    (c.loop-second.invariant.pairs ∙ ap (λ (l : List ℕ). old ++ map f l) (sym (none_nearest p a m b c.requires.first c.in-Some.ensures.0 end c.in-Some.ensures.2)))
    (c.as_slice.ensures.value ∙ c.loop-second.invariant.met ∙ sym (none_met p a m b c.requires.first c.in-Some.ensures.0 end c.in-Some.ensures.2))
    c.conflict-conflicts.ensures c.is_nearest-is_event.ensures in
    let many : event_limit < length (old ++ map f (filter q (below (b + 1)))) = subst (λ (l : List (ℕ × ℕ)). event_limit < length l) more (c.in-Err.ensures.many e) in
    let fewer = fewer_pass old f q (b + 1) (length p.ops) (omega (arith, inside)) in
    omega (arith, many, fewer)

pub loop-second-preserved : goal.loop-second-preserved
loop-second-preserved c =
    let p = c.args.plan.now in
    let a = c.args.first in
    let m = c.loop-second.last in
    let b = c.in-Some.second in
    let old = c.args.pairs.now.items in
    let f : ℕ → ℕ × ℕ = λ x. (a, x) in
    let both : ℕ → Bool = λ x. nat_lt a x && conflict p a x in
    let inside : b < length p.ops = candidate_inside p a b c.in-Some.ensures.1 in
    let end : b ≤ length p.ops = omega (arith, inside) in
    let later : a < b = omega (arith, c.loop-second.invariant.above, c.in-Some.ensures.0) in
    let is_met = c.loop-second.invariant.met ∙ sym (none_met p a m b c.requires.first c.in-Some.ensures.0 end c.in-Some.ensures.2) in
    record {
      pairs = c.in-Ok.ensures.ok
          ∙ pairs_more p a b old c.loop-second.pairs.items c.as_slice.result.now c.conflict-conflicts.result c.is_nearest-is_event.result later
          (c.loop-second.invariant.pairs ∙ ap (λ (l : List ℕ). old ++ map f l) (sym (none_nearest p a m b c.requires.first c.in-Some.ensures.0 end c.in-Some.ensures.2)))
          (c.as_slice.ensures.value ∙ is_met) c.conflict-conflicts.ensures c.is_nearest-is_event.ensures;
      met = c.in_ok-push_if.ensures.ok ∙ ap (λ (l : List ℕ). l ++ cond c.conflict-conflicts.result (b ∷ []) []) is_met
          ∙ ap (λ t. filter both (below b) ++ cond t (b ∷ []) []) c.conflict-conflicts.ensures
          ∙ met_step (conflict p) a b later;
      within = c.in-Ok.ensures.within;
      above = omega (arith, later);
      inside = inside;
    }

pub returns-clause-ok : goal.returns-clause-ok
returns-clause-ok c =
    let p = c.args.plan.now in
    let a = c.args.first in
    let f : ℕ → ℕ × ℕ = λ x. (a, x) in
    c.loop-second.invariant.pairs
    ∙ ap (λ (l : List ℕ). c.args.pairs.now.items ++ map f l)
    (sym (none_nearest p a c.loop-second.last (length p.ops) c.requires.first c.loop-second.invariant.inside (omega arith) (λ x k l. c.in_default.ensures x k)))
