use Rattle.std.proofs.Common.{◌≡◌, ℕ, ◌<◌, List, ap, sym, subst, ◌∙◌, length, get_or, map, arith}
use Rattle.std.proofs.lemmas.List.{length-map}
use Rattle.dt_plan.specs.declared.ops.Op.{Op}
use Rattle.dt_events.proofs.EventPairs.{pairs_ascend}
use Rattle.dt_events.proofs.tracking.tracker_of.Goals as goal

pub new-requires-clause-ascend : goal.new-requires-clause-ascend
new-requires-clause-ascend c =
    let pairs = c.pairs.ensures ∙ c.requires.events in
    let units : c.as_slice.result.now ≡ map (λ (o : Op). o.units) c.args.plan.now.ops =
    c.as_slice.ensures.value ∙ c.in_ok-units.ensures ∙ ap (λ (os : List Op). map (λ (o : Op). o.units) os) c.ops.ensures.ops in
    let count : length c.as_slice.result.now ≡ length c.args.plan.now.ops = ap length units ∙ length-map c.args.plan.now.ops (λ (o : Op). o.units) in
    subst (λ (es : List (ℕ × ℕ)). (k : ℕ) (d : ℕ × ℕ) → k < length es → ((get_or es k d).0 < (get_or es k d).1) × ((get_or es k d).1 < length c.as_slice.result.now)) (sym pairs)
    (λ k d h. let e = pairs_ascend c.args.plan.now k d h in (e.0, omega (arith, e.1, count)))
