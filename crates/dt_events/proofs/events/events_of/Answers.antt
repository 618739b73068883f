use Rattle.std.proofs.Common.{◌≡◌, ℕ, ◌+◌, ◌<◌, ◌++◌, List, length, ap, ◌∙◌, subst, arith}
use Rattle.std.specs.Prelude.{Result, Ok, Err}
use Rattle.std.specs.List.{flat_map}
use Rattle.dt_base.specs.Ranges.{below}
use Rattle.dt_copy.proofs.Shared.{one_more}
use Rattle.dt_events.specs.declared.events_end.EventsEnd.{EventsEnd}
use Rattle.dt_events.specs.declared.events_end.EventsEnd.TheVariants.{TooManyEvents}
use Rattle.dt_events.specs.Events.{event_limit, events_from}
use Rattle.dt_events.proofs.NearestSteps.{fewer_made}
use Rattle.dt_events.proofs.events.events_of.Goals as goal

-- an error of one result is that of another
same_end : {X Y : Type 0} (a b : EventsEnd) → ◌≡◌ {A = Result X EventsEnd} (Err a) (Err b) → ◌≡◌ {A = Result Y EventsEnd} (Err a) (Err b)
same_end {X} {Y} a b e = ap to e
  where
    to : Result X EventsEnd → Result Y EventsEnd
    to (Ok x) = Err a
    to (Err z) = Err z

pub returns-in-Err-clause-many : goal.returns-in-Err-clause-many
returns-in-Err-clause-many c e =
    let p = c.args.plan.now in
    let n = c.loop-first.first in
    let g : ℕ → List (ℕ × ℕ) = events_from p in
    let is : c.loop-first.pairs.items ++ g n ≡ flat_map g (below (n + 1)) = ap (λ (l : List (ℕ × ℕ)). l ++ g n) c.loop-first.invariant.pairs ∙ one_more g n in
    let many : event_limit < length (flat_map g (below (n + 1))) = subst (λ (l : List (ℕ × ℕ)). event_limit < length l) is (c.in-Err.ensures.many (same_end c.in-Err.end TooManyEvents e)) in
    let fewer = fewer_made g (n + 1) (length p.ops) (omega (arith, c.op_count-count.ensures.count, c.loop-first-test.true)) in
    omega (arith, many, fewer)

pub loop-first-init : goal.loop-first-init
loop-first-init c =
    let none = ap (λ (l : List (ℕ × ℕ)). length l) c.new-pairs.ensures.items in
    record {
      pairs = c.new-pairs.ensures.items;
      within = omega (arith, none);
    }

pub loop-first-preserved : goal.loop-first-preserved
loop-first-preserved c =
    let p = c.args.plan.now in
    let n = c.loop-first.first in
    let g : ℕ → List (ℕ × ℕ) = events_from p in
    record {
      pairs = c.in-Ok.ensures.ok ∙ ap (λ (l : List (ℕ × ℕ)). l ++ g n) c.loop-first.invariant.pairs ∙ one_more g n;
      within = c.in-Ok.ensures.within;
    }

pub returns-clause-pairs : goal.returns-clause-pairs
returns-clause-pairs c =
    let p = c.args.plan.now in
    let end : c.loop-first.first ≡ length p.ops = omega (arith, c.op_count-count.ensures.count, c.loop-first.auto.first-end, c.loop-first-test.false) in
    c.loop-first.invariant.pairs ∙ ap (λ k. flat_map (events_from p) (below k)) end
