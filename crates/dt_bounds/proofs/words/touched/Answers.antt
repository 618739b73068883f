use Rattle.std.proofs.Common.{◌≡◌, Bool, true, false, ◌||◌, ◌&&◌, List, [], length, Option, refl, sym, ap, ◌∙◌, subst}
use Rattle.std.specs.Prelude.{nat_lt}
use Rattle.dt_model.specs.Positions.{tensor_at}
use Rattle.dt_nest.specs.declared.progress.Visit.{Visit}
use Rattle.dt_nest.specs.Schedule.{Schedule}
use Rattle.dt_nest.specs.Run.{Goes}
use Rattle.dt_nest.specs.Visits.{Item}
use Rattle.dt_nest.specs.World.{world_of}
use Rattle.dt_runs.specs.Sets.{contains}
use Rattle.dt_bounds.specs.Points.{is_touched}
use Rattle.dt_bounds.proofs.VisitsAdd.{visit_added}
use Rattle.dt_bounds.proofs.words.touched.Goals as goal

pub push_item-requires-clause-room : goal.push_item-requires-clause-room
push_item-requires-clause-room g c = c.loop-found.invariant.room ∙ ap (λ (s : Schedule). length s.names) (sym (c.next.ensures.same.0 ∙ c.loop-found.invariant.same_sched))

pub loop-found-preserved : goal.loop-found-preserved
loop-found-preserved g c =
    let sched = c.next.ensures.same.0 ∙ c.loop-found.invariant.same_sched in
    let stored = c.next.ensures.same.1 ∙ c.loop-found.invariant.same_tensors in
    record {
      same_sched = sched;
      room = c.in_ok-push_item-in-Some.ensures.room ∙ c.loop-found.invariant.room;
      same_tensors = stored;
      members = λ x.
          visit_added (g.L.Locator.tensors c.args.loc.now) c.args.sched.now (tensor_at (g.L.Locator.tensors c.args.loc.now) c.args.tensor) c.args.tensor c.loop-found.visits c.next.new.self c.loop-found.found.positions.items c.push_item.new.found.positions.items
          sched stored c.in_ok-push_item-in-Some.ensures.adds x c.in-Some.item (subst (λ (o : Option Visit). Goes c.loop-found.visits o c.next.new.self) c.in-Some.is c.next.ensures.goes)
          ∙ c.loop-found.invariant.members x;
    }

none_left : (b a : Bool) → (b || (a && false)) ≡ b
none_left true a = refl
none_left false true = refl
none_left false false = refl

-- no item is left, so what was found is what all items touch
pub returns-in-None : goal.returns-in-None
returns-in-None g c =
    λ x. ap (λ v. contains v.items x) c.positions_of.ensures
    ∙ sym (none_left (contains c.loop-found.found.positions.items x) (nat_lt x (length (tensor_at (g.L.Locator.tensors c.args.loc.now) c.args.tensor).coords)))
    ∙ ap (λ (items : List Item). contains c.loop-found.found.positions.items x
    || is_touched (world_of (g.L.Locator.tensors c.args.loc.now) c.args.sched.now) c.args.sched.now.derived (tensor_at (g.L.Locator.tensors c.args.loc.now) c.args.tensor) c.args.tensor items x) (sym c.in-None.ensures.goes.0)
    ∙ c.loop-found.invariant.members x
