use Rattle.dt_plan.proofs.PlanLimits.{homes_all, homes_more}
use Rattle.dt_plan.proofs.planning.all_homes.Goals as goal

pub loop-tensor-preserved : goal.loop-tensor-preserved
loop-tensor-preserved g c =
    homes_more c.args.machine.now c.args.places.now (g.L.Locator.tensors c.args.loc.now) c.requires.count c.loop-tensor.tensor c.index-places-tensor.result c.in_ok-homes_on.field-0 c.loop-tensor.all.items c.push.new.self.items c.loop-tensor-test.true
    c.index-places-tensor.is c.in_ok-homes_on.ensures.homes c.loop-tensor.invariant c.in_ok-push.ensures.items

pub returns : goal.returns
returns g c = homes_all c.args.machine.now c.args.places.now (g.L.Locator.tensors c.args.loc.now) c.requires.count c.loop-tensor.tensor c.loop-tensor.all.items c.loop-tensor-test.false c.loop-tensor.invariant
