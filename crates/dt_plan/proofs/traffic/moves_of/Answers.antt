use Rattle.std.proofs.Common.{arith}
use Rattle.std.specs.Prelude.{◌&&◌, not}
use Rattle.dt_plan.specs.Bounds.{is_local, shares_group}
use Rattle.dt_plan.proofs.TrafficFacts.{moved_on}
use Rattle.dt_plan.proofs.traffic.moves_of.Goals as goal

pub loop-op-preserved : goal.loop-op-preserved
loop-op-preserved c =
    let ops = c.args.ops.now in
    let k = c.loop-op.op-index in
    let o = c.op-item.result in
    let m = c.args.machine.now in
    let old = c.loop-op.moves in
    let new = c.moves_with-moves.result in
    let inv = c.loop-op.invariant in
    let with = c.moves_with-moves.ensures in
    record {
      local = moved_on is_local ops k o old.local new.local (omega (arith, c.loop-op-test.true, c.loop-op.auto.op-index-end)) c.op-item.is inv.local with.local;
      group = moved_on (λ x. not (is_local x) && shares_group m x) ops k o old.group new.group (omega (arith, c.loop-op-test.true, c.loop-op.auto.op-index-end)) c.op-item.is inv.group with.group;
      across = moved_on (λ x. not (is_local x) && not (shares_group m x)) ops k o old.across new.across (omega (arith, c.loop-op-test.true, c.loop-op.auto.op-index-end)) c.op-item.is inv.across with.across;
      local_few = (let a = inv.local_few in let b = with.local_few in omega (arith, a, b));
      group_few = (let a = inv.group_few in let b = with.group_few in omega (arith, a, b));
      across_few = (let a = inv.across_few in let b = with.across_few in omega (arith, a, b));
    }
