use Rattle.std.proofs.Common.{length, ◌<◌, ◌≤◌, sym, subst}
use Rattle.dt_mem.specs.Memory.{room_at}
use Rattle.dt_plan.specs.declared.ops.Op.{Op}
use Rattle.dt_sim.specs.Memories.{memory_at}
use Rattle.dt_sim.proofs.MemoryUnits.{alloc_absent, alloc_done}
use Rattle.dt_sim.proofs.Rooms.{node_within}
use Rattle.dt_sim.proofs.units.alloc_unit.Goals as goal

pub begin_on-requires-clause-node : goal.begin_on-requires-clause-node
begin_on-requires-clause-node g c =
    let there = subst (λ (q : Op). c.args.scratch < length (memory_at c.args.mems.now.items q.node)) (sym c.op-op.ensures) c.requires.exists in
    node_within c.args.mems.now.items c.op-op.result.now.node c.args.scratch there

pub begin_on-requires-clause-exists : goal.begin_on-requires-clause-exists
begin_on-requires-clause-exists g c = subst (λ (q : Op). c.args.scratch < length (memory_at c.args.mems.now.items q.node)) (sym c.op-op.ensures) c.requires.exists

pub begin_on-requires-clause-absent : goal.begin_on-requires-clause-absent
begin_on-requires-clause-absent g c = alloc_absent c.args.job.now c.args.op c.args.scratch c.args.mems.now.items c.requires.due c.requires.scratch c.op-op.result.now c.op-op.ensures

pub begin_on-requires-clause-fits : goal.begin_on-requires-clause-fits
begin_on-requires-clause-fits g c = subst (λ (q : Op). length q.words ≤ room_at (memory_at c.args.mems.now.items q.node) c.args.scratch) (sym c.op-op.ensures) c.requires.room

pub returns : goal.returns
returns g c = rw c.begin_on.ensures (alloc_done c.args.job.now c.args.op c.args.scratch c.args.mems.now.items c.requires.due c.requires.scratch c.op-op.result.now c.op-op.ensures c.requires.exists)
