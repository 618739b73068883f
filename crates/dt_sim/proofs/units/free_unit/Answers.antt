use Rattle.dt_sim.proofs.MemoryUnits.{free_done, free_present}
use Rattle.dt_sim.proofs.units.free_unit.Goals as goal

pub end_on-requires : goal.end_on-requires
end_on-requires g c = free_present c.args.job.now c.args.op c.args.scratch c.args.mems.now.items c.requires.due c.requires.scratch c.op-op.result.now c.op-op.ensures

pub returns : goal.returns
returns g c = rw c.end_on.ensures (free_done c.args.job.now c.args.op c.args.scratch c.args.mems.now.items c.requires.due c.requires.scratch c.op-op.result.now c.op-op.ensures)
