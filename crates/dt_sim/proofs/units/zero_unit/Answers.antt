use Rattle.dt_sim.proofs.MemoryUnits.{zero_done, zero_there}
use Rattle.dt_sim.proofs.units.zero_unit.Goals as goal

pub zero_words-requires : goal.zero_words-requires
zero_words-requires g c = zero_there (c.args.job.now) c.args.op c.args.home c.args.mems.now.items c.requires.due c.requires.home c.op-op.result.now c.op-op.ensures

pub returns : goal.returns
returns g c = zero_done (c.args.job.now) c.args.op c.args.home c.args.mems.now.items c.requires.due c.requires.home c.op-op.result.now c.op-op.ensures c.zero_words.new.mems.items c.zero_words.ensures
