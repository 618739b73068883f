use Rattle.dt_job.proofs.FillFacts.{ramp_values-more}
use Rattle.dt_job.proofs.fills.ramp.Goals as goal

pub loop-position-preserved : goal.loop-position-preserved
loop-position-preserved c = ramp_values-more c.loop-position.position c.from.result c.loop-position.values.items c.push.new.self.items c.from.ensures c.loop-position.invariant c.in_ok-push.ensures.items
