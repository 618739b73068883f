use Rattle.dt_nest.specs.Schedule.{seen}
use Rattle.dt_nest.proofs.OwnSlots.{few_in}
use Rattle.dt_nest.proofs.visits.Visits.next.Goals as goal

pub next-self-inside-requires-clause-few : goal.next-self-inside-requires-clause-few
next-self-inside-requires-clause-few g c = few_in (seen c.parts.result.now) c.self.inside.sched.now c.parts.ensures.parts c.parts.ensures.lawful
