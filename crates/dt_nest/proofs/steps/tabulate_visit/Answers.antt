use Rattle.dt_nest.specs.Schedule.{seen}
use Rattle.dt_nest.proofs.OwnSlots.{few_leaves}
use Rattle.dt_nest.proofs.steps.tabulate_visit.Goals as goal

pub tabulate_leaf-requires-clause-few : goal.tabulate_leaf-requires-clause-few
tabulate_leaf-requires-clause-few g c = few_leaves (seen c.args.conditions.now.parts.now) c.requires.lawful
