use Rattle.dt_nest.specs.Schedule.{seen}
use Rattle.dt_rewrite.specs.Laws.Collapse.{collapse_small}
use Rattle.dt_rewrite.proofs.collapses.CollapseRewrite.applied.Goals as goal

pub cut-requires : goal.cut-requires
cut-requires c = collapse_small c.args.self (seen c.args.parts) c.requires.legal
