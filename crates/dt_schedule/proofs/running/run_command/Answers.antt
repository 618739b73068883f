use Rattle.dt_schedule.proofs.LineFacts.{keeps_accesses, keeps_fit, keeps_grid, keeps_sum}
use Rattle.dt_schedule.proofs.running.run_command.Goals as goal

pub returns-clause-keeps : goal.returns-clause-keeps
returns-clause-keeps g c = keeps_sum c.args.sched c.args.grid.now (g.L.Locator.tensors c.args.loc.now) c.commanded.result c.commanded.ensures.keeps

pub returns-clause-fits : goal.returns-clause-fits
returns-clause-fits g c = keeps_fit c.args.sched c.args.grid.now (g.L.Locator.tensors c.args.loc.now) c.requires.located c.commanded.result c.commanded.ensures.keeps

pub returns-clause-stays : goal.returns-clause-stays
returns-clause-stays g c = keeps_accesses c.args.sched c.args.grid.now (g.L.Locator.tensors c.args.loc.now) c.commanded.result c.commanded.ensures.keeps

pub returns-clause-grid : goal.returns-clause-grid
returns-clause-grid g c = keeps_grid c.args.sched c.args.grid.now (g.L.Locator.tensors c.args.loc.now) c.commanded.result c.commanded.ensures.keeps
