use Rattle.dt_schedule.proofs.LineFacts.{answers_keep}
use Rattle.dt_schedule.proofs.running.commanded.Goals as goal

pub returns-in-Ok-read_command-clause-keeps : goal.returns-in-Ok-read_command-clause-keeps
returns-in-Ok-read_command-clause-keeps g c =
    answers_keep c.args.sched c.args.site.now.grid.now (g.L.Locator.tensors c.args.site.now.loc.now) _ c.in-Ok-read_command.command c.parts-lawful.ensures.lawful c.in-Ok-read_command.ensures.read c.in-Ok-read_command.ensures.known c.apply.result c.apply.ensures
