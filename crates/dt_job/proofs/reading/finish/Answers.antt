use Rattle.std.proofs.Common.{rules}
use Rattle.dt_job.specs.Read.{stmts_of}
use Rattle.dt_job.proofs.ReadLaws.{finished}
use Rattle.dt_job.proofs.reading.finish.Goals as goal

pub returns-in-Ok : goal.returns-in-Ok
returns-in-Ok c =
    (stmts_of c.args.draft, finished c.args.number c.args.draft c.in-Ok.job (search rules) c.in-Ok.ensures.job, c.in-Ok.ensures.lawful)
