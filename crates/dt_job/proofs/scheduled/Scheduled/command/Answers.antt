use Rattle.std.proofs.Common.{◌≡◌, [], Option, Some, ap, sym, subst, ◌∙◌, unwrap_or}
use Rattle.dt_nest.specs.Chain.{stmt_schedule}
use Rattle.dt_nest.specs.Schedule.{Schedule}
use Rattle.dt_job.specs.Contents.{names_of, stored_of_all}
use Rattle.dt_job.specs.Drafts.{IsScheduled}
use Rattle.dt_job.proofs.NextPart.{next_part}
use Rattle.dt_job.proofs.scheduled.Scheduled.command.Goals as goal

pub returns-in-Ok-clause-lawful : goal.returns-in-Ok-clause-lawful
returns-in-Ok-clause-lawful c =
    let had : c.self.inside.sched ≡ Some c.unwrap-sched.result = sym c.take.ensures.value ∙ c.unwrap-sched.ensures in
    let is : c.args.self.now ≡ record { stmt = c.self.inside.stmt; head = c.self.inside.head; sched = c.unwrap-sched.result } =
    sym c.self.view_is ∙ ap (λ (o : Option Schedule). record { stmt = c.self.inside.stmt; head = c.self.inside.head; sched = unwrap_or o (stmt_schedule c.self.inside.stmt [] []) }) had in
    let old = subst (IsScheduled c.args.grid.now c.args.declared.now) is c.requires.lawful in
    record {
      stmt = old.stmt;
      part = next_part c.args.grid.now (stored_of_all c.args.declared.now) (names_of c.args.declared.now) c.self.inside.stmt c.unwrap-sched.result c.in-Ok.sched 0 old.part c.in-Ok.ensures.keeps c.in-Ok.ensures.fits c.in-Ok.ensures.stays c.in-Ok.ensures.grid;
    }
