use Rattle.dt_run.specs.EveryOrder.{HaveOrders}
use Rattle.dt_run.proofs.EveryOrder.{if_any, job_orders}
use Rattle.dt_run.proofs.Workless.{job_workless}
use Rattle.dt_run.proofs.answering.answer_to.Goals as goal

pub answer_to_job-requires-clause-job : goal.answer_to_job-requires-clause-job
answer_to_job-requires-clause-job c = (c.in-Ok.ensures.0, c.in-Ok.ensures.2)

pub answer_to_job-requires-clause-workless : goal.answer_to_job-requires-clause-workless
answer_to_job-requires-clause-workless c = job_workless c.args.input.now (record { job = c.in-Ok.job; stmts = c.in-Ok.ensures.0 }) c.in-Ok.ensures.1

pub returns-in-Ok-clause-orders : goal.returns-in-Ok-clause-orders
returns-in-Ok-clause-orders c =
    if_any (HaveOrders c.args.input.now) c.answer_to_job.result
    (job_orders c.args.input.now c.in-Ok.job c.in-Ok.ensures.0 c.in-Ok.ensures.1 c.in-Ok.ensures.2 c.accept.ensures.machine c.accept.ensures.lawful c.accept.ensures.words)
