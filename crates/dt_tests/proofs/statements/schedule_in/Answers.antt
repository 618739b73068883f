use Rattle.std.proofs.Common.{◌≡◌}
use Rattle.dt_tests.proofs.StmtSchedules.{packed_fit}
use Rattle.dt_tests.proofs.statements.schedule_in.Goals as goal

pub returns : goal.returns
returns c =
    packed_fit c.as_slice.result.now c.args.tensors.now c.in_ok-wholes.wholes.items c.as_slice-2.result.now c.as_slice-3.result.now c.args.stmt.now c.in_ok-sched.ensures.0 c.in_ok-sched.ensures.1 c.in_ok-sched.sched
    c.as_slice.ensures c.in_ok-wholes.ensures.shapes c.in_ok-wholes.ensures.packed c.as_slice-2.ensures.value (c.is_stmt.ensures.0 c.if-not-is_stmt.false) c.as_slice-3.ensures.value c.in_ok-sched.ensures.2 c.in_ok-sched.ensures.3
