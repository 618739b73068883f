use Rattle.std.proofs.Common.{◌+◌, drop, arith}
use Rattle.std.proofs.lemmas.List.{drop_all}
use Rattle.dt_schedule.specs.NamesOf.{loop_of, loops_of}
use Rattle.dt_schedule.proofs.EachFacts.{drop-next, each_end, each_fails}
use Rattle.dt_schedule.proofs.loop_names.loops_named.Goals as goal

pub returns-in-Err-clause-read : goal.returns-in-Err-clause-read
unfolding loops_of
returns-in-Err-clause-read c =
    each_fails (loop_of c.args.sched.now) (drop c.loop-name.name-index c.args.names.now) (drop (c.loop-name.name-index + 1) c.args.names.now) c.name-item.result c.in-Err.end c.loop-name.vars _
    (drop-next c.args.names.now c.loop-name.name-index c.name-item.result c.loop-name-test.true c.name-item.is) (rw (← c.as_slice.ensures.bytes) c.in-Err.ensures.read) c.loop-name.invariant.0

pub returns-clause-read : goal.returns-clause-read
unfolding loops_of
returns-clause-read c = each_end (loop_of c.args.sched.now) (drop c.loop-name.name-index c.args.names.now) c.loop-name.vars _ (drop_all c.loop-name.name-index c.args.names.now (omega arith)) c.loop-name.invariant.0
