use Rattle.std.proofs.Common.{refl, arith}
use Rattle.dt_run.proofs.PartRuns.{next_runs, run_more, all_run}
use Rattle.dt_run.proofs.running.run_parts.Goals as goal

pub loop-part-init : goal.loop-part-init
loop-part-init g c = record { over = c.requires.over; done = λ dims names stmts h. refl; shapes = refl }

pub run_part-requires : goal.run_part-requires
run_part-requires g c =
    next_runs (g.L.Locator.tensors c.args.loc.now) c.args.parts.now c.requires.parts c.loop-part.part-index c.part-item.result c.loop-part-test.true c.part-item.is c.requires.workless c.loop-part.tensors.items c.loop-part.invariant.over

pub loop-part-preserved : goal.loop-part-preserved
loop-part-preserved g c =
    run_more (g.L.Locator.tensors c.args.loc.now) c.args.parts.now c.requires.parts c.loop-part.part-index c.part-item.result c.loop-part-test.true c.part-item.is
    c.args.tensors.now.items c.loop-part.tensors.items c.run_part.new.tensors.items c.loop-part.invariant c.in_ok-run_part.ensures.ok c.run_part.ensures.shapes

pub returns-clause-ok : goal.returns-clause-ok
returns-clause-ok g c = all_run (g.L.Locator.tensors c.args.loc.now) c.args.parts.now c.loop-part.part-index c.args.tensors.now.items c.loop-part.tensors.items (omega arith) c.loop-part.invariant

pub returns-clause-over : goal.returns-clause-over
returns-clause-over g c = c.loop-part.invariant.over
