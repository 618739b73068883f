use Rattle.dt_run.proofs.PartRuns.{HaveRun}
use Rattle.dt_run.proofs.running.run_parts.Given as goal

abbrev pub invariant-loop-part : goal.invariant-loop-part
invariant-loop-part g l = HaveRun (g.L.Locator.tensors l.loc) l.parts l.part-index l.fn.tensors.items l.tensors.items
