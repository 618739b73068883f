use Rattle.std.proofs.Common.{◌≡◌, ◌*◌, ◌≤◌}
use Rattle.std.specs.Prelude.{sum_by}
use Rattle.dt_base.specs.Ranges.{below}
use Rattle.dt_plan.specs.Operations.{work_size}
use Rattle.dt_plan.proofs.bounds.all_work_words.Given as goal

abbrev pub invariant-loop-work : goal.invariant-loop-work
invariant-loop-work l = record {
  sum : l.words ≡ sum_by (work_size l.sched) (below l.work);
  few : l.words ≤ 1048576 * l.work;
}
