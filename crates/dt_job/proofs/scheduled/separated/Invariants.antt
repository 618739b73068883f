use Rattle.std.proofs.Common.{◌≡◌, ◌++◌, length, map}
use Rattle.std.specs.Vec.Iter.{into_iter_items, into_iter_len}
use Rattle.dt_job.specs.Drafts.{part_of}
use Rattle.dt_job.proofs.scheduled.separated.Given as goal

abbrev pub invariant-loop-scheduled : goal.invariant-loop-scheduled
invariant-loop-scheduled l = record {
  seen : l.yielded ++ into_iter_items l.scheduled-iterator ≡ l.fn.closed.items;
  left : into_iter_len l.scheduled-iterator ≡ length (into_iter_items l.scheduled-iterator);
  heads : l.heads ≡ map (λ s. s.head) l.yielded;
  parts : l.parts ≡ map part_of l.yielded;
}
