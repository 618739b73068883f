use Rattle.std.proofs.Common.{◌≡◌, ◌<◌, length, drop}
use Rattle.std.specs.List.{AllByRecursion}
use Rattle.dt_model.proofs.Fronts.{with_front}
use Rattle.dt_schedule.specs.NamesOf.{each, loop_of}
use Rattle.dt_schedule.proofs.loop_names.loops_named.Given as goal

abbrev pub invariant-loop-name : goal.invariant-loop-name
invariant-loop-name l = (with_front l.vars (each (loop_of l.sched) (drop l.name-index l.names)) ≡ each (loop_of l.sched) l.names) × AllByRecursion (λ v. v < length l.sched.names) l.vars
