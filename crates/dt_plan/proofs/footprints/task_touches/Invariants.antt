use Rattle.std.proofs.Common.{◌≡◌, map, take}
use Rattle.dt_nest.specs.Visits.{needed_of}
use Rattle.dt_plan.specs.declared.touches.Buffer.TheVariants.{Scratch}
use Rattle.dt_plan.specs.Footprints.{some_words, task_mode}
use Rattle.dt_plan.proofs.footprints.task_touches.Given as goal

abbrev pub invariant-loop-tensor : goal.invariant-loop-tensor
invariant-loop-tensor g l = l.items.items ≡ map (λ t. some_words l.op.node (Scratch l.op.stmt t) (needed_of l.layout.stored l.part.sched t l.op.path) (task_mode l.part.sched t)) (take l.tensor-index l.tensor-items)
