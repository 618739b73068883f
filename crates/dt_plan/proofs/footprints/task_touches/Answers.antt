use Rattle.std.proofs.Common.{ℕ, List, ◌++◌, length, map, ap, ◌∙◌}
use Rattle.std.proofs.lemmas.List.{take_all}
use Rattle.dt_base.specs.Ranges.{below}
use Rattle.dt_nest.specs.Visits.{needed_of}
use Rattle.dt_plan.specs.declared.touches.Buffer.TheVariants.{Scratch, Work}
use Rattle.dt_plan.specs.declared.touches.Touch.{Touch}
use Rattle.dt_plan.specs.Footprints.{some_words, task_mode, whole_buffer}
use Rattle.dt_plan.proofs.OpenedRows.{tensor_opened}
use Rattle.dt_plan.proofs.footprints.task_touches.Goals as goal

pub push_needed-requires-clause-tensor : goal.push_needed-requires-clause-tensor
push_needed-requires-clause-tensor g c =
    (tensor_opened c.args.part.now.sched c.as_slice-tensor-items.result.now c.loop-tensor.tensor-index (c.as_slice-tensor-items.ensures.value ∙ c.in_ok-tensors.ensures) c.loop-tensor-test.true).0

pub returns : goal.returns
returns g c =
    c.in_ok-push_works.ensures
    ∙ ap (λ (l : List Touch). l ++ map (λ w. whole_buffer c.args.op.now.node (Work c.args.op.now.stmt w)) (below (length c.args.part.now.sched.works)))
    (c.loop-tensor.invariant
    ∙ ap (λ (ts : List ℕ). map (λ t. some_words c.args.op.now.node (Scratch c.args.op.now.stmt t) (needed_of c.args.layout.now.stored c.args.part.now.sched t c.args.op.now.path) (task_mode c.args.part.now.sched t)) ts)
    (take_all c.loop-tensor.tensor-index c.as_slice-tensor-items.result.now c.loop-tensor-test.false ∙ c.as_slice-tensor-items.ensures.value ∙ c.in_ok-tensors.ensures))
