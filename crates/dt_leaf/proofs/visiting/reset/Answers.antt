use Rattle.std.proofs.Common.{◌≡◌, ℕ, ◌+◌, length, get_or, ap, ◌∙◌, subst}
use Rattle.dt_nest.specs.Schedule.{Schedule}
use Rattle.dt_leaf.specs.Clearing.{Clears, buffer_words}
use Rattle.dt_leaf.proofs.Clearing.{clears_cells, clears_rest}
use Rattle.dt_leaf.proofs.Held.{sign_buffer}
use Rattle.dt_leaf.proofs.visiting.reset.Goals as goal

pub returns-clause-cells : goal.returns-clause-cells
returns-clause-cells c =
    let n : length c.as_slice-tensors.result.now + c.args.work ≡ length c.args.sched.now.tensors + c.args.work = ap (λ l. length l + c.args.work) (c.as_slice-tensors.ensures ∙ ap (λ (s : Schedule). s.tensors) c.parts.ensures.parts) in
    let at = sign_buffer c.args.mem.now c.args.slots.now (length c.args.sched.now.tensors + c.args.work) c.requires.present in
    clears_cells c.args.mem.now c.clear.new.mem c.args.slots.now (length c.args.sched.now.tensors + c.args.work) (get_or c.args.slots.now (length c.args.sched.now.tensors + c.args.work) 0) c.requires.apart at.2
    (subst (λ (i : ℕ). Clears (get_or c.args.slots.now i 0) (buffer_words c.args.mem.now (get_or c.args.slots.now i 0)) c.args.mem.now c.clear.new.mem) n c.clear.ensures)

pub returns-clause-rest : goal.returns-clause-rest
returns-clause-rest c =
    let n : length c.as_slice-tensors.result.now + c.args.work ≡ length c.args.sched.now.tensors + c.args.work = ap (λ l. length l + c.args.work) (c.as_slice-tensors.ensures ∙ ap (λ (s : Schedule). s.tensors) c.parts.ensures.parts) in
    let at = sign_buffer c.args.mem.now c.args.slots.now (length c.args.sched.now.tensors + c.args.work) c.requires.present in
    clears_rest c.args.mem.now c.clear.new.mem c.args.slots.now (length c.args.sched.now.tensors + c.args.work) (get_or c.args.slots.now (length c.args.sched.now.tensors + c.args.work) 0) c.requires.apart at.2
    (subst (λ (i : ℕ). Clears (get_or c.args.slots.now i 0) (buffer_words c.args.mem.now (get_or c.args.slots.now i 0)) c.args.mem.now c.clear.new.mem) n c.clear.ensures)
