use Rattle.std.proofs.Common.{◌≡◌, ℕ, List, arith, ap, sym, ◌∙◌, subst}
use Rattle.dt_model.specs.WholeTensor.{WholeTensor}
use Rattle.dt_model.specs.Stmts.{shapes_of}
use Rattle.dt_nest.specs.Schedule.{Schedule}
use Rattle.dt_nest.specs.Outputs.{output_of}
use Rattle.dt_run.specs.Visiting.{IsRunnable, IsStmtOf, tensors_cleared, tensors_with_sum}
use Rattle.dt_run.proofs.VisitLeaves.{left_within}
use Rattle.dt_run.proofs.Parts.{on_ok, shapes_cleared, runs_cleared, part_adds, part_sets}
use Rattle.dt_run.proofs.visiting.run_part.Goals as goal

pub returns-then-adds-clause-ok : goal.returns-then-adds-clause-ok
returns-then-adds-clause-ok g c =
    let inside = left_within (g.L.Locator.tensors c.args.loc.now) c.args.tensors.now.items c.args.sched.now c.requires c.parts.ensures.lawful in
    on_ok c.add_visits.result _ _ (λ e stmt p.
    part_adds (g.L.Locator.tensors c.args.loc.now) c.args.sched.now c.args.tensors.now.items c.requires inside stmt (subst (IsStmtOf stmt c.args.sched.now) c.if-adds.true p) c.add_visits.new.tensors.items e) c.add_visits.ensures.ok

pub clear-requires : goal.clear-requires
clear-requires g c =
    let inside = left_within (g.L.Locator.tensors c.args.loc.now) c.args.tensors.now.items c.args.sched.now c.requires c.parts.ensures.lawful in
    let at : c.left_of-left.result ≡ output_of c.args.sched.now.nest = c.left_of-left.ensures ∙ ap (λ (s : Schedule). output_of s.nest) c.parts.ensures.parts in
    omega (arith, inside, at)

pub add_visits-requires-2 : goal.add_visits-requires-2
add_visits-requires-2 g c =
    let inside = left_within (g.L.Locator.tensors c.args.loc.now) c.args.tensors.now.items c.args.sched.now c.requires c.parts.ensures.lawful in
    let at : c.left_of-left.result ≡ output_of c.args.sched.now.nest = c.left_of-left.ensures ∙ ap (λ (s : Schedule). output_of s.nest) c.parts.ensures.parts in
    subst (λ (l : List WholeTensor). IsRunnable (g.L.Locator.tensors c.args.loc.now) l c.args.sched.now) (sym (c.in_ok-clear.ensures.ok ∙ ap (λ (t : ℕ). tensors_cleared t c.args.tensors.now.items) at))
    (runs_cleared (g.L.Locator.tensors c.args.loc.now) c.args.tensors.now.items c.args.sched.now (output_of c.args.sched.now.nest) inside c.requires)

pub returns-clause-ok : goal.returns-clause-ok
returns-clause-ok g c =
    let inside = left_within (g.L.Locator.tensors c.args.loc.now) c.args.tensors.now.items c.args.sched.now c.requires c.parts.ensures.lawful in
    let at : c.left_of-left.result ≡ output_of c.args.sched.now.nest = c.left_of-left.ensures ∙ ap (λ (s : Schedule). output_of s.nest) c.parts.ensures.parts in
    on_ok c.add_visits-2.result _ _ (λ e stmt p.
    part_sets (g.L.Locator.tensors c.args.loc.now) c.args.sched.now c.args.tensors.now.items c.requires inside stmt c.parts.ensures.lawful (subst (IsStmtOf stmt c.args.sched.now) c.if-adds.false p) c.add_visits-2.new.tensors.items
    (e ∙ ap (tensors_with_sum (g.L.Locator.tensors c.args.loc.now) c.args.sched.now) (c.in_ok-clear.ensures.ok ∙ ap (λ (t : ℕ). tensors_cleared t c.args.tensors.now.items) at))) c.add_visits-2.ensures.ok

pub returns-clause-shapes : goal.returns-clause-shapes
returns-clause-shapes g c =
    let inside = left_within (g.L.Locator.tensors c.args.loc.now) c.args.tensors.now.items c.args.sched.now c.requires c.parts.ensures.lawful in
    let at : c.left_of-left.result ≡ output_of c.args.sched.now.nest = c.left_of-left.ensures ∙ ap (λ (s : Schedule). output_of s.nest) c.parts.ensures.parts in
    c.add_visits-2.ensures.shapes ∙ ap shapes_of (c.in_ok-clear.ensures.ok ∙ ap (λ (t : ℕ). tensors_cleared t c.args.tensors.now.items) at)
    ∙ shapes_cleared c.args.tensors.now.items (output_of c.args.sched.now.nest) inside
