use Rattle.std.proofs.Common.{length, ap, sym, ◌∙◌}
use Rattle.dt_nest.specs.Schedule.{Schedule}
use Rattle.dt_run.proofs.VisitSteps.{visit_goes}
use Rattle.dt_run.proofs.visiting.run_next.Goals as goal

pub add_visit-requires-clause-room : goal.add_visit-requires-clause-room
add_visit-requires-clause-room g c = c.requires.room ∙ ap (λ (s : Schedule). length s.names) (sym c.next.ensures.same.0)

pub returns-in-Some-Leaf-clause-gone : goal.returns-in-Some-Leaf-clause-gone
returns-in-Some-Leaf-clause-gone g c =
    visit_goes c.args.visits.now c.next.new.self c.args.tensors.now.items c.add_visit.new.tensors.items c.requires.ready c.next.ensures.same (rw c.in-Some-Leaf.field-0-is at c.in-Some-Leaf.ensures.goes)
    c.add_visit.ensures.entries c.add_visit.ensures.others c.add_visit.ensures.shapes
