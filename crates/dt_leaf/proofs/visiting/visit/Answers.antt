use Rattle.std.proofs.Common.{◌≡◌, Some, sym, ◌∙◌}
use Rattle.dt_nest.specs.Visits.{IsReset}
use Rattle.dt_leaf.specs.NodeWords.{cells_in}
use Rattle.dt_leaf.proofs.Lasts.{reset_done, reset_last, reset_present}
use Rattle.dt_leaf.proofs.visiting.visit.Goals as goal

pub reset-requires-clause-present : goal.reset-requires-clause-present
reset-requires-clause-present g c =
    let last : c.args.at.now.last ≡ Some (IsReset c.in-Some-Reset.work) = reset_last c.args.at.now.last c.in-Some-Reset.work (rw c.in-Some-Reset.field-0-is at (sym c.in-Some-Reset.is ∙ c.last.ensures)) in
    reset_present (g.L.Locator.tensors c.args.loc.now) c.args.sched.now (cells_in c.args.mem.now c.args.slots.now) c.args.at.now.last c.in-Some-Reset.work last c.requires.can

pub returns-in-Some-Reset-clause-cells : goal.returns-in-Some-Reset-clause-cells
returns-in-Some-Reset-clause-cells g c =
    let last : c.args.at.now.last ≡ Some (IsReset c.in-Some-Reset.work) = reset_last c.args.at.now.last c.in-Some-Reset.work (rw c.in-Some-Reset.field-0-is at (sym c.in-Some-Reset.is ∙ c.last.ensures)) in
    reset_done (g.L.Locator.tensors c.args.loc.now) c.args.sched.now (cells_in c.args.mem.now c.args.slots.now) (cells_in c.reset.new.mem c.args.slots.now) c.args.at.now.last c.in-Some-Reset.work last c.reset.ensures.cells
