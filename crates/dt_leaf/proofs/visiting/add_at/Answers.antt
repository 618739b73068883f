use Rattle.dt_leaf.proofs.Held.{folds_held, folds_rest}
use Rattle.std.proofs.Common.{◌≡◌, true, subst, Option, ℕ}
use Rattle.dt_nest.specs.Unit.{is_held}
use Rattle.dt_leaf.specs.NodeWords.{cells_in}
use Rattle.dt_leaf.proofs.visiting.add_at.Goals as goal

pub returns-in-Some-clause-cells : goal.returns-in-Some-clause-cells
returns-in-Some-clause-cells c = λ d e.
    (let held = subst (λ (o : Option ℕ). is_held (cells_in c.args.mem.now c.args.slots.now) c.args.tensor o ≡ true) c.in-Some.is c.requires.held in
    rw (c.fold.ensures, c.in-Some.is) (folds_held c.args.mem.now c.args.slots.now c.args.tensor c.in-Some.word c.args.number d c.requires.apart held e))

pub returns-in-Some-clause-rest : goal.returns-in-Some-clause-rest
returns-in-Some-clause-rest c =
    let held = subst (λ (o : Option ℕ). is_held (cells_in c.args.mem.now c.args.slots.now) c.args.tensor o ≡ true) c.in-Some.is c.requires.held in
    rw c.fold.ensures (folds_rest c.args.mem.now c.args.slots.now c.args.tensor c.in-Some.word c.args.number held)
