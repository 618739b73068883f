use Rattle.std.proofs.Common.{ℕ, ◌+◌, ap, arith, rules}
use Rattle.dt_level.proofs.DenseLemmas.{dense_fits, dense_coordinate, dense_number, dense_count}
use Rattle.dt_level.proofs.dense_level.DenseLevel.child.Goals as goal

pub overflow_add-result : goal.overflow_add-result
overflow_add-result c =
    let fits = dense_fits c.self.inside.extent c.self.inside.parents c.args.parent c.args.k _ c.self.view_is c.self.invariant c.requires.exists
    (omega (arith, c.requires.within, dense_count c.self.inside.extent c.self.inside.parents c.args.parent _ c.self.view_is c.requires.exists)) in
    search rules

pub returns-clause-coordinate : goal.returns-clause-coordinate
returns-clause-coordinate c =
    dense_coordinate c.self.inside.extent c.self.inside.parents c.args.parent c.args.k _ c.self.view_is c.requires.exists c.requires.within

pub returns-clause-number : goal.returns-clause-number
returns-clause-number c =
    ap (λ (n : ℕ). n + c.args.k) (dense_number c.self.inside.extent c.self.inside.parents c.args.parent _ c.self.view_is c.requires.exists)
