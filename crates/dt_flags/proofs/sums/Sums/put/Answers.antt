use Rattle.dt_flags.proofs.Puts.{can_put, tree_put}
use Rattle.dt_flags.proofs.sums.Sums.put.Goals as goal

pub replace-requires : goal.replace-requires
replace-requires c =
    can_put c.self.inside.levels.items c.index.result.now c.args.place c.number_at-old.result c.args.number c.self.invariant (rw c.self.view_is c.requires.exists) c.index.ensures c.number_at-old.ensures
    (rw c.self.view_is c.requires.fits)

pub invariant_of-self : goal.invariant_of-self
invariant_of-self c =
    rw c.replace.ensures (tree_put c.self.inside.levels.items c.index.result.now c.args.place c.number_at-old.result c.args.number c.self.invariant (rw c.self.view_is c.requires.exists) c.index.ensures c.number_at-old.ensures)
