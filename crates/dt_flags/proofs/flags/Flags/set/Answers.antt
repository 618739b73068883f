use Rattle.std.proofs.Common.{rules, ◌<◌, arith, length}
use Rattle.dt_flags.proofs.Counts.{set_counted, set_fits, set_few}
use Rattle.dt_flags.proofs.flags.Flags.set.Goals as goal

pub put-requires-clause-fits : goal.put-requires-clause-fits
put-requires-clause-fits c =
    let there : c.args.place < length c.self.inside.bits.items = rw c.self.view_is c.requires in
    set_fits c.self.inside.bits.items c.self.inside.sums c.self.inside.count c.args.place c.self.invariant there (search rules)

pub overflow_add-self : goal.overflow_add-self
overflow_add-self c =
    let there : c.args.place < length c.self.inside.bits.items = rw c.self.view_is c.requires in
    let few = set_few c.self.inside.bits.items c.self.inside.sums c.self.inside.count c.args.place c.self.invariant there (search rules) in
    omega (arith, few)

pub invariant_of-self : goal.invariant_of-self
invariant_of-self c =
    let there : c.args.place < length c.self.inside.bits.items = rw c.self.view_is c.requires in
    rw c.put.ensures (set_counted c.self.inside.bits.items c.self.inside.sums c.self.inside.count c.args.place c.self.invariant there (search rules))
