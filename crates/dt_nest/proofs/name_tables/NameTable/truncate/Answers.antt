use Rattle.std.proofs.Common.{sym, subst}
use Rattle.dt_nest.specs.NameTables.{AreNumbered}
use Rattle.dt_nest.proofs.Numbering.{numbered_take}
use Rattle.dt_nest.proofs.name_tables.NameTable.truncate.Goals as goal

pub invariant_of-self : goal.invariant_of-self
invariant_of-self c =
    subst (λ ns. AreNumbered ns c.self.inside.numbers.entries) (sym c.cut_off.ensures) (numbered_take c.self.inside.names c.self.inside.numbers.entries c.args.len c.self.invariant)
