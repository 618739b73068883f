use Rattle.std.specs.Str.{bytes_eq}
use Rattle.dt_nest.proofs.Numbering.{numbered_find, position-within}
use Rattle.dt_nest.proofs.name_tables.NameTable.number_of.Goals as goal

pub returns-clause-number : goal.returns-clause-number
returns-clause-number c =
    let found = numbered_find c.self.inside.names c.self.inside.numbers.entries c.self.invariant c.args.name.now in
    cc (found, c.number_at.ensures, c.as_slice.ensures, c.copied.ensures, c.get.ensures.value, c.self.view_is)

pub returns-clause-within : goal.returns-clause-within
returns-clause-within c =
    let found = numbered_find c.self.inside.names c.self.inside.numbers.entries c.self.invariant c.args.name.now in
    position-within (λ n. bytes_eq n c.args.name.now) c.args.self.now c.number_at.result (cc (found, c.number_at.ensures, c.as_slice.ensures, c.copied.ensures, c.get.ensures.value, c.self.view_is))
