use Rattle.std.proofs.Common.{ap, ◌∙◌, is_some, Option, ℕ}
use Rattle.dt_nest.proofs.Numbering.{any-position}
use Rattle.dt_nest.proofs.name_tables.NameTable.has.Goals as goal

pub returns : goal.returns
returns c = c.is_some.ensures ∙ ap (λ (o : Option ℕ). is_some o) c.number_of.ensures.number ∙ any-position c.args.self.now c.args.name.now
