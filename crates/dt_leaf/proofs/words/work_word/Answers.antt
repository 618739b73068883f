use Rattle.std.proofs.Common.{arith, sym, ◌∙◌}
use Rattle.dt_leaf.proofs.WordFacts.{number_fits}
use Rattle.dt_leaf.proofs.words.work_word.Goals as goal

pub overflow_cast-result : goal.overflow_cast-result
overflow_cast-result c = (let h = (number_fits c.args.extents.now c.args.coords.now c.in-Some.number c.requires (sym c.in-Some.is ∙ c.row_of.ensures.number)).0 in omega (arith, h))

pub returns-in-Some : goal.returns-in-Some
returns-in-Some c = (number_fits c.args.extents.now c.args.coords.now c.in-Some.number c.requires (sym c.in-Some.is ∙ c.row_of.ensures.number)).1
