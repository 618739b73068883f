use Rattle.std.proofs.Common.{◌∙◌}
use Rattle.dt_argument.specs.Orders.{counts_of}
use Rattle.dt_argument.specs.Worked.{worked_list}
use Rattle.dt_argument.proofs.WorkedFacts.{scratch_at_turn}
use Rattle.dt_argument.proofs.tests.the_scratch_has_5_at_its_turns.Goals as goal

pub returns : goal.returns
returns c u h en s e =
    let facts = c.the_list_meets_the_facts.ensures in
    let alike = c.every_order.ensures.turns worked_list facts.frames facts.ordered u h 2 en s e in
    alike.each 1 ∙ scratch_at_turn (counts_of u 2)
