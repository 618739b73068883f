use Rattle.std.proofs.Common.{◌∙◌}
use Rattle.dt_leaf.proofs.WordFacts.{number_more, size_more}
use Rattle.dt_leaf.proofs.words.+row_of.Goals as goal

pub returns-in-None-split_first-clause-size : goal.returns-in-None-split_first-clause-size
returns-in-None-split_first-clause-size t c = rw c.from.ensures (size_more c.in-Some.extent.now c.row_of.result.size c.in-Some.more.now c.args.extents.now c.in-Some.ensures.cases.0 c.row_of.ensures.size)

pub returns-in-Some-split_first-clause-number : goal.returns-in-Some-split_first-clause-number
returns-in-Some-split_first-clause-number t c =
    c.with_front.ensures
    ∙ number_more c.in-Some.extent.now c.in-Some-split_first.x.now c.row_of-inner.result.size c.row_of-inner.result.number c.in-Some.more.now c.in-Some-split_first.rest.now c.args.extents.now c.args.coords.now c.in-Some.ensures.cases.0
    c.in-Some-split_first.ensures.cases.0 c.row_of-inner.ensures.number c.row_of-inner.ensures.size

pub returns-in-Some-split_first-clause-size : goal.returns-in-Some-split_first-clause-size
returns-in-Some-split_first-clause-size t c =
    rw c.from-in-Some-split_first.ensures (size_more c.in-Some.extent.now c.row_of-inner.result.size c.in-Some.more.now c.args.extents.now c.in-Some.ensures.cases.0 c.row_of-inner.ensures.size)
