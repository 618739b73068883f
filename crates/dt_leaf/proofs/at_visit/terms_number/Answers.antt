use Rattle.dt_nest.specs.Meaning.{term_of}
use Rattle.dt_nest.specs.Point.{env_at}
use Rattle.dt_leaf.proofs.VisitFacts.{terms_more}
use Rattle.dt_leaf.proofs.at_visit.terms_number.Goals as goal

pub loop-term-preserved : goal.loop-term-preserved
loop-term-preserved g c =
    terms_more (term_of (g.N.Numbers.entries c.args.numbers.now) (env_at c.args.visits.now c.args.point.now.lane)) c.args.terms.now c.loop-term.term-index c.term-item.result c.loop-term.sum c.term_number-sum.result
    c.loop-term-test.true c.term-item.is c.loop-term.invariant c.term_number-sum.ensures
