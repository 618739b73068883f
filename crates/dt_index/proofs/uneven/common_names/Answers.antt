use Rattle.dt_index.specs.NameSets.{among, among_common}
use Rattle.dt_index.specs.Resolve.{term_has}
use Rattle.dt_index.proofs.SetFacts.{all_further}
use Rattle.dt_index.proofs.uneven.common_names.Goals as goal

pub loop-term-preserved : goal.loop-term-preserved
loop-term-preserved c = λ v.
    all_further (term_has v) c.args.terms.now c.loop-term.term-index c.term-item.result (among_common c.loop-term.common v) (among c.in_ok-kept_names.field-0 v) c.loop-term-test.true c.term-item.is (c.loop-term.invariant v)
    (c.in_ok-kept_names.ensures v)
