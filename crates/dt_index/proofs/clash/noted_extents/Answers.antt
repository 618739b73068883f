use Rattle.dt_index.proofs.SetFacts.{noted_next}
use Rattle.dt_index.proofs.clash.noted_extents.Goals as goal

pub loop-occurrence-preserved : goal.loop-occurrence-preserved
loop-occurrence-preserved c = λ v.
    noted_next c.args.occurrences.now c.loop-occurrence.occurrence-index c.occurrence-item.result c.loop-occurrence.firsts c.note.new.self v c.loop-occurrence-test.true c.occurrence-item.is (c.loop-occurrence.invariant v) c.in_ok-note.ensures
