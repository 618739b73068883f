use Rattle.dt_runs.proofs.SweepLemmas.{minus_is}
use Rattle.dt_runs.proofs.runs.Runs.minus.Goals as goal

pub returns : goal.returns
returns c =
    minus_is c.intervals.result.now c.intervals-2.result.now _ _ _ c.intervals.ensures.apart c.intervals.ensures.numbers c.intervals-2.ensures.numbers
    c.in_ok-runs.ensures.ascending c.in_ok-runs.ensures.members
