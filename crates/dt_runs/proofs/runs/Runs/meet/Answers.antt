use Rattle.dt_runs.proofs.SweepLemmas.{meet_is}
use Rattle.dt_runs.proofs.runs.Runs.meet.Goals as goal

pub returns : goal.returns
returns c =
    meet_is c.intervals.result.now c.intervals-2.result.now _ _ _ c.intervals.ensures.apart c.intervals.ensures.numbers c.intervals-2.ensures.numbers
    c.in_ok-runs.ensures.ascending c.in_ok-runs.ensures.members
