use Rattle.std.proofs.Common.{sym, subst, ◌∙◌}
use Rattle.dt_runs.specs.Combs.{IsComb}
use Rattle.dt_runs.proofs.runs.Runs.comb.Goals as goal

pub returns-clause-none : goal.returns-clause-none
returns-clause-none c none one comb_is =
    let same = c.intervals.ensures.numbers in
    sym same ∙ c.comb_of.ensures.none none one (subst (IsComb one) (sym same) comb_is)
