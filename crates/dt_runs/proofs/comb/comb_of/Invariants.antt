use Rattle.std.proofs.Common.{length}
use Rattle.dt_runs.specs.Combs.{IsComb}
use Rattle.dt_runs.specs.declared.comb.Comb.{Comb}
use Rattle.dt_runs.specs.Intervals.{IsApart, numbers_of}
use Rattle.dt_runs.proofs.CombLemmas.{AreTeeth}
use Rattle.dt_runs.proofs.comb.comb_of.Given as goal

abbrev pub invariant-loop-rest : goal.invariant-loop-rest
invariant-loop-rest l = record {
  apart : IsApart l.last l.rest;
  teeth : AreTeeth l.last l.len l.dist l.rest → IsComb (record { low = l.first.first; len = l.len; dist = l.dist }) (numbers_of l.intervals);
  only : (c : Comb) → IsComb c (numbers_of l.intervals) → AreTeeth l.last l.len l.dist l.rest;
}

abbrev pub decreases-loop-rest : goal.decreases-loop-rest
decreases-loop-rest l = length l.rest
