use Rattle.std.proofs.Common.{arith}
use Rattle.dt_runs.proofs.SearchLemmas.{position-inside, before_le-first}
use Rattle.dt_runs.proofs.searches.rank_in.Goals as goal

pub overflow_add-result : goal.overflow_add-result
overflow_add-result c =
    omega (arith, before_le-first 0 0 c.args.intervals.now c.args.k (record { first = 0; end = 0; before = 0 }) (omega arith) c.requires.apart c.requires.tallied (omega arith))

pub returns-clause-some : goal.returns-clause-some
returns-clause-some c =
    position-inside c.args.intervals.now c.args.k c.args.x (record { first = 0; end = 0; before = 0 }) c.requires.apart c.requires.tallied (omega arith) (omega arith) (omega arith)
