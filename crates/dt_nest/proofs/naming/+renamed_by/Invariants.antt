use Rattle.std.proofs.Common.{length}
use Rattle.dt_nest.proofs.naming.+renamed_by.Given as goal

abbrev pub decreases-renamed_by : goal.decreases-renamed_by
decreases-renamed_by l = length l.pairs.now
