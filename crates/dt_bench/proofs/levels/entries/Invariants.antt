use Rattle.std.proofs.Common.{◌≡◌, length}
use Rattle.dt_bench.proofs.levels.entries.Given as goal

abbrev pub invariant-loop-k : goal.invariant-loop-k
invariant-loop-k l = length l.entries ≡ l.k
