use Rattle.std.proofs.Common.{◌≡◌, take}
use Rattle.dt_nest.proofs.copies.copy_factors.Given as goal

abbrev pub invariant-loop-factor : goal.invariant-loop-factor
invariant-loop-factor l = l.items.items ≡ take l.factor-index l.factors
