use Rattle.std.proofs.Common.{◌≡◌, take}
use Rattle.dt_nest.proofs.parts.copy_works.Given as goal

abbrev pub invariant-loop-work : goal.invariant-loop-work
invariant-loop-work l = l.items.items ≡ take l.work-index l.works
