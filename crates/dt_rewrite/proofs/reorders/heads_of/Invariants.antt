use Rattle.std.proofs.Common.{◌≡◌, take}
use Rattle.dt_nest.specs.Schedule.{seen}
use Rattle.dt_cuts.specs.Cutting.{heads_of}
use Rattle.dt_rewrite.proofs.reorders.heads_of.Given as goal

abbrev pub invariant-loop-v : goal.invariant-loop-v
invariant-loop-v l = l.items.items ≡ heads_of (seen l.parts) (take l.v-index l.vars)
