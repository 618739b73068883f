use Rattle.std.proofs.Common.{◌≡◌, ◌++◌, codes, take}
use Rattle.std.specs.List.{flat_map}
use Rattle.dt_nest.specs.PartNames.{name_of}
use Rattle.dt_nest.specs.Schedule.{seen}
use Rattle.dt_nest.proofs.nest_text.put_more_loops.Given as goal

abbrev pub invariant-loop-v : goal.invariant-loop-v
invariant-loop-v l = l.out ≡ l.fn.out ++ flat_map (λ v. codes "+" ++ name_of (seen l.parts) v) (take l.v-index l.vars)
