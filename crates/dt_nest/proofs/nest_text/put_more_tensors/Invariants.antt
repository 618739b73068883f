use Rattle.std.proofs.Common.{◌≡◌, ◌++◌, codes, map, take}
use Rattle.std.specs.List.{flat_map}
use Rattle.dt_nest.specs.PartNames.{tensor_name}
use Rattle.dt_nest.specs.Schedule.{seen}
use Rattle.dt_nest.proofs.nest_text.put_more_tensors.Given as goal

abbrev pub invariant-loop-t : goal.invariant-loop-t
invariant-loop-t l = l.out ≡ l.fn.out ++ flat_map (λ w. codes "," ++ w) (map (tensor_name (seen l.parts)) (take l.t-index l.tensors))
