use Rattle.std.proofs.Common.{[], take}
use Rattle.std.specs.List.{flat_map}
use Rattle.dt_plan.specs.Brackets.{brackets}
use Rattle.dt_plan.specs.Keeps.{Keeps}
use Rattle.dt_plan.specs.Operations.{outlines_of}
use Rattle.dt_plan.proofs.job_ops.listed.Given as goal

abbrev pub invariant-loop-number : goal.invariant-loop-number
invariant-loop-number g l = Keeps [] (flat_map brackets (take l.number (outlines_of l.layout))) l.ops
