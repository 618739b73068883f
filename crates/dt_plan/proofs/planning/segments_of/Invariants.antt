use Rattle.std.proofs.Common.{◌≡◌, map, take}
use Rattle.dt_plan.specs.declared.parts.Part.{Part}
use Rattle.dt_plan.proofs.planning.segments_of.Given as goal

abbrev pub invariant-loop-part : goal.invariant-loop-part
invariant-loop-part l = l.segments.items ≡ map (λ (p : Part). p.segment) (take l.part-index l.parts)
