use Rattle.std.proofs.Common.{◌≡◌, ◌+◌, min, take}
use Rattle.std.specs.List.{AllByRecursion}
use Rattle.dt_nest.specs.Lawful.{IsLawful}
use Rattle.dt_plan.specs.declared.parts.Part.{Part}
use Rattle.dt_plan.specs.Limits.{visit_count, visit_limit}
use Rattle.dt_plan.proofs.visit_limit.has_too_many_visits.Given as goal

abbrev pub invariant-loop-part : goal.invariant-loop-part
invariant-loop-part l = record {
  count : l.count ≡ min (visit_count (take l.part-index l.parts)) (visit_limit + 1);
  lawful : AllByRecursion (λ (p : Part). IsLawful p.sched) (take l.part-index l.parts);
}
