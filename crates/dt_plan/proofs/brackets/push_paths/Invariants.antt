use Rattle.std.proofs.Common.{◌++◌, [], take}
use Rattle.std.specs.Prelude.{if◌then◌else◌, nat_eq}
use Rattle.std.specs.List.{flat_map}
use Rattle.dt_plan.specs.Brackets.{block}
use Rattle.dt_plan.specs.Keeps.{Keeps}
use Rattle.dt_plan.proofs.brackets.push_paths.Given as goal

abbrev pub invariant-loop-path : goal.invariant-loop-path
invariant-loop-path g l =
    Keeps l.fn.ops ([] ++ flat_map (λ p. if nat_eq ((g.O.Outlined.outline l.fn.nest).node p) l.fn.node then block (g.O.Outlined.outline l.fn.nest) (g.O.Outlined.outline l.fn.nest).inner p else []) (take l.path-index l.fn.paths)) l.ops
