use Rattle.std.proofs.Common.{◌++◌, ◌∷◌, [], take}
use Rattle.std.specs.Prelude.{◌-◌}
use Rattle.std.specs.List.{flat_map}
use Rattle.dt_plan.specs.Brackets.{block, opened}
use Rattle.dt_plan.specs.Keeps.{Keeps}
use Rattle.dt_plan.proofs.brackets.+push_block.Given as goal

abbrev pub decreases-push_block : goal.decreases-push_block
decreases-push_block g l = l.rest

abbrev pub invariant-loop-value : goal.invariant-loop-value
invariant-loop-value g l =
    Keeps l.fn.ops (opened (g.O.Outlined.outline l.fn.nest) l.fn.path ++ flat_map (λ i. block (g.O.Outlined.outline l.fn.nest) (l.fn.rest - 1) (l.fn.path ++ i ∷ [])) (take l.value-index l.value-items)) l.ops
