use Rattle.std.proofs.Common.{◌++◌, ◌∷◌, [], take}
use Rattle.std.specs.Prelude.{◌-◌}
use Rattle.std.specs.List.{flat_map}
use Rattle.dt_plan.specs.Brackets.{paths_from}
use Rattle.dt_plan.specs.Layouts.{node_of}
use Rattle.dt_plan.specs.NodeWords.{Raises, capped, opened_on}
use Rattle.dt_plan.specs.Statements.{outline_at}
use Rattle.dt_plan.proofs.bounds.+raise_below.Given as goal

abbrev pub decreases-raise_below : goal.decreases-raise_below
decreases-raise_below g l = l.rest

abbrev pub invariant-loop-value : goal.invariant-loop-value
invariant-loop-value g l =
    Raises (λ p. capped (opened_on l.fn.statement.layout l.fn.statement.part.sched l.fn.opened p)) (node_of l.fn.statement.layout.machine l.fn.statement.part.sched)
    (flat_map (λ i. paths_from (outline_at l.fn.statement) (l.fn.rest - 1) (l.fn.path ++ (i ∷ []))) (take l.value-index l.value-items)) l.fn.row.items l.row.items
