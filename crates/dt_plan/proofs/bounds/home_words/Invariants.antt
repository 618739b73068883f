use Rattle.std.proofs.Common.{◌≡◌, ◌*◌, length}
use Rattle.std.specs.Prelude.{sum_by}
use Rattle.dt_base.specs.Ranges.{below}
use Rattle.dt_copy.specs.Sources.{home_at}
use Rattle.dt_model.specs.Positions.{cost_of, tensor_at}
use Rattle.dt_plan.specs.Layouts.{homes_at}
use Rattle.dt_plan.specs.NodeWords.{capped}
use Rattle.dt_plan.proofs.bounds.home_words.Given as goal

abbrev pub invariant-loop-tensor : goal.invariant-loop-tensor
invariant-loop-tensor g l = l.words ≡ capped (sum_by (λ t. cost_of (tensor_at l.layout.stored t) * length (home_at (homes_at l.layout t) l.node)) (below l.tensor))
