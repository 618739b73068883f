use Rattle.std.proofs.Common.{take}
use Rattle.dt_model.specs.Positions.{tensor_at}
use Rattle.dt_nest.specs.Tree.{read_accesses}
use Rattle.dt_nest.specs.Point.{env_at}
use Rattle.dt_bounds.specs.Points.{AddsReached}
use Rattle.dt_bounds.proofs.accesses.push_terms.Given as goal

abbrev pub invariant-loop-term : goal.invariant-loop-term
invariant-loop-term g l =
    AddsReached (tensor_at (g.L.Locator.tensors l.target.loc.now) l.target.tensor) l.target.tensor (env_at l.visits l.point.lane) (read_accesses (take l.term-index l.terms)) l.fn.found.positions.items l.found.positions.items
