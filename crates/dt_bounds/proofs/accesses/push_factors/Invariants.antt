use Rattle.std.proofs.Common.{take}
use Rattle.std.specs.List.{flat_map}
use Rattle.dt_model.specs.Positions.{tensor_at}
use Rattle.dt_nest.specs.Tree.{factor_accesses}
use Rattle.dt_nest.specs.Point.{env_at}
use Rattle.dt_bounds.specs.Points.{AddsReached}
use Rattle.dt_bounds.proofs.accesses.push_factors.Given as goal

abbrev pub invariant-loop-factor : goal.invariant-loop-factor
invariant-loop-factor g l =
    AddsReached (tensor_at (g.L.Locator.tensors l.target.loc.now) l.target.tensor) l.target.tensor (env_at l.visits l.point.lane) (flat_map factor_accesses (take l.factor-index l.factors)) l.fn.found.positions.items l.found.positions.items
