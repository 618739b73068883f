use Rattle.std.proofs.Common.{ℕ, List, Bool, ◌<◌, subst, sym, ◌∙◌, arith}
use Rattle.std.specs.List.{All}
use Rattle.std.specs.List.Sorted.{IsStrictlyIncreasing}
use Rattle.dt_model.specs.Positions.{coords_at, tensor_at}
use Rattle.dt_place.specs.Homes.{lies_in}
use Rattle.dt_runs.proofs.BelowSets.{filter_below-ascends, filter_below-small}
use Rattle.dt_place.proofs.homes.inside.Goals as goal

pub from_sorted-requires-clause-ascending : goal.from_sorted-requires-clause-ascending
from_sorted-requires-clause-ascending g c =
    let p : ℕ → Bool = λ pos. lies_in c.args.sides.now (coords_at (tensor_at (g.L.Locator.tensors c.args.loc.now) c.args.tensor) pos) in
    subst (λ (l : List ℕ). IsStrictlyIncreasing l) (sym (c.as_slice-2.ensures.value ∙ c.loop-pos.invariant)) (filter_below-ascends p c.loop-pos.pos)

pub from_sorted-requires-clause-small : goal.from_sorted-requires-clause-small
from_sorted-requires-clause-small g c =
    let p : ℕ → Bool = λ pos. lies_in c.args.sides.now (coords_at (tensor_at (g.L.Locator.tensors c.args.loc.now) c.args.tensor) pos) in
    subst (λ (l : List ℕ). All (λ x. x < 4294967295) l) (sym (c.as_slice-2.ensures.value ∙ c.loop-pos.invariant)) (filter_below-small p c.loop-pos.pos 4294967295 (omega arith))
