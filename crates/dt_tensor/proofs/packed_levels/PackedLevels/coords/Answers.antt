use Rattle.std.proofs.Common.{◌≡◌, ℕ, ◌+◌, ◌*◌, ◌/◌, ◌%◌, ◌<◌, ◌≤◌, ◌∙◌, List, Option, Some, None, [], length, get_or, take, ap, sym, subst, arith}
use Rattle.dt_base.specs.Rows.{product, row_major}
use Rattle.dt_level.specs.Levels.{children_of, find_child}
use Rattle.dt_model.specs.Positions.{StoredTensor, place_in, coords_at}
use Rattle.dt_model.specs.Shape.{dims}
use Rattle.dt_tensor.specs.Packed.{index_at}
use Rattle.dt_tensor.proofs.packed_levels.PackedLevels.coords.Goals as goal

pub coordinates-all-requires-clause-within : goal.coordinates-all-requires-clause-within
coordinates-all-requires-clause-within c =
    subst (λ (t : StoredTensor). c.number_at.result < product t.extents) (sym c.self.view_is) c.number_at.ensures.within
