use Rattle.std.proofs.Common.{◌≡◌, ℕ, ◌+◌, ◌-◌, ◌*◌, ◌/◌, ◌<◌, ◌≤◌, ◌∙◌, List, Option, Some, None, [], length, get_or, take, drop, ap, sym, subst, arith, true, is_some}
use Rattle.dt_base.specs.Rows.{product, row_major}
use Rattle.dt_level.specs.Levels.{children_of}
use Rattle.dt_model.specs.Positions.{StoredTensor, is_stored_prefix, next_child_of}
use Rattle.dt_model.specs.Shape.{dims, are_extents}
use Rattle.dt_tensor.specs.Packed.{depth_of}
use Rattle.dt_tensor.proofs.PackedFacts.{shape_extents, extents_take}
use Rattle.dt_tensor.proofs.packed_levels.PackedLevels.prefix_number.Goals as goal

pub row_number-requires : goal.row_number-requires
row_number-requires c =
    subst (λ (ms : List ℕ). are_extents (take (length c.args.c.now) ms) ≡ true) (sym c.dims.ensures) (extents_take (dims c.self.inside.shape) (length c.args.c.now) (shape_extents c.self.inside.shape c.self.invariant.0))
