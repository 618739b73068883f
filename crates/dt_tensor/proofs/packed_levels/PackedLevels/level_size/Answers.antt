use Rattle.std.proofs.Common.{◌≡◌, ℕ, ◌+◌, ◌-◌, ◌*◌, ◌/◌, ◌<◌, ◌≤◌, ◌∙◌, List, Option, Some, None, [], length, get_or, take, drop, ap, sym, subst, arith, true, is_some}
use Rattle.dt_base.specs.Rows.{product, row_major}
use Rattle.dt_level.specs.Levels.{children_of}
use Rattle.dt_model.specs.Positions.{StoredTensor, is_stored_prefix, next_child_of}
use Rattle.dt_model.specs.Shape.{dims, are_extents}
use Rattle.dt_tensor.specs.Packed.{depth_of}
use Rattle.dt_model.proofs.ShapeFacts.{extent_facts}
use Rattle.dt_tensor.proofs.PackedFacts.{shape_extents, extents_slice, depth_fits}
use Rattle.dt_tensor.proofs.packed_levels.PackedLevels.level_size.Goals as goal

pub offset_bounds-dims-level : goal.offset_bounds-dims-level
offset_bounds-dims-level c =
    let deep = subst (λ (t : StoredTensor). c.args.level ≤ depth_of t.compressed) (sym c.self.view_is) c.requires in
    let fits = depth_fits (dims c.self.inside.shape) (take c.self.inside.shape.order c.self.inside.compressed) c.self.inside.depth c.self.inside.size c.self.inside.fronts c.self.invariant.1 in
    omega (arith, deep, fits, c.self.invariant.1.depth, (extent_facts (dims c.self.inside.shape) (shape_extents c.self.inside.shape c.self.invariant.0)).few)

pub slice_bounds-row_count-end : goal.slice_bounds-row_count-end
slice_bounds-row_count-end c =
    omega (arith, depth_fits (dims c.self.inside.shape) (take c.self.inside.shape.order c.self.inside.compressed) c.self.inside.depth c.self.inside.size c.self.inside.fronts c.self.invariant.1, ap length c.dims.ensures)

pub row_count-requires : goal.row_count-requires
row_count-requires c =
    subst (λ (ms : List ℕ). are_extents (take (c.self.inside.depth - c.args.level) (drop c.args.level ms)) ≡ true) (sym c.dims.ensures) (extents_slice (dims c.self.inside.shape) c.args.level (c.self.inside.depth - c.args.level) (shape_extents c.self.inside.shape c.self.invariant.0))
