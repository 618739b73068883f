use Rattle.std.proofs.Common.{◌≡◌, ℕ, ◌+◌, ◌*◌, ◌/◌, ◌%◌, ◌<◌, ◌≤◌, ◌∙◌, List, Option, Some, None, [], length, get_or, take, ap, sym, subst, arith}
use Rattle.dt_base.specs.Rows.{product, row_major}
use Rattle.dt_level.specs.Levels.{children_of, find_child}
use Rattle.dt_model.specs.Positions.{StoredTensor, place_in, coords_at}
use Rattle.dt_model.specs.Shape.{dims}
use Rattle.dt_tensor.specs.Packed.{index_at}
use Rattle.dt_tensor.proofs.PackedFacts.{shape_extents, cut_facts}
use Rattle.dt_tensor.proofs.packed_levels.PackedLevels.count.Goals as goal

pub overflow_mul-result : goal.overflow_mul-result
overflow_mul-result c =
    let e = ap (λ (n : ℕ). n * c.self.inside.size) c.children.ensures.count in
    omega (arith, e, (cut_facts (dims c.self.inside.shape) (take c.self.inside.shape.order c.self.inside.compressed) c.self.inside.depth c.self.inside.size c.self.inside.fronts (shape_extents c.self.inside.shape c.self.invariant.0) c.self.invariant.1).few)

pub returns-clause-count : goal.returns-clause-count
returns-clause-count c =
    subst (λ (t : StoredTensor). c.children.result * c.self.inside.size ≡ length t.coords) c.self.view_is
    (ap (λ (n : ℕ). n * c.self.inside.size) c.children.ensures.count ∙ sym (cut_facts (dims c.self.inside.shape) (take c.self.inside.shape.order c.self.inside.compressed) c.self.inside.depth c.self.inside.size c.self.inside.fronts (shape_extents c.self.inside.shape c.self.invariant.0) c.self.invariant.1).count)

pub returns-clause-few : goal.returns-clause-few
returns-clause-few c =
    let e = ap (λ (n : ℕ). n * c.self.inside.size) c.children.ensures.count in
    omega (arith, e, (cut_facts (dims c.self.inside.shape) (take c.self.inside.shape.order c.self.inside.compressed) c.self.inside.depth c.self.inside.size c.self.inside.fronts (shape_extents c.self.inside.shape c.self.invariant.0) c.self.invariant.1).few)
