use Rattle.std.proofs.Common.{◌≡◌, ℕ, ◌+◌, ◌*◌, ◌/◌, ◌%◌, ◌<◌, ◌≤◌, ◌∙◌, List, Option, Some, None, [], length, get_or, take, ap, sym, subst, arith}
use Rattle.dt_base.specs.Rows.{product, row_major}
use Rattle.dt_level.specs.Levels.{children_of, find_child}
use Rattle.dt_model.specs.Positions.{StoredTensor, place_in, coords_at}
use Rattle.dt_model.specs.Shape.{dims}
use Rattle.dt_tensor.specs.Packed.{index_at}
use Rattle.dt_tensor.proofs.PackedFacts.{shape_extents, cut_facts, place_some, place_none}
use Rattle.dt_tensor.proofs.packed_levels.PackedLevels.position_of.Goals as goal

pub nonzero_div-number : goal.nonzero_div-number
nonzero_div-number c = (cut_facts (dims c.self.inside.shape) (take c.self.inside.shape.order c.self.inside.compressed) c.self.inside.depth c.self.inside.size c.self.inside.fronts (shape_extents c.self.inside.shape c.self.invariant.0) c.self.invariant.1).room

pub nonzero_rem-result : goal.nonzero_rem-result
nonzero_rem-result c = (cut_facts (dims c.self.inside.shape) (take c.self.inside.shape.order c.self.inside.compressed) c.self.inside.depth c.self.inside.size c.self.inside.fronts (shape_extents c.self.inside.shape c.self.invariant.0) c.self.invariant.1).room

pub front_from-requires-clause-root : goal.front_from-requires-clause-root
front_from-requires-clause-root c = c.self.invariant.1.root

pub front_from-requires-clause-some : goal.front_from-requires-clause-some
front_from-requires-clause-some c = (cut_facts (dims c.self.inside.shape) (take c.self.inside.shape.order c.self.inside.compressed) c.self.inside.depth c.self.inside.size c.self.inside.fronts (shape_extents c.self.inside.shape c.self.invariant.0) c.self.invariant.1).room

pub overflow_mul-result : goal.overflow_mul-result
overflow_mul-result c =
    let h = place_some (dims c.self.inside.shape) (take c.self.inside.shape.order c.self.inside.compressed) c.self.inside.depth c.self.inside.size c.self.inside.fronts c.args.number c.in-Some.front (cut_facts (dims c.self.inside.shape) (take c.self.inside.shape.order c.self.inside.compressed) c.self.inside.depth c.self.inside.size c.self.inside.fronts (shape_extents c.self.inside.shape c.self.invariant.0) c.self.invariant.1) (subst (λ (t : StoredTensor). c.args.number < product t.extents) (sym c.self.view_is) c.requires) (sym c.in-Some.is ∙ c.front_from.ensures) in
    omega (arith, h.0)

pub overflow_add-result : goal.overflow_add-result
overflow_add-result c =
    let h = place_some (dims c.self.inside.shape) (take c.self.inside.shape.order c.self.inside.compressed) c.self.inside.depth c.self.inside.size c.self.inside.fronts c.args.number c.in-Some.front (cut_facts (dims c.self.inside.shape) (take c.self.inside.shape.order c.self.inside.compressed) c.self.inside.depth c.self.inside.size c.self.inside.fronts (shape_extents c.self.inside.shape c.self.invariant.0) c.self.invariant.1) (subst (λ (t : StoredTensor). c.args.number < product t.extents) (sym c.self.view_is) c.requires) (sym c.in-Some.is ∙ c.front_from.ensures) in
    omega (arith, h.0)

pub returns-in-None : goal.returns-in-None
returns-in-None c =
    subst (λ (t : StoredTensor). None ≡ place_in t (index_at t.extents c.args.number)) c.self.view_is
    (place_none (dims c.self.inside.shape) (take c.self.inside.shape.order c.self.inside.compressed) c.self.inside.depth c.self.inside.size c.self.inside.fronts c.args.number (cut_facts (dims c.self.inside.shape) (take c.self.inside.shape.order c.self.inside.compressed) c.self.inside.depth c.self.inside.size c.self.inside.fronts (shape_extents c.self.inside.shape c.self.invariant.0) c.self.invariant.1) (subst (λ (t : StoredTensor). c.args.number < product t.extents) (sym c.self.view_is) c.requires) (sym c.in-None.is ∙ c.front_from.ensures))

pub returns-in-Some : goal.returns-in-Some
returns-in-Some c =
    subst (λ (t : StoredTensor). Some (c.in-Some.front * c.self.inside.size + c.args.number % c.self.inside.size) ≡ place_in t (index_at t.extents c.args.number)) c.self.view_is
    (place_some (dims c.self.inside.shape) (take c.self.inside.shape.order c.self.inside.compressed) c.self.inside.depth c.self.inside.size c.self.inside.fronts c.args.number c.in-Some.front (cut_facts (dims c.self.inside.shape) (take c.self.inside.shape.order c.self.inside.compressed) c.self.inside.depth c.self.inside.size c.self.inside.fronts (shape_extents c.self.inside.shape c.self.invariant.0) c.self.invariant.1) (subst (λ (t : StoredTensor). c.args.number < product t.extents) (sym c.self.view_is) c.requires) (sym c.in-Some.is ∙ c.front_from.ensures)).1
