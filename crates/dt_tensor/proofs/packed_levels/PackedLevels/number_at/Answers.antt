use Rattle.std.proofs.Common.{◌≡◌, ℕ, ◌+◌, ◌*◌, ◌/◌, ◌%◌, ◌<◌, ◌≤◌, ◌∙◌, List, Option, Some, None, [], length, get_or, take, ap, sym, subst, arith}
use Rattle.dt_base.specs.Rows.{product, row_major}
use Rattle.dt_level.specs.Levels.{children_of, find_child}
use Rattle.dt_model.specs.Positions.{StoredTensor, place_in, coords_at}
use Rattle.dt_model.specs.Shape.{dims}
use Rattle.dt_tensor.specs.Packed.{index_at}
use Rattle.dt_tensor.proofs.PackedFacts.{shape_extents, cut_facts, position_facts}
use Rattle.dt_tensor.proofs.packed_levels.PackedLevels.number_at.Goals as goal

pub nonzero_div-pos : goal.nonzero_div-pos
nonzero_div-pos c = (cut_facts (dims c.self.inside.shape) (take c.self.inside.shape.order c.self.inside.compressed) c.self.inside.depth c.self.inside.size c.self.inside.fronts (shape_extents c.self.inside.shape c.self.invariant.0) c.self.invariant.1).room

pub nonzero_rem-result : goal.nonzero_rem-result
nonzero_rem-result c = (cut_facts (dims c.self.inside.shape) (take c.self.inside.shape.order c.self.inside.compressed) c.self.inside.depth c.self.inside.size c.self.inside.fronts (shape_extents c.self.inside.shape c.self.invariant.0) c.self.invariant.1).room

pub child-front-requires-clause-within : goal.child-front-requires-clause-within
child-front-requires-clause-within c = (position_facts (dims c.self.inside.shape) (take c.self.inside.shape.order c.self.inside.compressed) c.self.inside.depth c.self.inside.size c.self.inside.fronts c.args.pos (cut_facts (dims c.self.inside.shape) (take c.self.inside.shape.order c.self.inside.compressed) c.self.inside.depth c.self.inside.size c.self.inside.fronts (shape_extents c.self.inside.shape c.self.invariant.0) c.self.invariant.1) (subst (λ (t : StoredTensor). c.args.pos < length t.coords) (sym c.self.view_is) c.requires)).front

pub overflow_mul-result : goal.overflow_mul-result
overflow_mul-result c =
    let p = (position_facts (dims c.self.inside.shape) (take c.self.inside.shape.order c.self.inside.compressed) c.self.inside.depth c.self.inside.size c.self.inside.fronts c.args.pos (cut_facts (dims c.self.inside.shape) (take c.self.inside.shape.order c.self.inside.compressed) c.self.inside.depth c.self.inside.size c.self.inside.fronts (shape_extents c.self.inside.shape c.self.invariant.0) c.self.invariant.1) (subst (λ (t : StoredTensor). c.args.pos < length t.coords) (sym c.self.view_is) c.requires)) in
    let e = ap (λ (f : ℕ). f * c.self.inside.size + c.args.pos % c.self.inside.size) c.child-front.ensures.coordinate in
    omega (arith, p.within, (cut_facts (dims c.self.inside.shape) (take c.self.inside.shape.order c.self.inside.compressed) c.self.inside.depth c.self.inside.size c.self.inside.fronts (shape_extents c.self.inside.shape c.self.invariant.0) c.self.invariant.1).total, e)

pub overflow_add-result : goal.overflow_add-result
overflow_add-result c =
    let p = (position_facts (dims c.self.inside.shape) (take c.self.inside.shape.order c.self.inside.compressed) c.self.inside.depth c.self.inside.size c.self.inside.fronts c.args.pos (cut_facts (dims c.self.inside.shape) (take c.self.inside.shape.order c.self.inside.compressed) c.self.inside.depth c.self.inside.size c.self.inside.fronts (shape_extents c.self.inside.shape c.self.invariant.0) c.self.invariant.1) (subst (λ (t : StoredTensor). c.args.pos < length t.coords) (sym c.self.view_is) c.requires)) in
    let e = ap (λ (f : ℕ). f * c.self.inside.size + c.args.pos % c.self.inside.size) c.child-front.ensures.coordinate in
    omega (arith, p.within, (cut_facts (dims c.self.inside.shape) (take c.self.inside.shape.order c.self.inside.compressed) c.self.inside.depth c.self.inside.size c.self.inside.fronts (shape_extents c.self.inside.shape c.self.invariant.0) c.self.invariant.1).total, e)

pub returns-clause-index : goal.returns-clause-index
returns-clause-index c =
    subst (λ (t : StoredTensor). index_at t.extents (c.child-front.result.0 * c.self.inside.size + c.args.pos % c.self.inside.size) ≡ coords_at t c.args.pos) c.self.view_is
    (ap (λ (f : ℕ). index_at (dims c.self.inside.shape) (f * c.self.inside.size + c.args.pos % c.self.inside.size)) c.child-front.ensures.coordinate ∙ (position_facts (dims c.self.inside.shape) (take c.self.inside.shape.order c.self.inside.compressed) c.self.inside.depth c.self.inside.size c.self.inside.fronts c.args.pos (cut_facts (dims c.self.inside.shape) (take c.self.inside.shape.order c.self.inside.compressed) c.self.inside.depth c.self.inside.size c.self.inside.fronts (shape_extents c.self.inside.shape c.self.invariant.0) c.self.invariant.1) (subst (λ (t : StoredTensor). c.args.pos < length t.coords) (sym c.self.view_is) c.requires)).index)

pub returns-clause-within : goal.returns-clause-within
returns-clause-within c =
    subst (λ (t : StoredTensor). c.child-front.result.0 * c.self.inside.size + c.args.pos % c.self.inside.size < product t.extents) c.self.view_is
    (subst (λ (f : ℕ). f * c.self.inside.size + c.args.pos % c.self.inside.size < product (dims c.self.inside.shape)) (sym c.child-front.ensures.coordinate) (position_facts (dims c.self.inside.shape) (take c.self.inside.shape.order c.self.inside.compressed) c.self.inside.depth c.self.inside.size c.self.inside.fronts c.args.pos (cut_facts (dims c.self.inside.shape) (take c.self.inside.shape.order c.self.inside.compressed) c.self.inside.depth c.self.inside.size c.self.inside.fronts (shape_extents c.self.inside.shape c.self.invariant.0) c.self.invariant.1) (subst (λ (t : StoredTensor). c.args.pos < length t.coords) (sym c.self.view_is) c.requires)).within)
