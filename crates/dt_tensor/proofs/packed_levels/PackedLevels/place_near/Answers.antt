use Rattle.std.proofs.Common.{◌≡◌, ℕ, ◌+◌, ◌*◌, ◌/◌, ◌%◌, ◌<◌, ◌≤◌, ◌∙◌, List, Option, Some, None, [], length, get_or, take, ap, sym, subst, arith}
use Rattle.dt_base.specs.Rows.{product, row_major}
use Rattle.dt_level.specs.Levels.{children_of, find_child}
use Rattle.dt_model.specs.Positions.{StoredTensor, place_in, coords_at}
use Rattle.dt_model.specs.Shape.{dims}
use Rattle.dt_tensor.specs.Packed.{index_at}
use Rattle.dt_base.proofs.Assignments.{assignment-row_major}
use Rattle.dt_base.proofs.Rows.{row_major-below}
use Rattle.dt_tensor.proofs.PackedFacts.{shape_extents, cut_facts, place_off}
use Rattle.dt_tensor.proofs.packed_levels.PackedLevels.place_near.Goals as goal

pub position_of-requires : goal.position_of-requires
position_of-requires c =
    subst (λ (t : StoredTensor). c.in-Some.number < product t.extents) c.self.view_is (row_major-below (dims c.self.inside.shape) c.args.c.now c.in-Some.number (sym c.index.ensures ∙ c.in-Some.is))

pub returns-in-None : goal.returns-in-None
returns-in-None c =
    subst (λ (t : StoredTensor). None ≡ place_in t c.args.c.now) c.self.view_is
    (place_off (dims c.self.inside.shape) (take c.self.inside.shape.order c.self.inside.compressed) c.self.inside.depth c.self.inside.size c.self.inside.fronts c.args.c.now (cut_facts (dims c.self.inside.shape) (take c.self.inside.shape.order c.self.inside.compressed) c.self.inside.depth c.self.inside.size c.self.inside.fronts (shape_extents c.self.inside.shape c.self.invariant.0) c.self.invariant.1) (sym c.index.ensures ∙ c.in-None.is))

pub returns-in-Some : goal.returns-in-Some
returns-in-Some c =
    c.position_of.ensures
    ∙ ap (λ (d : List ℕ). place_in c.args.self.now d)
    (subst (λ (t : StoredTensor). index_at t.extents c.in-Some.number ≡ c.args.c.now) c.self.view_is (assignment-row_major (dims c.self.inside.shape) c.args.c.now c.in-Some.number (sym c.index.ensures ∙ c.in-Some.is)))
