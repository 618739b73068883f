use Rattle.std.proofs.Common.{◌≡◌, ◌/◌, ◌<◌, ◌∙◌, ℕ, List, length, take, drop, ap, ap₂, sym, subst, arith, true}
use Rattle.dt_base.specs.Rows.{product}
use Rattle.dt_base.proofs.Rows.{product-positive}
use Rattle.dt_model.specs.Shape.{dims, are_extents}
use Rattle.dt_model.proofs.ShapeFacts.{shape_facts, extent_facts}
use Rattle.dt_tensor.proofs.PackFacts.{cut_quotient}
use Rattle.dt_tensor.proofs.PackedFacts.{shape_extents, extents_take}
use Rattle.dt_tensor.proofs.StoredFronts.{product-drop-positive}
use Rattle.dt_tensor.proofs.packing.size_behind.Goals as goal

pub row_count-requires : goal.row_count-requires
row_count-requires c = subst (λ (ms : List ℕ). are_extents (take c.args.depth ms) ≡ true) (sym c.dims.ensures) (extents_take (dims c.args.shape.now) c.args.depth (shape_extents c.args.shape.now c.requires.shape))

pub nonzero_div-result : goal.nonzero_div-result
nonzero_div-result c =
    subst (λ (n : ℕ). 0 < n) (sym (c.row_count.ensures ∙ ap (λ (ms : List ℕ). product (take c.args.depth ms)) c.dims.ensures)) (product-positive (take c.args.depth (dims c.args.shape.now)) (extent_facts (take c.args.depth (dims c.args.shape.now)) (extents_take (dims c.args.shape.now) c.args.depth (shape_extents c.args.shape.now c.requires.shape))).each)

pub returns-clause-size : goal.returns-clause-size
returns-clause-size c =
    ap₂ (λ (a b : ℕ). a / b) c.count.ensures (c.row_count.ensures ∙ ap (λ (ms : List ℕ). product (take c.args.depth ms)) c.dims.ensures)
    ∙ cut_quotient (dims c.args.shape.now) c.args.depth (product-positive (take c.args.depth (dims c.args.shape.now)) (extent_facts (take c.args.depth (dims c.args.shape.now)) (extents_take (dims c.args.shape.now) c.args.depth (shape_extents c.args.shape.now c.requires.shape))).each)

pub returns-clause-some : goal.returns-clause-some
returns-clause-some c =
    subst (λ (n : ℕ). 0 < n) (sym (ap₂ (λ (a b : ℕ). a / b) c.count.ensures (c.row_count.ensures ∙ ap (λ (ms : List ℕ). product (take c.args.depth ms)) c.dims.ensures)
    ∙ cut_quotient (dims c.args.shape.now) c.args.depth (product-positive (take c.args.depth (dims c.args.shape.now)) (extent_facts (take c.args.depth (dims c.args.shape.now)) (extents_take (dims c.args.shape.now) c.args.depth (shape_extents c.args.shape.now c.requires.shape))).each)))
    (product-drop-positive (dims c.args.shape.now) c.args.depth (shape_facts c.args.shape.now c.requires.shape).each)
