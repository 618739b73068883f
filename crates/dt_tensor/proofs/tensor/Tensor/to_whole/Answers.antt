use Rattle.std.proofs.Common.{◌≡◌, ℕ, List, [], ◌∷◌, ◌++◌, length, map, sym, ◌∙◌, ap, arith}
use Rattle.std.proofs.lemmas.List.{length-map}
use Rattle.dt_base.specs.Ranges.{below}
use Rattle.dt_base.specs.Rows.{product}
use Rattle.dt_base.proofs.Ranges.{length-below, map_below-more}
use Rattle.dt_model.specs.Shape.{dims}
use Rattle.dt_tensor.specs.Packed.{Packed, index_at, number_in}
use Rattle.dt_tensor.proofs.DenseTensors.{whole_with}
use Rattle.dt_tensor.proofs.IndexNumbers.{map_by_number}
use Rattle.dt_tensor.proofs.tensor.Tensor.to_whole.Goals as goal

pub loop-number-init : goal.loop-number-init
loop-number-init c = c.new-values.ensures.items

pub loop-number-preserved : goal.loop-number-preserved
loop-number-preserved c =
    c.in_ok-push.ensures.items ∙ ap (λ (vs : List ℕ). vs ++ c.number_at.result ∷ []) c.loop-number.invariant
    ∙ ap (λ (x : ℕ). map (λ n. number_in c.args.self.now (index_at c.args.self.now.extents n)) (below c.loop-number.number) ++ x ∷ []) c.number_at.ensures
    ∙ sym (map_below-more (λ n. number_in c.args.self.now (index_at c.args.self.now.extents n)) c.loop-number.number)

pub from_values-requires-clause-count : goal.from_values-requires-clause-count
from_values-requires-clause-count c =
    ap length c.loop-number.invariant ∙ length-map (below c.loop-number.number) (λ n. number_in c.args.self.now (index_at c.args.self.now.extents n)) ∙ length-below c.loop-number.number
    ∙ (let e : c.loop-number.number ≡ product (dims c.shape-shape.result) = omega (arith, c.count-number-end.ensures, c.loop-number.auto.number-end, c.loop-number-test.false) in e)

pub returns : goal.returns
returns c =
    let extents : dims c.shape-shape.result ≡ c.args.self.now.extents = c.shape-shape.ensures.dims ∙ ap (λ (t : Packed). t.extents) c.self.view_is in
    let count : c.loop-number.number ≡ product c.args.self.now.extents = (let e : c.loop-number.number ≡ product (dims c.shape-shape.result) = omega (arith, c.count-number-end.ensures, c.loop-number.auto.number-end, c.loop-number-test.false) in e) ∙ ap product extents in
    c.from_values.ensures ∙ ap (λ (ns : List ℕ). whole_with ns c.loop-number.values.items) extents
    ∙ ap (whole_with c.args.self.now.extents) (c.loop-number.invariant ∙ ap (λ (k : ℕ). map (λ n. number_in c.args.self.now (index_at c.args.self.now.extents n)) (below k)) count ∙ map_by_number (number_in c.args.self.now) c.args.self.now.extents)
