use Rattle.std.proofs.Common.{◌≡◌, ◌∙◌, sym, subst, ap}
use Rattle.dt_model.specs.Positions.{StoredTensor}
use Rattle.dt_tensor.specs.Packed.{IsPacked, packed_with}
use Rattle.dt_tensor.proofs.DenseTensors.{IsPacked-dense}
use Rattle.dt_tensor.proofs.tensor.Tensor.dense.Goals as goal

pub invariant_of-result : goal.invariant_of-result
invariant_of-result c =
    subst (λ (t : StoredTensor). IsPacked (packed_with t c.args.values.items)) (sym (c.dense.ensures ∙ c.new.ensures))
    (IsPacked-dense c.args.shape c.args.values.items c.requires.shape c.requires.few c.requires.full)

pub returns : goal.returns
returns c = ap (λ (t : StoredTensor). packed_with t c.args.values.items) (c.dense.ensures ∙ c.new.ensures)
