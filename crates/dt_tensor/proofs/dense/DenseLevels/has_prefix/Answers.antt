use Rattle.std.proofs.Common.{◌≡◌, List, ℕ, ap, sym, ◌∙◌, subst}
use Rattle.dt_model.specs.Positions.{StoredTensor, is_front, is_stored_prefix}
use Rattle.dt_model.specs.Shape.{dims}
use Rattle.dt_tensor.proofs.Prefixes.{is_stored_prefix-dense}
use Rattle.dt_tensor.proofs.dense.DenseLevels.has_prefix.Goals as goal

pub returns : goal.returns
returns c =
    subst (λ (t : StoredTensor). c.are_below.result ≡ is_stored_prefix t c.args.c.now) c.self.view_is
    (c.are_below.ensures ∙ ap (λ (ns : List ℕ). is_front ns c.args.c.now) c.dims.ensures ∙ sym (is_stored_prefix-dense (dims c.self.inside.shape) c.args.c.now))
