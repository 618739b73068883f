use Rattle.std.proofs.Common.{◌∙◌}
use Rattle.std.proofs.lemmas.List.Sorted.{Contains-permutation, IsPermutation-sym}
use Rattle.dt_tensor.proofs.GivenFronts.{contains_same}
use Rattle.dt_tensor.proofs.packing.in_order.Goals as goal

pub returns-clause-same : goal.returns-clause-same
returns-clause-same c = λ x.
    let moved = c.sort_unstable.ensures.permutation in
    c.once.ensures.same x ∙ contains_same _ _ x (λ h. Contains-permutation _ _ x (IsPermutation-sym _ _ moved) h) (λ h. Contains-permutation _ _ x moved h)
