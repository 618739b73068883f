use Rattle.std.proofs.lemmas.List.Filters.{dedup_is}
use Rattle.std.proofs.lemmas.List.Kept.{Contains-dedup_nat, Contains-from_dedup}
use Rattle.std.proofs.lemmas.Map.Keys.{IsStrictlyIncreasing-dedup}
use Rattle.dt_tensor.proofs.GivenFronts.{contains_same}
use Rattle.dt_tensor.proofs.packing.once.Goals as goal

pub returns-clause-ascending : goal.returns-clause-ascending
returns-clause-ascending c =
    let is = dedup_is _ _ _ c.dedup.ensures.filtered in
    rw is (IsStrictlyIncreasing-dedup _ c.requires)

pub returns-clause-same : goal.returns-clause-same
returns-clause-same c = λ x.
    let is = dedup_is _ _ _ c.dedup.ensures.filtered in
    contains_same _ _ x (λ h. Contains-from_dedup _ _ x (rw is at h)) (λ h. rw is (Contains-dedup_nat _ x h))
