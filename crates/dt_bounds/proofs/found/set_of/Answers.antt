use Rattle.std.proofs.Common.{◌≡◌, ℕ, ◌<◌, ◌∙◌, List, All, ap, subst, sym}
use Rattle.std.specs.List.Sorted.{IsStrictlyIncreasing}
use Rattle.std.proofs.lemmas.Result.{IfOk-weaker}
use Rattle.dt_runs.specs.Sets.{contains}
use Rattle.dt_bounds.proofs.Sorting.{sorted-all, sorted-ascends, sorted-members}
use Rattle.dt_bounds.proofs.found.set_of.Goals as goal

pub from_sorted-requires-clause-ascending : goal.from_sorted-requires-clause-ascending
from_sorted-requires-clause-ascending c =
    subst IsStrictlyIncreasing (sym c.as_slice.ensures.value) (sorted-ascends c.sort_unstable.new.self.items c.dedup.new.self.items c.sort_unstable.ensures.sorted c.dedup.ensures.filtered)

pub from_sorted-requires-clause-small : goal.from_sorted-requires-clause-small
from_sorted-requires-clause-small c =
    subst (λ (l : List ℕ). All (λ x. x < 4294967295) l) (sym c.as_slice.ensures.value)
    (sorted-all (λ x. x < 4294967295) c.args.positions.items c.sort_unstable.new.self.items c.dedup.new.self.items c.sort_unstable.ensures.permutation c.dedup.ensures.filtered c.requires)

pub returns-clause-ascending : goal.returns-clause-ascending
returns-clause-ascending c = IfOk-weaker c.from_sorted.result (λ runs. runs ≡ c.as_slice.result.now) IsStrictlyIncreasing (λ runs e. subst IsStrictlyIncreasing (sym (e ∙ c.as_slice.ensures.value)) (sorted-ascends c.sort_unstable.new.self.items c.dedup.new.self.items c.sort_unstable.ensures.sorted c.dedup.ensures.filtered)) c.from_sorted.ensures

pub returns-clause-members : goal.returns-clause-members
returns-clause-members c =
    IfOk-weaker c.from_sorted.result (λ runs. runs ≡ c.as_slice.result.now) (λ runs. (x : ℕ) → contains runs x ≡ contains c.args.positions.items x)
    (λ runs e x. ap (λ (l : List ℕ). contains l x) (e ∙ c.as_slice.ensures.value) ∙ sorted-members c.args.positions.items c.sort_unstable.new.self.items c.dedup.new.self.items c.sort_unstable.ensures.permutation c.dedup.ensures.filtered x)
    c.from_sorted.ensures
