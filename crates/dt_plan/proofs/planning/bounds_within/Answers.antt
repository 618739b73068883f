use Rattle.std.proofs.Common.{ℕ, ◌<◌, ◌≤◌, List, subst}
use Rattle.std.specs.Prelude.{sum}
use Rattle.dt_plan.specs.NodeWords.{capped, word_limit}
use Rattle.dt_plan.proofs.PlanLimits.{words_few, words_many}
use Rattle.dt_plan.proofs.planning.bounds_within.Goals as goal

pub returns-then-sum_of-gt-WORD_LIMIT : goal.returns-then-sum_of-gt-WORD_LIMIT
returns-then-sum_of-gt-WORD_LIMIT g c =
    words_many c.args.layout.now c.in_ok-bounds.bounds.items c.in_ok-bounds.ensures
    (subst (λ (row : List ℕ). word_limit < capped (sum row)) c.as_slice.ensures.value (subst (λ (n : ℕ). word_limit < n) c.sum_of.ensures c.if-sum_of-gt-WORD_LIMIT.true))

pub returns : goal.returns
returns g c =
    words_few c.args.layout.now c.in_ok-bounds.bounds.items c.in_ok-bounds.ensures
    (subst (λ (row : List ℕ). capped (sum row) ≤ word_limit) c.as_slice.ensures.value (subst (λ (n : ℕ). n ≤ word_limit) c.sum_of.ensures c.if-sum_of-gt-WORD_LIMIT.false))
