use Rattle.std.proofs.Common.{◌≡◌, length, ap, sym, ◌∙◌, arith}
use Rattle.std.proofs.lemmas.Bool.Decides.{nat_tests}
use Rattle.dt_runs.specs.Combination.{keeps_of, is_begun, past_of}
use Rattle.dt_runs.proofs.SweepLemmas.{IsSwept, IsSwept-kept, IsSwept-skipped, All-swept, at_lt-end, Ascends-swept, contains-swept}
use Rattle.dt_runs.proofs.combine.combined.Goals as goal
use Rattle.dt_runs.proofs.combine.combined.Goals.{then-not-is_empty, else-not-is_empty+then-not-is_empty-2, then-keeps+in_ok-push_range, else-keeps}

pub push_range-requires-clause-behind : goal.push_range-requires-clause-behind
push_range-requires-clause-behind c = All-swept _ _ _ _ _ _ _ c.loop-left_rest.invariant

pub loop-left_rest-preserved : goal.loop-left_rest-preserved
loop-left_rest-preserved c =
    let left = c.loop-left_rest.left_rest.now in
    let right = c.loop-left_rest.right_rest.now in
    let at = c.loop-left_rest.at in
    let end = c.min-end.result in
    let kept = c.loop-left_rest.kept in
    let swept : IsSwept c.args.combination c.args.left.now c.args.right.now left right at kept = c.loop-left_rest.invariant in
    let some : length left ≡ 0 → length right ≡ 0 → ⊥ = elim c.if-not-is_empty.branch [
      | then-not-is_empty w ↦ λ a b. grind (arith, nat_tests, c.is_empty.ensures, w.if-not-is_empty.true)
      | else-not-is_empty+then-not-is_empty-2 w ↦ λ a b. grind (arith, nat_tests, w.is_empty-else-not-is_empty.ensures, w.if-not-is_empty-2.true)
    ] in
    let on = at_lt-end left right at swept.left_ahead swept.right_ahead (omega arith) (omega arith) some in
    let keeps_is : keeps_of c.args.combination (is_begun left at) (is_begun right at) ≡ c.keeps.result =
    ap (λ b. keeps_of c.args.combination b (is_begun right at)) (sym c.until_change-in_left.ensures.inside)
    ∙ ap (λ b. keeps_of c.args.combination c.until_change-in_left.result.0 b) (sym c.until_change-in_right.ensures.inside) ∙ sym c.keeps.ensures in
    let after : IsSwept c.args.combination c.args.left.now c.args.right.now (past_of left end) (past_of right end) end c.if-keeps.kept =
    elim c.if-keeps.branch [
      | then-keeps+in_ok-push_range w ↦
          rw (w.kept-is, w.in_ok-push_range.ensures.ok) (IsSwept-kept c.args.combination c.args.left.now c.args.right.now left right at end kept swept (omega arith) (omega arith) (omega arith) (keeps_is ∙ w.if-keeps.true))
      | else-keeps w ↦
          rw w.kept-is (IsSwept-skipped c.args.combination c.args.left.now c.args.right.now left right at end kept swept (omega arith) (omega arith) (omega arith) (keeps_is ∙ w.if-keeps.false))
    ] in
    rw (c.past-left_rest.ensures, c.past-right_rest.ensures) after

pub returns-clause-ascending : goal.returns-clause-ascending
returns-clause-ascending c = Ascends-swept _ _ _ _ _ _ _ c.loop-left_rest.invariant

pub returns-clause-members : goal.returns-clause-members
returns-clause-members c =
    contains-swept _ _ _ _ _ _ _ c.loop-left_rest.invariant (grind (arith, nat_tests, c.is_empty.ensures, c.if-not-is_empty.false))
    (grind (arith, nat_tests, c.is_empty-else-not-is_empty.ensures, c.if-not-is_empty-2.false))
