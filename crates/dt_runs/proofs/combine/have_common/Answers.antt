use Rattle.std.proofs.Common.{inl, inr, sym, arith}
use Rattle.std.proofs.lemmas.Bool.Decides.{nat_tests}
use Rattle.dt_runs.proofs.SweepLemmas.{HaveCommon-on, list_any-overlap, list_any-apart}
use Rattle.dt_runs.proofs.combine.have_common.Goals as goal

pub returns-then-right_first-left_first : goal.returns-then-right_first-left_first
returns-then-right_first-left_first c =
    sym (list_any-overlap _ _ c.loop-left_rest.left_rest.now c.loop-left_rest.right_rest.now (record { first = 0; end = 0; before = 0 }) (record { first = 0; end = 0; before = 0 })
    c.loop-left_rest.invariant (grind (arith, nat_tests)) (grind (arith, nat_tests)) c.if-left_first-right_first.true c.if-right_first-left_first.true)

pub loop-left_rest-preserved : goal.loop-left_rest-preserved
loop-left_rest-preserved c =
    rw (c.past-left_rest.ensures, c.past-right_rest.ensures)
    (HaveCommon-on _ _ c.loop-left_rest.left_rest.now c.loop-left_rest.right_rest.now _ _ c.loop-left_rest.invariant (grind (arith, nat_tests)) (grind (arith, nat_tests)))

pub returns-else-not-is_empty : goal.returns-else-not-is_empty
returns-else-not-is_empty c = sym (list_any-apart _ _ _ _ c.loop-left_rest.invariant (inr (grind (arith, nat_tests))))

pub returns-after-loop-left_rest : goal.returns-after-loop-left_rest
returns-after-loop-left_rest c = sym (list_any-apart _ _ _ _ c.loop-left_rest.invariant (inl (grind (arith, nat_tests))))
