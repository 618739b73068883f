-- What is moved, operation by operation.
use Rattle.std.proofs.Common.{◌≡◌, ℕ, ◌+◌, ◌<◌, Bool, true, false, List, [], ◌∷◌, length, take, refl, sym, ap, ◌∙◌, arith}
use Rattle.std.specs.Prelude.{get_or, ◌&&◌, filter, sum_by, if◌then◌else◌}
use Rattle.std.proofs.lemmas.List.Sums.{sum_by-cons, sum_by_more}
use Rattle.dt_plan.specs.declared.ops.Op.{Op}
use Rattle.dt_plan.specs.Bounds.{is_move, moved_by, positions_moved}

no_more : (n : ℕ) → n ≡ 0 + n
no_more n = omega arith

-- all that the operations move, one by one
moved_sum : (test : Op → Bool) (ops : List Op) → positions_moved test ops ≡ sum_by (moved_by test) ops
moved_sum test [] = refl
moved_sum test (o ∷ ops) = go (is_move o.kind && test o) (moved_sum test ops) ∙ sym (sum_by-cons (moved_by test) o ops)
  where
    words : Op → ℕ
    words x = length x.words

    go : (b : Bool) → positions_moved test ops ≡ sum_by (moved_by test) ops → sum_by words (if b then o ∷ filter (λ (x : Op). is_move x.kind && test x) ops else filter (λ (x : Op). is_move x.kind && test x) ops) ≡ (if b then length o.words else 0) + sum_by (moved_by test) ops
    go true e = sum_by-cons words o (filter (λ (x : Op). is_move x.kind && test x) ops) ∙ ap (λ n. length o.words + n) e
    go false e = e ∙ no_more (sum_by (moved_by test) ops)

-- one operation more
pub moved_more : (test : Op → Bool) (ops : List Op) (k : ℕ) (d : Op) → k < length ops → positions_moved test (take (k + 1) ops) ≡ positions_moved test (take k ops) + moved_by test (get_or ops k d)
moved_more test ops k d l = moved_sum test (take (k + 1) ops) ∙ sum_by_more (moved_by test) ops k d l ∙ ap (λ n. n + moved_by test (get_or ops k d)) (sym (moved_sum test (take k ops)))

-- a count that goes on
pub moved_on : (test : Op → Bool) (ops : List Op) (k : ℕ) (o : Op) (old new : ℕ) → k < length ops → o ≡ get_or ops k o → old ≡ positions_moved test (take k ops) → new ≡ old + moved_by test o
    → new ≡ positions_moved test (take (k + 1) ops)
moved_on test ops k o old new l i e n =
    n ∙ ap (λ a. a + moved_by test o) e ∙ ap (λ (x : Op). positions_moved test (take k ops) + moved_by test x) i ∙ sym (moved_more test ops k o l)
