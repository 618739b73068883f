use Rattle.std.proofs.Common.{◌≡◌, ◌≤◌, ◌*◌, ◌^◌, ◌%◌, length, take, drop, sum_by}
use Rattle.dt_model.specs.Value.{sign, term_sum}
use Rattle.dt_model.proofs.value.value_at.Given as goal

abbrev pub invariant-loop-i : goal.invariant-loop-i
invariant-loop-i l = record {
  front : take l.i l.env ≡ take l.i l.c;
  within : length l.c ≤ length l.env;
  all : length l.env ≡ length l.fn.stmt.extents;
}

abbrev pub invariant-loop-term : goal.invariant-loop-term
invariant-loop-term l = record {
  sum : l.sum ≡ sum_by (λ t. sign t.minus * term_sum l.tensors (drop (length l.c) l.extents) l.c t.factors) (take l.term-index l.fn.stmt.terms) % 2 ^ 64;
  kept : take (length l.c) l.env ≡ l.c;
  all : length l.env ≡ length l.fn.stmt.extents;
  within : length l.c ≤ length l.env;
}
