use Rattle.std.proofs.Common.{◌≡◌, ◌+◌, ◌^◌, ◌%◌, ◌++◌, ◌-◌, ◌∷◌, [], length, take, drop, sum_by}
use Rattle.dt_model.specs.Value.{term_sum}
use Rattle.dt_base.specs.Ranges.{below}
use Rattle.dt_model.proofs.value.+sum_from.Given as goal

abbrev pub decreases-sum_from : goal.decreases-sum_from
decreases-sum_from l = length l.extents.now - l.at

abbrev pub invariant-loop-i : goal.invariant-loop-i
invariant-loop-i l = record {
  sum : l.sum ≡ sum_by (λ i. term_sum l.tensors (drop (l.at + 1) l.extents) (take l.at l.fn.env ++ i ∷ []) l.factors) (below l.i) % 2 ^ 64;
  kept : take l.at l.env ≡ take l.at l.fn.env;
}
