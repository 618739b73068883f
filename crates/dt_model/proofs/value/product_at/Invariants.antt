use Rattle.std.proofs.Common.{◌≡◌, ◌^◌, ◌%◌, take}
use Rattle.dt_model.specs.Value.{term_value}
use Rattle.dt_model.proofs.value.product_at.Given as goal

abbrev pub invariant-loop-factor : goal.invariant-loop-factor
invariant-loop-factor l = l.product ≡ term_value l.tensors l.env (take l.factor-index l.factors) % 2 ^ 64
