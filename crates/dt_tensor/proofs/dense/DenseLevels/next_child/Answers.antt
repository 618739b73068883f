use Rattle.std.proofs.Common.{◌∙◌, sym}
use Rattle.dt_model.specs.Shape.{dims}
use Rattle.dt_tensor.proofs.Prefixes.{next_here, next_outside, next_past}
use Rattle.dt_tensor.proofs.dense.DenseLevels.next_child.Goals as goal
use Rattle.dt_tensor.proofs.dense.DenseLevels.next_child.Goals.{else-has_prefix-via-then-has_prefix+else-from-dims, else-has_prefix-via-else-has_prefix}

pub returns-then-from-dims : goal.returns-then-from-dims
returns-then-from-dims c =
    next_here c.args.self.now (dims c.self.inside.shape) c.dims.result.now c.args.prefix.now c.args.from c.self.view_is c.dims.ensures c.requires (sym c.has_prefix.ensures ∙ c.if-has_prefix.true) c.if-from-dims.true

pub returns-else-has_prefix : goal.returns-else-has_prefix
returns-else-has_prefix c = elim c.else-has_prefix.branch [
  | else-has_prefix-via-then-has_prefix+else-from-dims w ↦
      next_past c.args.self.now (dims c.self.inside.shape) w.dims.result.now c.args.prefix.now c.args.from c.self.view_is w.dims.ensures w.if-from-dims.false
  | else-has_prefix-via-else-has_prefix w ↦
      next_outside c.args.self.now (dims c.self.inside.shape) c.args.prefix.now c.args.from c.self.view_is c.requires (sym c.has_prefix.ensures ∙ w.if-has_prefix.false)
]
