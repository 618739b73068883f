use Rattle.std.proofs.Common.{◌≡◌, is_some, true, sym, ◌∙◌}
use Rattle.dt_mem.specs.Memory.{value_at}
use Rattle.dt_node.proofs.NodeSteps.{one_more}
use Rattle.dt_node.proofs.holding.has_below.Goals as goal

pub loop-word-preserved : goal.loop-word-preserved
loop-word-preserved c = one_more (λ w. is_some (value_at c.args.mem.now c.args.buf w) ≡ true) c.loop-word.word c.loop-word.invariant (sym c.holds.ensures ∙ c.if-not-holds.false)
