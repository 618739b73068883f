use Rattle.std.proofs.Common.{sym, ◌∙◌}
use Rattle.dt_leaf.proofs.Clearing.{word_clears}
use Rattle.dt_leaf.proofs.visiting.clear_word.Goals as goal

pub returns-then-holds : goal.returns-then-holds
returns-then-holds c = rw c.write.ensures (word_clears c.args.mem.now c.args.buf c.args.word (sym c.holds.ensures ∙ c.if-holds.true))
