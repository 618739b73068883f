use Rattle.std.proofs.Common.{◌≡◌, ℕ, ◌<◌, is_some, true}
use Rattle.dt_mem.specs.Memory.{value_at}
use Rattle.dt_node.proofs.holding.has_below.Given as goal

abbrev pub invariant-loop-word : goal.invariant-loop-word
invariant-loop-word l = (w : ℕ) → w < l.word → is_some (value_at l.mem l.buf w) ≡ true
