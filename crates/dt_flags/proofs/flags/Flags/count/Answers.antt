use Rattle.std.proofs.Common.{Bool, List, ap, ◌∙◌, length}
use Rattle.dt_flags.specs.Flags.{set_ones}
use Rattle.dt_flags.proofs.Counts.{count_is}
use Rattle.dt_flags.proofs.flags.Flags.count.Goals as goal

pub returns : goal.returns
returns c = c.self.invariant.sum_is ∙ count_is c.self.inside.bits.items ∙ ap (λ (flags : List Bool). length (set_ones flags)) c.self.view_is
