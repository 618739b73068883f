-- A split without a cause keeps the sum, and makes a lawful schedule.
use Rattle.std.proofs.Common.{◌≡◌, ◌+◌, ◌<◌, ◌^◌, None, length}
use Rattle.dt_nest.specs.Schedule.{Schedule}
use Rattle.dt_nest.specs.Lawful.{IsLawful}
use Rattle.dt_nest.specs.Commands.{Keeps}
use Rattle.dt_cuts.proofs.CutKeeps.{cut_keeps}
use Rattle.dt_cuts.proofs.CutOwes.{cut_owes}
use Rattle.dt_rewrite.specs.declared.splits.Split.{Split}
use Rattle.dt_rewrite.specs.Splits.{split_cause, split_cut, split_effect, split_rule}
use Rattle.dt_rewrite.specs.Laws.SplitCuts.{split_is_cut, split_keeps_below}

-- a split without a cause keeps what a command owes
pub split_keeps : (c : Split) (s : Schedule) → IsLawful s → c.var < length s.names → split_cause c s ≡ None → Keeps (split_rule c) s
split_keeps c s law known ok =
    let k = split_is_cut c s law ok in
    cut_owes ((split_rule c).can) (split_cause c) (split_cut c) (λ stored s. Unit {0}) s law k (λ stored suits. (tt, tt)) (cut_keeps s (split_cut c s) law k (λ stored tensors fits. split_keeps_below c s law ok stored))
