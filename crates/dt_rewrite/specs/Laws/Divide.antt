-- A loop in a number of pieces keeps what a schedule adds.
use Rattle.std.proofs.Common.{◌≡◌, ◌<◌, length, None, ◌+◌, ◌^◌}
use Rattle.dt_nest.specs.Schedule.{Schedule}
use Rattle.dt_nest.specs.Commands.{Keeps}
use Rattle.dt_nest.specs.Lawful.{IsLawful}
use Rattle.dt_cuts.proofs.CutKeeps.{cut_keeps}
use Rattle.dt_cuts.proofs.CutOwes.{cut_owes}
use Rattle.dt_rewrite.specs.declared.divides.Divide.{Divide}
use Rattle.dt_rewrite.specs.Divides.{divide_cause, divide_cut, divide_effect, divide_rule}
use Rattle.dt_rewrite.specs.Laws.DivideCuts.{divide_is_cut, divide_keeps_below}

-- A lawful divide keeps what a command owes.
pub divide_keeps : (c : Divide) (s : Schedule) → IsLawful s → c.var < length s.names → divide_cause c s ≡ None → Keeps (divide_rule c) s
divide_keeps c s l known h =
    let k = divide_is_cut c s l h in
    cut_owes ((divide_rule c).can) (divide_cause c) (divide_cut c) (λ stored s. Unit {0}) s l k (λ stored suits. (tt, tt)) (cut_keeps s (divide_cut c s) l k (λ stored tensors f. divide_keeps_below c s l h stored))
