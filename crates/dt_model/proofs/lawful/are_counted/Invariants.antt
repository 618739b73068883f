use Rattle.std.proofs.Common.{◌≡◌, take}
use Rattle.dt_base.specs.Ranges.{below}
use Rattle.dt_model.proofs.lawful.are_counted.Given as goal

abbrev pub invariant-loop-i : goal.invariant-loop-i
invariant-loop-i l = take l.i l.vars ≡ below l.i
