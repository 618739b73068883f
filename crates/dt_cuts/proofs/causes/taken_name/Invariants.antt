use Rattle.std.proofs.Common.{◌≡◌, ◌++◌, take, drop}
use Rattle.dt_cuts.specs.Causes.{taken_name}
use Rattle.dt_cuts.proofs.causes.taken_name.Given as goal

abbrev pub invariant-loop-at : goal.invariant-loop-at
invariant-loop-at l = taken_name (l.names ++ take l.at l.new) (drop l.at l.new) ≡ taken_name l.names l.new
