use Rattle.std.proofs.Common.{◌≡◌, ◌++◌, drop, take}
use Rattle.dt_flags.specs.Sums.{CanReplace, replaced}
use Rattle.dt_flags.proofs.sums.replace.Given as goal

abbrev pub invariant-loop-level : goal.invariant-loop-level
invariant-loop-level l = record {
  can : CanReplace (drop l.level l.levels.items) l.at l.old l.new;
  rest : take l.level l.levels.items ++ replaced (drop l.level l.levels.items) l.at l.old l.new ≡ replaced l.fn.levels.items l.fn.place l.old l.new;
}
