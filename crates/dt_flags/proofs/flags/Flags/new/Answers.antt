use Rattle.std.proofs.Common.{rules, arith}
use Rattle.dt_flags.proofs.Counts.{none_counted}
use Rattle.dt_flags.proofs.flags.Flags.new.Goals as goal

pub invariant_of-result : goal.invariant_of-result
invariant_of-result c = none_counted c.args.count c.in_ok-bits.bits.items c.in_ok-sums.sums (omega (arith, c.ranges.count.fits)) (search rules) c.in_ok-sums.ensures
