use Rattle.std.proofs.Common.{arith, get_or}
use Rattle.dt_text.proofs.NumberLemmas.{digits_more, small_more, digit_small}
use Rattle.dt_text.proofs.numbers.value.Goals as goal

pub loop-digit-preserved : goal.loop-digit-preserved
loop-digit-preserved c = record {
  same = digits_more c.args.digits.now c.loop-digit.digit-index c.loop-digit.value c.from.result c.loop-digit-test.true (omega arith) c.loop-digit.invariant.same;
  small = small_more c.loop-digit.digit-index c.loop-digit.value c.from.result (digit_small (get_or c.args.digits.now c.loop-digit.digit-index 0) c.from.result (c.requires.digits c.loop-digit.digit-index 0 c.loop-digit-test.true) (omega arith)) c.loop-digit.invariant.small;
}
