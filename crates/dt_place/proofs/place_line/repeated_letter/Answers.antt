use Rattle.std.proofs.Common.{arith, sym, ◌∙◌}
use Rattle.dt_place.proofs.PlaceSteps.{repeated_end, repeated_here, repeated_more}
use Rattle.dt_place.proofs.place_line.repeated_letter.Goals as goal

pub returns-then-has_letter : goal.returns-then-has_letter
returns-then-has_letter c = repeated_here c.args.letters.now c.loop-i.i _ c.loop-i-test.true (sym c.has_letter.ensures ∙ c.if-has_letter.true) c.loop-i.invariant

pub loop-i-preserved : goal.loop-i-preserved
loop-i-preserved c = repeated_more c.args.letters.now c.loop-i.i _ c.loop-i-test.true (sym c.has_letter.ensures ∙ c.if-has_letter.false) c.loop-i.invariant

pub returns : goal.returns
returns c = repeated_end c.args.letters.now c.loop-i.i _ (omega arith) c.loop-i.invariant
