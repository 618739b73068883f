use Rattle.std.proofs.Common.{arith}
use Rattle.dt_flags.proofs.Spots.{far_within, left_kept, right_within, right_kept}
use Rattle.dt_flags.proofs.sums.step_down.Goals as goal

pub overflow_mul-left : goal.overflow_mul-left
overflow_mul-left c = let h = far_within c.args.numbers.now c.args.spot.place c.args.spot.behind c.requires.within in omega (arith, h, c.requires.few)

pub overflow_add-result : goal.overflow_add-result
overflow_add-result c = let h = far_within c.args.numbers.now c.args.spot.place c.args.spot.behind c.requires.within in omega (arith, h, c.requires.few)

pub returns-then-spot-first-clause-kept : goal.returns-then-spot-first-clause-kept
returns-then-spot-first-clause-kept c = left_kept c.args.numbers.now c.args.spot.place c.args.spot.behind

pub returns-else-spot-first-clause-within : goal.returns-else-spot-first-clause-within
returns-else-spot-first-clause-within c =
    right_within c.args.numbers.now c.args.spot.place c.args.spot.behind c.number_at-first.result c.number_at-first.ensures c.if-spot-first.false c.requires.within

pub returns-else-spot-first-clause-kept : goal.returns-else-spot-first-clause-kept
returns-else-spot-first-clause-kept c =
    right_kept c.args.numbers.now c.args.spot.place c.args.spot.behind c.number_at-first.result c.number_at-first.ensures c.if-spot-first.false c.requires.within
