use Rattle.std.proofs.Common.{get_or, arith, sym, ◌∙◌}
use Rattle.dt_base.proofs.Rows.{more_fits, in_range_step, out_of_range, all_in_range, row_major-count}
use Rattle.dt_place.proofs.machines.number_in.Goals as goal

pub returns-then-c-dims : goal.returns-then-c-dims
returns-then-c-dims c = sym (row_major-count c.args.dims.now c.args.c.now (λ e. c.if-c-dims.true (sym e)))

pub returns-then-x-dims : goal.returns-then-x-dims
returns-then-x-dims c = sym (out_of_range c.args.dims.now c.args.c.now c.loop-i.i c.loop-i.number _ (omega arith) (omega arith) (omega arith) c.loop-i.invariant.same)

pub overflow_mul-number : goal.overflow_mul-number
overflow_mul-number c = omega (arith, c.requires.few, (more_fits c.args.dims.now c.loop-i.i c.loop-i.number (get_or c.args.c.now c.loop-i.i 0) c.requires.each (omega arith) c.loop-i.invariant.fits (omega arith)).1)

pub overflow_add-number : goal.overflow_add-number
overflow_add-number c = omega (arith, c.requires.few, (more_fits c.args.dims.now c.loop-i.i c.loop-i.number (get_or c.args.c.now c.loop-i.i 0) c.requires.each (omega arith) c.loop-i.invariant.fits (omega arith)).1)

pub loop-i-preserved : goal.loop-i-preserved
loop-i-preserved c = record {
  count = c.loop-i.invariant.count;
  fits = (more_fits c.args.dims.now c.loop-i.i c.loop-i.number (get_or c.args.c.now c.loop-i.i 0) c.requires.each (omega arith) c.loop-i.invariant.fits (omega arith)).0;
  same = in_range_step c.args.dims.now c.args.c.now c.loop-i.i c.loop-i.number _ (omega arith) (omega arith) (omega arith) c.loop-i.invariant.same;
}

pub returns : goal.returns
returns c = sym (all_in_range c.args.dims.now c.args.c.now c.loop-i.i c.loop-i.number c.loop-i.invariant.count (omega arith)) ∙ c.loop-i.invariant.same
