use Rattle.std.proofs.Common.{◌≡◌, length, get_or, arith, sym, ◌∙◌}
use Rattle.std.proofs.lemmas.List.{get_or-take}
use Rattle.dt_base.proofs.Rows.{more_fits, in_range_step, out_of_range, all_in_range, row_major-count}
use Rattle.dt_model.specs.Shape.{dims}
use Rattle.dt_model.proofs.ShapeFacts.{shape_facts}
use Rattle.dt_model.proofs.shape.Shape.index.Goals as goal

pub returns-then-c-self : goal.returns-then-c-self
returns-then-c-self c =
    let n : length (dims c.args.self.now) ≡ c.args.self.now.order = (shape_facts c.args.self.now c.requires).used in
    sym (row_major-count (dims c.args.self.now) c.args.c.now (λ e. c.if-c-self.true (sym e ∙ n)))

pub returns-then-x-self : goal.returns-then-x-self
returns-then-x-self c =
    let at : get_or (dims c.args.self.now) c.loop-i.i 0 ≡ get_or c.args.self.now.extents c.loop-i.i 0 = get_or-take c.args.self.now.order c.args.self.now.extents c.loop-i.i 0 (omega arith) in
    sym (out_of_range (dims c.args.self.now) c.args.c.now c.loop-i.i c.loop-i.number _ (omega arith) (omega arith) (omega arith) c.loop-i.invariant.same)

pub overflow_mul-number : goal.overflow_mul-number
overflow_mul-number c =
    let at : get_or (dims c.args.self.now) c.loop-i.i 0 ≡ get_or c.args.self.now.extents c.loop-i.i 0 = get_or-take c.args.self.now.order c.args.self.now.extents c.loop-i.i 0 (omega arith) in
    rw (← at) (omega (arith, (shape_facts c.args.self.now c.requires).size, (more_fits (dims c.args.self.now) c.loop-i.i c.loop-i.number (get_or c.args.c.now c.loop-i.i 0) (shape_facts c.args.self.now c.requires).each (omega arith) c.loop-i.invariant.fits (omega arith)).1))

pub overflow_add-number : goal.overflow_add-number
overflow_add-number c =
    let at : get_or (dims c.args.self.now) c.loop-i.i 0 ≡ get_or c.args.self.now.extents c.loop-i.i 0 = get_or-take c.args.self.now.order c.args.self.now.extents c.loop-i.i 0 (omega arith) in
    rw (← at) (omega (arith, (shape_facts c.args.self.now c.requires).size, (more_fits (dims c.args.self.now) c.loop-i.i c.loop-i.number (get_or c.args.c.now c.loop-i.i 0) (shape_facts c.args.self.now c.requires).each (omega arith) c.loop-i.invariant.fits (omega arith)).1))

pub loop-i-preserved : goal.loop-i-preserved
loop-i-preserved c =
    let at : get_or (dims c.args.self.now) c.loop-i.i 0 ≡ get_or c.args.self.now.extents c.loop-i.i 0 = get_or-take c.args.self.now.order c.args.self.now.extents c.loop-i.i 0 (omega arith) in
    record {
      count = c.loop-i.invariant.count;
      fits = rw (← at) (more_fits (dims c.args.self.now) c.loop-i.i c.loop-i.number (get_or c.args.c.now c.loop-i.i 0) (shape_facts c.args.self.now c.requires).each (omega arith) c.loop-i.invariant.fits (omega arith)).0;
      same = rw (← at) (in_range_step (dims c.args.self.now) c.args.c.now c.loop-i.i c.loop-i.number _ (omega arith) (omega arith) (omega arith) c.loop-i.invariant.same);
    }

pub returns : goal.returns
returns c = sym (all_in_range (dims c.args.self.now) c.args.c.now c.loop-i.i c.loop-i.number c.loop-i.invariant.count (omega arith)) ∙ c.loop-i.invariant.same
