use Rattle.std.proofs.Common.{◌++◌, ap, sym, ◌∙◌, arith}
use Rattle.std.proofs.lemmas.Bool.Decides.{nat_tests}
use Rattle.dt_runs.proofs.BoxLemmas.{inner_box-row, first_side, first_fits, slice_fits, slice_small, length-tail, HasSlices-start, HasSlices-next, HasSlices-all, HasSlices-behind, row-behind}
use Rattle.dt_runs.proofs.boxes.+push_box.Goals as goal

pub overflow_mul-first : goal.overflow_mul-first
overflow_mul-first t c =
    let side = first_side c.args.extents.now c.args.los.now c.args.his.now c.requires.corners c.requires.filled (grind (arith, nat_tests)) in
    omega (arith, first_fits c.args.outer 4294967296 c.args.extents.now c.args.los.now c.args.his.now side c.requires.small)

pub returns-then-extents-eq1-clause-ok : goal.returns-then-extents-eq1-clause-ok
returns-then-extents-eq1-clause-ok t c =
    c.in_ok-push_range-2.ensures.ok ∙ ap (λ ks. c.args.runs.now ++ ks) (sym (inner_box-row c.args.outer c.args.extents.now c.args.los.now c.args.his.now c.requires.corners c.if-extents-eq1.true))

pub returns-then-extents-eq1-clause-behind : goal.returns-then-extents-eq1-clause-behind
returns-then-extents-eq1-clause-behind t c =
    let side = first_side c.args.extents.now c.args.los.now c.args.his.now c.requires.corners c.requires.filled (grind (arith, nat_tests)) in
    row-behind c.args.outer c.args.extents.now c.args.los.now c.args.his.now c.args.runs.now _ side c.if-extents-eq1.true c.requires.behind c.in_ok-push_range-2.ensures.ok

pub overflow_add-first-in-loop-x : goal.overflow_add-first-in-loop-x
overflow_add-first-in-loop-x t c =
    let side = first_side c.args.extents.now c.args.los.now c.args.his.now c.requires.corners c.requires.filled (grind (arith, nat_tests)) in
    omega (arith, slice_fits c.args.outer c.loop-x.x 4294967296 c.args.extents.now c.args.los.now c.args.his.now side c.loop-x-test.true c.requires.small)

pub loop-x-init : goal.loop-x-init
loop-x-init t c =
    let side = first_side c.args.extents.now c.args.los.now c.args.his.now c.requires.corners c.requires.filled (grind (arith, nat_tests)) in
    HasSlices-start c.args.outer c.args.extents.now c.args.los.now c.args.his.now c.args.runs.now side c.requires.behind

pub push_box-requires : goal.push_box-requires
push_box-requires t c =
    let side = first_side c.args.extents.now c.args.los.now c.args.his.now c.requires.corners c.requires.filled (grind (arith, nat_tests)) in
    let shorter = length-tail c.args.extents.now (grind (arith, nat_tests)) in
    (omega (arith, shorter), (side.rest, (side.rest_filled, (slice_small c.args.outer c.loop-x.x 4294967296 c.args.extents.now c.args.los.now c.args.his.now side c.loop-x-test.true c.requires.small, c.loop-x.invariant.behind))))

pub loop-x-preserved : goal.loop-x-preserved
loop-x-preserved t c =
    HasSlices-next c.args.outer c.args.extents.now c.args.los.now c.args.his.now c.args.runs.now c.loop-x.x c.loop-x.runs _ c.loop-x.invariant c.loop-x.auto.x
    c.in_ok-push_box.ensures.ok c.in_ok-push_box.ensures.behind

pub returns-clause-ok : goal.returns-clause-ok
returns-clause-ok t c =
    let side = first_side c.args.extents.now c.args.los.now c.args.his.now c.requires.corners c.requires.filled (grind (arith, nat_tests)) in
    let filled = side.filled in
    HasSlices-all c.args.outer c.args.extents.now c.args.los.now c.args.his.now c.args.runs.now c.loop-x.x c.loop-x.runs c.loop-x.invariant c.requires.corners (grind (arith, nat_tests)) (omega arith)

pub returns-clause-behind : goal.returns-clause-behind
returns-clause-behind t c =
    let side = first_side c.args.extents.now c.args.los.now c.args.his.now c.requires.corners c.requires.filled (grind (arith, nat_tests)) in
    let filled = side.filled in
    HasSlices-behind c.args.outer c.args.extents.now c.args.los.now c.args.his.now c.args.runs.now c.loop-x.x c.loop-x.runs c.loop-x.invariant side (omega arith)
