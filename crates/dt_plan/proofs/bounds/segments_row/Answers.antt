use Rattle.std.proofs.Common.{◌≡◌, ℕ, ◌+◌, ◌<◌, List, length, take, get_or, ap, sym, ◌∙◌, refl, arith}
use Rattle.std.proofs.lemmas.List.{take_all}
use Rattle.dt_place.specs.Machines.{nodes_of}
use Rattle.dt_plan.specs.declared.parts.Part.{Part}
use Rattle.dt_plan.specs.Bounds.{part_words}
use Rattle.dt_plan.specs.Layouts.{Layout}
use Rattle.dt_plan.specs.NodeWords.{most_of_segments, row_of, segment_sum}
use Rattle.dt_plan.specs.Statements.{StatementView}
use Rattle.dt_plan.proofs.NodeRows.{so_many}
use Rattle.dt_plan.proofs.NumberedParts.{parts_few}
use Rattle.dt_plan.proofs.SegmentRows.{after_more, before_more, most_goes, row_many, segment_up, sum_goes}
use Rattle.dt_plan.proofs.bounds.segments_row.Goals as goal

pub overflow_cast-number : goal.overflow_cast-number
overflow_cast-number g c =
    let few = parts_few c.args.layout.now.parts in
    let same = ap (λ (l : Layout). length l.parts) c.layout.view_is in
    let visits = c.requires.fits.visits in
    let test = c.loop-number-test.true in
    omega (arith, few, same, visits, test)

pub greater-requires : goal.greater-requires
greater-requires g c =
    row_many (nodes_of c.args.layout.now.machine) (most_of_segments c.args.layout.now (take c.loop-number.number c.args.layout.now.parts)) c.as_slice-in-loop-number-2.result.now (c.as_slice-in-loop-number-2.ensures.value ∙ c.loop-number.invariant.most)
    ∙ sym
    (ap (λ (r : List ℕ). length r) (c.as_slice-in-loop-number-3.ensures.value ∙ c.in_ok-sum-2.ensures) ∙ so_many _ _
    ∙ row_many (nodes_of c.args.layout.now.machine) (segment_sum c.args.layout.now (take c.loop-number.number c.args.layout.now.parts) c.loop-number.segment) c.as_slice.result.now (c.as_slice.ensures.value ∙ c.loop-number.invariant.sum))

pub loop-number-preserved : goal.loop-number-preserved
loop-number-preserved g c =
    let same = ap (λ (l : Layout). length l.parts) c.layout.view_is in
    let test = c.loop-number-test.true in
    let b : c.loop-number.number < length c.args.layout.now.parts = omega (arith, same, test) in
    let is : c.part-item.result ≡ get_or c.args.layout.now.parts c.loop-number.number c.part-item.result = c.part-item.is ∙ ap (λ (l : Layout). get_or l.parts c.loop-number.number c.part-item.result) c.layout.view_is in
    let sum : c.in_ok-sum-2.sum.items ≡ row_of (nodes_of c.args.layout.now.machine) (segment_sum c.args.layout.now (take (c.loop-number.number + 1) c.args.layout.now.parts) c.part-item.result.segment) =
    sum_goes c.args.layout.now c.loop-number.number c.part-item.result b is c.loop-number.segment c.as_slice.result.now c.as_slice-in-loop-number.result.now c.in_ok-sum-2.sum.items _ c.loop-number.invariant.before
    (segment_up c.args.layout.now c.loop-number.number c.part-item.result b is c.loop-number.segment c.loop-number.invariant.after) (c.as_slice.ensures.value ∙ c.loop-number.invariant.sum)
    (c.as_slice-in-loop-number.ensures.value ∙ c.in_ok-words.ensures ∙ ap (λ (v : StatementView). row_of (nodes_of v.layout.machine) (λ n. part_words v.layout n v.part)) c.in_ok-statement.ensures) refl c.in_ok-sum-2.ensures in
    record {
      sum = sum;
      most =
          most_goes c.args.layout.now c.loop-number.number c.part-item.result b is c.as_slice-in-loop-number-2.result.now c.as_slice-in-loop-number-3.result.now c.in_ok-most-2.most.items
          (c.as_slice-in-loop-number-2.ensures.value ∙ c.loop-number.invariant.most) (c.as_slice-in-loop-number-3.ensures.value ∙ sum) c.in_ok-most-2.ensures;
      before = before_more c.args.layout.now c.loop-number.number c.part-item.result b is c.loop-number.segment c.loop-number.invariant.after c.loop-number.invariant.before;
      after = after_more c.args.layout.now c.loop-number.number c.part-item.result b is c.requires.segments;
    }

pub returns : goal.returns
returns g c =
    let same = ap (λ (l : Layout). length l.parts) c.layout.view_is in
    let test = c.loop-number-test.false in
    c.loop-number.invariant.most ∙ ap (λ (ps : List Part). row_of (nodes_of c.args.layout.now.machine) (most_of_segments c.args.layout.now ps)) (take_all c.loop-number.number c.args.layout.now.parts (omega (arith, same, test)))
