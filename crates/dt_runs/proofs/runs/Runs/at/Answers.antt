use Rattle.std.proofs.Common.{◌-◌, length, sym, ap, ◌∙◌, arith}
use Rattle.std.specs.List.{slice_get}
use Rattle.dt_runs.specs.declared.interval.Interval.{Interval}
use Rattle.dt_runs.proofs.IntervalLemmas.{EndsBy-get_or}
use Rattle.dt_runs.proofs.SearchLemmas.{some_tallied, slice_get-numbers_of, slice_get-below_end}
use Rattle.dt_runs.proofs.runs.Runs.at.Goals as goal

pub overflow_sub-interval : goal.overflow_sub-interval
overflow_sub-interval c =
    some_tallied c.intervals-intervals.result.now c.args.k c.tallied_by.result (record { first = 0; end = 0; before = 0 }) c.intervals-intervals.ensures.tallied
    (omega (arith, ap length c.intervals-intervals.ensures.numbers)) (λ j e low high. c.tallied_by.ensures.point.1 j e low high)

pub overflow_add-result : goal.overflow_add-result
overflow_add-result c =
    let is = c.intervals-intervals.result.now in
    let d : Interval = record { first = 0; end = 0; before = 0 } in
    let at = c.tallied_by.result - 1 in
    let some = some_tallied is c.args.k c.tallied_by.result d c.intervals-intervals.ensures.tallied
    (omega (arith, ap length c.intervals-intervals.ensures.numbers)) (λ j e low high. c.tallied_by.ensures.point.1 j e low high) in
    let inside = slice_get-below_end is at c.args.k d c.intervals-intervals.ensures.tallied (omega arith) (c.tallied_by.ensures.point.0 at d (omega arith) (omega arith))
    (λ h. c.tallied_by.ensures.point.1 _ d (omega arith) h) (omega (arith, ap length c.intervals-intervals.ensures.numbers)) in
    omega (arith, EndsBy-get_or 4294967295 is at d c.intervals-intervals.ensures.small (omega arith))

pub returns : goal.returns
returns c =
    let is = c.intervals-intervals.result.now in
    let d : Interval = record { first = 0; end = 0; before = 0 } in
    let at = c.tallied_by.result - 1 in
    let some = some_tallied is c.args.k c.tallied_by.result d c.intervals-intervals.ensures.tallied
    (omega (arith, ap length c.intervals-intervals.ensures.numbers)) (λ j e low high. c.tallied_by.ensures.point.1 j e low high) in
    sym (slice_get-numbers_of is at c.args.k d c.intervals-intervals.ensures.tallied (omega arith) (c.tallied_by.ensures.point.0 at d (omega arith) (omega arith))
    (λ h. c.tallied_by.ensures.point.1 _ d (omega arith) h) (omega (arith, ap length c.intervals-intervals.ensures.numbers)))
    ∙ ap (λ xs. slice_get xs c.args.k) c.intervals-intervals.ensures.numbers
