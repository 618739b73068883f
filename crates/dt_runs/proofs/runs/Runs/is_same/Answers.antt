use Rattle.std.proofs.Common.{ap, sym, ◌∙◌}
use Rattle.std.proofs.lemmas.Slice.Eq.{slice_eq-Decides}
use Rattle.dt_runs.specs.Intervals.{numbers_of}
use Rattle.dt_runs.proofs.SameLemmas.{same_by_numbers_of, interval_eq-Decides}
use Rattle.dt_runs.proofs.runs.Runs.is_same.Goals as goal

pub returns : goal.returns
returns c =
    let decided = slice_eq-Decides interval_eq-Decides c.intervals.result.now c.intervals-2.result.now c.eq.result c.eq.ensures in (
      λ t. sym c.intervals.ensures.numbers ∙ ap (λ is. numbers_of is) (decided.0 t) ∙ c.intervals-2.ensures.numbers,
      λ e. decided.1 (same_by_numbers_of c.intervals.result.now c.intervals-2.result.now c.intervals.ensures.apart c.intervals-2.ensures.apart
          c.intervals.ensures.tallied c.intervals-2.ensures.tallied (c.intervals.ensures.numbers ∙ e ∙ sym c.intervals-2.ensures.numbers)),
    )
