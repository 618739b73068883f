use Rattle.std.proofs.Common.{◌≡◌, ◌≢◌, ℕ, suc, ◌-◌, ◌++◌, length, get_or, arith, refl, sym, ap, ◌∙◌, subst}
use Rattle.std.specs.List.{HoldsAt}
use Rattle.std.proofs.lemmas.List.Elements.{at_read}
use Rattle.dt_runs.specs.declared.interval.Interval.{Interval}
use Rattle.dt_runs.specs.Intervals.{range, numbers_of}
use Rattle.dt_runs.proofs.IntervalLemmas.{numbers_of-push, IsApart-push, IsTallied-push, numbers_of-longer, IsApart-longer, IsTallied-longer, EndsBy-weaker, EndsBy-push, EndsBy-set}
use Rattle.dt_runs.proofs.runs.push_interval.Goals as goal
use Rattle.dt_runs.proofs.runs.push_interval.Goals.{else-length-gt0-via-then-length-gt0+else-index-first, else-length-gt0-via-else-length-gt0}

pub returns-clause-numbers : goal.returns-clause-numbers
returns-clause-numbers c =
    rw c.in_ok-push.ensures.items (numbers_of-push c.args.intervals.now.items (record { first = c.args.first; end = c.args.end; before = c.args.before }))

pub returns-clause-tallied : goal.returns-clause-tallied
returns-clause-tallied c =
    rw c.in_ok-push.ensures.items (IsTallied-push 0 c.args.intervals.now.items (record { first = c.args.first; end = c.args.end; before = c.args.before }) c.requires.tallied (omega arith))

pub returns-clause-apart : goal.returns-clause-apart
returns-clause-apart c =
    let items = c.args.intervals.now.items in
    let last : (k : ℕ) (d : Interval) → suc k ≡ length items → (get_or items k d).end ≢ c.args.first =
    elim c.else-length-gt0.branch [
      | else-length-gt0-via-then-length-gt0+else-index-first w ↦ λ k d h.
          let at : c.len-length.result - 1 ≡ k = omega arith in
          let read = subst (λ n. w.index.result.now ≡ get_or items n w.index.result.now) at w.index.ensures in
          at_read items (λ l. l.end ≢ c.args.first) k w.index.result.now (omega arith) read w.if-index-first.false d
      | else-length-gt0-via-else-length-gt0 w ↦ λ k d h. absurd (omega arith)
    ] in
    rw c.in_ok-push.ensures.items (IsApart-push 0 items (record { first = c.args.first; end = c.args.end; before = c.args.before }) c.requires.apart c.requires.behind last (omega arith) c.requires.filled)

-- the interval that is read is the one that is written
stops_at_first : (c : goal.After-intervals-1) → c.index_mut.result.now.end ≡ c.args.first
stops_at_first c =
    let read = c.index.result.now in
    let same : HoldsAt (λ l. read ≡ l) c.args.intervals.now.items (c.len-length.result - 1) =
    at_read c.args.intervals.now.items (λ l. read ≡ l) (c.len-length.result - 1) read (omega arith) c.index.ensures refl in
    sym (ap (λ (l : Interval). l.end) (same c.index_mut.result.now ∙ sym c.index_mut.ensures.value)) ∙ c.if-index-first.true

pub returns-then-index-first-clause-apart : goal.returns-then-index-first-clause-apart
returns-then-index-first-clause-apart c =
    let stops = stops_at_first c in
    IsApart-longer 0 c.args.intervals.now.items (c.len-length.result - 1) c.index_mut.result.now _ c.requires.apart (omega arith) (sym c.index_mut.ensures.value) refl (omega arith)

pub returns-then-index-first-clause-tallied : goal.returns-then-index-first-clause-tallied
returns-then-index-first-clause-tallied c =
    IsTallied-longer 0 c.args.intervals.now.items (c.len-length.result - 1) c.index_mut.result.now _ c.requires.tallied (omega arith) (sym c.index_mut.ensures.value) refl

pub returns-then-index-first-clause-numbers : goal.returns-then-index-first-clause-numbers
returns-then-index-first-clause-numbers c =
    let stops = stops_at_first c in
    let longer : Interval = record { first = c.index_mut.result.now.first; end = c.args.end; before = c.index_mut.result.now.before } in
    numbers_of-longer 0 c.args.intervals.now.items (c.len-length.result - 1) c.index_mut.result.now longer c.requires.apart (omega arith) (sym c.index_mut.ensures.value) refl (omega arith)
    ∙ ap (λ f. numbers_of c.args.intervals.now.items ++ range f c.args.end) stops

pub returns-then-index-first-clause-ends : goal.returns-then-index-first-clause-ends
returns-then-index-first-clause-ends c =
    EndsBy-set c.args.end c.args.intervals.now.items (c.len-length.result - 1) _ (EndsBy-weaker c.args.first c.args.end c.args.intervals.now.items (omega arith) c.requires.behind) (omega arith)

pub returns-clause-ends : goal.returns-clause-ends
returns-clause-ends c =
    rw c.in_ok-push.ensures.items (EndsBy-push c.args.end c.args.intervals.now.items (record { first = c.args.first; end = c.args.end; before = c.args.before })
    (EndsBy-weaker c.args.first c.args.end c.args.intervals.now.items (omega arith) c.requires.behind) (omega arith))
