use Rattle.std.proofs.Common.{arith, sym, ◌∙◌}
use Rattle.std.specs.Prelude.{slice_range}
use Rattle.dt_job.specs.Lines.{bytes_line}
use Rattle.dt_job.specs.Read.{job_of}
use Rattle.dt_job.proofs.ReadLaws.{line_goes_on, line_stops, refuses}
use Rattle.dt_job.proofs.reading.read_job.Goals as goal

pub returns-in-Err : goal.returns-in-Err
returns-in-Err c =
    rw c.at_line.ensures (refuses c.loop-draft.number c.in-Err.stop (bytes_line c.loop-draft.draft (slice_range c.args.text.now c.in-Some.line.from c.in-Some.line.to)) (job_of c.args.text.now) c.in-Err.ensures
    (λ x h. sym c.loop-draft.invariant.same ∙ line_stops c.args.text.now c.loop-draft.number c.loop-draft.draft c.loop-draft.at c.in-Some.line.from c.in-Some.line.to x c.in-Some.ensures.lines h))

pub loop-draft-preserved : goal.loop-draft-preserved
loop-draft-preserved c = record {
  within = omega (arith, c.after-at.ensures.place);
  count = omega (arith, c.after-at.ensures.place, c.in-Some.ensures.some, c.in-Some.ensures.span.0, c.in-Some.ensures.span.1, c.in-Some.ensures.place.1, c.loop-draft.invariant.count);
  same = line_goes_on c.args.text.now c.loop-draft.number c.loop-draft.draft c.read_line.new.draft c.loop-draft.at c.in-Some.line.from c.in-Some.line.to c.after-at.result c.in-Some.ensures.lines c.after-at.ensures.rest c.in-Ok.ensures ∙ c.loop-draft.invariant.same;
}
