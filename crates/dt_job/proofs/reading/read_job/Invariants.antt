use Rattle.std.proofs.Common.{◌≡◌, ◌≤◌, ◌+◌, ◌-◌, length, drop}
use Rattle.dt_text.specs.Lines.{lines_of}
use Rattle.dt_job.specs.Read.{job_of, lines_from}
use Rattle.dt_job.proofs.reading.read_job.Given as goal

abbrev pub invariant-loop-draft : goal.invariant-loop-draft
invariant-loop-draft l = record {
  within : l.at ≤ length l.text;
  count : l.number ≤ l.at + 1;
  same : lines_from l.number l.draft (lines_of (drop l.at l.text)) ≡ job_of l.text;
}

abbrev pub decreases-loop-draft : goal.decreases-loop-draft
decreases-loop-draft l = length l.text - l.at
