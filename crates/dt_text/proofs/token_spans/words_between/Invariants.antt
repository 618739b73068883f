use Rattle.std.proofs.Common.{◌≡◌, ◌≤◌, ◌-◌, ◌++◌, map}
use Rattle.std.specs.Prelude.{slice_range}
use Rattle.dt_text.specs.Tokens.{tokens_of}
use Rattle.dt_text.specs.Spans.{token_in, AreSpans}
use Rattle.dt_text.proofs.token_spans.words_between.Given as goal

abbrev pub invariant-loop-at : goal.invariant-loop-at
invariant-loop-at l = record {
  behind : l.fn.from ≤ l.at;
  within : l.at ≤ l.to;
  spans : AreSpans l.fn.from l.at l.items.items;
  same : map (token_in l.text) l.items.items ++ tokens_of (slice_range l.text l.at l.to) ≡ tokens_of (slice_range l.text l.fn.from l.to);
}

abbrev pub decreases-loop-at : goal.decreases-loop-at
decreases-loop-at l = l.to - l.at
