use Rattle.std.proofs.Common.{map, arith}
use Rattle.std.proofs.lemmas.List.{length-map}
use Rattle.dt_text.specs.Spans.{token_in}
use Rattle.dt_schedule.proofs.Forms.{collapse_long, collapse_short}
use Rattle.dt_schedule.proofs.collapses.read_collapse.Goals as goal
use Rattle.dt_schedule.proofs.collapses.read_collapse.Goals.{in_default-via-then-tokens-lt3, in_default-via-else-tokens-lt3+else-tokens-lt4}

pub returns-in_default-clause-read : goal.returns-in_default-clause-read
returns-in_default-clause-read c =
    let count = length-map c.args.tokens.now (token_in c.args.text.now) in
    elim c.in_default.branch [
      | in_default-via-then-tokens-lt3 w ↦ collapse_short c.args.sched.now (map (token_in c.args.text.now) c.args.tokens.now) (grind arith)
      | in_default-via-else-tokens-lt3+else-tokens-lt4 w ↦ collapse_long c.args.sched.now (map (token_in c.args.text.now) c.args.tokens.now) (grind arith)
    ]
