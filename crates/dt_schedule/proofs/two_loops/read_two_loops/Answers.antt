use Rattle.std.proofs.Common.{map, arith}
use Rattle.std.proofs.lemmas.List.{length-map}
use Rattle.dt_text.specs.Spans.{token_in}
use Rattle.dt_schedule.proofs.Forms.{two_loops_long, two_loops_short}
use Rattle.dt_schedule.proofs.two_loops.read_two_loops.Goals as goal
use Rattle.dt_schedule.proofs.two_loops.read_two_loops.Goals.{in_default-via-then-tokens-lt4, in_default-via-else-tokens-lt4+else-tokens-lt5}

pub returns-in_default-clause-read : goal.returns-in_default-clause-read
returns-in_default-clause-read c =
    let count = length-map c.args.tokens.now (token_in c.args.text.now) in
    elim c.in_default.branch [
      | in_default-via-then-tokens-lt4 w ↦ two_loops_short c.args.sched.now (map (token_in c.args.text.now) c.args.tokens.now) (grind arith)
      | in_default-via-else-tokens-lt4+else-tokens-lt5 w ↦ two_loops_long c.args.sched.now (map (token_in c.args.text.now) c.args.tokens.now) (grind arith)
    ]
