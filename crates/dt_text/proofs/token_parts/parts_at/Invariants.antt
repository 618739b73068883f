use Rattle.std.proofs.Common.{◌≡◌, ◌≤◌, ◌-◌, ◌++◌, All, length, map, drop}
use Rattle.dt_text.specs.Spans.{IsToken, token_in}
use Rattle.dt_text.specs.Parts.{parts_at}
use Rattle.dt_text.proofs.token_parts.parts_at.Given as goal

abbrev pub invariant-loop-items : goal.invariant-loop-items
invariant-loop-items l = record {
  within : l.from ≤ length l.token;
  tokens : All (IsToken (length l.token)) l.items.items;
  same : map (token_in l.token) l.items.items ++ parts_at l.separator (drop l.from l.token) ≡ parts_at l.separator l.token;
}

abbrev pub decreases-loop-items : goal.decreases-loop-items
decreases-loop-items l = length l.token - l.from
