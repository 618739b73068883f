use Rattle.std.proofs.Common.{◌≡◌, map}
use Rattle.std.specs.List.{list_all}
use Rattle.dt_text.specs.Spans.{token_in}
use Rattle.dt_text.proofs.TokenLists.{words_from}
use Rattle.dt_order.specs.Orders.{passes}
use Rattle.dt_order.proofs.reading.all_pass.Given as goal

abbrev pub invariant-loop-token : goal.invariant-loop-token
invariant-loop-token l = list_all (passes l.test) (words_from l.text l.tokens l.token-index) ≡ list_all (passes l.test) (map (token_in l.text) l.tokens)
