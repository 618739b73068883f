use Rattle.std.proofs.Common.{◌≡◌, map, take}
use Rattle.std.specs.Prelude.{true}
use Rattle.std.specs.List.{list_all}
use Rattle.dt_text.specs.Spans.{token_in}
use Rattle.dt_text.proofs.TokenLists.{words_from}
use Rattle.dt_order.specs.Orders.{entry_of, is_small}
use Rattle.dt_order.proofs.reading.entries.Given as goal

abbrev pub invariant-loop-token : goal.invariant-loop-token
invariant-loop-token l = record {
  made : l.items.items ≡ map entry_of (map (token_in l.text) (take l.token-index l.tokens));
  small : list_all is_small (words_from l.text l.tokens l.token-index) ≡ true;
}
