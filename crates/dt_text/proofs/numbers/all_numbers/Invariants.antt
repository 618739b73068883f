use Rattle.std.proofs.Common.{◌≡◌, map}
use Rattle.dt_text.specs.Spans.{token_in}
use Rattle.dt_text.specs.Numbers.{all_numbers_of}
use Rattle.dt_text.proofs.TokenLists.{behind_front, words_from}
use Rattle.dt_text.proofs.numbers.all_numbers.Given as goal

abbrev pub invariant-loop-token : goal.invariant-loop-token
invariant-loop-token l = behind_front l.numbers.items (all_numbers_of (words_from l.text l.tokens l.token-index)) ≡ all_numbers_of (map (token_in l.text) l.tokens)
