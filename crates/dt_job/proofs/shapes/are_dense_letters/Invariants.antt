use Rattle.std.proofs.Common.{◌≡◌, map}
use Rattle.std.specs.List.{list_all}
use Rattle.dt_text.specs.Spans.{token_in}
use Rattle.dt_job.specs.Shapes.{is_dense_letter}
use Rattle.dt_text.proofs.TokenLists.{words_from}
use Rattle.dt_job.proofs.shapes.are_dense_letters.Given as goal

abbrev pub invariant-loop-token : goal.invariant-loop-token
invariant-loop-token l = list_all is_dense_letter (words_from l.text l.tokens l.token-index) ≡ list_all is_dense_letter (map (token_in l.text) l.tokens)
