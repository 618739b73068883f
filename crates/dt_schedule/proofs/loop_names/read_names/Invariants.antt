use Rattle.std.proofs.Common.{◌≡◌, map}
use Rattle.dt_model.proofs.Fronts.{with_front}
use Rattle.dt_text.specs.Spans.{token_in}
use Rattle.dt_schedule.specs.NamesOf.{each, name_in}
use Rattle.dt_text.proofs.TokenLists.{words_from}
use Rattle.dt_schedule.proofs.loop_names.read_names.Given as goal

abbrev pub invariant-loop-token : goal.invariant-loop-token
invariant-loop-token l = with_front l.names (each name_in (words_from l.text l.tokens l.token-index)) ≡ each name_in (map (token_in l.text) l.tokens)
