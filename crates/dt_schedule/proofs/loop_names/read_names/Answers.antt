use Rattle.std.proofs.Common.{◌+◌, arith}
use Rattle.dt_schedule.specs.NamesOf.{name_in, names_of}
use Rattle.dt_text.proofs.TokenLists.{words_from, words_from-end, words_from-next}
use Rattle.dt_schedule.proofs.EachFacts.{each_end, each_fails}
use Rattle.dt_schedule.proofs.loop_names.read_names.Goals as goal

pub returns-in-Err : goal.returns-in-Err
unfolding names_of
returns-in-Err c =
    each_fails name_in (words_from c.args.text.now c.args.tokens.now c.loop-token.token-index) (words_from c.args.text.now c.args.tokens.now (c.loop-token.token-index + 1)) c.word.result.now c.in-Err.end c.loop-token.names _
    (words_from-next c.args.text.now c.args.tokens.now c.loop-token.token-index (record { from = 0; to = 0 }) c.word.result.now c.loop-token-test.true c.word.ensures.bytes) c.in-Err.ensures c.loop-token.invariant

pub returns : goal.returns
unfolding names_of
returns c = each_end name_in (words_from c.args.text.now c.args.tokens.now c.loop-token.token-index) c.loop-token.names _ (words_from-end c.args.text.now c.args.tokens.now c.loop-token.token-index (omega arith)) c.loop-token.invariant
