use Rattle.std.proofs.Common.{arith}
use Rattle.dt_text.proofs.TokenLists.{number_end, number_more, number_stop}
use Rattle.dt_text.proofs.numbers.all_numbers.Goals as goal

pub returns-in-None : goal.returns-in-None
returns-in-None c =
    number_stop c.args.text.now c.args.tokens.now c.loop-token.token-index (record { from = 0; to = 0 }) c.word.result.now c.loop-token.numbers.items _ c.loop-token-test.true c.word.ensures.bytes c.in-None.ensures c.loop-token.invariant

pub loop-token-preserved : goal.loop-token-preserved
loop-token-preserved c =
    number_more c.args.text.now c.args.tokens.now c.loop-token.token-index (record { from = 0; to = 0 }) c.word.result.now c.loop-token.numbers.items c.push.new.self.items c.in-Some.n _ c.loop-token-test.true c.word.ensures.bytes c.in-Some.ensures
    c.in_ok-push-in-Some.ensures.items c.loop-token.invariant

pub returns : goal.returns
returns c = number_end c.args.text.now c.args.tokens.now c.loop-token.token-index c.loop-token.numbers.items _ (omega arith) c.loop-token.invariant
