use Rattle.std.proofs.Common.{arith, ◌∙◌, sym}
use Rattle.dt_text.specs.Numbers.{is_numeral}
use Rattle.dt_text.proofs.TokenLists.{words_end, words_more, words_stop}
use Rattle.dt_text.proofs.numbers.are_all_numerals.Goals as goal

pub returns-then-not-is_numeral : goal.returns-then-not-is_numeral
returns-then-not-is_numeral c = words_stop is_numeral c.args.text.now c.args.tokens.now c.loop-token.token-index (record { from = 0; to = 0 }) c.word.result.now _ c.loop-token-test.true c.word.ensures.bytes (sym c.is_numeral.ensures ∙ c.if-not-is_numeral.true) c.loop-token.invariant

pub loop-token-preserved : goal.loop-token-preserved
loop-token-preserved c = words_more is_numeral c.args.text.now c.args.tokens.now c.loop-token.token-index (record { from = 0; to = 0 }) c.word.result.now _ c.loop-token-test.true c.word.ensures.bytes (sym c.is_numeral.ensures ∙ c.if-not-is_numeral.false) c.loop-token.invariant

pub returns : goal.returns
returns c = words_end is_numeral c.args.text.now c.args.tokens.now c.loop-token.token-index _ (omega arith) c.loop-token.invariant
