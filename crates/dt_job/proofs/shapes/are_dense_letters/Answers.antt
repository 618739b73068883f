use Rattle.std.proofs.Common.{arith, ◌∙◌, sym}
use Rattle.dt_job.specs.Shapes.{is_dense_letter}
use Rattle.dt_text.proofs.TokenLists.{words_end, words_more, words_stop}
use Rattle.dt_job.proofs.shapes.are_dense_letters.Goals as goal

pub returns-then-not-is_dense_letter : goal.returns-then-not-is_dense_letter
returns-then-not-is_dense_letter c = words_stop is_dense_letter c.args.text.now c.args.tokens.now c.loop-token.token-index (record { from = 0; to = 0 }) c.word.result.now _ c.loop-token-test.true c.word.ensures.bytes (sym c.is_dense_letter.ensures ∙ c.if-not-is_dense_letter.true) c.loop-token.invariant

pub loop-token-preserved : goal.loop-token-preserved
loop-token-preserved c = words_more is_dense_letter c.args.text.now c.args.tokens.now c.loop-token.token-index (record { from = 0; to = 0 }) c.word.result.now _ c.loop-token-test.true c.word.ensures.bytes (sym c.is_dense_letter.ensures ∙ c.if-not-is_dense_letter.false) c.loop-token.invariant

pub returns : goal.returns
returns c = words_end is_dense_letter c.args.text.now c.args.tokens.now c.loop-token.token-index _ (omega arith) c.loop-token.invariant
