use Rattle.std.proofs.Common.{◌<◌, arith, length, sym, ◌∙◌}
use Rattle.dt_leaf.specs.Clearing.{buffer_words}
use Rattle.dt_leaf.proofs.Clearing.{clears_more, no_word}
use Rattle.dt_leaf.proofs.visiting.clear.Goals.{in-None, in-Some}
use Rattle.dt_leaf.proofs.visiting.clear.Goals as goal

pub loop-k-preserved : goal.loop-k-preserved
loop-k-preserved c =
    let inside : c.loop-k.k < length (buffer_words c.args.mem.now c.args.buf) = omega (arith, c.loop-k-test.true, c.count_words-count.ensures) in
    elim c.match-word_in.branch [
      | in-None w ↦ absurd (no_word c.args.buf c.loop-k.k c.args.mem.now c.loop-k.mem c.loop-k.invariant.layout inside (sym c.word_in.ensures ∙ w.in-None.is))
      | in-Some w ↦ rw w.mem-is (clears_more c.args.buf w.in-Some.word c.loop-k.k c.args.mem.now c.loop-k.mem w.clear_word.new.mem c.loop-k.invariant (sym c.word_in.ensures ∙ w.in-Some.is) inside w.clear_word.ensures)
    ]
