use Rattle.std.proofs.Common.{◌<◌, length, sym, ◌∙◌, ℕ, subst, arith}
use Rattle.std.proofs.lemmas.Option.{slice_get-get_or}
use Rattle.dt_sim.proofs.MemoryUnits.{zero_more}
use Rattle.dt_sim.proofs.Rooms.{same_count}
use Rattle.dt_sim.proofs.memories.zero_words.Goals.{in-None, in-Some}
use Rattle.dt_sim.proofs.memories.zero_words.Goals as goal

pub zero_word-requires : goal.zero_word-requires
zero_word-requires c = subst (λ (n : ℕ). c.args.buf < n) (sym (same_count c.args.mems.now.items c.loop-k.mems.items c.loop-k.invariant.rooms c.args.node)) c.requires

pub loop-k-preserved : goal.loop-k-preserved
loop-k-preserved c =
    let inside : c.loop-k.k < length c.args.words.now = omega (arith, c.loop-k-test.true, c.count-k-end.ensures) in
    elim c.match-at.branch [
      | in-None w ↦ absurd (let none = sym c.at.ensures ∙ w.in-None.is in let some = slice_get-get_or c.args.words.now c.loop-k.k 0 inside in cc)
      | in-Some w ↦ rw w.mems-is (zero_more c.args.node c.args.buf c.loop-k.k w.in-Some.word c.args.words.now c.args.mems.now.items c.loop-k.mems.items w.zero_word.new.mems.items c.loop-k.invariant (sym c.at.ensures ∙ w.in-Some.is) w.zero_word.ensures)
    ]
