use Rattle.std.proofs.Common.{◌≡◌, ℕ, ◌-◌, ◌&&◌, Bool, sym, arith, get_or, length, length-set, slice_set, ap, ◌∙◌, nat_eq}
use Rattle.std.proofs.lemmas.List.{get_or_read}
use Rattle.std.proofs.Common.{get_or-set_same}
use Rattle.dt_tracker.specs.Tracks.{has_left}
use Rattle.dt_tracker.proofs.Releases.{next_can, next_fewer, op_there, ready_set}
use Rattle.dt_tracker.proofs.release.release.Goals as goal

pub loop-i-preserved : goal.loop-i-preserved
loop-i-preserved c =
    let op = get_or c.args.row.now c.loop-i.i 0 in
    let inv = c.loop-i.invariant in
    let v = c.index_mut.result.now in
    let there = op_there c.args.row.now c.loop-i.waiting.items c.loop-i.i v c.loop-i-test.true inv.can in
    let same = length-set c.loop-i.waiting.items (get_or c.args.row.now c.loop-i.i 0) (c.index_mut.result.now - 1) in
    let flags = length-set c.loop-i.flags (get_or c.args.row.now c.loop-i.i 0) c.is_ready-ready.result in
    let wide = ap length c.put_flag.ensures in
    let number : c.index.result.now ≡ v - 1 =
    get_or_read (slice_set c.loop-i.waiting.items (get_or c.args.row.now c.loop-i.i 0) (c.index_mut.result.now - 1)) op c.index.result.now (omega (arith, there, same)) c.index.ensures 0
    ∙ get_or-set_same c.loop-i.waiting.items (get_or c.args.row.now c.loop-i.i 0) (c.index_mut.result.now - 1) 0 there in
    record {
      units = omega (arith, inv.units, same);
      done = omega (arith, inv.done, same);
      flags = omega (arith, inv.flags, same, flags, wide);
      can = next_can c.args.row.now c.loop-i.waiting.items c.loop-i.i v c.loop-i-test.true inv.can c.index_mut.ensures.value;
      waits = next_fewer c.args.row.now c.loop-i.waiting.items c.loop-i.i v c.loop-i-test.true inv.can c.index_mut.ensures.value ∙ inv.waits;
      ready = rw c.put_flag.ensures (ready_set c.args.counts.now.units.items c.args.counts.now.done.items c.loop-i.waiting.items c.loop-i.flags op (v - 1) c.is_ready-ready.result there inv.flags inv.ready
          (c.is_ready-ready.ensures ∙ ap (λ (h : Bool). h && nat_eq c.index.result.now 0) c.has_left.ensures ∙ ap (λ (n : ℕ). has_left c.args.counts.now.units.items c.args.counts.now.done.items op && nat_eq n 0) number));
      same = same ∙ inv.same;
    }
