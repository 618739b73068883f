use Rattle.std.proofs.Common.{◌≡◌, ℕ, ◌<◌, Option, ap, sym, subst, ◌∙◌, length, arith}
use Rattle.std.proofs.lemmas.List.{get_or_read}
use Rattle.dt_tracker.specs.Tracks.{Track, waits_of}
use Rattle.dt_tracker.proofs.Opens.{waits_none}
use Rattle.dt_tracker.proofs.tracker.Tracker.waits.Goals as goal

pub returns-then-index-eq0 : goal.returns-then-index-eq0
returns-then-index-eq0 c =
    let s = c.self.inside in
    let h : c.args.op < length s.counts.units.items = subst (λ (t : Track). c.args.op < length t.units) (sym c.self.view_is) c.requires in
    waits_none s.counts.units.items s.counts.done.items s.rows.items s.waiting.items s.enabled c.self.invariant.tracked c.args.op c.index.result.now h
    (get_or_read s.waiting.items c.args.op c.index.result.now (omega (arith, h, c.self.invariant.tracked.counted)) c.index.ensures 0) c.if-index-eq0.true
    ∙ ap (λ (t : Track). waits_of t c.args.op) c.self.view_is
