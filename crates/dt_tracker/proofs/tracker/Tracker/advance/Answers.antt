use Rattle.std.proofs.Common.{◌≡◌, ℕ, ◌<◌, List, true, false, ap, sym, subst, ◌∙◌, length, arith}
use Rattle.dt_tracker.specs.Tracks.{Track, is_enabled}
use Rattle.dt_tracker.proofs.RowReads.{row_read}
use Rattle.dt_tracker.proofs.Takes.{advance_can, advance_off, advance_on, first_before, first_most, first_on}
use Rattle.dt_tracker.proofs.tracker.Tracker.advance.Goals as goal

pub release-requires-clause-can : goal.release-requires-clause-can
release-requires-clause-can c =
    let s = c.self.inside in
    let h : c.args.op < length s.counts.units.items = subst (λ (t : Track). c.args.op < length t.units) (sym c.self.view_is) c.requires.exists in
    let en = subst (λ (t : Track). is_enabled t c.args.op ≡ true) (sym c.self.view_is) c.requires.enabled in
    let row = c.as_slice.ensures ∙ row_read s.rows.items c.args.op c.index.result.now (omega (arith, h, c.self.invariant.tracked.some_rows)) c.index.ensures in
    advance_can s.counts.units.items s.counts.done.items s.rows.items s.waiting.items s.enabled c.args.op c.count_unit.new.counts.units.items c.count_unit.new.counts.done.items c.self.invariant.tracked h en
    c.count_unit.ensures.units c.count_unit.ensures.done (sym c.has_left.ensures ∙ c.if-not-has_left.true) c.as_slice.result.now row

pub invariant_of-self : goal.invariant_of-self
invariant_of-self c =
    let s = c.self.inside in
    let h : c.args.op < length s.counts.units.items = subst (λ (t : Track). c.args.op < length t.units) (sym c.self.view_is) c.requires.exists in
    let en = subst (λ (t : Track). is_enabled t c.args.op ≡ true) (sym c.self.view_is) c.requires.enabled in
    let row = c.as_slice.ensures ∙ row_read s.rows.items c.args.op c.index.result.now (omega (arith, h, c.self.invariant.tracked.some_rows)) c.index.ensures in
    record {
      tracked = advance_off s.counts.units.items s.counts.done.items s.rows.items s.waiting.items s.enabled c.args.op c.count_unit.new.counts.units.items c.count_unit.new.counts.done.items c.self.invariant.tracked h en
          c.count_unit.ensures.units c.count_unit.ensures.done (sym c.has_left.ensures ∙ c.if-not-has_left.true) c.as_slice.result.now row
          c.release.new.waiting.items c.release.new.flags c.clear.new.self c.release.ensures.waiting c.clear.ensures c.release.ensures.flags c.release.ensures.ready;
      least = c.first_with_left-self-inside.ensures;
    }

pub invariant_of-self-else-not-has_left : goal.invariant_of-self-else-not-has_left
invariant_of-self-else-not-has_left c =
    let s = c.self.inside in
    let h : c.args.op < length s.counts.units.items = subst (λ (t : Track). c.args.op < length t.units) (sym c.self.view_is) c.requires.exists in
    let en = subst (λ (t : Track). is_enabled t c.args.op ≡ true) (sym c.self.view_is) c.requires.enabled in
    record {
      tracked = advance_on s.counts.units.items s.counts.done.items s.rows.items s.waiting.items s.enabled c.args.op c.count_unit.new.counts.units.items c.count_unit.new.counts.done.items c.self.invariant.tracked h en
          c.count_unit.ensures.units c.count_unit.ensures.done (sym c.has_left.ensures ∙ c.if-not-has_left.false);
      least = first_on s.counts.units.items s.counts.done.items s.rows.items s.waiting.items s.enabled c.args.op c.count_unit.new.counts.units.items c.count_unit.new.counts.done.items c.self.invariant.tracked h en
          c.count_unit.ensures.units c.count_unit.ensures.done s.first (sym c.has_left.ensures ∙ c.if-not-has_left.false) c.self.invariant.least;
    }

pub first_with_left-self-inside-requires-clause-before : goal.first_with_left-self-inside-requires-clause-before
first_with_left-self-inside-requires-clause-before c =
    let s = c.self.inside in
    let h : c.args.op < length s.counts.units.items = subst (λ (t : Track). c.args.op < length t.units) (sym c.self.view_is) c.requires.exists in
    let en = subst (λ (t : Track). is_enabled t c.args.op ≡ true) (sym c.self.view_is) c.requires.enabled in
    first_before s.counts.units.items s.counts.done.items s.rows.items s.waiting.items s.enabled c.args.op c.count_unit.new.counts.units.items c.count_unit.new.counts.done.items c.self.invariant.tracked h en
    c.count_unit.ensures.units c.count_unit.ensures.done s.first c.self.invariant.least
