use Rattle.std.proofs.Common.{◌≡◌, ℕ, ◌<◌, ◌≤◌, Option, Some, None, ap, sym, subst, ◌∙◌, length, arith}
use Rattle.dt_base.proofs.Firsts.{find-below-none, find-below-some}
use Rattle.dt_tracker.specs.Tracks.{Track, has_left, least_left}
use Rattle.dt_tracker.proofs.tracker.Tracker.first_left.Goals as goal

pub returns-then-self-len : goal.returns-then-self-len
returns-then-self-len c =
    let s = c.self.inside in
    let f = c.self.invariant.least in
    let h : s.first < length s.counts.units.items = omega (arith, c.if-self-len.true, c.len.ensures, s.counts.units.ok.0) in
    sym (find-below-some (has_left s.counts.units.items s.counts.done.items) (length s.counts.units.items) s.first h (f.here h) f.before) ∙ ap (λ (t : Track). least_left t) c.self.view_is

pub returns-else-self-len : goal.returns-else-self-len
returns-else-self-len c =
    let s = c.self.inside in
    let f = c.self.invariant.least in
    let h : length s.counts.units.items ≤ s.first = omega (arith, c.if-self-len.false, c.len.ensures, s.counts.units.ok.0) in
    sym (find-below-none (has_left s.counts.units.items s.counts.done.items) (length s.counts.units.items) (λ k l. f.before k (omega (arith, l, h)))) ∙ ap (λ (t : Track). least_left t) c.self.view_is
