use Rattle.std.proofs.Common.{◌≡◌, ℕ, List, ap, ◌∙◌, length}
use Rattle.dt_tracker.specs.Tracks.{Track, enabled_of}
use Rattle.dt_tracker.proofs.Opens.{enabled_is}
use Rattle.dt_tracker.proofs.tracker.Tracker.enabled_count.Goals as goal

pub returns : goal.returns
returns c =
    let s = c.self.inside in
    c.count.ensures ∙ ap (λ (xs : List ℕ). length xs) (enabled_is s.counts.units.items s.counts.done.items s.rows.items s.waiting.items s.enabled c.self.invariant.tracked)
    ∙ ap (λ (t : Track). length (enabled_of t)) c.self.view_is
