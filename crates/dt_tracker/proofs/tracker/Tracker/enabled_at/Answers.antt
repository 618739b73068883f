use Rattle.std.proofs.Common.{◌≡◌, ℕ, ◌<◌, List, ap, sym, subst, ◌∙◌, length, slice_index, arith}
use Rattle.dt_flags.specs.Flags.{set_ones}
use Rattle.dt_tracker.specs.Tracks.{Track, enabled_of}
use Rattle.dt_tracker.proofs.Opens.{enabled_is}
use Rattle.dt_tracker.proofs.tracker.Tracker.enabled_at.Goals as goal

pub at-requires : goal.at-requires
at-requires c =
    let s = c.self.inside in
    let all = enabled_is s.counts.units.items s.counts.done.items s.rows.items s.waiting.items s.enabled c.self.invariant.tracked in
    subst (λ (xs : List ℕ). c.args.k < length xs) (sym all) (subst (λ (t : Track). c.args.k < length (enabled_of t)) (sym c.self.view_is) c.requires)

pub returns : goal.returns
returns c =
    let s = c.self.inside in
    c.at.ensures ∙ ap (λ (xs : List ℕ). slice_index xs c.args.k) (enabled_is s.counts.units.items s.counts.done.items s.rows.items s.waiting.items s.enabled c.self.invariant.tracked)
    ∙ ap (λ (t : Track). slice_index (enabled_of t) c.args.k) c.self.view_is
