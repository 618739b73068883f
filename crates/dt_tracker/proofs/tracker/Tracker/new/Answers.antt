use Rattle.std.proofs.Common.{rules, ◌≡◌, ℕ, ◌<◌, Bool, List, ap, sym, subst, ◌∙◌, length, arith, map, replicate}
use Rattle.dt_base.specs.Ranges.{below}
use Rattle.dt_tracker.specs.Tracks.{followers_in}
use Rattle.dt_tracker.specs.Waiting.{AreReady, IsTracked, IsWaiting}
use Rattle.dt_tracker.proofs.Made.{opens}
use Rattle.dt_tracker.proofs.tracker.Tracker.new.Goals as goal

pub invariant_of-result : goal.invariant_of-result
invariant_of-result c =
    let u : c.in_ok-from_slice.field-0.items ≡ c.args.units.now = search rules in
    let d : c.in_ok-vec.field-0.items ≡ replicate (length c.in_ok-from_slice.field-0.items) 0 = rw u (search rules) in
    let r : c.in_ok-rows.rows.items ≡ map (followers_in c.args.events.now) (below (length c.in_ok-from_slice.field-0.items)) = rw u (search rules) in
    record {
      tracked = opens c.in_ok-from_slice.field-0.items c.args.events.now c.in_ok-vec.field-0.items c.in_ok-rows.rows.items c.in_ok-waiting.waiting.items c.in_ok-enabled.enabled
          (rw u c.requires.small) (rw u c.requires.ascend) d r (search rules) (search rules) (search rules);
      least = c.first_with_left-first.ensures;
    }
