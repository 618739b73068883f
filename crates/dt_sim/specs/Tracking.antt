-- Trackers of a job's operations.
use Rattle.std.specs.Prelude.{◌≡◌, ◌↔◌, ℕ, List, [], ◌∷◌, ◌++◌, map}
use Rattle.dt_nest.specs.Meaning.{Entries}
use Rattle.dt_argument.specs.Orders.{IsAllowed, counts_of, none_done}
use Rattle.dt_plan.specs.declared.ops.Op.{Op}
use Rattle.dt_plan.specs.Layouts.{Layout}
use Rattle.dt_plan.specs.Operations.{ops_of}
use Rattle.dt_plan.specs.Limits.{plan_view}
use Rattle.dt_tracker.specs.declared.step.Step.TheVariants.{Stepped}
use Rattle.dt_tracker.specs.Tracks.{IsLawful, Track, answer_of, opening_of, taken}
use Rattle.dt_tracker.specs.TrackerLaws.{IsTrackOf}
use Rattle.dt_events.specs.Events.{events_of}
use Rattle.dt_events.specs.Jobs.{listing_of}

-- a track after the units of a list, which the events allow
pub record Tracks (l : Layout) (x : Entries) (t : Track) (u : List ℕ) : Type 0 where
  pub lawful : IsLawful t
  pub allowed : IsAllowed (listing_of l x) u
  pub counts : IsTrackOf t (listing_of l x) (counts_of u)

-- The track of a plan's operations and events is that of the job's list, before its first unit.
abbrev pub PlansAreTracked : Type 0
PlansAreTracked = (l : Layout) (x : Entries) → IsTrackOf (opening_of (map (λ (o : Op). o.units) (ops_of l)) (events_of (plan_view l))) (listing_of l x) none_done

-- It answers that the unit is done exactly where the events allow the list with that unit, and with it it tracks that list.
abbrev pub TracksFollowTheJob : Type 0
TracksFollowTheJob =
    (l : Layout) (x : Entries) (t : Track) (u : List ℕ) → Tracks l x t u → (b : ℕ)
    → ((answer_of t b ≡ Stepped) ↔ IsAllowed (listing_of l x) (u ++ b ∷ [])) × (answer_of t b ≡ Stepped → IsTrackOf (taken t b) (listing_of l x) (counts_of (u ++ b ∷ [])))
