-- The laws of trackers.
use Rattle.std.specs.Prelude.{◌≡◌, ◌↔◌, ℕ, ◌<◌, Bool, true, List, [], length, map, Option, Some, None, slice_index}
use Rattle.dt_base.specs.Ranges.{below}
use Rattle.dt_argument.specs.Events.{is_listed}
use Rattle.dt_argument.specs.Listings.{Listing}
use Rattle.dt_argument.specs.Orders.{IsEnabled, one_more}
use Rattle.dt_tracker.specs.declared.step.Step.TheVariants.{Stepped}
use Rattle.dt_tracker.specs.Tracks.{IsLawful, Track, answer_of, enabled_of, follows, followers_in, is_enabled, least_left, taken}

-- a track and counts say the same of a list of operations
pub record IsTrackOf {C : Type 0} (t : Track) (l : Listing C) (done : ℕ → ℕ) : Type 0 where
  pub count : length t.units ≡ l.count
  pub units : (a : ℕ) → a < l.count → slice_index t.units a ≡ l.units a
  pub events : (a b : ℕ) → a < b → b < l.count → follows t.followers a b ≡ l.event a b
  pub counts : (a : ℕ) → a < l.count → slice_index t.done a ≡ done a

-- An operation may go on exactly where it may by the counts.
abbrev pub TracksTellTheEnabled : Type 0 → Type 0
TracksTellTheEnabled C =
    (t : Track) (l : Listing C) (done : ℕ → ℕ) → IsLawful t → IsTrackOf t l done → (b : ℕ) → ((b < length t.units) × (is_enabled t b ≡ true)) ↔ IsEnabled l done b

-- One more unit is one more in the counts.
abbrev pub TracksGoOn : Type 0 → Type 0
TracksGoOn C = (t : Track) (l : Listing C) (done : ℕ → ℕ) → IsLawful t → IsTrackOf t l done → (b : ℕ) → b < l.count → IsTrackOf (taken t b) l (one_more done b)

-- The rows of followers have exactly the events.
abbrev pub FollowersAreTheEvents : Type 0
FollowersAreTheEvents = (events : List (ℕ × ℕ)) (n a b : ℕ) → a < n → follows (map (followers_in events) (below n)) a b ≡ is_listed events a b

-- While a unit is left, the least operation with one may go on.
abbrev pub TheLeastMayGoOn : Type 0
TheLeastMayGoOn = (t : Track) (p : ℕ) → IsLawful t → least_left t ≡ Some p → (p < length t.units) × (is_enabled t p ≡ true)

-- So no operation may go on exactly where no unit is left.
abbrev pub NoneIsStuck : Type 0
NoneIsStuck = (t : Track) → IsLawful t → (enabled_of t ≡ []) ↔ (least_left t ≡ None)

-- Exactly the listed operations may go on, and exactly they do a unit.
abbrev pub TheEnabledStep : Type 0
TheEnabledStep =
    (t : Track)
    → ((k : ℕ) → k < length (enabled_of t) → (slice_index (enabled_of t) k < length t.units) × (is_enabled t (slice_index (enabled_of t) k) ≡ true))
    × ((b : ℕ) → (answer_of t b ≡ Stepped) ↔ ((b < length t.units) × (is_enabled t b ≡ true)))
