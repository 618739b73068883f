-- What the argument asks of a list of operations.
use Rattle.std.specs.Prelude.{◌≡◌, ℕ, ◌<◌, true, false, is_some}
use Rattle.dt_argument.specs.Frames.{IsFramed, AreApart}
use Rattle.dt_argument.specs.Events.{Chain}
use Rattle.dt_argument.specs.Listings.{Listing}
use Rattle.dt_argument.specs.Orders.{run_along, listing_order}

-- What the operations owe, in any list: each unit keeps to the modes of its operation, and operations without a conflict meet at no cell.
pub record HasFrames {C : Type 0} (l : Listing C) : Type 0 where
  pub framed : (a k : ℕ) → a < l.count → IsFramed (l.mode a) (l.can a k) (l.next a k)
  pub apart : (a b : ℕ) → a < b → b < l.count → l.conflict a b ≡ false → AreApart (l.mode a) (l.mode b)

-- What the list owes: each operation has a unit, each conflicting pair is joined by a chain of events, and the run in the list's own
-- order is defined.
pub record IsOrdered {C : Type 0} (l : Listing C) : Type 0 where
  pub has_unit : (a : ℕ) → a < l.count → 0 < l.units a
  pub chained : (a b : ℕ) → a < b → b < l.count → l.conflict a b ≡ true → Chain l.event a b
  pub defined : is_some (run_along l (listing_order l)) ≡ true
