-- Four operations in a list, worked by hand: 0 opens the scratch, 1 copies the source into it, 2 adds the scratch into the home
-- twice, 3 adds the source into the home. Cell 0 is the source, 1 the scratch, 2 the home.
use Rattle.std.specs.Prelude.{ℕ, zero, suc, Bool, false, not, ◌&&◌, List, [], map, Option, Some, None, is_some, unwrap_or}
use Rattle.std.specs.List.{list_any}
use Rattle.dt_base.specs.Ranges.{below}
use Rattle.dt_argument.specs.Frames.{Mode, Untouched, Reads, Writes, Folds, StateOf, clash, grown}
use Rattle.dt_argument.specs.Events.{nearest}
use Rattle.dt_argument.specs.Listings.{Listing}
use Rattle.dt_argument.specs.Orders.{run_along}

-- the first fold has two units
abbrev pub worked_units : ℕ → ℕ
worked_units (suc (suc zero)) = 2
worked_units a = 1

-- what each operation does at each cell
abbrev pub worked_mode : ℕ → ℕ → Mode
worked_mode zero (suc zero) = Writes
worked_mode (suc zero) zero = Reads
worked_mode (suc zero) (suc zero) = Writes
worked_mode (suc (suc zero)) (suc zero) = Reads
worked_mode (suc (suc zero)) (suc (suc zero)) = Folds
worked_mode (suc (suc (suc zero))) zero = Reads
worked_mode (suc (suc (suc zero))) (suc (suc zero)) = Folds
worked_mode a c = Untouched

-- the scratch is absent until it is opened; what is read, written or added to is present
abbrev pub worked_can : ℕ → StateOf ℕ → Bool
worked_can zero s = not (is_some (s 1))
worked_can (suc zero) s = is_some (s 0) && is_some (s 1)
worked_can (suc (suc zero)) s = is_some (s 1) && is_some (s 2)
worked_can (suc (suc (suc zero))) s = is_some (s 0) && is_some (s 2)
worked_can a s = false

-- the effect of each operation's units
abbrev pub worked_next : ℕ → StateOf ℕ → StateOf ℕ
worked_next zero s (suc zero) = Some 0
worked_next (suc zero) s (suc zero) = s 0
worked_next (suc (suc zero)) s (suc (suc zero)) = grown (unwrap_or (s 1) 0) (s 2)
worked_next (suc (suc (suc zero))) s (suc (suc zero)) = grown (unwrap_or (s 0) 0) (s 2)
worked_next a s c = s c

-- the source has 5, the home 10
abbrev pub worked_opening : StateOf ℕ
worked_opening zero = Some 5
worked_opening (suc (suc zero)) = Some 10
worked_opening c = None

-- two operations conflict where they may not change places at one of the three cells
abbrev pub worked_conflict : ℕ → ℕ → Bool
worked_conflict a b = list_any (λ c. clash (worked_mode a c) (worked_mode b c)) (below 3)

-- the list, with the nearest conflicts as its events
abbrev pub worked_list : Listing ℕ
worked_list = record {
  count = 4;
  units = worked_units;
  conflict = worked_conflict;
  event = nearest worked_conflict;
  mode = worked_mode;
  can = λ a k. worked_can a;
  next = λ a k. worked_next a;
  opening = worked_opening;
}

-- the three cells, or nothing where a run is undefined
abbrev pub cells_in : Option (StateOf ℕ) → List (Option ℕ)
cells_in None = []
cells_in (Some s) = map s (below 3)

-- the three cells after a list of units
abbrev pub worked_cells : List ℕ → List (Option ℕ)
worked_cells u = cells_in (run_along worked_list u)
