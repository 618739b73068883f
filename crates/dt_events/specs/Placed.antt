-- What is asked of a layout and of its numbers, so that each statement finds what it needs.
use Rattle.std.specs.Prelude.{◌≡◌, ℕ, ◌+◌, ◌%◌, ◌^◌, ◌<◌, ◌≤◌, true, List, [], ◌∷◌, length, None, Some, if◌then◌else◌, nat_eq}
use Rattle.std.specs.List.{AllByRecursion, list_any}
use Rattle.dt_runs.specs.Sets.{contains}
use Rattle.dt_model.specs.Positions.{StoredTensor, coords_at, place_in, tensor_at}
use Rattle.dt_nest.specs.Meaning.{Entries}
use Rattle.dt_nest.specs.Outputs.{output_of}
use Rattle.dt_nest.specs.Effects.{sum_over}
use Rattle.dt_nest.specs.Visits.{visits_of, IsPath}
use Rattle.dt_bounds.specs.TaskUnits.{HasLeft}
use Rattle.dt_copy.specs.Sources.{home_at}
use Rattle.dt_place.specs.Machines.{nodes_of}
use Rattle.dt_plan.specs.declared.parts.Part.{Part}
use Rattle.dt_plan.specs.Layouts.{Layout, homes_at}

-- Each tensor has a home on each node. Homes have positions of their tensors, and each position is in some home. A position is
-- where its coordinates are.
pub record IsPlaced (l : Layout) : Type 0 where
  pub nodes : (t : ℕ) → t < length l.stored → length (homes_at l t) ≡ nodes_of l.machine
  pub covered : (t w : ℕ) → t < length l.stored → w < length (tensor_at l.stored t).coords → list_any (λ home. contains home w) (homes_at l t) ≡ true
  pub positions : (t m w : ℕ) → contains (home_at (homes_at l t) m) w ≡ true → w < length (tensor_at l.stored t).coords
  pub place : (t w : ℕ) → w < length (tensor_at l.stored t).coords → place_in (tensor_at l.stored t) (coords_at (tensor_at l.stored t) w) ≡ Some w

-- there is a word wherever a visit of the part adds
abbrev pub HasRoom : Layout → Part → Type 0
HasRoom l p = (path : List ℕ) → IsPath p.sched path → AllByRecursion (HasLeft l.stored p.sched) (visits_of l.stored p.sched path)

-- what is asked of a part so that its statement runs: it has no workspaces, and there is a word wherever a visit adds
pub record CanRun (l : Layout) (p : Part) : Type 0 where
  pub workless : p.sched.works ≡ []
  pub room : HasRoom l p

-- the numbers of tensors are below 2 ^ 64, and 0 where nothing is stored and where there is no tensor
pub record AreNumbers (l : Layout) (x : Entries) : Type 0 where
  pub small : (t : ℕ) (c : List ℕ) → x t c < 2 ^ 64
  pub zeros : (t : ℕ) (c : List ℕ) → place_in (tensor_at l.stored t) c ≡ None → x t c ≡ 0
  pub others : (t : ℕ) (c : List ℕ) → length l.stored ≤ t → x t c ≡ 0

-- the numbers after a part: its left tensor has the schedule's sum, added to what it had where the part adds
abbrev pub numbers_after : List StoredTensor → Part → Entries → Entries
numbers_after stored p x t c =
    if nat_eq t (output_of p.sched.nest) then if p.adds then (x t c + sum_over stored p.sched x c) % 2 ^ 64 else sum_over stored p.sched x c else x t c

-- the numbers after some parts
abbrev pub numbers_after_all : List StoredTensor → List Part → Entries → Entries
numbers_after_all stored [] x = x
numbers_after_all stored (p ∷ ps) x = numbers_after_all stored ps (numbers_after stored p x)
