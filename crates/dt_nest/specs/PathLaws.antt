-- Laws of paths: what the visits under a path are and add.
use Rattle.std.specs.Prelude.{◌≡◌, ◌≢◌, ℕ, suc, ◌+◌, ◌%◌, ◌^◌, ◌<◌, ◌≤◌, Bool, true, false, ◌&&◌, List, [], ◌∷◌, ◌++◌, filter, length, map, nat_eq, reverse, slice_index, sum_by}
use Rattle.std.specs.List.{AllByRecursion, flat_map}
use Rattle.dt_base.specs.Ranges.{below, assignments}
use Rattle.dt_model.specs.Positions.{StoredTensor}
use Rattle.dt_nest.specs.Schedule.{Schedule}
use Rattle.dt_nest.specs.Meaning.{Entries}
use Rattle.dt_nest.specs.World.{world_of}
use Rattle.dt_nest.specs.Lawful.{IsLawful}
use Rattle.dt_nest.specs.Outputs.{output_of, IsUnread}
use Rattle.dt_nest.specs.Visits.{LeafVisit, Item, IsReset, IsVisit, visits_of, IsPath}
use Rattle.dt_nest.specs.Effects.{entries_after, sum_over}
use Rattle.dt_nest.specs.Grid.{outer_extents}
use Rattle.dt_nest.specs.Paths.{HasLoops, extent_inside, task_depth, sum_on}

-- The visits under a path are those under the longer paths, one after another.
abbrev pub VisitsFollowPaths : Type 0
VisitsFollowPaths =
    (stored : List StoredTensor) (s : Schedule) (p : List ℕ) → HasLoops (suc (length p)) s.nest
    → visits_of stored s p ≡ flat_map (λ i. visits_of stored s (p ++ i ∷ [])) (below (extent_inside (length p) s.nest))

-- the visits of leaves among the items
abbrev pub leaf_visits : List Item → List LeafVisit
leaf_visits [] = []
leaf_visits (IsReset work ∷ items) = leaf_visits items
leaf_visits (IsVisit visit ∷ items) = visit ∷ leaf_visits items

-- the values of the loops that are entered at a visit, the outermost first
abbrev pub loop_values : LeafVisit → List ℕ
loop_values visit = reverse (map (slice_index visit.slots) visit.around)

-- whether a list begins with the numbers of another
abbrev pub begins_with : List ℕ → List ℕ → Bool
begins_with [] values = true
begins_with (x ∷ path) [] = false
begins_with (x ∷ path) (y ∷ values) = nat_eq x y && begins_with path values

-- whether a visit extends a path: the outermost loops have its values
abbrev pub extends : List ℕ → LeafVisit → Bool
extends p visit = begins_with p (loop_values visit)

-- The visits of leaves under a path are those of the whole nest that extend it.
abbrev pub VisitsExtendPaths : Type 0
VisitsExtendPaths =
    (stored : List StoredTensor) (s : Schedule) (p : List ℕ) → IsLawful s → IsPath s p
    → leaf_visits (visits_of stored s p) ≡ filter (extends p) (leaf_visits (visits_of stored s []))

-- The values of the loops down to a communicate loop are paths.
abbrev pub AssignmentsArePaths : Type 0
AssignmentsArePaths = (s : Schedule) (k : ℕ) → IsLawful s → k ≤ task_depth s → AllByRecursion (IsPath s) (assignments (outer_extents k s.nest))

-- The loops down to a communicate loop stand outermost, and are not substituted.
abbrev pub TaskHasLoops : Type 0
TaskHasLoops = (s : Schedule) (k : ℕ) → IsLawful s → k ≤ task_depth s → HasLoops k s.nest

-- After the visits under a path the left tensor has grown by the path's sum, modulo 2 ^ 64, and the other tensors are as
-- they were. Where it had less than 2 ^ 64 it still has.
pub record AddsItsSumOn (stored : List StoredTensor) (s : Schedule) (p : List ℕ) (x : Entries) : Type 0 where
  pub sums : (c : List ℕ) → entries_after (world_of stored s) s.derived (visits_of stored s p) x (output_of s.nest) c % 2 ^ 64 ≡ (x (output_of s.nest) c + sum_on stored s p x c) % 2 ^ 64
  pub exact : (c : List ℕ) → x (output_of s.nest) c < 2 ^ 64 → entries_after (world_of stored s) s.derived (visits_of stored s p) x (output_of s.nest) c ≡ (x (output_of s.nest) c + sum_on stored s p x c) % 2 ^ 64
  pub small : (t : ℕ) (c : List ℕ) → x t c < 2 ^ 64 → entries_after (world_of stored s) s.derived (visits_of stored s p) x t c < 2 ^ 64
  pub others : (t : ℕ) (c : List ℕ) → t < length s.tensors → t ≢ output_of s.nest → entries_after (world_of stored s) s.derived (visits_of stored s p) x t c ≡ x t c

-- Running the visits under a path adds its sum.
abbrev pub PathsAddTheSum : Type 0
PathsAddTheSum =
    (s : Schedule) (stored : List StoredTensor) (p : List ℕ) (x : Entries) → IsLawful s → IsUnread (output_of s.nest) s.nest → IsPath s p → AddsItsSumOn stored s p x

-- The sum of a path is the sum over the next loop's values.
abbrev pub PathSumsFollow : Type 0
PathSumsFollow =
    (stored : List StoredTensor) (s : Schedule) (p : List ℕ) (x : Entries) (c : List ℕ) → HasLoops (suc (length p)) s.nest
    → sum_on stored s p x c ≡ sum_by (λ i. sum_on stored s (p ++ i ∷ []) x c) (below (extent_inside (length p) s.nest))

-- The sum of the empty path is the schedule's.
abbrev pub RootSum : Type 0
RootSum = (stored : List StoredTensor) (s : Schedule) (x : Entries) (c : List ℕ) → sum_on stored s [] x c % 2 ^ 64 ≡ sum_over stored s x c

-- The sum of a path depends on the numbers of tensors alone, without the left one, and on these modulo 2 ^ 64.
abbrev pub PathSumsReadTensors : Type 0
PathSumsReadTensors =
    (s : Schedule) (stored : List StoredTensor) (p : List ℕ) (x y : Entries) → IsLawful s → IsUnread (output_of s.nest) s.nest
    → ((t : ℕ) (c : List ℕ) → t < length s.tensors → t ≢ output_of s.nest → x t c % 2 ^ 64 ≡ y t c % 2 ^ 64)
    → (c : List ℕ) → sum_on stored s p x c % 2 ^ 64 ≡ sum_on stored s p y c % 2 ^ 64
