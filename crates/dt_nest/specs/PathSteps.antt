-- Laws of the paths that some visit extends.
use Rattle.std.specs.Prelude.{◌≡◌, ℕ, suc, ◌%◌, ◌^◌, ◌<◌, List, [], ◌∷◌, ◌++◌, length, map, filter, sum_by, nat_lt}
use Rattle.std.specs.List.{AllByRecursion, flat_map}
use Rattle.dt_base.specs.Ranges.{below}
use Rattle.dt_model.specs.Positions.{StoredTensor}
use Rattle.dt_nest.specs.Schedule.{Schedule}
use Rattle.dt_nest.specs.Meaning.{Entries}
use Rattle.dt_nest.specs.Lawful.{IsLawful}
use Rattle.dt_nest.specs.Outputs.{output_of, IsUnread}
use Rattle.dt_nest.specs.Visits.{visits_of, IsPath}
use Rattle.dt_nest.specs.Effects.{sum_over}
use Rattle.dt_nest.specs.Paths.{HasLoops, extent_inside, paths_of, sum_on}

-- the values by which a path becomes a longer one that some visit extends, ascending
abbrev pub visited_values : List StoredTensor → Schedule → List ℕ → List ℕ
visited_values stored s p = filter (λ i. nat_lt 0 (length (visits_of stored s (p ++ i ∷ [])))) (below (extent_inside (length p) s.nest))

-- The visits under a path are those under the longer paths that some visit extends, one after another.
abbrev pub VisitsFollowVisited : Type 0
VisitsFollowVisited =
    (stored : List StoredTensor) (s : Schedule) (p : List ℕ) → HasLoops (suc (length p)) s.nest
    → visits_of stored s p ≡ flat_map (λ i. visits_of stored s (p ++ i ∷ [])) (visited_values stored s p)

-- The sum of a path is the sum of theirs, modulo 2 ^ 64.
abbrev pub SumsFollowVisited : Type 0
SumsFollowVisited =
    (s : Schedule) (stored : List StoredTensor) (p : List ℕ) (x : Entries) (c : List ℕ) → IsLawful s → IsUnread (output_of s.nest) s.nest → IsPath s p → HasLoops (suc (length p)) s.nest
    → sum_on stored s p x c % 2 ^ 64 ≡ sum_by (λ i. sum_on stored s (p ++ i ∷ []) x c) (visited_values stored s p) % 2 ^ 64

-- A path that no visit extends adds nothing.
abbrev pub UnvisitedAddsNothing : Type 0
UnvisitedAddsNothing =
    (s : Schedule) (stored : List StoredTensor) (p : List ℕ) (x : Entries) (c : List ℕ) → IsLawful s → IsUnread (output_of s.nest) s.nest → IsPath s p → visits_of stored s p ≡ []
    → sum_on stored s p x c % 2 ^ 64 ≡ 0

-- what holds of a path of k values that some visit extends
pub record IsVisited (stored : List StoredTensor) (s : Schedule) (k : ℕ) (p : List ℕ) : Type 0 where
  pub path : IsPath s p
  pub count : length p ≡ k
  pub some : 0 < length (visits_of stored s p)

-- It holds of each of the list.
abbrev pub PathsAreVisited : Type 0
PathsAreVisited = (stored : List StoredTensor) (s : Schedule) (k : ℕ) → HasLoops k s.nest → AllByRecursion (IsVisited stored s k) (paths_of stored s k)

-- The paths of one loop more are the shorter ones, each with the values by which it becomes a longer one.
abbrev pub PathsGrow : Type 0
PathsGrow =
    (stored : List StoredTensor) (s : Schedule) (k : ℕ) → HasLoops (suc k) s.nest
    → paths_of stored s (suc k) ≡ flat_map (λ p. map (λ i. p ++ i ∷ []) (visited_values stored s p)) (paths_of stored s k)

-- All visits are those under the paths of the first k loops, one after another.
abbrev pub VisitsOverPaths : Type 0
VisitsOverPaths = (stored : List StoredTensor) (s : Schedule) (k : ℕ) → HasLoops k s.nest → visits_of stored s [] ≡ flat_map (visits_of stored s) (paths_of stored s k)

-- The schedule's sum is the sum over these paths.
abbrev pub SumsOverPaths : Type 0
SumsOverPaths =
    (s : Schedule) (stored : List StoredTensor) (k : ℕ) (x : Entries) (c : List ℕ) → IsLawful s → IsUnread (output_of s.nest) s.nest → HasLoops k s.nest
    → sum_over stored s x c ≡ sum_by (λ p. sum_on stored s p x c) (paths_of stored s k) % 2 ^ 64
