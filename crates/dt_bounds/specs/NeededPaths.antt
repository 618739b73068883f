-- Laws of paths: what is needed under them.
use Rattle.std.specs.Prelude.{◌≡◌, ℕ, suc, ◌%◌, ◌^◌, ◌<◌, true, false, List, [], ◌∷◌, ◌++◌, length, map, Some, take}
use Rattle.std.specs.List.{AllByRecursion, list_any}
use Rattle.dt_base.specs.Ranges.{below}
use Rattle.dt_model.specs.Positions.{StoredTensor, coords_at, place_in, tensor_at}
use Rattle.dt_model.specs.declared.stmt.Access.{Access}
use Rattle.dt_runs.specs.Sets.{contains}
use Rattle.dt_nest.specs.Tree.{read_accesses}
use Rattle.dt_nest.specs.Schedule.{Schedule}
use Rattle.dt_nest.specs.Meaning.{Env, Entries}
use Rattle.dt_nest.specs.World.{world_of}
use Rattle.dt_nest.specs.Lawful.{IsLawful}
use Rattle.dt_nest.specs.Outputs.{output_of, IsUnread}
use Rattle.dt_nest.specs.Visits.{Item, IsReset, IsVisit, environments, visits_of, needed_of, IsPath}
use Rattle.dt_nest.specs.Effects.{left_at}
use Rattle.dt_nest.specs.Paths.{HasLoops, extent_inside, sum_on, paths_of}
use Rattle.dt_nest.specs.PathSteps.{visited_values}

-- A position is needed under a path where it is needed under one of the longer paths.
abbrev pub NeededFollowsPaths : Type 0
NeededFollowsPaths =
    (stored : List StoredTensor) (s : Schedule) (t : ℕ) (p : List ℕ) → HasLoops (suc (length p)) s.nest → (w : ℕ)
    → contains (needed_of stored s t p) w ≡ list_any (λ i. contains (needed_of stored s t (p ++ i ∷ [])) w) (below (extent_inside (length p) s.nest))

-- What is needed under a longer path is needed under the shorter one.
abbrev pub NeededShrinks : Type 0
NeededShrinks =
    (stored : List StoredTensor) (s : Schedule) (t : ℕ) (p q : List ℕ) (w : ℕ) → IsPath s (p ++ q)
    → contains (needed_of stored s t (p ++ q)) w ≡ true → contains (needed_of stored s t p) w ≡ true

-- The first values of a path are a path, and need what it needs.
abbrev pub FrontsNeedMore : Type 0
FrontsNeedMore =
    (stored : List StoredTensor) (s : Schedule) (t k : ℕ) (p : List ℕ) → IsPath s p
    → IsPath s (take k p) × ((w : ℕ) → contains (needed_of stored s t p) w ≡ true → contains (needed_of stored s t (take k p)) w ≡ true)

-- A position is needed under a path where it is needed under one of the longer paths that some visit extends.
abbrev pub NeededFollowsVisited : Type 0
NeededFollowsVisited =
    (stored : List StoredTensor) (s : Schedule) (t : ℕ) (p : List ℕ) → HasLoops (suc (length p)) s.nest → (w : ℕ)
    → contains (needed_of stored s t p) w ≡ list_any (λ i. contains (needed_of stored s t (p ++ i ∷ [])) w) (visited_values stored s p)

-- A position is needed where it is needed under one of the paths of the first k loops that some visit extends.
abbrev pub NeededOverPaths : Type 0
NeededOverPaths =
    (stored : List StoredTensor) (s : Schedule) (t k : ℕ) → HasLoops k s.nest → (w : ℕ) → contains (needed_of stored s t []) w ≡ list_any (λ p. contains (needed_of stored s t p) w) (paths_of stored s k)

-- the position of an access, if it has one, is needed under the path
abbrev pub IsNeededAt : List StoredTensor → Schedule → List ℕ → Env → Access → Type 0
IsNeededAt stored s p val a = (w : ℕ) → place_in (tensor_at stored a.tensor) (map val a.vars) ≡ Some w → contains (needed_of stored s a.tensor p) w ≡ true

-- so it is for each access of an item, in each of its environments
abbrev pub AccessesNeeded : List StoredTensor → Schedule → List ℕ → Item → Type 0
AccessesNeeded stored s p (IsReset work) = Unit {0}
AccessesNeeded stored s p (IsVisit visit) =
    AllByRecursion (λ val. AllByRecursion (IsNeededAt stored s p val) (visit.leaf.lhs ∷ read_accesses visit.leaf.terms)) (environments (world_of stored s) s.derived visit)

-- and for the position where an item adds
abbrev pub LeftNeeded : List StoredTensor → Schedule → List ℕ → Item → Type 0
LeftNeeded stored s p (IsReset work) = Unit {0}
LeftNeeded stored s p (IsVisit visit) =
    (w : ℕ) → place_in (tensor_at stored visit.leaf.lhs.tensor) (left_at (world_of stored s) s.derived visit) ≡ Some w → contains (needed_of stored s visit.leaf.lhs.tensor p) w ≡ true

-- Each access of each visit under a path has its position among those that are needed under it.
abbrev pub AccessesAreNeeded : Type 0
AccessesAreNeeded = (stored : List StoredTensor) (s : Schedule) (p : List ℕ) → AllByRecursion (AccessesNeeded stored s p) (visits_of stored s p)

-- So has the left side of each visit of a lawful schedule.
abbrev pub LeftIsNeeded : Type 0
LeftIsNeeded = (stored : List StoredTensor) (s : Schedule) (p : List ℕ) → IsLawful s → AllByRecursion (LeftNeeded stored s p) (visits_of stored s p)

-- A path whose visits don't need a position of the left tensor adds nothing there.
abbrev pub NotNeededAddsNothing : Type 0
NotNeededAddsNothing =
    (s : Schedule) (stored : List StoredTensor) (p : List ℕ) (x : Entries) (w : ℕ) → IsLawful s → IsUnread (output_of s.nest) s.nest → IsPath s p
    → w < length (tensor_at stored (output_of s.nest)).coords → contains (needed_of stored s (output_of s.nest) p) w ≡ false
    → sum_on stored s p x (coords_at (tensor_at stored (output_of s.nest)) w) % 2 ^ 64 ≡ 0
