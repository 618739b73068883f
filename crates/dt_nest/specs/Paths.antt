-- Paths of the outermost loops of a schedule, and what their visits add.
use Rattle.std.specs.Prelude.{◌≡◌, ℕ, zero, suc, false, List, [], ◌∷◌, length, map, filter, fold, max, option_map, unwrap_or, if◌then◌else◌, nat_lt}
use Rattle.dt_base.specs.Ranges.{below, assignments}
use Rattle.dt_model.specs.Positions.{StoredTensor}
use Rattle.dt_nest.specs.declared.derivations.Derived.{Derived}
use Rattle.dt_nest.specs.Grid.{outer_extents}
use Rattle.dt_nest.specs.Tree.{Tree, Loop, Pre, Leaf, is_kernel_leaf}
use Rattle.dt_nest.specs.CommunicateLoops.{communicate_loop}
use Rattle.dt_nest.specs.Questions.{loops_to, accesses_tensor}
use Rattle.dt_nest.specs.Schedule.{Schedule}
use Rattle.dt_nest.specs.Meaning.{World, Env, Entries, bind, val_of, takes, nest_sum}
use Rattle.dt_nest.specs.World.{world_of}
use Rattle.dt_nest.specs.Visits.{visits_of}

-- Loops that a path may name --------------------------------------------------------------------------------------------

-- the tree begins with k loops that are not substituted
abbrev pub HasLoops : ℕ → Tree → Type 0
HasLoops zero tree = Unit {0}
HasLoops (suc k) (Loop v n walk body) = (is_kernel_leaf body ≡ false) × HasLoops k body
HasLoops (suc k) (Pre work pairs producer consumer) = ⊥
HasLoops (suc k) (Leaf lhs terms guards kernel) = ⊥

-- the extent of the loop inside the first k ones
abbrev pub extent_inside : ℕ → Tree → ℕ
extent_inside zero (Loop v n walk body) = n
extent_inside zero (Pre work pairs producer consumer) = 0
extent_inside zero (Leaf lhs terms guards kernel) = 0
extent_inside (suc k) (Loop v n walk body) = extent_inside k body
extent_inside (suc k) (Pre work pairs producer consumer) = 0
extent_inside (suc k) (Leaf lhs terms guards kernel) = 0

-- how many loops stand from the outside down to the one at which a tensor is moved; none at the root
abbrev pub depth_of : Schedule → ℕ → ℕ
depth_of s t = unwrap_or (option_map (λ v. suc (length (loops_to v s.nest))) (communicate_loop s t)) 0

-- the tensors that the leaves access, in order of declaration
abbrev pub tensors_in : Schedule → List ℕ
tensors_in s = filter (accesses_tensor s.nest) (below (length s.tensors))

-- the depth of the deepest communicate loop
abbrev pub task_depth : Schedule → ℕ
task_depth s = fold max 0 (map (depth_of s) (tensors_in s))

-- the paths of the first k loops that some visit extends, in lexicographic order
abbrev pub paths_of : List StoredTensor → Schedule → ℕ → List (List ℕ)
paths_of stored s k = filter (λ p. nat_lt 0 (length (visits_of stored s p))) (assignments (outer_extents k s.nest))

-- Sums ------------------------------------------------------------------------------------------------------------------

-- what a tree adds at c in the visits that extend a path
unfoldable pub path_sum : World → List Derived → Tree → List ℕ → Entries → Env → Env → List ℕ → ℕ
path_sum w ds tree [] x name env c = nest_sum w ds tree x name env c
path_sum w ds (Loop v n walk body) (i ∷ path) x name env c =
    if takes w walk v name (val_of w ds name (bind env v i)) then path_sum w ds body path x name (bind env v i) c else 0
path_sum w ds (Pre work pairs producer consumer) (i ∷ path) x name env c = 0
path_sum w ds (Leaf lhs terms guards kernel) (i ∷ path) x name env c = 0

-- what a schedule adds at c in the visits that extend a path
abbrev pub sum_on : List StoredTensor → Schedule → List ℕ → Entries → List ℕ → ℕ
sum_on stored s path x c = path_sum (world_of stored s) s.derived s.nest path x (λ u. u) (λ u. 0) c
