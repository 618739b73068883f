-- The schedule that the tests visit: A(i) += B(i,j) * C(j), where loop i walks over the stored rows of B, a workspace W takes one
-- row at a time, j is cut into jo and ji, and ji is substituted where W is read.
use Rattle.std.specs.Prelude.{ℕ, false, List, [], ◌∷◌, Some, None}
use Rattle.dt_model.specs.declared.stmt.Access.{Access}
use Rattle.dt_model.specs.declared.stmt.Factor.TheVariants.{Read}
use Rattle.dt_nest.specs.declared.derivations.Derive.TheVariants.{Split}
use Rattle.dt_nest.specs.declared.loops.Pair.{Pair}
use Rattle.dt_nest.specs.declared.loops.Kernel.TheVariants.{Plain, Dot}
use Rattle.dt_nest.specs.Tree.{Tree, Loop, Pre, Leaf}
use Rattle.dt_nest.specs.Schedule.{Schedule}

-- a tensor at these variables
abbrev pub at : ℕ → List ℕ → Access
at tensor vars = record { tensor = tensor; vars = vars }

-- the leaf that fills the workspace: W(jo,ji) = B(i,j), where j is below its extent
abbrev pub fill_leaf : Tree
fill_leaf = Leaf (at 3 (2 ∷ 3 ∷ [])) (record { minus = false; factors = Read (at 1 (0 ∷ 1 ∷ [])) ∷ [] } ∷ []) (1 ∷ []) Plain

-- the leaf that reads the workspace: A(i) += W(jo,ji) * C(j), by the stored kernel of two factors
abbrev pub sum_leaf : Tree
sum_leaf = Leaf (at 0 (0 ∷ [])) (record { minus = false; factors = Read (at 3 (2 ∷ 3 ∷ [])) ∷ Read (at 2 (1 ∷ [])) ∷ [] } ∷ []) (1 ∷ []) Dot

-- the producer and the consumer, each in its two loops
abbrev pub fill_tree : Tree
fill_tree = Loop 4 2 None (Loop 5 3 None fill_leaf)

abbrev pub sum_tree : Tree
sum_tree = Loop 2 2 None (Loop 3 3 None sum_leaf)

-- jo and ji are jow and jiw in the producer
abbrev pub new_names : List Pair
new_names = record { from = 2; to = 4 } ∷ record { from = 3; to = 5 } ∷ []

-- the nest: the loop over rows, and in it the precompute node
abbrev pub row_tree : Tree
row_tree = Loop 0 3 (Some (record { tensor = 1; vars = 0 ∷ 1 ∷ [] })) (Pre 0 new_names fill_tree sum_tree)

-- the schedule: its loops and variables are i, j, jo, ji, jow and jiw, its tensors A, B and C
abbrev pub row_schedule : Schedule
row_schedule = record {
  nest = row_tree;
  derived = record { var = 1; how = Split 2 3 3 } ∷ [];
  distributed = 0;
  moved = [];
  tensors = (65 ∷ []) ∷ (66 ∷ []) ∷ (67 ∷ []) ∷ [];
  names = (105 ∷ []) ∷ (106 ∷ []) ∷ (106 ∷ 111 ∷ []) ∷ (106 ∷ 105 ∷ []) ∷ (106 ∷ 111 ∷ 119 ∷ []) ∷ (106 ∷ 105 ∷ 119 ∷ []) ∷ [];
  extents = 3 ∷ 4 ∷ 2 ∷ 3 ∷ 2 ∷ 3 ∷ [];
  works = record { name = 87 ∷ []; extents = 2 ∷ 3 ∷ [] } ∷ [];
}
