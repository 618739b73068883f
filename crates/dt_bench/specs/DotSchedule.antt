-- A matrix times a vector, whose inner loop is substituted: A(i0) += B(i0,j) * C(j).
use Rattle.std.specs.Prelude.{ℕ, false, List, [], ◌∷◌, None}
use Rattle.dt_model.specs.declared.stmt.Access.{Access}
use Rattle.dt_model.specs.declared.stmt.Factor.TheVariants.{Read}
use Rattle.dt_nest.specs.declared.loops.Kernel.TheVariants.{Dot}
use Rattle.dt_nest.specs.Tree.{Tree, Loop, Leaf}
use Rattle.dt_nest.specs.Schedule.{Schedule}

-- a tensor at these variables
abbrev pub at : ℕ → List ℕ → Access
at tensor vars = record { tensor = tensor; vars = vars }

-- the leaf, by the stored kernel of two factors
abbrev pub dot_leaf : Tree
dot_leaf = Leaf (at 0 (0 ∷ [])) (record { minus = false; factors = Read (at 1 (0 ∷ 1 ∷ [])) ∷ Read (at 2 (1 ∷ [])) ∷ [] } ∷ []) [] Dot

-- the schedule over a square matrix of this extent
abbrev pub dot_schedule : ℕ → Schedule
dot_schedule n = record {
  nest = Loop 0 n None (Loop 1 n None dot_leaf);
  derived = [];
  distributed = 0;
  moved = [];
  tensors = (65 ∷ []) ∷ (66 ∷ []) ∷ (67 ∷ []) ∷ [];
  names = (105 ∷ 48 ∷ []) ∷ (106 ∷ []) ∷ [];
  extents = n ∷ n ∷ [];
  works = [];
}
