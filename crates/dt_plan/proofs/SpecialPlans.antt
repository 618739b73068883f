-- Plans worked by hand: workspaces at the root and on nodes, a tensor without words on a path, and a literal.
use Rattle.std.proofs.Common.{◌≡◌, ℕ, true, false, [], ◌∷◌, refl, map, take, drop, None}
use Rattle.dt_base.specs.Ranges.{below, assignments}
use Rattle.dt_model.specs.declared.stmt.Factor.TheVariants.{Read, Literal}
use Rattle.dt_nest.specs.declared.loops.Kernel.TheVariants.{Plain}
use Rattle.dt_nest.specs.Tree.{Loop, Pre, Leaf}
use Rattle.dt_nest.specs.Schedule.{Schedule}
use Rattle.dt_nest.specs.Meaning.{known}
use Rattle.dt_nest.specs.Visits.{visits_of, needed_of}
use Rattle.dt_plan.specs.declared.ops.Op.{Op}
use Rattle.dt_plan.specs.Layouts.{Layout}
use Rattle.dt_plan.specs.Operations.{kind_rank, ops_of}
use Rattle.dt_plan.specs.Bounds.{bound_of}
use Rattle.dt_plan.proofs.WorkedPlans.{row_of, matrix, vector, all_units}

-- Workspaces ------------------------------------------------------------------------------------------------------------

-- A(i,j) = B(i,k,l) * D(l,j) * C(k,j), where a workspace, tensor 4, has the sums over l for each j: the variables i, j, k and l
-- are 0 to 3, and j is 4 in the producer
abbrev summed : ℕ → Schedule
summed distributed = record {
  nest = Loop 0 2 None (Loop 2 2 None (Pre 0 (record { from = 1; to = 4 } ∷ [])
      (Loop 3 2 None (Loop 4 2 None
      (Leaf (record { tensor = 4; vars = 1 ∷ [] })
      (record { minus = false; factors = Read (record { tensor = 1; vars = 0 ∷ 2 ∷ 3 ∷ [] }) ∷ Read (record { tensor = 2; vars = 3 ∷ 1 ∷ [] }) ∷ [] } ∷ [])
      [] Plain)))
      (Loop 1 2 None
      (Leaf (record { tensor = 0; vars = 0 ∷ 1 ∷ [] })
      (record { minus = false; factors = Read (record { tensor = 4; vars = 1 ∷ [] }) ∷ Read (record { tensor = 3; vars = 2 ∷ 1 ∷ [] }) ∷ [] } ∷ [])
      [] Plain))));
  derived = [];
  distributed = distributed;
  moved = [];
  tensors = (65 ∷ []) ∷ (66 ∷ []) ∷ (68 ∷ []) ∷ (67 ∷ []) ∷ [];
  names = map (λ v. v ∷ []) (below 5);
  extents = 2 ∷ 2 ∷ 2 ∷ 2 ∷ 2 ∷ [];
  works = record { name = 119 ∷ []; extents = 2 ∷ [] } ∷ [];
}

-- all tensors are at home on node 0
abbrev with_workspace : ℕ → ℕ → Layout
with_workspace nodes distributed = record {
  machine = record { levels = (nodes ∷ []) ∷ []; memory = None };
  stored = matrix 2 ∷ record { extents = 2 ∷ 2 ∷ 2 ∷ []; compressed = false ∷ false ∷ false ∷ []; coords = assignments (2 ∷ 2 ∷ 2 ∷ []) } ∷ matrix 2 ∷ matrix 2 ∷ [];
  homes = (below 4 ∷ []) ∷ (below 8 ∷ []) ∷ (below 4 ∷ []) ∷ (below 4 ∷ []) ∷ [];
  parts = record { sched = summed distributed; adds = false; segment = 0 } ∷ [];
}

-- at the root the workspace opens after the tensors and before the copies, and closes last
root_workspace : map row_of (ops_of (with_workspace 1 0))
    ≡ (0 ∷ 0 ∷ 0 ∷ 1 ∷ below 4) ∷ (1 ∷ 0 ∷ 0 ∷ 1 ∷ below 4) ∷ (1 ∷ 1 ∷ 0 ∷ 1 ∷ below 8) ∷ (1 ∷ 2 ∷ 0 ∷ 1 ∷ below 4) ∷ (1 ∷ 3 ∷ 0 ∷ 1 ∷ below 4) ∷ (1 ∷ 4 ∷ 0 ∷ 1 ∷ below 2)
    ∷ (2 ∷ 1 ∷ 0 ∷ 8 ∷ below 8) ∷ (2 ∷ 2 ∷ 0 ∷ 4 ∷ below 4) ∷ (2 ∷ 3 ∷ 0 ∷ 4 ∷ below 4) ∷ (3 ∷ 0 ∷ 0 ∷ 28 ∷ []) ∷ (4 ∷ 0 ∷ 0 ∷ 4 ∷ below 4)
    ∷ (5 ∷ 0 ∷ 0 ∷ 1 ∷ below 4) ∷ (5 ∷ 1 ∷ 0 ∷ 1 ∷ below 8) ∷ (5 ∷ 2 ∷ 0 ∷ 1 ∷ below 4) ∷ (5 ∷ 3 ∷ 0 ∷ 1 ∷ below 4) ∷ (5 ∷ 4 ∷ 0 ∷ 1 ∷ below 2) ∷ []
unfolding ops_of visits_of needed_of known
root_workspace = refl

root_workspace_counts : all_units (with_workspace 1 0) ∷ bound_of (with_workspace 1 0) 0 ∷ [] ≡ 59 ∷ 42 ∷ []
unfolding ops_of visits_of needed_of known
root_workspace_counts = refl

-- where i is distributed it opens and closes around each node's path: each operation by its kind, tensor and node
node_workspace : map (λ (o : Op). kind_rank o.kind ∷ o.tensor ∷ o.node ∷ []) (take 15 (ops_of (with_workspace 2 1)))
    ≡ (0 ∷ 0 ∷ 0 ∷ []) ∷ (1 ∷ 4 ∷ 0 ∷ []) ∷ (1 ∷ 0 ∷ 0 ∷ []) ∷ (1 ∷ 1 ∷ 0 ∷ []) ∷ (1 ∷ 2 ∷ 0 ∷ []) ∷ (1 ∷ 3 ∷ 0 ∷ []) ∷ (2 ∷ 1 ∷ 0 ∷ []) ∷ (2 ∷ 2 ∷ 0 ∷ []) ∷ (2 ∷ 3 ∷ 0 ∷ []) ∷ (3 ∷ 0 ∷ 0 ∷ []) ∷ (4 ∷ 0 ∷ 0 ∷ [])
    ∷ (5 ∷ 0 ∷ 0 ∷ []) ∷ (5 ∷ 1 ∷ 0 ∷ []) ∷ (5 ∷ 2 ∷ 0 ∷ []) ∷ (5 ∷ 3 ∷ 0 ∷ []) ∷ []
unfolding ops_of visits_of needed_of known
node_workspace = refl

node_workspace_next : map (λ (o : Op). kind_rank o.kind ∷ o.tensor ∷ o.node ∷ []) (take 3 (drop 15 (ops_of (with_workspace 2 1)))) ≡ (5 ∷ 4 ∷ 0 ∷ []) ∷ (1 ∷ 4 ∷ 1 ∷ []) ∷ (1 ∷ 0 ∷ 1 ∷ []) ∷ []
unfolding ops_of visits_of needed_of known
node_workspace_next = refl

-- Tensors without words -------------------------------------------------------------------------------------------------

-- y(i) = B(i) on two nodes, where of B only the first coordinate is stored
abbrev gaps : Layout
gaps = record {
  machine = record { levels = (2 ∷ []) ∷ []; memory = None };
  stored = vector 2 ∷ record { extents = 2 ∷ []; compressed = true ∷ []; coords = (0 ∷ []) ∷ [] } ∷ [];
  homes = ((0 ∷ []) ∷ (1 ∷ []) ∷ []) ∷ ((0 ∷ []) ∷ [] ∷ []) ∷ [];
  parts = record { sched = each; adds = true; segment = 0 } ∷ [];
}
  where
    each : Schedule
    each = record {
      nest = Loop 0 2 None (Leaf (record { tensor = 0; vars = 0 ∷ [] }) (record { minus = false; factors = Read (record { tensor = 1; vars = 0 ∷ [] }) ∷ [] } ∷ []) [] Plain);
      derived = [];
      distributed = 1;
      moved = [];
      tensors = (121 ∷ []) ∷ (66 ∷ []) ∷ [];
      names = (105 ∷ []) ∷ [];
      extents = 2 ∷ [];
      works = [];
    }

-- what adds has no zero; on node 1 B is opened and closed without words, and not copied
gap_rows : map row_of (ops_of gaps)
    ≡ (1 ∷ 0 ∷ 0 ∷ 1 ∷ 0 ∷ []) ∷ (1 ∷ 1 ∷ 0 ∷ 1 ∷ 0 ∷ []) ∷ (2 ∷ 1 ∷ 0 ∷ 1 ∷ 0 ∷ []) ∷ (3 ∷ 0 ∷ 0 ∷ 1 ∷ []) ∷ (4 ∷ 0 ∷ 0 ∷ 1 ∷ 0 ∷ []) ∷ (5 ∷ 0 ∷ 0 ∷ 1 ∷ 0 ∷ []) ∷ (5 ∷ 1 ∷ 0 ∷ 1 ∷ 0 ∷ [])
    ∷ (1 ∷ 0 ∷ 1 ∷ 1 ∷ 1 ∷ []) ∷ (1 ∷ 1 ∷ 1 ∷ 1 ∷ []) ∷ (3 ∷ 0 ∷ 1 ∷ 1 ∷ []) ∷ (4 ∷ 0 ∷ 1 ∷ 1 ∷ 1 ∷ []) ∷ (5 ∷ 0 ∷ 1 ∷ 1 ∷ 1 ∷ []) ∷ (5 ∷ 1 ∷ 1 ∷ 1 ∷ []) ∷ []
unfolding ops_of visits_of needed_of known
gap_rows = refl

-- a position of B costs two words
gap_bounds : map (bound_of gaps) (below 2) ≡ 6 ∷ 2 ∷ []
unfolding visits_of needed_of known
gap_bounds = refl

-- s = 7 beside a tensor that it doesn't name: the left tensor alone is moved
abbrev literal : Layout
literal = record {
  machine = record { levels = (1 ∷ []) ∷ []; memory = None };
  stored = record { extents = []; compressed = []; coords = [] ∷ [] } ∷ vector 2 ∷ [];
  homes = (below 1 ∷ []) ∷ (below 2 ∷ []) ∷ [];
  parts = record { sched = seven; adds = false; segment = 0 } ∷ [];
}
  where
    seven : Schedule
    seven = record {
      nest = Leaf (record { tensor = 0; vars = [] }) (record { minus = false; factors = Literal 7 ∷ [] } ∷ []) [] Plain;
      derived = [];
      distributed = 0;
      moved = [];
      tensors = (115 ∷ []) ∷ (98 ∷ []) ∷ [];
      names = [];
      extents = [];
      works = [];
    }

literal_rows : map row_of (ops_of literal) ≡ (0 ∷ 0 ∷ 0 ∷ 1 ∷ 0 ∷ []) ∷ (1 ∷ 0 ∷ 0 ∷ 1 ∷ 0 ∷ []) ∷ (3 ∷ 0 ∷ 0 ∷ 1 ∷ []) ∷ (4 ∷ 0 ∷ 0 ∷ 1 ∷ 0 ∷ []) ∷ (5 ∷ 0 ∷ 0 ∷ 1 ∷ 0 ∷ []) ∷ []
unfolding ops_of visits_of needed_of known
literal_rows = refl
