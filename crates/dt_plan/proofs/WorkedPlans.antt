-- Plans that are worked by hand: a matrix product on one node, an empty home, a statement without visits, segments, and
-- limits.
use Rattle.std.proofs.Common.{◌≡◌, ℕ, false, List, [], ◌∷◌, refl, map, length, None}
use Rattle.std.specs.Prelude.{nat_lt, nat_eq, filter, ◌||◌, sum_by, Err}
use Rattle.dt_base.specs.Ranges.{below, assignments}
use Rattle.dt_model.specs.Positions.{StoredTensor}
use Rattle.dt_model.specs.declared.stmt.Factor.TheVariants.{Read}
use Rattle.dt_nest.specs.declared.loops.Kernel.TheVariants.{Plain}
use Rattle.dt_nest.specs.Tree.{Tree, Loop, Leaf}
use Rattle.dt_nest.specs.Schedule.{Schedule}
use Rattle.dt_nest.specs.Meaning.{known}
use Rattle.dt_nest.specs.Visits.{visits_of, needed_of}
use Rattle.dt_plan.specs.declared.ops.Op.{Op}
use Rattle.dt_plan.specs.declared.plan_end.PlanEnd.TheVariants as ends
use Rattle.dt_plan.specs.declared.touches.Buffer.TheVariants.{Home, Scratch}
use Rattle.dt_plan.specs.declared.touches.Mode.TheVariants as mode
use Rattle.dt_plan.specs.Footprints.{some_words, whole_buffer, footprints_of}
use Rattle.dt_plan.specs.Layouts.{Layout}
use Rattle.dt_plan.specs.Operations.{kind_rank, ops_of, units_of}
use Rattle.dt_plan.specs.Bounds.{bound_of, buffers_of, traffic_of}
use Rattle.dt_plan.specs.Limits.{visit_count, plan_of}

-- an operation as numbers: the rank of its kind, its tensor, the other node, its units, and its words
abbrev pub row_of : Op → List ℕ
row_of o = kind_rank o.kind ∷ o.tensor ∷ o.other ∷ o.units ∷ o.words

-- a square matrix of n rows, all of it stored
abbrev pub matrix : ℕ → StoredTensor
matrix n = record { extents = n ∷ n ∷ []; compressed = false ∷ false ∷ []; coords = assignments (n ∷ n ∷ []) }

-- a vector of n numbers, all of them stored
abbrev pub vector : ℕ → StoredTensor
vector n = record { extents = n ∷ []; compressed = false ∷ []; coords = assignments (n ∷ []) }

-- the units of all operations
abbrev pub all_units : Layout → ℕ
all_units l = sum_by (λ (o : Op). o.units) (ops_of l)

-- A(i,j) = B(i,k) * C(k,j) with these guards, where the variables i, j and k are 0, 1 and 2
abbrev pub product_of : List ℕ → Tree
product_of guards =
    Leaf (record { tensor = 0; vars = 0 ∷ 1 ∷ [] })
    (record { minus = false; factors = Read (record { tensor = 1; vars = 0 ∷ 2 ∷ [] }) ∷ Read (record { tensor = 2; vars = 2 ∷ 1 ∷ [] }) ∷ [] } ∷ [])
    guards Plain

-- its schedule where k has these values and nothing is distributed
abbrev plain_product : ℕ → Schedule
plain_product n = record {
  nest = Loop 0 2 None (Loop 1 2 None (Loop 2 n None (product_of [])));
  derived = [];
  distributed = 0;
  moved = [];
  tensors = (65 ∷ []) ∷ (66 ∷ []) ∷ (67 ∷ []) ∷ [];
  names = (105 ∷ []) ∷ (106 ∷ []) ∷ (107 ∷ []) ∷ [];
  extents = 2 ∷ 2 ∷ n ∷ [];
  works = [];
}

abbrev one_node : ℕ → Layout
one_node n = record {
  machine = record { levels = (1 ∷ []) ∷ []; memory = None };
  stored = matrix 2 ∷ matrix 2 ∷ matrix 2 ∷ [];
  homes = (below 4 ∷ []) ∷ (below 4 ∷ []) ∷ (below 4 ∷ []) ∷ [];
  parts = record { sched = plain_product n; adds = false; segment = 0 } ∷ [];
}

-- the zero of A, three allocs, the copies of B and C, the task of eight visits, the fold of A, three frees
one_node_ops : map row_of (ops_of (one_node 2))
    ≡ (0 ∷ 0 ∷ 0 ∷ 1 ∷ below 4) ∷ (1 ∷ 0 ∷ 0 ∷ 1 ∷ below 4) ∷ (1 ∷ 1 ∷ 0 ∷ 1 ∷ below 4) ∷ (1 ∷ 2 ∷ 0 ∷ 1 ∷ below 4) ∷ (2 ∷ 1 ∷ 0 ∷ 4 ∷ below 4) ∷ (2 ∷ 2 ∷ 0 ∷ 4 ∷ below 4)
    ∷ (3 ∷ 0 ∷ 0 ∷ 8 ∷ []) ∷ (4 ∷ 0 ∷ 0 ∷ 4 ∷ below 4) ∷ (5 ∷ 0 ∷ 0 ∷ 1 ∷ below 4) ∷ (5 ∷ 1 ∷ 0 ∷ 1 ∷ below 4) ∷ (5 ∷ 2 ∷ 0 ∷ 1 ∷ below 4) ∷ []
unfolding ops_of visits_of needed_of known
one_node_ops = refl

-- a statement without visits has its zeros alone
no_visit_ops : map row_of (ops_of (one_node 0)) ≡ (0 ∷ 0 ∷ 0 ∷ 1 ∷ below 4) ∷ []
unfolding ops_of visits_of needed_of known
no_visit_ops = refl

-- where node 1 has no home of A it has no zero, and what it has of B comes from there
abbrev two_nodes : Layout
two_nodes = record {
  machine = record { levels = (2 ∷ []) ∷ []; memory = None };
  stored = matrix 2 ∷ matrix 2 ∷ matrix 2 ∷ [];
  homes = (below 4 ∷ [] ∷ []) ∷ (below 2 ∷ (2 ∷ 3 ∷ []) ∷ []) ∷ (below 4 ∷ [] ∷ []) ∷ [];
  parts = record { sched = plain_product 2; adds = false; segment = 0 } ∷ [];
}

empty_home_ops : map row_of (ops_of two_nodes)
    ≡ (0 ∷ 0 ∷ 0 ∷ 1 ∷ below 4) ∷ (1 ∷ 0 ∷ 0 ∷ 1 ∷ below 4) ∷ (1 ∷ 1 ∷ 0 ∷ 1 ∷ below 4) ∷ (1 ∷ 2 ∷ 0 ∷ 1 ∷ below 4) ∷ (2 ∷ 1 ∷ 0 ∷ 2 ∷ below 2) ∷ (2 ∷ 1 ∷ 1 ∷ 2 ∷ 2 ∷ 3 ∷ [])
    ∷ (2 ∷ 2 ∷ 0 ∷ 4 ∷ below 4) ∷ (3 ∷ 0 ∷ 0 ∷ 8 ∷ []) ∷ (4 ∷ 0 ∷ 0 ∷ 4 ∷ below 4) ∷ (5 ∷ 0 ∷ 0 ∷ 1 ∷ below 4) ∷ (5 ∷ 1 ∷ 0 ∷ 1 ∷ below 4) ∷ (5 ∷ 2 ∷ 0 ∷ 1 ∷ below 4) ∷ []
unfolding ops_of visits_of needed_of known
empty_home_ops = refl

-- Segments and limits ---------------------------------------------------------------------------------------------------

one_bound : map (bound_of (one_node 2)) (below 1) ≡ 24 ∷ []
unfolding visits_of needed_of known
one_bound = refl

one_traffic : traffic_of (one_node 2).machine (ops_of (one_node 2)) ≡ record { local = 12; group = 0; across = 0 }
unfolding ops_of visits_of needed_of known
one_traffic = refl

one_units : all_units (one_node 2) ≡ 27
unfolding ops_of visits_of needed_of known
one_units = refl

-- the units of the definition are those that an operation has
one_counts : map (units_of (one_node 2)) (ops_of (one_node 2)) ≡ map (λ (o : Op). o.units) (ops_of (one_node 2))
unfolding ops_of visits_of needed_of known
one_counts = refl

-- t(i) = u(i)
abbrev copying : ℕ → ℕ → Schedule
copying t u = record {
  nest = Loop 0 2 None (Leaf (record { tensor = t; vars = 0 ∷ [] }) (record { minus = false; factors = Read (record { tensor = u; vars = 0 ∷ [] }) ∷ [] } ∷ []) [] Plain);
  derived = [];
  distributed = 0;
  moved = [];
  tensors = (97 ∷ []) ∷ (98 ∷ []) ∷ (99 ∷ []) ∷ [];
  names = (105 ∷ []) ∷ [];
  extents = 2 ∷ [];
  works = [];
}

-- a(i) = b(i), and c(i) = a(i) in this segment
abbrev two_statements : ℕ → Layout
two_statements segment = record {
  machine = record { levels = (1 ∷ []) ∷ []; memory = None };
  stored = vector 2 ∷ vector 2 ∷ vector 2 ∷ [];
  homes = (below 2 ∷ []) ∷ (below 2 ∷ []) ∷ (below 2 ∷ []) ∷ [];
  parts = record { sched = copying 0 1; adds = false; segment = 0 } ∷ record { sched = copying 2 0; adds = false; segment = segment } ∷ [];
}

-- one segment costs both statements' scratch, two segments the greater one
segments : bound_of (two_statements 0) 0 ∷ bound_of (two_statements 1) 0 ∷ [] ≡ 14 ∷ 10 ∷ []
unfolding visits_of needed_of known
segments = refl

two_count : length (ops_of (two_statements 0)) ≡ 16
unfolding ops_of visits_of needed_of known
two_count = refl

-- the visits of a product with this many values of k
many_visits : visit_count (one_node 1048576).parts ∷ visit_count (one_node 1048577).parts ∷ visit_count (one_node 0).parts ∷ [] ≡ 4194304 ∷ 4194308 ∷ 4 ∷ []
many_visits = refl

too_many_visits : plan_of (one_node 1048577) ≡ Err ends.TooManyVisits
unfolding plan_of
too_many_visits = refl

-- Footprints ------------------------------------------------------------------------------------------------------------

-- a zero writes a home; an alloc is the whole scratch; a copy reads a home and writes scratch; a task folds into A's scratch
-- and reads that of B and C; a fold reads scratch and folds into a home
footprints : map (footprints_of (one_node 2)) (filter (λ (o : Op). nat_lt o.tensor 1 || nat_eq (kind_rank o.kind) 2) (ops_of (one_node 2)))
    ≡ (some_words 0 (Home 0) (below 4) mode.Write ∷ []) ∷ (whole_buffer 0 (Scratch 0 0) ∷ [])
    ∷ (some_words 0 (Home 1) (below 4) mode.Read ∷ some_words 0 (Scratch 0 1) (below 4) mode.Write ∷ [])
    ∷ (some_words 0 (Home 2) (below 4) mode.Read ∷ some_words 0 (Scratch 0 2) (below 4) mode.Write ∷ [])
    ∷ (some_words 0 (Scratch 0 0) (below 4) mode.Fold ∷ some_words 0 (Scratch 0 1) (below 4) mode.Read ∷ some_words 0 (Scratch 0 2) (below 4) mode.Read ∷ [])
    ∷ (some_words 0 (Scratch 0 0) (below 4) mode.Read ∷ some_words 0 (Home 0) (below 4) mode.Fold ∷ []) ∷ (whole_buffer 0 (Scratch 0 0) ∷ []) ∷ []
unfolding ops_of visits_of needed_of known
footprints = refl

buffers : buffers_of (two_statements 0) ≡ Home 0 ∷ Home 1 ∷ Home 2 ∷ Scratch 0 0 ∷ Scratch 0 1 ∷ Scratch 1 0 ∷ Scratch 1 2 ∷ []
buffers = refl
