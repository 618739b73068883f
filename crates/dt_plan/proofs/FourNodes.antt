-- Plans on several nodes, worked by hand: a matrix product in blocks, blocks of unequal sizes, a copy on each node, and
-- Cannon's product.
use Rattle.std.proofs.Common.{◌≡◌, ℕ, zero, suc, false, List, [], ◌∷◌, ◌++◌, refl, map, length, take, drop, None}
use Rattle.dt_base.specs.Ranges.{below}
use Rattle.dt_nest.specs.declared.derivations.Derive.TheVariants.{Split, Rotate}
use Rattle.dt_nest.specs.declared.loops.Kernel.TheVariants.{Plain}
use Rattle.dt_model.specs.declared.stmt.Factor.TheVariants.{Read, Literal}
use Rattle.dt_nest.specs.Tree.{Loop, Leaf}
use Rattle.dt_nest.specs.Schedule.{Schedule}
use Rattle.dt_nest.specs.Meaning.{known}
use Rattle.dt_nest.specs.Visits.{visits_of, needed_of}
use Rattle.dt_copy.specs.declared.piece_list.Piece.{Piece}
use Rattle.dt_plan.specs.declared.ops.Op.{Op}
use Rattle.dt_plan.specs.declared.parts.Part.{Part}
use Rattle.dt_plan.specs.Layouts.{Layout}
use Rattle.dt_plan.specs.Operations.{outline_of, ops_of}
use Rattle.dt_plan.specs.Bounds.{bound_of, traffic_of}
use Rattle.dt_plan.proofs.WorkedPlans.{row_of, matrix, vector, product_of, all_units}

-- A matrix product in blocks --------------------------------------------------------------------------------------------

-- 4x4 matrices on 2x2 nodes, k in chunks of 2: the variables i, j and k are 0, 1 and 2, the outer loops 3, 5 and 7, and the
-- inner ones 4, 6 and 8
abbrev cut_product : Schedule
cut_product = record {
  nest = Loop 3 2 None (Loop 5 2 None (Loop 7 2 None (Loop 4 2 None (Loop 6 2 None (Loop 8 2 None (product_of (0 ∷ 1 ∷ 2 ∷ [])))))));
  derived = record { var = 0; how = Split 3 4 2 } ∷ record { var = 1; how = Split 5 6 2 } ∷ record { var = 2; how = Split 7 8 2 } ∷ [];
  distributed = 2;
  moved = record { tensor = 0; at = 5 } ∷ record { tensor = 1; at = 7 } ∷ record { tensor = 2; at = 7 } ∷ [];
  tensors = (65 ∷ []) ∷ (66 ∷ []) ∷ (67 ∷ []) ∷ [];
  names = map (λ v. v ∷ []) (below 9);
  extents = 4 ∷ 4 ∷ 4 ∷ 2 ∷ 2 ∷ 2 ∷ 2 ∷ 2 ∷ 2 ∷ [];
  works = [];
}

-- the blocks of a matrix on four nodes
abbrev pub block : ℕ → List ℕ
block zero = 0 ∷ 1 ∷ 4 ∷ 5 ∷ []
block (suc zero) = 2 ∷ 3 ∷ 6 ∷ 7 ∷ []
block (suc (suc zero)) = 8 ∷ 9 ∷ 12 ∷ 13 ∷ []
block (suc (suc (suc n))) = 10 ∷ 11 ∷ 14 ∷ 15 ∷ []

abbrev pub four_nodes : Layout
four_nodes = record {
  machine = record { levels = (2 ∷ 2 ∷ []) ∷ []; memory = None };
  stored = matrix 4 ∷ matrix 4 ∷ matrix 4 ∷ [];
  homes = map block (below 4) ∷ map block (below 4) ∷ map block (below 4) ∷ [];
  parts = record { sched = cut_product; adds = false; segment = 0 } ∷ [];
}

-- there are 72 operations
four_count : length (ops_of four_nodes) ≡ 72
unfolding ops_of visits_of needed_of known
four_count = refl

-- after the zeros come those of node 0: A is opened, for each chunk B and C are opened, copied, used and closed, and A is
-- folded and closed
four_rows : map row_of (take 17 (drop 4 (ops_of four_nodes)))
    ≡ (1 ∷ 0 ∷ 0 ∷ 1 ∷ block 0) ∷ (1 ∷ 1 ∷ 0 ∷ 1 ∷ block 0) ∷ (1 ∷ 2 ∷ 0 ∷ 1 ∷ block 0) ∷ (2 ∷ 1 ∷ 0 ∷ 4 ∷ block 0) ∷ (2 ∷ 2 ∷ 0 ∷ 4 ∷ block 0) ∷ (3 ∷ 0 ∷ 0 ∷ 8 ∷ []) ∷ (5 ∷ 1 ∷ 0 ∷ 1 ∷ block 0) ∷ (5 ∷ 2 ∷ 0 ∷ 1 ∷ block 0)
    ∷ (1 ∷ 1 ∷ 0 ∷ 1 ∷ block 1) ∷ (1 ∷ 2 ∷ 0 ∷ 1 ∷ block 2) ∷ (2 ∷ 1 ∷ 1 ∷ 4 ∷ block 1) ∷ (2 ∷ 2 ∷ 2 ∷ 4 ∷ block 2) ∷ (3 ∷ 0 ∷ 0 ∷ 8 ∷ []) ∷ (5 ∷ 1 ∷ 0 ∷ 1 ∷ block 1) ∷ (5 ∷ 2 ∷ 0 ∷ 1 ∷ block 2)
    ∷ (4 ∷ 0 ∷ 0 ∷ 4 ∷ block 0) ∷ (5 ∷ 0 ∷ 0 ∷ 1 ∷ block 0) ∷ []
unfolding ops_of visits_of needed_of known
four_rows = refl

-- node 3's begin at 55
four_nodes_begin : map (λ (o : Op). o.node) (take 2 (drop 54 (ops_of four_nodes))) ≡ 2 ∷ 3 ∷ []
unfolding ops_of visits_of needed_of known
four_nodes_begin = refl

four_units : all_units four_nodes ≡ 188
unfolding ops_of visits_of needed_of known
four_units = refl

four_bounds : map (bound_of four_nodes) (below 4) ≡ 24 ∷ 24 ∷ 24 ∷ 24 ∷ []
unfolding visits_of needed_of known
four_bounds = refl

four_traffic : traffic_of four_nodes.machine (ops_of four_nodes) ≡ record { local = 48; group = 0; across = 32 }
unfolding ops_of visits_of needed_of known
four_traffic = refl

-- Blocks of unequal sizes -----------------------------------------------------------------------------------------------

-- a(i) = b(i) + 10 with five numbers on four nodes: blocks of 2, 2, 1 and 0
abbrev pub unequal : Layout
unequal = record {
  machine = record { levels = (4 ∷ []) ∷ []; memory = None };
  stored = vector 5 ∷ vector 5 ∷ [];
  homes = blocks ∷ blocks ∷ [];
  parts = record { sched = cut; adds = false; segment = 0 } ∷ [];
}
  where
    blocks : List (List ℕ)
    blocks = (0 ∷ 1 ∷ []) ∷ (2 ∷ 3 ∷ []) ∷ (4 ∷ []) ∷ [] ∷ []

    cut : Schedule
    cut = record {
      nest = Loop 1 4 None (Loop 2 2 None
          (Leaf (record { tensor = 0; vars = 0 ∷ [] })
          (record { minus = false; factors = Read (record { tensor = 1; vars = 0 ∷ [] }) ∷ [] } ∷ record { minus = false; factors = Literal 10 ∷ [] } ∷ [])
          (0 ∷ []) Plain));
      derived = record { var = 0; how = Split 1 2 2 } ∷ [];
      distributed = 1;
      moved = [];
      tensors = (97 ∷ []) ∷ (98 ∷ []) ∷ [];
      names = map (λ v. v ∷ []) (below 3);
      extents = 5 ∷ 4 ∷ 2 ∷ [];
      works = [];
    }

-- node 3 has none of the 24 operations: three zeros, and seven on each of three nodes
unequal_nodes : map (λ (o : Op). o.node) (ops_of unequal) ≡ 0 ∷ 1 ∷ 2 ∷ 0 ∷ 0 ∷ 0 ∷ 0 ∷ 0 ∷ 0 ∷ 0 ∷ 1 ∷ 1 ∷ 1 ∷ 1 ∷ 1 ∷ 1 ∷ 1 ∷ 2 ∷ 2 ∷ 2 ∷ 2 ∷ 2 ∷ 2 ∷ 2 ∷ []
unfolding ops_of visits_of needed_of known
unequal_nodes = refl

unequal_units : all_units unequal ≡ 30
unfolding ops_of visits_of needed_of known
unequal_units = refl

unequal_bounds : map (bound_of unequal) (below 4) ≡ 8 ∷ 8 ∷ 4 ∷ 0 ∷ []
unfolding visits_of needed_of known
unequal_bounds = refl

unequal_traffic : traffic_of unequal.machine (ops_of unequal) ≡ record { local = 10; group = 0; across = 0 }
unfolding ops_of visits_of needed_of known
unequal_traffic = refl

-- A home on each node ---------------------------------------------------------------------------------------------------

-- A(i,j) = 3 * B(i,j) where each of four nodes has all of A, and one number of B
abbrev pub copied : Layout
copied = record {
  machine = record { levels = (2 ∷ 2 ∷ []) ∷ []; memory = None };
  stored = matrix 2 ∷ matrix 2 ∷ [];
  homes = map (λ n. below 4) (below 4) ∷ map (λ n. n ∷ []) (below 4) ∷ [];
  parts = record { sched = whole; adds = false; segment = 0 } ∷ [];
}
  where
    whole : Schedule
    whole = record {
      nest = Loop 0 2 None (Loop 1 2 None
          (Leaf (record { tensor = 0; vars = 0 ∷ 1 ∷ [] })
          (record { minus = false; factors = Literal 3 ∷ Read (record { tensor = 1; vars = 0 ∷ 1 ∷ [] }) ∷ [] } ∷ [])
          [] Plain));
      derived = [];
      distributed = 2;
      moved = [];
      tensors = (65 ∷ []) ∷ (66 ∷ []) ∷ [];
      names = map (λ v. v ∷ []) (below 2);
      extents = 2 ∷ 2 ∷ [];
      works = [];
    }

-- each node folds its number into all homes
copied_rows : map row_of (take 10 (drop 4 (ops_of copied)))
    ≡ (1 ∷ 0 ∷ 0 ∷ 1 ∷ 0 ∷ []) ∷ (1 ∷ 1 ∷ 0 ∷ 1 ∷ 0 ∷ []) ∷ (2 ∷ 1 ∷ 0 ∷ 1 ∷ 0 ∷ []) ∷ (3 ∷ 0 ∷ 0 ∷ 1 ∷ []) ∷ (4 ∷ 0 ∷ 0 ∷ 1 ∷ 0 ∷ []) ∷ (4 ∷ 0 ∷ 1 ∷ 1 ∷ 0 ∷ []) ∷ (4 ∷ 0 ∷ 2 ∷ 1 ∷ 0 ∷ []) ∷ (4 ∷ 0 ∷ 3 ∷ 1 ∷ 0 ∷ []) ∷ (5 ∷ 0 ∷ 0 ∷ 1 ∷ 0 ∷ []) ∷ (5 ∷ 1 ∷ 0 ∷ 1 ∷ 0 ∷ []) ∷ []
unfolding ops_of visits_of needed_of known
copied_rows = refl

copied_count : length (ops_of copied) ≡ 44
unfolding ops_of visits_of needed_of known
copied_count = refl

copied_bounds : map (bound_of copied) (below 4) ≡ 7 ∷ 7 ∷ 7 ∷ 7 ∷ []
unfolding visits_of needed_of known
copied_bounds = refl

copied_traffic : traffic_of copied.machine (ops_of copied) ≡ record { local = 8; group = 0; across = 12 }
unfolding ops_of visits_of needed_of known
copied_traffic = refl

-- Cannon's product ------------------------------------------------------------------------------------------------------

-- 3x3 matrices on 3x3 nodes: k is what the step 3 is turned to by the node's coordinates 0 and 1
abbrev pub turned : Layout
turned = record {
  machine = record { levels = (3 ∷ 3 ∷ []) ∷ []; memory = None };
  stored = matrix 3 ∷ matrix 3 ∷ matrix 3 ∷ [];
  homes = map (λ n. n ∷ []) (below 9) ∷ map (λ n. n ∷ []) (below 9) ∷ map (λ n. n ∷ []) (below 9) ∷ [];
  parts = record { sched = steps; adds = false; segment = 0 } ∷ [];
}
  where
    steps : Schedule
    steps = record {
      nest = Loop 0 3 None (Loop 1 3 None (Loop 3 3 None (product_of [])));
      derived = record { var = 2; how = Rotate 3 (0 ∷ 1 ∷ []) 3 } ∷ [];
      distributed = 2;
      moved = record { tensor = 0; at = 1 } ∷ record { tensor = 1; at = 3 } ∷ record { tensor = 2; at = 3 } ∷ [];
      tensors = (65 ∷ []) ∷ (66 ∷ []) ∷ (67 ∷ []) ∷ [];
      names = map (λ v. v ∷ []) (below 4);
      extents = 3 ∷ 3 ∷ 3 ∷ 3 ∷ [];
      works = [];
    }

-- the nodes that a tensor is copied from on a path
abbrev sources_on : Layout → ℕ → List ℕ → List ℕ
sources_on l t path = map (λ (x : Piece). x.node) (all_pieces l.parts)
  where
    all_pieces : List Part → List Piece
    all_pieces [] = []
    all_pieces (p ∷ ps) = (outline_of l 0 p).pieces t path

-- node 5 copies B from 3, 4 and 5, and C from 2, 5 and 8
turned_copies : map (λ step. sources_on turned 1 (1 ∷ 2 ∷ step ∷ []) ++ sources_on turned 2 (1 ∷ 2 ∷ step ∷ [])) (below 3) ≡ (3 ∷ 2 ∷ []) ∷ (4 ∷ 5 ∷ []) ∷ (5 ∷ 8 ∷ []) ∷ []
unfolding visits_of needed_of known
turned_copies = refl

-- node 1 has the chunks 1, 2 and 0 of k: it copies C from the nodes of their rows
turned_chunks : map (λ step. sources_on turned 2 (0 ∷ 1 ∷ step ∷ [])) (below 3) ≡ (4 ∷ []) ∷ (7 ∷ []) ∷ (1 ∷ []) ∷ []
unfolding visits_of needed_of known
turned_chunks = refl

turned_bounds : map (bound_of turned) (below 9) ≡ 6 ∷ 6 ∷ 6 ∷ 6 ∷ 6 ∷ 6 ∷ 6 ∷ 6 ∷ 6 ∷ []
unfolding visits_of needed_of known
turned_bounds = refl

turned_counts : length (ops_of turned) ∷ all_units turned ∷ [] ≡ 225 ∷ 225 ∷ []
unfolding ops_of visits_of needed_of known
turned_counts = refl

turned_traffic : traffic_of turned.machine (ops_of turned) ≡ record { local = 27; group = 0; across = 36 }
unfolding ops_of visits_of needed_of known
turned_traffic = refl
