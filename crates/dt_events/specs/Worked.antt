-- A matrix product on one node: A(i,j) = B(i,k) * C(k,j), where B is 1 2 3 4 and C is 5 6 7 8, by rows, and A begins with 9 in each
-- word.
use Rattle.std.specs.Prelude.{ℕ, false, List, [], ◌∷◌, map, Option, Some, None, option_map, unwrap_or, slice_index, slice_index_or}
use Rattle.dt_base.specs.Ranges.{below}
use Rattle.dt_base.specs.Rows.{row_major}
use Rattle.dt_nest.specs.Tree.{Loop}
use Rattle.dt_nest.specs.Schedule.{Schedule}
use Rattle.dt_nest.specs.Meaning.{Entries}
use Rattle.dt_plan.specs.declared.touches.Buffer.{Buffer}
use Rattle.dt_plan.specs.declared.touches.Buffer.TheVariants.{Home}
use Rattle.dt_plan.specs.Layouts.{Layout}
use Rattle.dt_plan.proofs.WorkedPlans.{matrix, product_of}
use Rattle.dt_events.specs.State.{Word, State}

-- its schedule, with nothing distributed
abbrev pub product_schedule : Schedule
product_schedule = record {
  nest = Loop 0 2 None (Loop 1 2 None (Loop 2 2 None (product_of [])));
  derived = [];
  distributed = 0;
  moved = [];
  tensors = (65 ∷ []) ∷ (66 ∷ []) ∷ (67 ∷ []) ∷ [];
  names = (105 ∷ []) ∷ (106 ∷ []) ∷ (107 ∷ []) ∷ [];
  extents = 2 ∷ 2 ∷ 2 ∷ [];
  works = [];
}

-- its layout
abbrev pub product_layout : Layout
product_layout = record {
  machine = record { levels = (1 ∷ []) ∷ []; memory = None };
  stored = matrix 2 ∷ matrix 2 ∷ matrix 2 ∷ [];
  homes = (below 4 ∷ []) ∷ (below 4 ∷ []) ∷ (below 4 ∷ []) ∷ [];
  parts = record { sched = product_schedule; adds = false; segment = 0 } ∷ [];
}

-- the given numbers of A, B and C
abbrev pub given_rows : List (List ℕ)
given_rows = (9 ∷ 9 ∷ 9 ∷ 9 ∷ []) ∷ (1 ∷ 2 ∷ 3 ∷ 4 ∷ []) ∷ (5 ∷ 6 ∷ 7 ∷ 8 ∷ []) ∷ []

-- by tensor and coordinates, and 0 where there are none
abbrev pub given_numbers : Entries
given_numbers t c = unwrap_or (option_map (slice_index (slice_index_or given_rows t [])) (row_major (2 ∷ 2 ∷ []) c)) 0

-- the four words of a buffer
abbrev pub row_of : Buffer → State → List (Option ℕ)
row_of b s = map (λ w. s (Word 0 b w)) (below 4)

-- those of the home of A, where a run is defined
abbrev pub result_of : Option State → List (Option ℕ)
result_of None = []
result_of (Some s) = row_of (Home 0) s
