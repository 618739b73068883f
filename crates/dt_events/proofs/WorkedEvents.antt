-- The events of plans that are worked by hand: a matrix product on one node, and two statements.
use Rattle.std.proofs.Common.{◌≡◌, ℕ, false, [], ◌∷◌, refl, length, None}
use Rattle.dt_base.specs.Ranges.{below}
use Rattle.dt_model.specs.declared.stmt.Factor.TheVariants.{Read}
use Rattle.dt_nest.specs.declared.loops.Kernel.TheVariants.{Plain}
use Rattle.dt_nest.specs.Tree.{Loop, Leaf}
use Rattle.dt_nest.specs.Schedule.{Schedule}
use Rattle.dt_nest.specs.Meaning.{known}
use Rattle.dt_nest.specs.Visits.{visits_of, needed_of}
use Rattle.dt_plan.specs.Layouts.{Layout}
use Rattle.dt_plan.specs.Operations.{ops_of}
use Rattle.dt_plan.specs.Limits.{plan_view}
use Rattle.dt_plan.proofs.WorkedPlans.{matrix, vector, product_of}
use Rattle.dt_events.specs.Events.{events_of}

-- A(i,j) = B(i,k) * C(k,j) with 2x2 matrices on one node
abbrev pub one_product : Layout
one_product = record {
  machine = record { levels = (1 ∷ []) ∷ []; memory = None };
  stored = matrix 2 ∷ matrix 2 ∷ matrix 2 ∷ [];
  homes = (below 4 ∷ []) ∷ (below 4 ∷ []) ∷ (below 4 ∷ []) ∷ [];
  parts = record { sched = plain; adds = false; segment = 0 } ∷ [];
}
  where
    plain : Schedule
    plain = record {
      nest = Loop 0 2 None (Loop 1 2 None (Loop 2 2 None (product_of [])));
      derived = [];
      distributed = 0;
      moved = [];
      tensors = (65 ∷ []) ∷ (66 ∷ []) ∷ (67 ∷ []) ∷ [];
      names = (105 ∷ []) ∷ (106 ∷ []) ∷ (107 ∷ []) ∷ [];
      extents = 2 ∷ 2 ∷ 2 ∷ [];
      works = [];
    }

-- The zero of A comes before its fold. Each alloc comes before the copy or the task that fills it, copies before the task,
-- the task before the fold of A and the frees of B and C, and the fold before the free of A.
product_events : events_of (plan_view one_product)
    ≡ (0, 7) ∷ (1, 6) ∷ (2, 4) ∷ (3, 5) ∷ (4, 6) ∷ (5, 6) ∷ (6, 7) ∷ (6, 9) ∷ (6, 10) ∷ (7, 8) ∷ []
unfolding plan_view ops_of visits_of needed_of known
product_events = refl

-- t(i) = u(i)
abbrev copying : ℕ → ℕ → Schedule
copying t u = record {
  nest = Loop 0 2 None (Leaf (record { tensor = t; vars = 0 ∷ [] }) (record { minus = false; factors = Read (record { tensor = u; vars = 0 ∷ [] }) ∷ [] } ∷ []) [] Plain);
  derived = [];
  distributed = 0;
  moved = [];
  tensors = (97 ∷ []) ∷ (98 ∷ []) ∷ (99 ∷ []) ∷ [];
  names = (105 ∷ []) ∷ [];
  extents = 2 ∷ [];
  works = [];
}

-- a(i) = b(i), and c(i) = a(i) in this segment
abbrev pub two_copies : ℕ → Layout
two_copies segment = record {
  machine = record { levels = (1 ∷ []) ∷ []; memory = None };
  stored = vector 2 ∷ vector 2 ∷ vector 2 ∷ [];
  homes = (below 2 ∷ []) ∷ (below 2 ∷ []) ∷ (below 2 ∷ []) ∷ [];
  parts = record { sched = copying 0 1; adds = false; segment = 0 } ∷ record { sched = copying 2 0; adds = false; segment = segment } ∷ [];
}

-- the fold of a, operation 5, comes before the copy of a, operation 11
two_events : events_of (plan_view (two_copies 0))
    ≡ (0, 5) ∷ (1, 4) ∷ (2, 3) ∷ (3, 4) ∷ (4, 5) ∷ (4, 7) ∷ (5, 6) ∷ (5, 11) ∷ (8, 13) ∷ (9, 11) ∷ (10, 12) ∷ (11, 12) ∷ (12, 13) ∷ (12, 14) ∷ (13, 15) ∷ []
unfolding plan_view ops_of visits_of needed_of known
two_events = refl

-- with a barrier between the statements there are 20
barrier_events : length (events_of (plan_view (two_copies 1))) ≡ 20
unfolding plan_view ops_of visits_of needed_of known
barrier_events = refl
