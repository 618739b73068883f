-- Another number of distributed loops, and other communicated tensors, leave all else of a schedule as it is.
use Rattle.std.proofs.Common.{ℕ, List, refl}
use Rattle.dt_model.specs.Positions.{StoredTensor}
use Rattle.dt_nest.specs.declared.parts.Moved.{Moved}
use Rattle.dt_nest.specs.FitsStored.{FitsStored}
use Rattle.dt_nest.specs.Lawful.{AreDistributed, AreCommunicated, IsLawful}
use Rattle.dt_nest.specs.Schedule.{Schedule}
use Rattle.dt_nest.specs.Commands.{KeepsSum, KeepsAccesses}
use Rattle.dt_nest.proofs.KeptAccesses.{accesses_stay}

-- the schedule with the first k loops distributed, and with these tensors communicated
abbrev pub marked : ℕ → List Moved → Schedule → Schedule
marked k moved s = record s { distributed = k; moved = moved }

module _ (k : ℕ) (moved : List Moved) (s : Schedule) where
  pub marked_lawful : IsLawful s → AreDistributed k s.nest → AreCommunicated (marked k moved s) → IsLawful (marked k moved s)
  marked_lawful l distributed communicated = record {
    few = l.few;
    differ = l.differ;
    names = record { loops = l.names.loops; tensors = l.names.tensors; extents = l.names.extents; few = l.names.few; few_tensors = l.names.few_tensors };
    named = l.named;
    walks = l.walks;
    coordinates = l.coordinates;
    derived = l.derived;
    ordered = l.ordered;
    loops = l.loops;
    follows = l.follows;
    guards = l.guards;
    distributed = distributed;
    communicated = communicated;
    kernels = l.kernels;
    works = record { once = l.works.once; leaves = l.works.leaves; stand = l.works.stand; written = l.works.written; small = l.works.small; accesses = l.works.accesses };
  }

  -- the sum,
  pub marked_sum : KeepsSum s (marked k moved s)
  marked_sum = record {
    fits = λ stored tensors f. record { count = f.count; shapes = f.shapes; whole = f.whole; levels = f.levels; zeros = f.zeros; accesses = f.accesses; positions = f.positions };
    sums = λ stored tensors at f. refl;
  }

  -- the accesses,
  pub marked_accesses : KeepsAccesses s (marked k moved s)
  marked_accesses = accesses_stay s (marked k moved s) refl refl refl refl

  -- and what fits
  pub marked_fits : (stored : List StoredTensor) → FitsStored stored s → FitsStored stored (marked k moved s)
  marked_fits stored f = record { count = f.count; levels = f.levels; accesses = f.accesses; positions = f.positions }
