-- Stored tensors that fit a schedule, whatever their numbers are.
use Rattle.std.specs.Prelude.{◌≡◌, List, length}
use Rattle.std.specs.List.{AllByRecursion}
use Rattle.dt_model.specs.Positions.{StoredTensor, IsStored}
use Rattle.dt_nest.specs.Tree.{accesses_of}
use Rattle.dt_nest.specs.Schedule.{Schedule}
use Rattle.dt_nest.specs.World.{FitsAccess, FitsDerive}

-- There is one stored tensor for each name, with the extents where it is accessed, and as many positions as a loop over
-- them has values.
pub record FitsStored (stored : List StoredTensor) (s : Schedule) : Type 0 where
  pub count : length stored ≡ length s.tensors
  pub levels : AllByRecursion IsStored stored
  pub accesses : AllByRecursion (λ a. FitsAccess stored s a.tensor a.vars) (accesses_of s.nest)
  pub positions : AllByRecursion (λ d. FitsDerive stored s d.how) s.derived
