-- Schedules over tensors: what fits, and what a schedule adds.
use Rattle.std.specs.Prelude.{◌≡◌, ℕ, ◌<◌, ◌%◌, ◌^◌, false, List, ◌++◌, length, map, None, unwrap_or, slice_get, slice_index}
use Rattle.std.specs.Option.{option_and_then}
use Rattle.std.specs.List.{AllByRecursion}
use Rattle.dt_model.specs.WholeTensor.{WholeTensor, number_at, IsWhole}
use Rattle.dt_model.specs.Positions.{StoredTensor, IsStored, is_stored_prefix, coords_at, place_in, tensor_at}
use Rattle.dt_nest.specs.declared.derivations.Derive.{Derive}
use Rattle.dt_nest.specs.declared.derivations.Derive.TheVariants.{Split, Quotient, Rest, Rotate, Pos}
use Rattle.dt_nest.specs.Tree.{accesses_of}
use Rattle.dt_nest.specs.Schedule.{Schedule}
use Rattle.dt_nest.specs.Meaning.{World, Entries, nest_sum}

-- the coordinate at a level of a tensor's position, and 0 where there is no such position
abbrev pub coordinate_at : List StoredTensor → ℕ → ℕ → ℕ → ℕ
coordinate_at stored t level p = slice_index (coords_at (tensor_at stored t) p) level

-- the world of a schedule over tensors that store these coordinates
abbrev pub world_of : List StoredTensor → Schedule → World
world_of stored s = record { coord = coordinate_at stored; stored = λ t c. is_stored_prefix (tensor_at stored t) c; extent = slice_index s.extents; tensors = length s.tensors }

-- the numbers of whole tensors, and 0 where there is none
abbrev pub entries_of : List WholeTensor → Entries
entries_of tensors t c = unwrap_or (option_and_then (λ x. number_at x c) (slice_get tensors t)) 0

-- what a schedule adds at c
abbrev pub sum_of : List StoredTensor → List WholeTensor → Schedule → List ℕ → ℕ
sum_of stored tensors s c = nest_sum (world_of stored s) s.derived s.nest (entries_of tensors) (λ u. u) (λ u. 0) c % 2 ^ 64

-- an access of a tensor, but not of a workspace, has the tensor's extents at its variables
abbrev pub FitsAccess : List StoredTensor → Schedule → ℕ → List ℕ → Type 0
FitsAccess stored s t vars = t < length s.tensors → (tensor_at stored t).extents ≡ map (λ v. slice_index s.extents v) vars

-- a loop over a tensor's positions has as many values as the tensor has positions
abbrev pub FitsDerive : List StoredTensor → Schedule → Derive → Type 0
FitsDerive stored s (Split outer inner factor) = Unit {0}
FitsDerive stored s (Quotient fused by) = Unit {0}
FitsDerive stored s (Rest fused by) = Unit {0}
FitsDerive stored s (Rotate base by extent) = Unit {0}
FitsDerive stored s (Pos tensor level base) = length (tensor_at stored tensor).coords ≡ slice_index s.extents base

-- Tensors fit a schedule: there is one for each name, with as many variables and with the extents where it is accessed,
-- it stores what its levels ask for, and its numbers are 0 where nothing is stored.
pub record Fits (stored : List StoredTensor) (tensors : List WholeTensor) (s : Schedule) : Type 0 where
  pub count : length tensors ≡ length s.tensors
  pub shapes : map (λ t. t.extents) stored ≡ map (λ t. t.extents) tensors
  pub whole : AllByRecursion IsWhole tensors
  pub levels : AllByRecursion IsStored stored
  pub zeros : (t : ℕ) (c : List ℕ) → place_in (tensor_at stored t) c ≡ None → entries_of tensors t c ≡ 0
  pub accesses : AllByRecursion (λ a. FitsAccess stored s a.tensor a.vars) (accesses_of s.nest)
  pub positions : AllByRecursion (λ d. FitsDerive stored s d.how) s.derived

-- the number of each tensor is 0 at all coordinates below a prefix that isn't stored
abbrev pub AreZeros : World → Entries → Type 0
AreZeros w x = (t : ℕ) (front rest : List ℕ) → t < w.tensors → w.stored t front ≡ false → x t (front ++ rest) ≡ 0

-- So it is for tensors that fit a schedule.
abbrev pub FittingAreZeros : Type 0
FittingAreZeros =
    (stored : List StoredTensor) (tensors : List WholeTensor) (s : Schedule) → Fits stored tensors s → AreZeros (world_of stored s) (entries_of tensors)
