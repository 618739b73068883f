-- Homes cover a tensor.
use Rattle.std.specs.Prelude.{◌≡◌, ℕ, ◌<◌, [], length, slice_index_or, true}
use Rattle.std.specs.List.{list_any}
use Rattle.dt_model.specs.Positions.{StoredTensor, IsStored}
use Rattle.dt_runs.specs.Sets.{contains}
use Rattle.dt_place.specs.Homes.{home_of, homes_on}
use Rattle.dt_place.specs.Machines.{MachineView, IsMachine, nodes_of}
use Rattle.dt_place.specs.Placements.{IsPlacement}
use Rattle.dt_place.specs.declared.placements.Placement.{Placement}

-- some node is home to each position
abbrev pub Covers : Placement → MachineView → StoredTensor → Type 0
Covers placement m t = (pos : ℕ) → pos < length t.coords → (node : ℕ) × (node < nodes_of m) × (contains (home_of placement m t node) pos ≡ true)

-- so it is for each tensor, on each machine, under each placement that fits it
abbrev pub EveryPositionHasAHome : Type 0
EveryPositionHasAHome = (placement : Placement) (m : MachineView) (t : StoredTensor) → IsMachine m → IsPlacement placement m → IsStored t → Covers placement m t

-- the homes on all nodes: one for each node, each with positions alone, and each position in one of them
pub record CoverTogether (placement : Placement) (m : MachineView) (t : StoredTensor) : Type 0 where
  pub count : length (homes_on placement m t) ≡ nodes_of m
  pub each : (node : ℕ) → node < nodes_of m → slice_index_or (homes_on placement m t) node [] ≡ home_of placement m t node
  pub within : (node pos : ℕ) → contains (slice_index_or (homes_on placement m t) node []) pos ≡ true → pos < length t.coords
  pub covered : (pos : ℕ) → pos < length t.coords → list_any (λ home. contains home pos) (homes_on placement m t) ≡ true

-- so it is for each tensor, on each machine, under each placement that fits it
abbrev pub HomesCover : Type 0
HomesCover = (placement : Placement) (m : MachineView) (t : StoredTensor) → IsMachine m → IsPlacement placement m → IsStored t → CoverTogether placement m t
