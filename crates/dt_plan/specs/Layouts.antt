-- A job as its plan sees it.
use Rattle.std.specs.Prelude.{ℕ, List, [], map, take, unwrap_or, slice_index_or}
use Rattle.std.specs.List.{zip}
use Rattle.dt_base.specs.Rows.{row_major}
use Rattle.dt_model.specs.Positions.{StoredTensor}
use Rattle.dt_nest.specs.Schedule.{Schedule}
use Rattle.dt_place.specs.Homes.{homes_on}
use Rattle.dt_place.specs.Machines.{MachineView, dims_of}
use Rattle.dt_place.specs.declared.placements.Placement.{Placement}
use Rattle.dt_plan.specs.declared.parts.Part.{Part}

-- a machine, what the tensors store, the homes of each tensor by node, and the parts of the statements in order
pub record Layout : Type 0 where
  pub machine : MachineView
  pub stored : List StoredTensor
  pub homes : List (List (List ℕ))
  pub parts : List Part

-- the layout of these parts, where each tensor has its placement
abbrev pub layout_of : MachineView → List StoredTensor → List Placement → List Part → Layout
layout_of m stored places parts = record { machine = m; stored = stored; homes = map (λ x. homes_on x.0 m x.1) (zip places stored); parts = parts }

-- the homes of a tensor, by node
abbrev pub homes_at : Layout → ℕ → List (List ℕ)
homes_at l t = slice_index_or l.homes t []

-- the node of a path: the one whose coordinates are the values of the distributed loops, and node 0 without any
abbrev pub node_of : MachineView → Schedule → List ℕ → ℕ
node_of m s path = unwrap_or (row_major (dims_of m) (take s.distributed path)) 0
