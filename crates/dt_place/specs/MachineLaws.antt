-- Nodes and their coordinates lead to each other.
use Rattle.std.specs.Prelude.{◌≡◌, ℕ, ◌<◌, List, Some}
use Rattle.dt_base.specs.Rows.{row_major}
use Rattle.dt_place.specs.Machines.{MachineView, dims_of, node_coords, nodes_of}

-- a node's coordinates have its number, and coordinates that have a number are those of that node
pub record HasNumbers (m : MachineView) : Type 0 where
  pub numbered : (node : ℕ) → node < nodes_of m → row_major (dims_of m) (node_coords m node) ≡ Some node
  pub found : (c : List ℕ) (node : ℕ) → row_major (dims_of m) c ≡ Some node → (node_coords m node ≡ c) × (node < nodes_of m)

-- so it is on each machine
abbrev pub NumbersFollowCoordinates : Type 0
NumbersFollowCoordinates = (m : MachineView) → HasNumbers m
