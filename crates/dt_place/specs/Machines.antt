-- Machines: a grid of nodes.
use Rattle.std.specs.Prelude.{◌≡◌, ℕ, List, [], length, take, Bool, true, ◌&&◌, nat_le, Option, slice_index_or}
use Rattle.std.specs.List.{concat, list_all}
use Rattle.dt_base.specs.Ranges.{assignments}
use Rattle.dt_base.specs.Rows.{product}

-- the dimensions of each level, and the words that a node has room for, where there is a bound
pub record MachineView : Type 0 where
  pub levels : List (List ℕ)
  pub memory : Option ℕ

-- the dimensions of all levels, in order
abbrev pub dims_of : MachineView → List ℕ
dims_of m = concat m.levels

-- how many nodes there are
abbrev pub nodes_of : MachineView → ℕ
nodes_of m = product (dims_of m)

-- a dimension has 1 to 64 coordinates
abbrev pub is_dim : ℕ → Bool
is_dim n = nat_le 1 n && nat_le n 64

-- 1 to 6 dimensions, with at most 64 nodes
abbrev pub are_dims : List ℕ → Bool
are_dims ns = nat_le 1 (length ns) && nat_le (length ns) 6 && list_all is_dim ns && nat_le (product ns) 64

-- at most 3 levels, each with a dimension
abbrev pub are_levels : List (List ℕ) → Bool
are_levels levels = nat_le (length levels) 3 && list_all (λ l. nat_le 1 (length l)) levels && are_dims (concat levels)

-- 1 to 3 levels and 1 to 6 dimensions, none of them 0, with 1 to 64 nodes
abbrev pub IsMachine : MachineView → Type 0
IsMachine m = are_levels m.levels ≡ true

-- the coordinates of a node: nodes are numbered row-major, the first dimension the most significant
abbrev pub node_coords : MachineView → ℕ → List ℕ
node_coords m node = slice_index_or (assignments (dims_of m)) node []

-- a node's group: its coordinates at the first level
abbrev pub group_of : MachineView → ℕ → List ℕ
group_of m node = take (length (slice_index_or m.levels 0 [])) (node_coords m node)
