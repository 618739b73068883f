-- Homes: which words of a tensor a node holds.
use Rattle.std.specs.Prelude.{ℕ, ◌+◌, ◌*◌, List, [], ◌∷◌, length, map, filter, min, Bool, true, false, ◌&&◌, ◌==◌, nat_le, nat_lt, if◌then◌else◌, slice_index}
use Rattle.std.specs.List.{list_all, zip}
use Rattle.dt_base.specs.Ranges.{below}
use Rattle.dt_model.specs.Positions.{StoredTensor, coords_at}
use Rattle.dt_place.specs.Blocks.{block_of, block_size}
use Rattle.dt_place.specs.Machines.{MachineView, dims_of, node_coords, nodes_of}
use Rattle.dt_place.specs.declared.placements.Placement.{Placement}
use Rattle.dt_place.specs.declared.placements.Placement.TheVariants.{FirstNode, ByNames, ByPositions}
use Rattle.dt_place.specs.declared.placements.Symbol.{Symbol}
use Rattle.dt_place.specs.declared.placements.Symbol.TheVariants.{Along, At, Every}
use Rattle.dt_place.specs.declared.sides.Side.{Side}

-- a whole dimension of a tensor
abbrev pub whole_side : ℕ → Side
whole_side n = record { size = n; from = 0; to = n }

-- the piece q of p of a side: the block rule divides the side's size, counts from its first coordinate, and keeps within it
abbrev pub piece_of : Side → ℕ → ℕ → Side
piece_of s p q = record { size = block_size s.size p; from = min s.to (s.from + q * block_size s.size p); to = min s.to (s.from + (q + 1) * block_size s.size p) }

-- whether a symbol cuts the tensor's dimension d
abbrev pub cuts : Symbol → ℕ → Bool
cuts (Along e) d = e == d
cuts (At k) d = false
cuts Every d = false

-- what one dimension of the machine, of n coordinates, leaves of a side at its coordinate q
abbrev pub cut_of : Symbol → ℕ → ℕ → ℕ → Side → Side
cut_of symbol d p q s = if cuts symbol d then piece_of s p q else s

-- what the machine's dimensions leave of a side of dimension d at these coordinates, from the first level to the last
abbrev pub side_of : ℕ → List Symbol → List ℕ → List ℕ → Side → Side
side_of d [] ps qs s = s
side_of d (y ∷ ys) [] qs s = s
side_of d (y ∷ ys) (p ∷ ps) [] s = s
side_of d (y ∷ ys) (p ∷ ps) (q ∷ qs) s = side_of d ys ps qs (cut_of y d p q s)

-- the side of each dimension of a tensor
abbrev pub sides_of : List ℕ → List Symbol → List ℕ → List ℕ → List Side
sides_of extents ys ps qs = map (λ d. side_of d ys ps qs (whole_side (slice_index extents d))) (below (length extents))

-- whether each coordinate lies in its side
abbrev pub lies_in : List Side → List ℕ → Bool
lies_in sides c = list_all (λ p. nat_le p.1.from p.0 && nat_lt p.0 p.1.to) (zip c sides)

-- the positions of a tensor whose coordinates lie in these sides
abbrev pub inside_of : List Side → StoredTensor → List ℕ
inside_of sides t = filter (λ pos. lies_in sides (coords_at t pos)) (below (length t.coords))

-- whether a symbol allows a tensor at this coordinate: a constant is the coordinate
abbrev pub allows : Symbol → ℕ → Bool
allows (Along d) q = true
allows (At k) q = k == q
allows Every q = true

-- whether all symbols do at a node's coordinates
abbrev pub all_allow : List Symbol → List ℕ → Bool
all_allow ys qs = list_all (λ p. allows p.0 p.1) (zip ys qs)

-- whether a position lies in a block
abbrev pub is_in_block : ℕ → ℕ × ℕ → Bool
is_in_block pos block = nat_le block.0 pos && nat_lt pos block.1

-- whether the node is home to the position
abbrev pub is_home_to : Placement → MachineView → StoredTensor → ℕ → ℕ → Bool
is_home_to FirstNode m t node pos = node == 0
is_home_to (ByNames ys) m t node pos = all_allow ys (node_coords m node) && lies_in (sides_of t.extents ys (dims_of m) (node_coords m node)) (coords_at t pos)
is_home_to ByPositions m t node pos = is_in_block pos (block_of (length t.coords) (nodes_of m) node)

-- the home of a tensor on a node: the positions that it is home to, ascending
abbrev pub home_of : Placement → MachineView → StoredTensor → ℕ → List ℕ
home_of placement m t node = filter (is_home_to placement m t node) (below (length t.coords))

-- the homes of a tensor on all nodes, in the nodes' order
abbrev pub homes_on : Placement → MachineView → StoredTensor → List (List ℕ)
homes_on placement m t = map (home_of placement m t) (below (nodes_of m))
