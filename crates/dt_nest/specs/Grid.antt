-- The machine's dimensions as loops of a schedule.
use Rattle.std.specs.Prelude.{◌≡◌, ◌⊎◌, ℕ, zero, suc, List, [], ◌∷◌}
use Rattle.dt_nest.specs.Tree.{Tree, Loop, Pre, Leaf}
use Rattle.dt_nest.specs.Schedule.{Schedule}

-- the extents of the first k loops, from the outside in
abbrev pub outer_extents : ℕ → Tree → List ℕ
outer_extents zero tree = []
outer_extents (suc k) (Loop v n walk body) = n ∷ outer_extents k body
outer_extents (suc k) (Pre work pairs producer consumer) = []
outer_extents (suc k) (Leaf lhs terms guards kernel) = []

-- No loop is distributed, or one for each of the machine's dimensions, in their order, with as many values as the dimension
-- has nodes.
abbrev pub IsOnGrid : List ℕ → Schedule → Type 0
IsOnGrid dims s = (s.distributed ≡ 0) ⊎ (outer_extents s.distributed s.nest ≡ dims)
