-- The loop at which a tensor is moved.
use Rattle.std.specs.Prelude.{ℕ, zero, suc, List, [], ◌∷◌, Option, None, option_map, find, nat_eq}
use Rattle.std.specs.List.{last_or}
use Rattle.std.specs.Option.{option_or}
use Rattle.dt_nest.specs.declared.parts.Moved.{Moved}
use Rattle.dt_nest.specs.Tree.{Tree, Loop, Pre, Leaf}
use Rattle.dt_nest.specs.Schedule.{Schedule}

-- the first k loops from the outside in
abbrev pub distributed_loops : ℕ → Tree → List ℕ
distributed_loops zero tree = []
distributed_loops (suc k) (Loop v n walk body) = v ∷ distributed_loops k body
distributed_loops (suc k) (Pre work pairs producer consumer) = []
distributed_loops (suc k) (Leaf lhs terms guards kernel) = []

-- the loop at which a communicate moves the tensor
abbrev pub named_loop : List Moved → ℕ → Option ℕ
named_loop moved t = option_map (λ (m : Moved). m.at) (find (λ m. nat_eq m.tensor t) moved)

-- the loop at which a tensor is moved: that of its communicate, else the last distributed loop; None is the root
abbrev pub communicate_loop : Schedule → ℕ → Option ℕ
communicate_loop s t = option_or (named_loop s.moved t) (last_or None (distributed_loops s.distributed s.nest))
