-- The names of a schedule's loops, tensors and workspaces, by number.
use Rattle.std.specs.Prelude.{ℕ, List, [], ◌++◌, map, slice_index_or}
use Rattle.dt_nest.specs.Schedule.{Schedule}

-- the name of a loop or variable
abbrev pub name_of : Schedule → ℕ → List ℕ
name_of s v = slice_index_or s.names v []

-- the name of a tensor, or of a workspace, whose numbers come after all tensors
abbrev pub tensor_name : Schedule → ℕ → List ℕ
tensor_name s t = slice_index_or (s.tensors ++ map (λ w. w.name) s.works) t []

-- the name of a workspace
abbrev pub work_name : Schedule → ℕ → List ℕ
work_name s w = slice_index_or (map (λ w. w.name) s.works) w []
