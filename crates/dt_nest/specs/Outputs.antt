-- What a nest writes and reads: its left tensor, and its workspaces.
use Rattle.std.specs.Prelude.{◌≡◌, ℕ, ◌+◌, false, List, ◌++◌, nat_eq}
use Rattle.std.specs.List.{list_any}
use Rattle.dt_model.specs.declared.stmt.Access.{Access}
use Rattle.dt_nest.specs.Tree.{Tree, Loop, Pre, Leaf, read_accesses}

-- the tensor or workspace that the last leaf of a tree writes
abbrev pub output_of : Tree → ℕ
output_of (Loop v n walk body) = output_of body
output_of (Pre work pairs producer consumer) = output_of consumer
output_of (Leaf lhs terms guards kernel) = lhs.tensor

-- the accesses that the leaves of a tree read
abbrev pub reads_of : Tree → List Access
reads_of (Loop v n walk body) = reads_of body
reads_of (Pre work pairs producer consumer) = reads_of producer ++ reads_of consumer
reads_of (Leaf lhs terms guards kernel) = read_accesses terms

-- no leaf reads the tensor
abbrev pub IsUnread : ℕ → Tree → Type 0
IsUnread t tree = list_any (λ a. nat_eq a.tensor t) (reads_of tree) ≡ false

-- the last leaf of each producer writes the workspace of its precompute node, where workspaces come after n tensors
abbrev pub WritesWorks : ℕ → Tree → Type 0
WritesWorks n (Loop v m walk body) = WritesWorks n body
WritesWorks n (Pre work pairs producer consumer) = (output_of producer ≡ n + work) × WritesWorks n producer × WritesWorks n consumer
WritesWorks n (Leaf lhs terms guards kernel) = Unit {0}
