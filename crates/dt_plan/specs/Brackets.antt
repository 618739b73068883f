-- The operations of a statement: named in no order, and as brackets along its nest.
use Rattle.std.specs.Prelude.{ℕ, zero, suc, Bool, true, false, List, [], ◌∷◌, ◌++◌, length, map, filter, if◌then◌else◌, nat_eq}
use Rattle.std.specs.List.{flat_map}
use Rattle.dt_base.specs.Ranges.{below}

-- A statement's nest as far as the list of operations asks: A are the operations, I the pieces of copies and folds.
pub record Outline (A I : Type 0) : Type 0 where
  -- the number of the statement
  pub stmt : ℕ
  -- the number of nodes
  pub nodes : ℕ
  -- the tensors that are moved, ascending, which of them is the left one, and how many loops each one's paths have
  pub tensors : List ℕ
  pub output : ℕ
  pub depth : ℕ → ℕ
  -- how many loops are distributed, how many there are down to the deepest communicate loop, and how many of these are not
  -- distributed
  pub distributed : ℕ
  pub deepest : ℕ
  pub inner : ℕ
  -- the paths of the first loops that some visit extends, the values by which a path becomes a longer one, and its node
  pub paths : ℕ → List (List ℕ)
  pub values : List ℕ → List ℕ
  pub node : List ℕ → ℕ
  -- the zero of a node, if any; the pieces that a tensor's copies and folds on a path move
  pub zeros : ℕ → List A
  pub pieces : ℕ → List ℕ → List I
  pub shares : ℕ → List ℕ → List I
  -- the workspaces where a loop is distributed, ascending (where none is, they are among the tensors, with no pieces)
  pub works : List ℕ
  -- the operations: by tensor and path, and of workspaces by node and workspace
  pub work_alloc : ℕ → ℕ → A
  pub work_free : ℕ → ℕ → A
  pub alloc : ℕ → List ℕ → A
  pub free : ℕ → List ℕ → A
  pub copy : ℕ → List ℕ → I → A
  pub fold : ℕ → List ℕ → I → A
  pub task : List ℕ → A

-- Named in no order -----------------------------------------------------------------------------------------------------

-- the left tensor's folds on a path, or another one's copies
abbrev pub pieces_on : {A I : Type 0} → Outline A I → ℕ → List ℕ → List A
pieces_on m t p = if nat_eq t m.output then map (m.fold t p) (m.shares t p) else map (m.copy t p) (m.pieces t p)

-- a tensor on a path: its scratch is opened, its pieces are moved, and it is closed
abbrev pub moves_on : {A I : Type 0} → Outline A I → ℕ → List ℕ → List A
moves_on m t p = m.alloc t p ∷ (pieces_on m t p ++ m.free t p ∷ [])

-- the paths of the distributed loops that are on a node
abbrev pub paths_on : {A I : Type 0} → Outline A I → ℕ → List (List ℕ)
paths_on m n = filter (λ p. nat_eq (m.node p) n) (m.paths m.distributed)

-- whether a list has an element
abbrev pub has_some : {X : Type 0} → List X → Bool
has_some [] = false
has_some (x ∷ xs) = true

-- the nodes that have a task: those with a path of the distributed loops that some visit extends
abbrev pub busy_nodes : {A I : Type 0} → Outline A I → List ℕ
busy_nodes m = filter (λ n. has_some (paths_on m n)) (below m.nodes)

-- a workspace is opened and closed on each node that has a task
abbrev pub works_of : {A I : Type 0} → Outline A I → ℕ → List A
works_of m w = map (λ n. m.work_alloc n w) (busy_nodes m) ++ map (λ n. m.work_free n w) (busy_nodes m)

-- the operations of a statement: zeros, what each tensor's paths and each workspace ask for, and the tasks
abbrev pub named_ops : {A I : Type 0} → Outline A I → List A
named_ops m =
    flat_map m.zeros (below m.nodes)
    ++ ((flat_map (λ t. flat_map (moves_on m t) (m.paths (m.depth t))) m.tensors ++ flat_map (works_of m) m.works) ++ map m.task (m.paths m.deepest))

-- As brackets -----------------------------------------------------------------------------------------------------------

-- the tensors that are moved at the depth of a path
abbrev pub moved_here : {A I : Type 0} → Outline A I → List ℕ → List ℕ
moved_here m p = filter (λ t. nat_eq (m.depth t) (length p)) m.tensors

-- a tensor's copies on a path, unless it is the left one
abbrev pub copies_on : {A I : Type 0} → Outline A I → List ℕ → ℕ → List A
copies_on m p t = if nat_eq t m.output then [] else map (m.copy t p) (m.pieces t p)

-- a tensor's folds on a path, if it is the left one
abbrev pub folds_on : {A I : Type 0} → Outline A I → List ℕ → ℕ → List A
folds_on m p t = if nat_eq t m.output then map (m.fold t p) (m.shares t p) else []

-- what comes before everything deeper: the allocs of these tensors, then their copies
abbrev pub opened : {A I : Type 0} → Outline A I → List ℕ → List A
opened m p = map (λ t. m.alloc t p) (moved_here m p) ++ flat_map (copies_on m p) (moved_here m p)

-- what comes after it: the folds, then the frees
abbrev pub closed : {A I : Type 0} → Outline A I → List ℕ → List A
closed m p = flat_map (folds_on m p) (moved_here m p) ++ map (λ t. m.free t p) (moved_here m p)

-- a path with d more loops down to the task
abbrev pub block : {A I : Type 0} → Outline A I → ℕ → List ℕ → List A
block m zero p = opened m p ++ (m.task p ∷ closed m p)
block m (suc d) p = opened m p ++ (flat_map (λ i. block m d (p ++ i ∷ [])) (m.values p) ++ closed m p)

-- the workspaces that are opened around a node's blocks
abbrev pub works_on : {A I : Type 0} → Outline A I → ℕ → List ℕ
works_on m n = if has_some (paths_on m n) then m.works else []

-- the blocks of a node's paths, in its workspaces
abbrev pub node_ops : {A I : Type 0} → Outline A I → ℕ → List A
node_ops m n = map (m.work_alloc n) (works_on m n) ++ (flat_map (block m m.inner) (paths_on m n) ++ map (m.work_free n) (works_on m n))

-- the zeros by node; then, node by node, the blocks of its paths
abbrev pub brackets : {A I : Type 0} → Outline A I → List A
brackets m = flat_map m.zeros (below m.nodes) ++ flat_map (node_ops m) (below m.nodes)

-- the paths of k more loops below a path
abbrev pub paths_from : {A I : Type 0} → Outline A I → ℕ → List ℕ → List (List ℕ)
paths_from m zero p = p ∷ []
paths_from m (suc k) p = flat_map (λ i. paths_from m k (p ++ (i ∷ []))) (m.values p)

-- whether there is a visit
abbrev pub visited : {A I : Type 0} → Outline A I → Bool
visited m = has_some (m.paths 0)
