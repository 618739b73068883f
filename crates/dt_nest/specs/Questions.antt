-- What is asked of a tree.
use Rattle.std.specs.Prelude.{ℕ, zero, suc, Bool, true, false, not, ◌&&◌, ◌||◌, List, [], ◌∷◌, ◌++◌, Option, Some, None, is_some, if◌then◌else◌, nat_eq}
use Rattle.std.specs.List.{list_any}
use Rattle.dt_nest.specs.Tree.{Tree, Loop, Pre, Leaf, has_loop, is_kernel_leaf, accesses_of}

-- whether v is one of these numbers
abbrev pub is_in : List ℕ → ℕ → Bool
is_in vs v = list_any (nat_eq v) vs

-- whether no number stands twice
abbrev pub all_differ : List ℕ → Bool
all_differ [] = true
all_differ (v ∷ vs) = not (is_in vs v) && all_differ vs

-- whether the tree begins with these loops, the outermost first
abbrev pub begins_with : List ℕ → Tree → Bool
begins_with [] tree = true
begins_with (v ∷ vs) (Loop u n walk body) = nat_eq u v && begins_with vs body
begins_with (v ∷ vs) (Pre work pairs producer consumer) = false
begins_with (v ∷ vs) (Leaf lhs terms guards kernel) = false

-- whether each of these loops but the first is the body of the one before; the first is found as the outermost of its name
abbrev pub chain_from : ℕ → List ℕ → Tree → Bool
chain_from v vs (Loop u n walk body) = if nat_eq u v then begins_with vs body else chain_from v vs body
chain_from v vs (Pre work pairs producer consumer) = chain_from v vs producer || chain_from v vs consumer
chain_from v vs (Leaf lhs terms guards kernel) = false

-- whether these are consecutive loops, each the body of the one before
abbrev pub is_chain : List ℕ → Tree → Bool
is_chain [] tree = true
is_chain (v ∷ vs) tree = chain_from v vs tree

-- those of these loops that stand in the tree, in the tree's order
abbrev pub in_order : List ℕ → Tree → List ℕ
in_order vs (Loop u n walk body) = if is_in vs u then u ∷ in_order vs body else in_order vs body
in_order vs (Pre work pairs producer consumer) = in_order vs producer ++ in_order vs consumer
in_order vs (Leaf lhs terms guards kernel) = []

-- the first of these that isn't at its place from the outside
abbrev pub misplaced : List ℕ → Tree → Option ℕ
misplaced [] tree = None
misplaced (v ∷ vs) (Loop u n walk body) = if nat_eq u v then misplaced vs body else Some v
misplaced (v ∷ vs) (Pre work pairs producer consumer) = Some v
misplaced (v ∷ vs) (Leaf lhs terms guards kernel) = Some v

-- whether v is among the first k loops, outside every precompute node
abbrev pub is_among : ℕ → ℕ → Tree → Bool
is_among zero v tree = false
is_among (suc k) v (Loop u n walk body) = nat_eq u v || is_among k v body
is_among (suc k) v (Pre work pairs producer consumer) = false
is_among (suc k) v (Leaf lhs terms guards kernel) = false

-- whether v is a loop that is walked or substituted
abbrev pub is_fixed : ℕ → Tree → Bool
is_fixed v (Loop u n walk body) = if nat_eq u v then is_some walk || is_kernel_leaf body else is_fixed v body
is_fixed v (Pre work pairs producer consumer) = is_fixed v producer || is_fixed v consumer
is_fixed v (Leaf lhs terms guards kernel) = false

-- the loops around loop v, the outermost first
abbrev pub loops_to : ℕ → Tree → List ℕ
loops_to v (Loop u n walk body) = if nat_eq u v then [] else u ∷ loops_to v body
loops_to v (Pre work pairs producer consumer) = if has_loop v producer then loops_to v producer else loops_to v consumer
loops_to v (Leaf lhs terms guards kernel) = []

-- whether a leaf of the tree accesses the tensor
abbrev pub accesses_tensor : Tree → ℕ → Bool
accesses_tensor tree t = list_any (λ a. nat_eq a.tensor t) (accesses_of tree)
