-- A place in a tree: a loop, by its name, and what stands there.
use Rattle.std.specs.Prelude.{ℕ, zero, suc, List, [], ◌∷◌, ◌++◌, ◌-◌, length, take, Option, None, if◌then◌else◌, nat_eq}
use Rattle.dt_nest.specs.declared.loops.Walk.{Walk}
use Rattle.dt_cuts.specs.declared.cuts.Head.{Head}
use Rattle.dt_nest.specs.Tree.{Tree, Loop, Pre, Leaf}

-- the tree with something else at loop v, made from the loop's extent, its walk and its body
abbrev pub at_loop : ℕ → (ℕ → Option Walk → Tree → Tree) → Tree → Tree
at_loop v change (Loop u n walk body) = if nat_eq u v then change n walk body else Loop u n walk (at_loop v change body)
at_loop v change (Pre work pairs producer consumer) = Pre work pairs (at_loop v change producer) (at_loop v change consumer)
at_loop v change (Leaf lhs terms guards kernel) = Leaf lhs terms guards kernel

-- a tree with these loops around it, the outermost first
abbrev pub loops_around : List Head → Tree → Tree
loops_around [] tree = tree
loops_around (h ∷ hs) tree = Loop h.var h.extent None (loops_around hs tree)

-- a tree without its first k loops
abbrev pub without_loops : ℕ → Tree → Tree
without_loops zero tree = tree
without_loops (suc k) (Loop v n walk body) = without_loops k body
without_loops (suc k) (Pre work pairs producer consumer) = Pre work pairs producer consumer
without_loops (suc k) (Leaf lhs terms guards kernel) = Leaf lhs terms guards kernel

-- each leaf with more guards
abbrev pub guarded : List ℕ → Tree → Tree
guarded vs (Loop v n walk body) = Loop v n walk (guarded vs body)
guarded vs (Pre work pairs producer consumer) = Pre work pairs (guarded vs producer) (guarded vs consumer)
guarded vs (Leaf lhs terms guards kernel) = Leaf lhs terms (guards ++ vs) kernel

-- each leaf without its last k guards
abbrev pub bared : ℕ → Tree → Tree
bared k (Loop v n walk body) = Loop v n walk (bared k body)
bared k (Pre work pairs producer consumer) = Pre work pairs (bared k producer) (bared k consumer)
bared k (Leaf lhs terms guards kernel) = Leaf lhs terms (take (length guards - k) guards) kernel

-- another tree inside the first k loops
abbrev pub filled : ℕ → Tree → Tree → Tree
filled zero inner tree = inner
filled (suc k) inner (Loop v n walk body) = Loop v n walk (filled k inner body)
filled (suc k) inner (Pre work pairs producer consumer) = inner
filled (suc k) inner (Leaf lhs terms guards kernel) = inner
