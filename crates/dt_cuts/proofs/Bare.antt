-- What is asked of a nest without regard to its loops and guards stays after a cut.
use Rattle.std.proofs.Common.{◌≡◌, ℕ, zero, suc, ◌+◌, Bool, true, false, List, [], ◌∷◌, Option, length, refl, sym, ap, ◌∙◌, arith}
use Rattle.std.specs.Prelude.{if◌then◌else◌, nat_eq}
use Rattle.dt_nest.specs.declared.loops.Walk.{Walk}
use Rattle.dt_nest.specs.declared.loops.Pair.{Pair}
use Rattle.dt_cuts.specs.declared.cuts.Head.{Head}
use Rattle.dt_nest.specs.Tree.{Tree, Loop, Pre, Leaf, leaf_count, accesses_of}
use Rattle.dt_nest.specs.Outputs.{output_of, reads_of, WritesWorks}
use Rattle.dt_nest.specs.Lawful.{nodes_with, WorksStand}
use Rattle.dt_cuts.specs.Place.{at_loop, loops_around, without_loops, guarded}
use Rattle.dt_cuts.specs.Cutting.{cut_tree}

-- a tree without loops and guards
abbrev pub bare : Tree → Tree
bare (Loop v n walk body) = bare body
bare (Pre work pairs p q) = Pre work pairs (bare p) (bare q)
bare (Leaf lhs terms guards kernel) = Leaf lhs terms [] kernel

pub bare_around : (hs : List Head) (tree : Tree) → bare (loops_around hs tree) ≡ bare tree
bare_around [] tree = refl
bare_around (h ∷ hs) tree = bare_around hs tree

pub bare_without : (k : ℕ) (tree : Tree) → bare (without_loops k tree) ≡ bare tree
bare_without zero tree = refl
bare_without (suc k) (Loop v n walk body) = bare_without k body
bare_without (suc k) (Pre work pairs p q) = refl
bare_without (suc k) (Leaf lhs terms guards kernel) = refl

-- both branches are as others are
bare_branches : (work : ℕ) (pairs : List Pair) (p q p2 q2 : Tree) → bare p2 ≡ bare p → bare q2 ≡ bare q → bare (Pre work pairs p2 q2) ≡ bare (Pre work pairs p q)
bare_branches work pairs p q p2 q2 e f = ap (λ (t : Tree). Pre work pairs t (bare q2)) e ∙ ap (λ (t : Tree). Pre work pairs (bare p) t) f

pub bare_guarded : (gs : List ℕ) (tree : Tree) → bare (guarded gs tree) ≡ bare tree
bare_guarded gs (Loop v n walk body) = bare_guarded gs body
bare_guarded gs (Pre work pairs p q) = bare_branches work pairs p q (guarded gs p) (guarded gs q) (bare_guarded gs p) (bare_guarded gs q)
bare_guarded gs (Leaf lhs terms guards kernel) = refl

-- a change at loop v that is as the loop's body
pub bare_at_loop : (v : ℕ) (change : ℕ → Option Walk → Tree → Tree) → ((n : ℕ) (walk : Option Walk) (body : Tree) → bare (change n walk body) ≡ bare body)
    → (tree : Tree) → bare (at_loop v change tree) ≡ bare tree
bare_at_loop v change h (Loop u n walk body) = go (nat_eq u v) (bare_at_loop v change h body)
  where
    go : (b : Bool) → bare (at_loop v change body) ≡ bare body → bare (if b then change n walk body else Loop u n walk (at_loop v change body)) ≡ bare body
    go true r = h n walk body
    go false r = r
bare_at_loop v change h (Pre work pairs p q) =
    bare_branches work pairs p q (at_loop v change p) (at_loop v change q) (bare_at_loop v change h p) (bare_at_loop v change h q)
bare_at_loop v change h (Leaf lhs terms guards kernel) = refl

-- a cut changes loops and guards alone
pub bare_cut : (old heads : List Head) (gs : List ℕ) (tree : Tree) → bare (cut_tree old heads gs tree) ≡ bare tree
bare_cut [] heads gs tree = refl
bare_cut (h ∷ hs) heads gs tree =
    bare_at_loop h.var (λ n walk body. loops_around heads (guarded gs (without_loops (length hs) body)))
    (λ n walk body. bare_around heads (guarded gs (without_loops (length hs) body)) ∙ bare_guarded gs (without_loops (length hs) body) ∙ bare_without (length hs) body) tree

-- What speaks neither of loops nor of guards --------------------------------------------------------------------------

pub leaves_bare : (tree : Tree) → leaf_count (bare tree) ≡ leaf_count tree
leaves_bare (Loop v n walk body) = leaves_bare body
leaves_bare (Pre work pairs p q) = let a = leaves_bare p in let b = leaves_bare q in omega (arith, a, b)
leaves_bare (Leaf lhs terms guards kernel) = refl

pub accesses_bare : (tree : Tree) → accesses_of (bare tree) ≡ accesses_of tree
accesses_bare (Loop v n walk body) = accesses_bare body
accesses_bare (Pre work pairs p q) = let a = accesses_bare p in let b = accesses_bare q in cc
accesses_bare (Leaf lhs terms guards kernel) = refl

pub nodes_bare : (w : ℕ) (tree : Tree) → nodes_with w (bare tree) ≡ nodes_with w tree
nodes_bare w (Loop v n walk body) = nodes_bare w body
nodes_bare w (Pre work pairs p q) = let a = nodes_bare w p in let b = nodes_bare w q in omega (arith, a, b)
nodes_bare w (Leaf lhs terms guards kernel) = refl

pub stand_bare : (n : ℕ) (tree : Tree) (written read : List ℕ) → WorksStand n tree written read → WorksStand n (bare tree) written read
stand_bare n (Loop v m walk body) written read h = stand_bare n body written read h
stand_bare n (Pre work pairs p q) written read h = (stand_bare n p (work ∷ written) read h.0, stand_bare n q written (work ∷ read) h.1)
stand_bare n (Leaf lhs terms guards kernel) written read h = h

pub bare_stand : (n : ℕ) (tree : Tree) (written read : List ℕ) → WorksStand n (bare tree) written read → WorksStand n tree written read
bare_stand n (Loop v m walk body) written read h = bare_stand n body written read h
bare_stand n (Pre work pairs p q) written read h = (bare_stand n p (work ∷ written) read h.0, bare_stand n q written (work ∷ read) h.1)
bare_stand n (Leaf lhs terms guards kernel) written read h = h

-- what the last leaf writes stays without loops
pub output_bare : (tree : Tree) → output_of (bare tree) ≡ output_of tree
output_bare (Loop v m walk body) = output_bare body
output_bare (Pre work pairs p q) = output_bare q
output_bare (Leaf lhs terms guards kernel) = refl

-- so does it that each producer writes its workspace
pub written_bare : (n : ℕ) (tree : Tree) → WritesWorks n tree → WritesWorks n (bare tree)
written_bare n (Loop v m walk body) h = written_bare n body h
written_bare n (Pre work pairs p q) h = (output_bare p ∙ h.0, written_bare n p h.1, written_bare n q h.2)
written_bare n (Leaf lhs terms guards kernel) h = tt

pub bare_written : (n : ℕ) (tree : Tree) → WritesWorks n (bare tree) → WritesWorks n tree
bare_written n (Loop v m walk body) h = bare_written n body h
bare_written n (Pre work pairs p q) h = (sym (output_bare p) ∙ h.0, bare_written n p h.1, bare_written n q h.2)
bare_written n (Leaf lhs terms guards kernel) h = tt

pub reads_bare : (tree : Tree) → reads_of (bare tree) ≡ reads_of tree
reads_bare (Loop v n walk body) = reads_bare body
reads_bare (Pre work pairs p q) = let a = reads_bare p in let b = reads_bare q in cc
reads_bare (Leaf lhs terms guards kernel) = refl

-- After a cut -------------------------------------------------------------------------------------------------------------

module _ (old heads : List Head) (gs : List ℕ) (tree : Tree) where
  -- a cut keeps the accesses,
  pub accesses_cut : accesses_of (cut_tree old heads gs tree) ≡ accesses_of tree
  accesses_cut = sym (accesses_bare (cut_tree old heads gs tree)) ∙ ap accesses_of (bare_cut old heads gs tree) ∙ accesses_bare tree

  -- what is read,
  pub reads_cut : reads_of (cut_tree old heads gs tree) ≡ reads_of tree
  reads_cut = sym (reads_bare (cut_tree old heads gs tree)) ∙ ap reads_of (bare_cut old heads gs tree) ∙ reads_bare tree

  -- and what is written
  pub output_cut : output_of (cut_tree old heads gs tree) ≡ output_of tree
  output_cut = sym (output_bare (cut_tree old heads gs tree)) ∙ ap output_of (bare_cut old heads gs tree) ∙ output_bare tree
