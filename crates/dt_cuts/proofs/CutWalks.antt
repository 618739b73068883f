-- Walked accesses stay those of leaves below their loops after a cut.
use Rattle.std.proofs.Common.{◌≡◌, ℕ, zero, suc, Bool, true, false, List, [], ◌∷◌, Option, Some, None, length, sym, ap, ◌∙◌, subst}
use Rattle.std.specs.Prelude.{if◌then◌else◌, nat_eq}
use Rattle.std.specs.List.{Contains}
use Rattle.dt_model.specs.declared.stmt.Access.{Access}
use Rattle.dt_nest.specs.declared.loops.Walk.{Walk}
use Rattle.dt_nest.specs.Tree.{Tree, Loop, Pre, Leaf, accesses_of}
use Rattle.dt_nest.specs.Lawful.{WalkAppears, WalksAppear}
use Rattle.dt_cuts.specs.declared.cuts.Head.{Head}
use Rattle.dt_cuts.specs.Place.{at_loop, loops_around, without_loops, guarded}
use Rattle.dt_cuts.specs.Cutting.{cut_tree}
use Rattle.dt_cuts.proofs.Bare.{bare, bare_around, bare_without, bare_guarded, bare_at_loop, accesses_bare}

-- a walked access of a tree is one of another with the same leaves but for guards
walk_stays : (walk : Option Walk) (old new : Tree) → bare new ≡ bare old → WalkAppears walk old → WalkAppears walk new
walk_stays None old new e h = tt
walk_stays (Some k) old new e h =
    subst (λ (xs : List Access). Contains xs (record { tensor = k.tensor; vars = k.vars })) (sym (accesses_bare old) ∙ ap accesses_of (sym e) ∙ accesses_bare new) h

walks_around : (hs : List Head) (tree : Tree) → WalksAppear tree → WalksAppear (loops_around hs tree)
walks_around [] tree w = w
walks_around (h ∷ hs) tree w = (tt, walks_around hs tree w)

walks_guarded : (gs : List ℕ) (tree : Tree) → WalksAppear tree → WalksAppear (guarded gs tree)
walks_guarded gs (Loop v n walk body) w = (walk_stays walk body (guarded gs body) (bare_guarded gs body) w.0, walks_guarded gs body w.1)
walks_guarded gs (Pre work pairs producer consumer) w = (walks_guarded gs producer w.0, walks_guarded gs consumer w.1)
walks_guarded gs (Leaf lhs terms guards kernel) w = tt

walks_without : (k : ℕ) (tree : Tree) → WalksAppear tree → WalksAppear (without_loops k tree)
walks_without zero tree w = w
walks_without (suc k) (Loop v n walk body) w = walks_without k body w.1
walks_without (suc k) (Pre work pairs producer consumer) w = w
walks_without (suc k) (Leaf lhs terms guards kernel) w = tt

-- a change at loop v that keeps the leaves and the walks
walks_at_loop : (v : ℕ) (change : ℕ → Option Walk → Tree → Tree) → ((n : ℕ) (walk : Option Walk) (body : Tree) → bare (change n walk body) ≡ bare body)
    → ((n : ℕ) (walk : Option Walk) (body : Tree) → WalksAppear body → WalksAppear (change n walk body)) → (tree : Tree) → WalksAppear tree → WalksAppear (at_loop v change tree)
walks_at_loop v change same there (Loop u n walk body) w = go (nat_eq u v) (walks_at_loop v change same there body w.1)
  where
    go : (b : Bool) → WalksAppear (at_loop v change body) → WalksAppear (if b then change n walk body else Loop u n walk (at_loop v change body))
    go true r = there n walk body w.1
    go false r = (walk_stays walk body (at_loop v change body) (bare_at_loop v change same body) w.0, r)
walks_at_loop v change same there (Pre work pairs producer consumer) w = (walks_at_loop v change same there producer w.0, walks_at_loop v change same there consumer w.1)
walks_at_loop v change same there (Leaf lhs terms guards kernel) w = tt

-- the walked accesses of a cut tree are those of leaves below, if those of the tree are
pub walks_cut : (old heads : List Head) (gs : List ℕ) (tree : Tree) → WalksAppear tree → WalksAppear (cut_tree old heads gs tree)
walks_cut [] heads gs tree w = w
walks_cut (h ∷ hs) heads gs tree w =
    walks_at_loop h.var (λ n walk body. loops_around heads (guarded gs (without_loops (length hs) body)))
    (λ n walk body. bare_around heads (guarded gs (without_loops (length hs) body)) ∙ bare_guarded gs (without_loops (length hs) body) ∙ bare_without (length hs) body)
    (λ n walk body w. walks_around heads (guarded gs (without_loops (length hs) body)) (walks_guarded gs (without_loops (length hs) body) (walks_without (length hs) body w))) tree w
