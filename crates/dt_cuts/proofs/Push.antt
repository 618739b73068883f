-- Derivations at the end of the list are values of the environment.
use Rattle.std.proofs.Common.{◌≡◌, ℕ, ◌+◌, Bool, true, false, ◌||◌, List, [], ◌∷◌, ◌++◌, refl, ap, ◌∙◌}
use Rattle.std.specs.Prelude.{if◌then◌else◌, nat_eq}
use Rattle.std.proofs.Math.Path.{fun_ext}
use Rattle.dt_nest.specs.declared.derivations.Derived.{Derived}
use Rattle.dt_nest.specs.Tree.{Tree, Loop, Pre, Leaf}
use Rattle.dt_nest.specs.Meaning.{World, Env, Entries, bind, derive_of, known, leaf_of, takes, with_work, under, nest_sum}
use Rattle.dt_nest.specs.Lawful.{is_replaced}
use Rattle.dt_nest.proofs.SumLaws.{sum_below_same}

-- later derivations give the earlier ones their values
pub known-append : (w : World) (ds new : List Derived) (name env : Env) → known w (ds ++ new) name env ≡ known w ds name (known w new name env)
unfolding known
known-append w [] new name env = fun_ext (λ v. refl)
known-append w (d ∷ ds) new name env =
    fun_ext (λ v. ap (λ (k : Env). if nat_eq v d.var then derive_of w d.how (λ u. k (name u)) else k v) (known-append w ds new name env))

-- a name that was not replaced has its loop's value
pub known_whole : (w : World) (ds : List Derived) (v : ℕ) → is_replaced ds v ≡ false → (name env : Env) → known w ds name env v ≡ env v
unfolding known
known_whole w [] v h name env = refl
known_whole w (d ∷ ds) v h name env = go (nat_eq v d.var) h (λ r. known_whole w ds v r name env)
  where
    go : (b : Bool) → (b || is_replaced ds v) ≡ false → (is_replaced ds v ≡ false → known w ds name env v ≡ env v)
        → (if b then derive_of w d.how (λ u. known w ds name env (name u)) else known w ds name env v) ≡ env v
    go true h r = absurd (cc)
    go false h r = r h

-- no loop of the tree changes what the derivations give, and no producer's names do
abbrev pub IsClear : World → List Derived → Tree → Env → Type 0
IsClear w new (Loop v n walk body) name =
    ((env : Env) (i : ℕ) → known w new name (bind env v i) ≡ bind (known w new name env) v i) × IsClear w new body name
IsClear w new (Pre work pairs producer consumer) name =
    ((env : Env) → known w new (under pairs name) env ≡ known w new name env) × IsClear w new producer (under pairs name) × IsClear w new consumer name
IsClear w new (Leaf lhs terms guards kernel) name = Unit {0}

-- such derivations are values of the environment
pub nest_push : (w : World) (ds new : List Derived) (tree : Tree) (name : Env) → IsClear w new tree name → (x : Entries) (env : Env) (c : List ℕ) → nest_sum w (ds ++ new) tree x name env c ≡ nest_sum w ds tree x name (known w new name env) c
unfolding nest_sum
nest_push w ds new (Loop v n walk body) name cl x env c =
    sum_below_same n _ _ (λ i k.
    let a = known-append w ds new name (bind env v i) ∙ ap (λ e. known w ds name e) (cl.0 env i) in
    let t = ap (λ (k : Env). takes w walk v name (λ u. k (name u))) a in
    let b = nest_push w ds new body name cl.1 x (bind env v i) c ∙ ap (λ e. nest_sum w ds body x name e c) (cl.0 env i) in
    cc)
nest_push w ds new (Pre work pairs producer consumer) name cl x env c =
    let p = fun_ext (λ j. nest_push w ds new producer (under pairs name) cl.1 x env j ∙ ap (λ e. nest_sum w ds producer x (under pairs name) e j) (cl.0 env)) in
    ap (λ f. nest_sum w (ds ++ new) consumer (with_work x (w.tensors + work) f) name env c) p
    ∙ nest_push w ds new consumer name cl.2 (with_work x (w.tensors + work) (λ j. nest_sum w ds producer x (under pairs name) (known w new name env) j)) env c
nest_push w ds new (Leaf lhs terms guards kernel) name cl x env c =
    ap (λ (k : Env). leaf_of w x (λ u. k (name u)) lhs terms guards c) (known-append w ds new name env)
