-- Derivations that name only loops around a tree and new names are values of the environment there.
use Rattle.std.proofs.Common.{◌≡◌, ℕ, ◌<◌, ◌≤◌, Bool, true, false, List, [], ◌∷◌, ◌⊎◌, inl, inr, length, refl, sym, ap, ◌∙◌, arith}
use Rattle.std.specs.Prelude.{if◌then◌else◌, nat_eq}
use Rattle.std.specs.List.{AllByRecursion}
use Rattle.std.proofs.Math.Path.{fun_ext}
use Rattle.std.proofs.lemmas.Bool.{eqb-true, eq-eqb, ne_eqb}
use Rattle.dt_nest.specs.declared.loops.Pair.{Pair}
use Rattle.dt_nest.specs.declared.derivations.Derived.{Derived}
use Rattle.dt_nest.proofs.Each.{all_map}
use Rattle.dt_nest.specs.Tree.{Tree, Loop, Pre, Leaf}
use Rattle.dt_nest.specs.Schedule.{Schedule}
use Rattle.dt_nest.specs.Meaning.{World, Env, bind, derive_of, known, renamed, under}
use Rattle.dt_nest.specs.Lawful.{sources, Loops, also}
use Rattle.dt_nest.proofs.Agree.{derive_agree, also_more}
use Rattle.dt_cuts.proofs.Push.{IsClear}
use Rattle.dt_cuts.specs.Place.{guarded}
use Rattle.dt_cuts.proofs.Standing.{IsPlace, Stands, stands_below, stands_producer, stands_consumer}

-- u is a loop around, or a name past the schedule's
abbrev pub IsOwn : Schedule → Loops → ℕ → Type 0
IsOwn s around u = (around u ≡ true) ⊎ (length s.names ≤ u)

-- the derivations replace loops around, and name those and names past the schedule's
abbrev pub AreOwn : Schedule → Loops → List Derived → Type 0
AreOwn s around new = AllByRecursion (λ d. (around d.var ≡ true) × AllByRecursion (IsOwn s around) (sources d.how)) new

-- so they do below one more loop
own_below : (s : Schedule) (around : Loops) (v : ℕ) (new : List Derived) → AreOwn s around new → AreOwn s (also around v) new
own_below s around v new h =
    all_map (λ d. (around d.var ≡ true) × AllByRecursion (IsOwn s around) (sources d.how)) (λ d. (also around v d.var ≡ true) × AllByRecursion (IsOwn s (also around v)) (sources d.how))
    (λ d k. (also_more around v d.var k.0, all_map (IsOwn s around) (IsOwn s (also around v)) more (sources d.how) k.1)) new h
  where
    more : (u : ℕ) → IsOwn s around u → IsOwn s (also around v) u
    more u (inl a) = inl (also_more around v u a)
    more u (inr l) = inr l

-- such a number has its own name
own_name : (s : Schedule) (ds : List Derived) (around : Loops) (name : Env) → IsPlace s ds around name → (u : ℕ) → IsOwn s around u → name u ≡ u
own_name s ds around name p u (inl a) = p.same u a
own_name s ds around name p u (inr l) = p.past u l

-- and is no loop below
own_apart : (s : Schedule) (around : Loops) (v : ℕ) → around v ≡ false → v < length s.names → (u : ℕ) → IsOwn s around u → nat_eq u v ≡ false
own_apart s around v f b u (inl a) = ne_eqb u v (λ e. let k : around u ≡ around v = ap around e in cc)
own_apart s around v f b u (inr l) = ne_eqb u v (λ e. omega (arith, e))

-- a loop that the derivations neither replace nor name
passes_loop : (w : World) (new : List Derived) (v i : ℕ) (name env : Env) → AllByRecursion (λ d. (nat_eq d.var v ≡ false) × AllByRecursion (λ u. nat_eq (name u) v ≡ false) (sources d.how)) new
    → known w new name (bind env v i) ≡ bind (known w new name env) v i
unfolding known
passes_loop w [] v i name env h = fun_ext (λ z. refl)
passes_loop w (d ∷ new) v i name env h =
    fun_ext (λ z.
    ap (λ (k : Env). if nat_eq z d.var then derive_of w d.how (λ u. k (name u)) else k z) (passes_loop w new v i name env h.1)
    ∙ ap (λ y. if nat_eq z d.var then y else bind (known w new name env) v i z)
    (derive_agree w (λ u. nat_eq (name u) v ≡ false) (λ u. bind (known w new name env) v i (name u)) (λ u. known w new name env (name u)) (λ u e. ap (λ t. if t then i else known w new name env (name u)) e) d.how h.0.1)
    ∙ turn z (nat_eq z d.var) (nat_eq z v) (λ a b. let e = eqb-true z d.var a in let f = eqb-true z v b in let g : nat_eq d.var v ≡ true = eq-eqb d.var v (sym e ∙ f) in let k = h.0.0 in cc))
  where
    turn : (z : ℕ) (a b : Bool) → (a ≡ true → b ≡ true → ⊥)
        → (if a then derive_of w d.how (λ u. known w new name env (name u)) else (if b then i else known w new name env z)) ≡ (if b then i else (if a then derive_of w d.how (λ u. known w new name env (name u)) else known w new name env z))
    turn z true true h = absurd (h refl refl)
    turn z true false h = refl
    turn z false true h = refl
    turn z false false h = refl

-- a producer whose names move nothing that the derivations name
passes_names : (w : World) (new : List Derived) (pairs : List Pair) (name env : Env) → AllByRecursion (λ d. AllByRecursion (λ u. renamed pairs (name u) ≡ name u) (sources d.how)) new
    → known w new (under pairs name) env ≡ known w new name env
unfolding known
passes_names w [] pairs name env h = fun_ext (λ z. refl)
passes_names w (d ∷ new) pairs name env h =
    fun_ext (λ z.
    ap (λ (k : Env). if nat_eq z d.var then derive_of w d.how (λ u. k (under pairs name u)) else k z) (passes_names w new pairs name env h.1)
    ∙ ap (λ y. if nat_eq z d.var then y else known w new name env z)
    (derive_agree w (λ u. renamed pairs (name u) ≡ name u) (λ u. known w new name env (under pairs name u)) (λ u. known w new name env (name u)) (λ u e. ap (known w new name env) e) d.how h.0))

-- Such derivations are values of the environment in a tree.
pub clear_of : (s : Schedule) (w : World) (ds new : List Derived) (tree : Tree) (around : Loops) (name : Env) → Stands s ds tree around name → AreOwn s around new → IsClear w new tree name
clear_of s w ds new (Loop v n walk body) around name t own = (
  (λ env i. passes_loop w new v i name env apart),
  clear_of s w ds new body (also around v) name (stands_below s ds v n walk body around name t) (own_below s around v new own),
)
  where
    apart : AllByRecursion (λ d. (nat_eq d.var v ≡ false) × AllByRecursion (λ u. nat_eq (name u) v ≡ false) (sources d.how)) new
    apart =
        all_map (λ d. (around d.var ≡ true) × AllByRecursion (IsOwn s around) (sources d.how)) (λ d. (nat_eq d.var v ≡ false) × AllByRecursion (λ u. nat_eq (name u) v ≡ false) (sources d.how))
        (λ d k. (
          own_apart s around v t.follows.0 t.named.0 d.var (inl k.0),
          all_map (IsOwn s around) (λ u. nat_eq (name u) v ≡ false) (λ u o. ap (λ z. nat_eq z v) (own_name s ds around name t.place u o) ∙ own_apart s around v t.follows.0 t.named.0 u o) (sources d.how) k.1,
        )) new own
clear_of s w ds new (Pre work pairs producer consumer) around name t own = (
  (λ env. passes_names w new pairs name env same),
  clear_of s w ds new producer around (under pairs name) inside own,
  clear_of s w ds new consumer around name (stands_consumer s ds work pairs producer consumer around name t) own,
)
  where
    inside : Stands s ds producer around (under pairs name)
    inside = stands_producer s ds work pairs producer consumer around name t

    same : AllByRecursion (λ d. AllByRecursion (λ u. renamed pairs (name u) ≡ name u) (sources d.how)) new
    same =
        all_map (λ d. (around d.var ≡ true) × AllByRecursion (IsOwn s around) (sources d.how)) (λ d. AllByRecursion (λ u. renamed pairs (name u) ≡ name u) (sources d.how))
        (λ d k. all_map (IsOwn s around) (λ u. renamed pairs (name u) ≡ name u) (λ u o. own_name s ds around (under pairs name) inside.place u o ∙ sym (own_name s ds around name t.place u o)) (sources d.how) k.1) new own
clear_of s w ds new (Leaf lhs terms guards kernel) around name t own = tt

-- more guards change nothing of it
pub clear_guarded : (w : World) (new : List Derived) (gs : List ℕ) (tree : Tree) (name : Env) → IsClear w new tree name → IsClear w new (guarded gs tree) name
clear_guarded w new gs (Loop v n walk body) name cl = (cl.0, clear_guarded w new gs body name cl.1)
clear_guarded w new gs (Pre work pairs producer consumer) name cl =
    (cl.0, clear_guarded w new gs producer (under pairs name) cl.1, clear_guarded w new gs consumer name cl.2)
clear_guarded w new gs (Leaf lhs terms guards kernel) name cl = tt
