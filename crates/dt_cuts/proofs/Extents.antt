-- Extents of further names change nothing of what a nest adds.
use Rattle.std.proofs.Common.{◌≡◌, ℕ, ◌+◌, ◌<◌, ◌&&◌, List, [], ◌∷◌, ◌++◌, Option, Some, None, length, map, refl, ap, ◌∙◌}
use Rattle.std.specs.Prelude.{if◌then◌else◌, nat_eq, nat_lt, slice_index}
use Rattle.std.specs.List.{AllByRecursion}
use Rattle.std.specs.Str.{bytes_eq}
use Rattle.std.proofs.Math.Path.{fun_ext}
use Rattle.std.proofs.lemmas.List.{get_or_append_left}
use Rattle.dt_nest.specs.declared.loops.Walk.{Walk}
use Rattle.dt_nest.specs.declared.derivations.Derive.{Derive}
use Rattle.dt_nest.specs.declared.derivations.Derive.TheVariants.{Split, Quotient, Rest, Rotate, Pos}
use Rattle.dt_nest.specs.declared.derivations.Derived.{Derived}
use Rattle.dt_nest.specs.Tree.{Tree, Loop, Pre, Leaf}
use Rattle.dt_nest.specs.Schedule.{Schedule}
use Rattle.dt_nest.specs.Meaning.{World, Env, Entries, bind, derive_of, known, val_of, terms_of, guards_hold, leaf_of, takes, with_work, under, nest_sum}
use Rattle.dt_nest.specs.Lawful.{IsNamed}
use Rattle.dt_nest.proofs.SumLaws.{sum_below_same}

-- the same world with other extents
abbrev pub with_extents : World → (ℕ → ℕ) → World
with_extents w e = record { coord = w.coord; stored = w.stored; extent = e; tensors = w.tensors }

-- a longer list has the same extents for the names that had one
pub index_more : (xs ys : List ℕ) (u : ℕ) → u < length xs → slice_index (xs ++ ys) u ≡ slice_index xs u
index_more xs ys u h = get_or_append_left xs ys 0 u h

derive_extents : (w : World) (e : ℕ → ℕ) (d : Derive) (f : Env) → derive_of (with_extents w e) d f ≡ derive_of w d f
derive_extents w e (Split outer inner factor) f = refl
derive_extents w e (Quotient fused by) f = refl
derive_extents w e (Rest fused by) f = refl
derive_extents w e (Rotate base by extent) f = refl
derive_extents w e (Pos tensor level base) f = refl

known_extents : (w : World) (e : ℕ → ℕ) (ds : List Derived) (name env : Env) → known (with_extents w e) ds name env ≡ known w ds name env
unfolding known
known_extents w e [] name env = fun_ext (λ v. refl)
known_extents w e (d ∷ ds) name env =
    fun_ext (λ v.
    ap (λ (k : Env). if nat_eq v d.var then derive_of (with_extents w e) d.how (λ u. k (name u)) else k v) (known_extents w e ds name env)
    ∙ ap (λ z. if nat_eq v d.var then z else known w ds name env v) (derive_extents w e d.how (λ u. known w ds name env (name u))))

guards_extents : (w : World) (e : ℕ → ℕ) (k : ℕ) → ((u : ℕ) → u < k → e u ≡ w.extent u) → (val : Env) (gs : List ℕ) → AllByRecursion (λ u. u < k) gs → guards_hold (with_extents w e) val gs ≡ guards_hold w val gs
guards_extents w e k h val [] b = refl
guards_extents w e k h val (g ∷ gs) b =
    ap (λ z. nat_lt (val g) z && guards_hold (with_extents w e) val gs) (h g b.0)
    ∙ ap (λ z. nat_lt (val g) (w.extent g) && z) (guards_extents w e k h val gs b.1)

takes_extents : (w : World) (e : ℕ → ℕ) (walk : Option Walk) (v : ℕ) (name val : Env) → takes (with_extents w e) walk v name val ≡ takes w walk v name val
takes_extents w e None v name val = refl
takes_extents w e (Some k) v name val = refl

-- A nest of the schedule adds the same in worlds that have the same extents for the schedule's names.
pub nest_extents : (s : Schedule) (w : World) (e : ℕ → ℕ) → ((u : ℕ) → u < length s.names → e u ≡ w.extent u) → (ds : List Derived) (tree : Tree) → IsNamed s tree
    → (x : Entries) (name env : Env) (c : List ℕ) → nest_sum (with_extents w e) ds tree x name env c ≡ nest_sum w ds tree x name env c
unfolding nest_sum
nest_extents s w e h ds (Loop v n walk body) b x name env c =
    sum_below_same n _ _ (λ i _.
    let t = takes_extents w e walk v name (val_of (with_extents w e) ds name (bind env v i)) ∙ ap (λ (q : Env). takes w walk v name (λ u. q (name u))) (known_extents w e ds name (bind env v i)) in
    let r = nest_extents s w e h ds body b.3 x name (bind env v i) c in
    ap (λ z. if z then nest_sum (with_extents w e) ds body x name (bind env v i) c else 0) t ∙ ap (λ z. if takes w walk v name (val_of w ds name (bind env v i)) then z else 0) r)
nest_extents s w e h ds (Pre work pairs producer consumer) b x name env c =
    ap (λ f. nest_sum (with_extents w e) ds consumer (with_work x (w.tensors + work) f) name env c) (fun_ext (λ j. nest_extents s w e h ds producer b.2 x (under pairs name) env j))
    ∙ nest_extents s w e h ds consumer b.3 (with_work x (w.tensors + work) (λ j. nest_sum w ds producer x (under pairs name) env j)) name env c
nest_extents s w e h ds (Leaf lhs terms guards kernel) b x name env c =
    ap (λ (q : Env). leaf_of (with_extents w e) x (λ u. q (name u)) lhs terms guards c) (known_extents w e ds name env)
    ∙ ap (λ g. if g && bytes_eq (map (val_of w ds name env) lhs.vars) c then terms_of x (val_of w ds name env) terms else 0) (guards_extents w e (length s.names) h (val_of w ds name env) guards b.1)
