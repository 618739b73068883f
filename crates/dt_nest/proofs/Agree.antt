-- A nest adds the same under loop values that agree where its variables read them.
use Rattle.std.proofs.Common.{◌≡◌, ℕ, ◌+◌, ◌*◌, Bool, true, false, ◌||◌, List, [], ◌∷◌, ◌++◌, Option, Some, None, map, sum_by, refl, ap, ◌∙◌, arith}
use Rattle.std.specs.Prelude.{if◌then◌else◌, MatchBool, nat_eq}
use Rattle.std.specs.List.{AllByRecursion, flat_map}
use Rattle.std.proofs.Math.Path.{fun_ext}
use Rattle.std.proofs.lemmas.Bool.{eqb-true, eq-eqb, or_right}
use Rattle.std.proofs.lemmas.List.Sums.{sum_by-cons}
use Rattle.dt_base.specs.Rows.{product}
use Rattle.dt_model.specs.Value.{sign}
use Rattle.dt_model.specs.declared.stmt.Access.{Access}
use Rattle.dt_model.specs.declared.stmt.Factor.{Factor}
use Rattle.dt_model.specs.declared.stmt.Factor.TheVariants.{Read, Literal}
use Rattle.dt_model.specs.declared.stmt.Term.{Term}
use Rattle.dt_nest.specs.declared.loops.Walk.{Walk}
use Rattle.dt_nest.specs.declared.derivations.Derive.{Derive}
use Rattle.dt_nest.specs.declared.derivations.Derive.TheVariants.{Split, Quotient, Rest, Rotate, Pos}
use Rattle.dt_nest.specs.declared.derivations.Derived.{Derived}
use Rattle.dt_nest.proofs.Each.{all_map}
use Rattle.dt_nest.specs.Tree.{Tree, Loop, Pre, Leaf, factor_accesses, read_accesses}
use Rattle.dt_nest.specs.Meaning.{World, Env, Entries, bind, derive_of, known, val_of, factor_of, term_of, terms_of, guards_hold, leaf_of, take_through, takes, prefix_of, with_work, under, nest_sum}
use Rattle.dt_nest.specs.Lawful.{sources, is_replaced, Loops, also, Follows, take_before, WalkFollows, AllFollow, AreLoops}
use Rattle.dt_nest.proofs.SumLaws.{sum_below_same}

-- Values -----------------------------------------------------------------------------------------------------------------

-- two functions that agree where P holds have the same values there
pub map_agree : (P : ℕ → Type 0) (f g : ℕ → ℕ) → ((u : ℕ) → P u → f u ≡ g u) → (xs : List ℕ) → AllByRecursion P xs → map f xs ≡ map g xs
map_agree P f g h [] e = refl
map_agree P f g h (x ∷ xs) e = let a = h x e.0 in let b = map_agree P f g h xs e.1 in cc

-- and the same sum
pub sum_by_agree : (P : ℕ → Type 0) (f g : ℕ → ℕ) → ((u : ℕ) → P u → f u ≡ g u) → (xs : List ℕ) → AllByRecursion P xs → sum_by f xs ≡ sum_by g xs
sum_by_agree P f g h [] e = refl
sum_by_agree P f g h (x ∷ xs) e =
    let a = h x e.0 in let b = sum_by_agree P f g h xs e.1 in
    omega (arith, sum_by-cons f x xs, sum_by-cons g x xs, a, b)

-- and a derivation gives the same from them
pub derive_agree : (w : World) (P : ℕ → Type 0) (f g : ℕ → ℕ) → ((u : ℕ) → P u → f u ≡ g u) → (d : Derive) → AllByRecursion P (sources d) → derive_of w d f ≡ derive_of w d g
derive_agree w P f g h (Split outer inner factor) e = let a = h outer e.0 in let b = h inner e.1.0 in cc
derive_agree w P f g h (Quotient fused by) e = let a = h fused e.0 in cc
derive_agree w P f g h (Rest fused by) e = let a = h fused e.0 in cc
derive_agree w P f g h (Rotate base by extent) e = let a = h base e.0 in let b = sum_by_agree P f g h by e.1 in cc
derive_agree w P f g h (Pos tensor level base) e = let a = h base e.0 in cc

-- what follows from some loops has one value under environments that agree on them
pub known_agree : (w : World) (ds : List Derived) (around : Loops) (name e1 e2 : Env) → ((u : ℕ) → around u ≡ true → e1 u ≡ e2 u) → (v : ℕ) → Follows ds around name v → known w ds name e1 v ≡ known w ds name e2 v
unfolding known
known_agree w [] around name e1 e2 h v f = h v f
known_agree w (d ∷ ds) around name e1 e2 h v f = go (nat_eq v d.var) (λ u k. known_agree w ds around name e1 e2 h u k) f
  where
    go : (b : Bool) → ((u : ℕ) → Follows ds around name u → known w ds name e1 u ≡ known w ds name e2 u)
        → MatchBool b (AllByRecursion (λ u. Follows ds around name (name u)) (sources d.how)) (Follows ds around name v)
        → (if b then derive_of w d.how (λ u. known w ds name e1 (name u)) else known w ds name e1 v) ≡ (if b then derive_of w d.how (λ u. known w ds name e2 (name u)) else known w ds name e2 v)
    go true r f = derive_agree w (λ u. Follows ds around name (name u)) (λ u. known w ds name e1 (name u)) (λ u. known w ds name e2 (name u)) (λ u k. r (name u) k) d.how f
    go false r f = r v f

-- a loop is one of those around it and itself
pub also_here : (around : Loops) (v : ℕ) → also around v v ≡ true
also_here around v = ap (λ b. b || around v) (eq-eqb v v refl)

-- those around stay so
pub also_more : (around : Loops) (v u : ℕ) → around u ≡ true → also around v u ≡ true
also_more around v u a = or_right (nat_eq u v) (around u) a

-- a loop that was not replaced follows from the loops around that it is one of
pub follows_loop : (ds : List Derived) (around : Loops) (name : Env) (v : ℕ) → is_replaced ds v ≡ false → around v ≡ true → Follows ds around name v
follows_loop [] around name v r a = a
follows_loop (d ∷ ds) around name v r a = go (nat_eq v d.var) r (λ r. follows_loop ds around name v r a)
  where
    go : (b : Bool) → (b || is_replaced ds v) ≡ false → (is_replaced ds v ≡ false → Follows ds around name v)
        → MatchBool b (AllByRecursion (λ u. Follows ds around name (name u)) (sources d.how)) (Follows ds around name v)
    go true r k = absurd (cc)
    go false r k = k r

-- what follows from some loops follows from more
pub follows_more : (ds : List Derived) (around more : Loops) (name : Env) → ((u : ℕ) → around u ≡ true → more u ≡ true) → (v : ℕ) → Follows ds around name v → Follows ds more name v
follows_more [] around more name h v f = h v f
follows_more (d ∷ ds) around more name h v f = go (nat_eq v d.var) (λ u k. follows_more ds around more name h u k) f
  where
    go : (b : Bool) → ((u : ℕ) → Follows ds around name u → Follows ds more name u)
        → MatchBool b (AllByRecursion (λ u. Follows ds around name (name u)) (sources d.how)) (Follows ds around name v)
        → MatchBool b (AllByRecursion (λ u. Follows ds more name (name u)) (sources d.how)) (Follows ds more name v)
    go true r f = all_map (λ u. Follows ds around name (name u)) (λ u. Follows ds more name (name u)) (λ u k. r (name u) k) (sources d.how) f
    go false r f = r v f

-- Leaves and walks ---------------------------------------------------------------------------------------------------------

-- a fact of each element of two lists, one after the other, is one of each element of either
pub all_parts : {X : Type 0} (P : X → Type 0) (xs ys : List X) → AllByRecursion P (xs ++ ys) → AllByRecursion P xs × AllByRecursion P ys
all_parts P [] ys h = (tt, h)
all_parts P (x ∷ xs) ys h = let r = all_parts P xs ys h.1 in ((h.0, r.0), r.1)

-- guards hold under values that agree on them
pub guards_agree : (w : World) (P : ℕ → Type 0) (f g : ℕ → ℕ) → ((u : ℕ) → P u → f u ≡ g u) → (gs : List ℕ) → AllByRecursion P gs → guards_hold w f gs ≡ guards_hold w g gs
guards_agree w P f g h [] e = refl
guards_agree w P f g h (u ∷ gs) e = let a = h u e.0 in let b = guards_agree w P f g h gs e.1 in cc

-- P holds of the variables of a walked access up to the loop
abbrev pub WalkHas : (ℕ → Type 0) → Option Walk → ℕ → Env → Type 0
WalkHas P None v name = Unit {0}
WalkHas P (Some k) v name = AllByRecursion P (prefix_of k v name)

-- P holds of the variables of these accesses
abbrev pub AccessesHave : (ℕ → Type 0) → List Access → Type 0
AccessesHave P accesses = AllByRecursion (λ (a : Access). AllByRecursion P a.vars) accesses

module _ (w : World) (x : Entries) (P : ℕ → Type 0) (f g : ℕ → ℕ) (h : (u : ℕ) → P u → f u ≡ g u) where
  factor_agree : (t : Factor) → AccessesHave P (factor_accesses t) → factor_of x f t ≡ factor_of x g t
  factor_agree (Read a) e = ap (x a.tensor) (map_agree P f g h a.vars e.0)
  factor_agree (Literal n) e = refl

  product_agree : (ts : List Factor) → AccessesHave P (flat_map factor_accesses ts) → product (map (factor_of x f) ts) ≡ product (map (factor_of x g) ts)
  product_agree [] e = refl
  product_agree (t ∷ ts) e =
      let p = all_parts (λ (a : Access). AllByRecursion P a.vars) (factor_accesses t) (flat_map factor_accesses ts) e in
      let a = factor_agree t p.0 in let b = product_agree ts p.1 in cc

  terms_agree : (ts : List Term) → AccessesHave P (read_accesses ts) → terms_of x f ts ≡ terms_of x g ts
  terms_agree [] e = refl
  terms_agree (t ∷ ts) e =
      let p = all_parts (λ (a : Access). AllByRecursion P a.vars) (flat_map factor_accesses t.factors) (read_accesses ts) e in
      let a = ap (λ n. sign t.minus * n) (product_agree t.factors p.0) in let b = terms_agree ts p.1 in
      omega (arith, sum_by-cons (term_of x f) t ts, sum_by-cons (term_of x g) t ts, a, b)

  -- a leaf adds the same under values that agree on its variables
  pub leaf_agree : (lhs : Access) (terms : List Term) (guards : List ℕ) (c : List ℕ) → AccessesHave P (lhs ∷ read_accesses terms) → AllByRecursion P guards → leaf_of w x f lhs terms guards c ≡ leaf_of w x g lhs terms guards c
  leaf_agree lhs terms guards c ea eg =
      let a = map_agree P f g h lhs.vars ea.0 in let b = terms_agree terms ea.1 in let d = guards_agree w P f g h guards eg in cc

  -- a loop takes its value under both
  pub takes_agree : (walk : Option Walk) (v : ℕ) (name : Env) → WalkHas P walk v name → takes w walk v name f ≡ takes w walk v name g
  takes_agree None v name e = refl
  takes_agree (Some k) v name e = ap (w.stored k.tensor) (map_agree P f g h (prefix_of k v name) e)

-- the variables of a walked access up to loop v follow from the loops outside and v
pub walk_follows : (ds : List Derived) (walk : Option Walk) (v : ℕ) (around : Loops) (name : Env) → is_replaced ds v ≡ false → WalkFollows ds walk v around name → WalkHas (λ u. Follows ds (also around v) name (name u)) walk v name
walk_follows ds None v around name r f = tt
walk_follows ds (Some k) v around name r f = through k.vars f.1
  where
    through : (us : List ℕ) → AllByRecursion (λ u. Follows ds around name (name u)) (take_before (λ u. nat_eq (name u) v) us) → AllByRecursion (λ u. Follows ds (also around v) name (name u)) (take_through (λ u. nat_eq (name u) v) us)
    through [] e = tt
    through (u ∷ us) e = go (nat_eq (name u) v) (eqb-true (name u) v) e (λ e. through us e)
      where
        go : (b : Bool) → (b ≡ true → name u ≡ v) → AllByRecursion (λ u. Follows ds around name (name u)) (if b then [] else u ∷ take_before (λ u. nat_eq (name u) v) us)
            → (AllByRecursion (λ u. Follows ds around name (name u)) (take_before (λ u. nat_eq (name u) v) us) → AllByRecursion (λ u. Follows ds (also around v) name (name u)) (take_through (λ u. nat_eq (name u) v) us))
            → AllByRecursion (λ u. Follows ds (also around v) name (name u)) (u ∷ (if b then [] else take_through (λ u. nat_eq (name u) v) us))
        go true q e k = (rw (q refl) (follows_loop ds (also around v) name v r (also_here around v)), tt)
        go false q e k = (follows_more ds around (also around v) name (also_more around v) (name u) e.0, k e.1)

-- Nests --------------------------------------------------------------------------------------------------------------------

-- environments that agree still do so with one more value
pub bind_agree : (around : Loops) (e1 e2 : Env) (v i : ℕ) → ((u : ℕ) → around u ≡ true → e1 u ≡ e2 u) → (u : ℕ) → also around v u ≡ true → bind e1 v i u ≡ bind e2 v i u
bind_agree around e1 e2 v i h u k = go (nat_eq u v) k
  where
    go : (b : Bool) → (b || around u) ≡ true → (if b then i else e1 u) ≡ (if b then i else e2 u)
    go true k = refl
    go false k = h u k

-- a nest adds the same under values that agree on the loops around it
pub nest_agree : (w : World) (ds : List Derived) (tree : Tree) (around : Loops) (name : Env) → AllFollow ds tree around name → AreLoops ds tree → (x : Entries) (e1 e2 : Env) (c : List ℕ) → ((u : ℕ) → around u ≡ true → e1 u ≡ e2 u)
    → nest_sum w ds tree x name e1 c ≡ nest_sum w ds tree x name e2 c
unfolding nest_sum
nest_agree w ds (Loop v n walk body) around name f l x e1 e2 c h =
    sum_below_same n _ _ (λ i k.
    let same = bind_agree around e1 e2 v i h in
    let a = nest_agree w ds body (also around v) name f.3 l.1 x (bind e1 v i) (bind e2 v i) c same in
    let b = takes_agree w x (λ u. Follows ds (also around v) name (name u)) (val_of w ds name (bind e1 v i)) (val_of w ds name (bind e2 v i))
    (λ u q. known_agree w ds (also around v) name (bind e1 v i) (bind e2 v i) same (name u) q) walk v name (walk_follows ds walk v around name l.0 f.2) in
    cc)
nest_agree w ds (Pre work pairs producer consumer) around name f l x e1 e2 c h =
    let p = fun_ext (λ j. nest_agree w ds producer around (under pairs name) f.1 l.0 x e1 e2 j h) in
    ap (λ q. nest_sum w ds consumer (with_work x (w.tensors + work) q) name e1 c) p
    ∙ nest_agree w ds consumer around name f.2 l.1 (with_work x (w.tensors + work) (λ j. nest_sum w ds producer x (under pairs name) e2 j)) e1 e2 c h
nest_agree w ds (Leaf lhs terms guards kernel) around name f l x e1 e2 c h =
    leaf_agree w x (λ u. Follows ds around name (name u)) (val_of w ds name e1) (val_of w ds name e2) (λ u q. known_agree w ds around name e1 e2 h (name u) q) lhs terms guards c f.0 f.1
