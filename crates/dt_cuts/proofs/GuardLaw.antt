-- A guard on a loop around, asked below, is a test above.
use Rattle.std.proofs.Common.{◌≡◌, ℕ, ◌+◌, Bool, true, false, ◌&&◌, List, [], ◌∷◌, ◌++◌, map, refl, ap, ◌∙◌}
use Rattle.std.specs.Prelude.{if◌then◌else◌, nat_lt}
use Rattle.std.specs.List.{AllByRecursion}
use Rattle.std.specs.Str.{bytes_eq}
use Rattle.std.proofs.Math.Path.{fun_ext}
use Rattle.std.proofs.lemmas.Bool.{ne_eqb}
use Rattle.dt_model.specs.declared.stmt.Access.{Access}
use Rattle.dt_model.specs.declared.stmt.Term.{Term}
use Rattle.dt_nest.specs.declared.derivations.Derived.{Derived}
use Rattle.dt_nest.proofs.Each.{all_map}
use Rattle.dt_nest.specs.Tree.{Tree, Loop, Pre, Leaf}
use Rattle.dt_nest.specs.Schedule.{Schedule}
use Rattle.dt_nest.specs.Meaning.{World, Env, Entries, bind, known, val_of, terms_of, guards_hold, leaf_of, takes, with_work, under, nest_sum}
use Rattle.dt_nest.specs.Lawful.{Loops, also}
use Rattle.dt_nest.specs.Sums.{sum_below}
use Rattle.dt_nest.proofs.SumLaws.{sum_below_same, sum_below_zero}
use Rattle.dt_cuts.specs.Place.{guarded}
use Rattle.dt_nest.proofs.Agree.{guards_agree, also_more}
use Rattle.dt_cuts.proofs.Push.{known_whole}
use Rattle.dt_cuts.proofs.Standing.{Stands, stands_below, stands_producer, stands_consumer}

either_same : (b : Bool) (n : ℕ) → (if b then n else n) ≡ n
either_same true n = refl
either_same false n = refl

-- more guards
guards_hold-append : (w : World) (val : Env) (guards gs : List ℕ) → guards_hold w val (guards ++ gs) ≡ (guards_hold w val gs && guards_hold w val guards)
guards_hold-append w val [] gs = with_true (guards_hold w val gs)
  where
    with_true : (b : Bool) → b ≡ (b && true)
    with_true true = refl
    with_true false = refl
guards_hold-append w val (g ∷ guards) gs =
    ap (λ b. nat_lt (val g) (w.extent g) && b) (guards_hold-append w val guards gs)
    ∙ swaps (nat_lt (val g) (w.extent g)) (guards_hold w val gs) (guards_hold w val guards)
  where
    swaps : (a b c : Bool) → (a && (b && c)) ≡ (b && (a && c))
    swaps true b c = refl
    swaps false true c = refl
    swaps false false c = refl

-- so at a leaf
guarded_leaf : (w : World) (x : Entries) (val : Env) (lhs : Access) (terms : List Term) (guards gs c : List ℕ) (b : Bool) → guards_hold w val gs ≡ b
    → leaf_of w x val lhs terms (guards ++ gs) c ≡ (if b then leaf_of w x val lhs terms guards c else 0)
guarded_leaf w x val lhs terms guards gs c b e =
    ap (λ g. if g && bytes_eq (map val lhs.vars) c then terms_of x val terms else 0) (guards_hold-append w val guards gs)
    ∙ ap (λ a. if (a && guards_hold w val guards) && bytes_eq (map val lhs.vars) c then terms_of x val terms else 0) e
    ∙ by_guards b
  where
    by_guards : (b : Bool) → (if (b && guards_hold w val guards) && bytes_eq (map val lhs.vars) c then terms_of x val terms else 0) ≡ (if b then leaf_of w x val lhs terms guards c else 0)
    by_guards true = refl
    by_guards false = refl

-- With guards on loops around, a nest adds what it adds without them where they hold above, and else nothing.
pub nest_guarded : (s : Schedule) (w : World) (ds : List Derived) (gs : List ℕ) (tree : Tree) (around : Loops) (name : Env) → Stands s ds tree around name → AllByRecursion (λ g. around g ≡ true) gs
    → (x : Entries) (env : Env) (c : List ℕ) (b : Bool) → guards_hold w env gs ≡ b → nest_sum w ds (guarded gs tree) x name env c ≡ (if b then nest_sum w ds tree x name env c else 0)
unfolding nest_sum
nest_guarded s w ds gs (Loop v n walk body) around name t h x env c b e =
    under_sum b (λ i. nest_guarded s w ds gs body (also around v) name (stands_below s ds v n walk body around name t) more x (bind env v i) c b (outside i ∙ e))
  where
    more : AllByRecursion (λ g. also around v g ≡ true) gs
    more = all_map (λ g. around g ≡ true) (λ g. also around v g ≡ true) (also_more around v) gs h

    outside : (i : ℕ) → guards_hold w (bind env v i) gs ≡ guards_hold w env gs
    outside i =
        guards_agree w (λ g. around g ≡ true) (bind env v i) env
        (λ g k. ap (λ p. if p then i else env g) (ne_eqb g v (λ q. let r : around g ≡ around v = ap around q in let f = t.follows.0 in cc))) gs h

    under_sum : (b : Bool) → ((i : ℕ) → nest_sum w ds (guarded gs body) x name (bind env v i) c ≡ (if b then nest_sum w ds body x name (bind env v i) c else 0))
        → sum_below n (λ i. if takes w walk v name (val_of w ds name (bind env v i)) then nest_sum w ds (guarded gs body) x name (bind env v i) c else 0)
        ≡ (if b then sum_below n (λ i. if takes w walk v name (val_of w ds name (bind env v i)) then nest_sum w ds body x name (bind env v i) c else 0) else 0)
    under_sum true r = sum_below_same n _ _ (λ i k. ap (λ z. if takes w walk v name (val_of w ds name (bind env v i)) then z else 0) (r i))
    under_sum false r =
        sum_below_zero n _ (λ i k. ap (λ z. if takes w walk v name (val_of w ds name (bind env v i)) then z else 0) (r i) ∙ either_same (takes w walk v name (val_of w ds name (bind env v i))) 0)
nest_guarded s w ds gs (Pre work pairs producer consumer) around name t h x env c b e =
    under_work b (λ j. nest_guarded s w ds gs producer around (under pairs name) (stands_producer s ds work pairs producer consumer around name t) h x env j b e)
    (λ y. nest_guarded s w ds gs consumer around name (stands_consumer s ds work pairs producer consumer around name t) h y env c b e)
  where
    under_work : (b : Bool) → ((j : List ℕ) → nest_sum w ds (guarded gs producer) x (under pairs name) env j ≡ (if b then nest_sum w ds producer x (under pairs name) env j else 0))
        → ((y : Entries) → nest_sum w ds (guarded gs consumer) y name env c ≡ (if b then nest_sum w ds consumer y name env c else 0))
        → nest_sum w ds (guarded gs consumer) (with_work x (w.tensors + work) (λ j. nest_sum w ds (guarded gs producer) x (under pairs name) env j)) name env c
        ≡ (if b then nest_sum w ds consumer (with_work x (w.tensors + work) (λ j. nest_sum w ds producer x (under pairs name) env j)) name env c else 0)
    under_work true p q =
        ap (λ f. nest_sum w ds (guarded gs consumer) (with_work x (w.tensors + work) f) name env c) (fun_ext p)
        ∙ q (with_work x (w.tensors + work) (λ j. nest_sum w ds producer x (under pairs name) env j))
    under_work false p q = q (with_work x (w.tensors + work) (λ j. nest_sum w ds (guarded gs producer) x (under pairs name) env j))
nest_guarded s w ds gs (Leaf lhs terms guards kernel) around name t h x env c b e =
    guarded_leaf w x (val_of w ds name env) lhs terms guards gs c b
    (guards_agree w (λ g. around g ≡ true) (val_of w ds name env) env (λ g k. ap (known w ds name env) (t.place.same g k) ∙ known_whole w ds g (t.place.whole g k) name env) gs h ∙ e)
