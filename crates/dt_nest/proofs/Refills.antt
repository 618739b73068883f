-- Lists with the values of all variables stay right where only the values that follow from the loops that turned are made
-- anew.
use Rattle.std.proofs.Common.{◌≡◌, ℕ, zero, suc, ◌+◌, ◌*◌, ◌/◌, ◌%◌, ◌<◌, Bool, true, false, ◌||◌, List, [], ◌∷◌, ◌++◌, length, take, Option, Some, option_map, refl, sym, ap, ◌∙◌, subst, arith, get_or}
use Rattle.std.specs.Prelude.{if◌then◌else◌, max, nat_eq, slice_index}
use Rattle.std.specs.List.{AllByRecursion, list_any}
use Rattle.std.proofs.Math.ListN.{set, length-set}
use Rattle.std.proofs.lemmas.Bool.{eqb-true, eq-eqb}
use Rattle.std.proofs.lemmas.List.{get_or-set_other, get_or-set_same}
use Rattle.dt_nest.specs.declared.derivations.Derive.{Derive}
use Rattle.dt_nest.specs.declared.derivations.Derive.TheVariants.{Split, Quotient, Rest, Rotate, Pos}
use Rattle.dt_nest.specs.declared.derivations.Derived.{Derived}
use Rattle.dt_nest.specs.declared.inner_loops.InnerLoop.{InnerLoop}
use Rattle.dt_nest.specs.InnerLoops.{is_inner_loop}
use Rattle.dt_nest.specs.Meaning.{World}
use Rattle.dt_nest.specs.Lawful.{AreOrdered, IsPast, is_replaced, sources}
use Rattle.dt_nest.specs.Values.{bounded, derived_inside, inside, joined, sum_inside}
use Rattle.dt_nest.specs.ValueTables.{IsTable, dependents, depends, refilled, tabled}
use Rattle.dt_nest.proofs.Each.{all_append, all_map}
use Rattle.dt_nest.proofs.TableFacts.{by_number, loops_follow}

-- the values of what a derivation names decide its value ------------------------------------------------------------------

sum_agree : (val other : ℕ → Option ℕ) (us : List ℕ) (start : Option ℕ) → AllByRecursion (λ u. val u ≡ other u) us → sum_inside val start us ≡ sum_inside other start us
sum_agree val other [] start a = refl
sum_agree val other (u ∷ us) start a =
    ap (λ (x : Option ℕ). sum_inside val (joined (λ x y. x + y) start x) us) a.0 ∙ sum_agree val other us (joined (λ x y. x + y) start (other u)) a.1

derived_agree : (w : World) (v : ℕ) (how : Derive) (val other : ℕ → Option ℕ) → AllByRecursion (λ u. val u ≡ other u) (sources how) → derived_inside w v how val ≡ derived_inside w v how other
derived_agree w v (Split outer inner factor) val other a =
    ap (λ (x : Option ℕ). bounded (w.extent v) (joined (λ x y. x * factor + y) x (val inner))) a.0 ∙ ap (λ (y : Option ℕ). bounded (w.extent v) (joined (λ x y. x * factor + y) (other outer) y)) a.1.0
derived_agree w v (Quotient fused by) val other a = ap (option_map (λ x. x / by)) a.0
derived_agree w v (Rest fused by) val other a = ap (option_map (λ x. x % by)) a.0
derived_agree w v (Rotate base by extent) val other a =
    ap (option_map (λ x. x % max extent 1)) (ap (λ (x : Option ℕ). sum_inside val x by) a.0 ∙ sum_agree val other by (other base) a.1)
derived_agree w v (Pos tensor level base) val other a = ap (option_map (λ x. w.coord tensor level x)) a.0

-- Values that don't follow from the loops stay ------------------------------------------------------------------------------

-- what holds of no element of a list holds of none of them
none_of : (p : ℕ → Bool) (us : List ℕ) → list_any p us ≡ false → AllByRecursion (λ u. p u ≡ false) us
none_of p [] e = tt
none_of p (u ∷ us) e = go (p u) refl e (none_of p us)
  where
    go : (b : Bool) → p u ≡ b → (b || list_any p us) ≡ false → (list_any p us ≡ false → AllByRecursion (λ u. p u ≡ false) us) → (p u ≡ false) × AllByRecursion (λ u. p u ≡ false) us
    go true k e r = absurd (cc)
    go false k e r = (k, r e)

-- two facts of each element are one
both_of : (P Q : ℕ → Type 0) (us : List ℕ) → AllByRecursion P us → AllByRecursion Q us → AllByRecursion (λ u. P u × Q u) us
both_of P Q [] a b = tt
both_of P Q (u ∷ us) a b = ((a.0, b.0), both_of P Q us a.1 b.1)

-- later derivations don't name an earlier variable
named_past : (v n : ℕ) (P : ℕ → Type 0) (es : List Derived) → IsPast v es → AllByRecursion (λ d. (d.var < n) × AllByRecursion P (sources d.how)) es
    → AllByRecursion (λ d. (d.var < n) × AllByRecursion (λ u. P u × (nat_eq u v ≡ false)) (sources d.how)) es
named_past v n P [] k a = tt
named_past v n P (e ∷ es) k a = ((a.0.0, both_of P (λ u. nat_eq u v ≡ false) (sources e.how) a.0.1 k.0.1), named_past v n P es k.1 a.1)

-- and don't replace it
not_here : (v : ℕ) (es : List Derived) → IsPast v es → (u : ℕ) → is_replaced es u ≡ true → nat_eq u v ≡ false
not_here v [] k u e = absurd (cc)
not_here v (x ∷ es) k u e = at (nat_eq u x.var) (eqb-true u x.var) e (not_here v es k.1 u)
  where
    at : (b : Bool) → (b ≡ true → u ≡ x.var) → (b || is_replaced es u) ≡ true → (is_replaced es u ≡ true → nat_eq u v ≡ false) → nat_eq u v ≡ false
    at true q e r = by_number u v (nat_eq u v ≡ false) (λ s. let f : nat_eq v x.var ≡ true = eq-eqb v x.var (sym s ∙ q refl) in let h = k.0.0 in absurd (cc)) (λ f n. f)
    at false q e r = r e

module _ (w : World) (old new : List ℕ) (turned : ℕ → Bool) (stay : (u : ℕ) → turned u ≡ false → slice_index new u ≡ slice_index old u) where
  stays : (ds : List Derived) (u : ℕ) → depends ds turned u ≡ false → inside w ds (λ u. u) (slice_index new) u ≡ inside w ds (λ u. u) (slice_index old) u
  unfolding inside
  stays [] u e = ap Some (stay u e)
  stays (d ∷ ds) u e = go (nat_eq u d.var) e (stays ds)
    where
      go : (b : Bool) → (if b then list_any (depends ds turned) (sources d.how) else depends ds turned u) ≡ false
          → ((u : ℕ) → depends ds turned u ≡ false → inside w ds (λ u. u) (slice_index new) u ≡ inside w ds (λ u. u) (slice_index old) u)
          → (if b then derived_inside w d.var d.how (λ u. inside w ds (λ u. u) (slice_index new) u) else inside w ds (λ u. u) (slice_index new) u)
          ≡ (if b then derived_inside w d.var d.how (λ u. inside w ds (λ u. u) (slice_index old) u) else inside w ds (λ u. u) (slice_index old) u)
      go true e h =
          derived_agree w d.var d.how (λ u. inside w ds (λ u. u) (slice_index new) u) (λ u. inside w ds (λ u. u) (slice_index old) u)
          (all_map (λ u. depends ds turned u ≡ false) (λ u. inside w ds (λ u. u) (slice_index new) u ≡ inside w ds (λ u. u) (slice_index old) u) h (sources d.how) (none_of (depends ds turned) (sources d.how) e))
      go false e h = h u e

  -- Making the values that follow ---------------------------------------------------------------------------------------------

  refilled-append : (xs ys : List Derived) (values : List (Option ℕ)) → refilled w (xs ++ ys) values ≡ refilled w ys (refilled w xs values)
  refilled-append [] ys values = refl
  refilled-append (d ∷ xs) ys values = refilled-append xs ys (set values d.var (derived_inside w d.var d.how (tabled values)))

  length-refilled : (ds : List Derived) (values : List (Option ℕ)) → length (refilled w ds values) ≡ length values
  length-refilled [] values = refl
  length-refilled (d ∷ ds) values = length-refilled ds (set values d.var (derived_inside w d.var d.how (tabled values))) ∙ length-set values d.var (derived_inside w d.var d.how (tabled values))

  -- values of variables that aren't made anew
  apart : (ds : List Derived) (values : List (Option ℕ)) (v : ℕ) → IsPast v ds → tabled (refilled w (dependents ds turned) values) v ≡ tabled values v
  apart [] values v p = refl
  apart (d ∷ ds) values v p = go (list_any (depends ds turned) (sources d.how)) (apart ds values v p.1)
    where
      go : (b : Bool) → tabled (refilled w (dependents ds turned) values) v ≡ tabled values v → tabled (refilled w (dependents ds turned ++ (if b then d ∷ [] else [])) values) v ≡ tabled values v
      go true h =
          ap (λ (l : List (Option ℕ)). tabled l v) (refilled-append (dependents ds turned) (d ∷ []) values)
          ∙ get_or-set_other (refilled w (dependents ds turned) values) d.var v (derived_inside w d.var d.how (tabled (refilled w (dependents ds turned) values))) (Some 0)
          (λ e. let t : nat_eq v d.var ≡ true = eq-eqb v d.var e in let f = p.0.0 in absurd (cc))
          ∙ h
      go false h = ap (λ (l : List (Option ℕ)). tabled l v) (refilled-append (dependents ds turned) [] values) ∙ h

  -- one more derivation
  refill_one : (d : Derived) (ds : List Derived) (P : ℕ → Type 0) (values : List (Option ℕ)) → AreOrdered (d ∷ ds) → AllByRecursion (λ d. (d.var < length values) × AllByRecursion P (sources d.how)) (d ∷ ds)
      → ((u : ℕ) → is_replaced (d ∷ ds) u ≡ true → tabled values u ≡ inside w (d ∷ ds) (λ u. u) (slice_index old) u)
      → ((u : ℕ) → P u × (nat_eq u d.var ≡ false) → tabled (refilled w (dependents ds turned) values) u ≡ inside w ds (λ u. u) (slice_index new) u)
      → (u : ℕ) → P u → tabled (refilled w (dependents (d ∷ ds) turned) values) u ≡ inside w (d ∷ ds) (λ u. u) (slice_index new) u
  unfolding inside
  refill_one d ds P values o n r rest u p = go (list_any (depends ds turned) (sources d.how)) refl
    where
      here : nat_eq d.var d.var ≡ true
      here = eq-eqb d.var d.var refl

      now : Option ℕ
      now = derived_inside w d.var d.how (λ u. inside w ds (λ u. u) (slice_index new) u)

      new_value : Option ℕ
      new_value = derived_inside w d.var d.how (tabled (refilled w (dependents ds turned) values))

      made : new_value ≡ now
      made = derived_agree w d.var d.how (tabled (refilled w (dependents ds turned) values)) (λ u. inside w ds (λ u. u) (slice_index new) u)
          (all_map (λ u. P u × (nat_eq u d.var ≡ false)) (λ u. tabled (refilled w (dependents ds turned) values) u ≡ inside w ds (λ u. u) (slice_index new) u) rest (sources d.how)
          (both_of P (λ u. nat_eq u d.var ≡ false) (sources d.how) n.0.1 o.0))

      kept : list_any (depends ds turned) (sources d.how) ≡ false → tabled (refilled w (dependents ds turned) values) d.var ≡ now
      kept e =
          apart ds values d.var o.1
          ∙ r d.var (ap (λ (b : Bool). b || is_replaced ds d.var) here)
          ∙ ap (λ (b : Bool). if b then derived_inside w d.var d.how (λ u. inside w ds (λ u. u) (slice_index old) u) else inside w ds (λ u. u) (slice_index old) d.var) here
          ∙ derived_agree w d.var d.how (λ u. inside w ds (λ u. u) (slice_index old) u) (λ u. inside w ds (λ u. u) (slice_index new) u)
          (all_map (λ u. depends ds turned u ≡ false) (λ u. inside w ds (λ u. u) (slice_index old) u ≡ inside w ds (λ u. u) (slice_index new) u) (λ u k. sym (stays ds u k)) (sources d.how) (none_of (depends ds turned) (sources d.how) e))

      within : d.var < length (refilled w (dependents ds turned) values)
      within = subst (λ (m : ℕ). d.var < m) (sym (length-refilled (dependents ds turned) values)) n.0.0

      go : (b : Bool) → list_any (depends ds turned) (sources d.how) ≡ b
          → tabled (refilled w (dependents ds turned ++ (if b then d ∷ [] else [])) values) u ≡ (if nat_eq u d.var then now else inside w ds (λ u. u) (slice_index new) u)
      go true e =
          ap (λ (l : List (Option ℕ)). tabled l u) (refilled-append (dependents ds turned) (d ∷ []) values)
          ∙ by_number u d.var (tabled (set (refilled w (dependents ds turned) values) d.var new_value) u ≡ (if nat_eq u d.var then now else inside w ds (λ u. u) (slice_index new) u))
          (λ q. ap (λ (v : ℕ). tabled (set (refilled w (dependents ds turned) values) d.var new_value) v) q ∙ get_or-set_same (refilled w (dependents ds turned) values) d.var new_value (Some 0) within ∙ made
          ∙ ap (λ (b : Bool). if b then now else inside w ds (λ u. u) (slice_index new) u) (sym (eq-eqb u d.var q)))
          (λ k m. get_or-set_other (refilled w (dependents ds turned) values) d.var u new_value (Some 0) m ∙ rest u (p, k)
          ∙ ap (λ (b : Bool). if b then now else inside w ds (λ u. u) (slice_index new) u) (sym k))
      go false e =
          ap (λ (l : List (Option ℕ)). tabled l u) (refilled-append (dependents ds turned) [] values)
          ∙ by_number u d.var (tabled (refilled w (dependents ds turned) values) u ≡ (if nat_eq u d.var then now else inside w ds (λ u. u) (slice_index new) u))
          (λ q. ap (λ (v : ℕ). tabled (refilled w (dependents ds turned) values) v) q ∙ kept e ∙ ap (λ (b : Bool). if b then now else inside w ds (λ u. u) (slice_index new) u) (sym (eq-eqb u d.var q)))
          (λ k m. rest u (p, k) ∙ ap (λ (b : Bool). if b then now else inside w ds (λ u. u) (slice_index new) u) (sym k))

  -- Where the loops have the values in the new slots, and other variables those of the old ones, all have the new ones
  -- afterwards. `P` are the variables that aren't replaced by an earlier derivation.
  refills : (ds : List Derived) (P : ℕ → Type 0) (values : List (Option ℕ)) → AreOrdered ds → AllByRecursion (λ d. (d.var < length values) × AllByRecursion P (sources d.how)) ds
      → ((u : ℕ) → is_replaced ds u ≡ true → tabled values u ≡ inside w ds (λ u. u) (slice_index old) u)
      → ((u : ℕ) → P u → is_replaced ds u ≡ false → tabled values u ≡ Some (slice_index new u))
      → (u : ℕ) → P u → tabled (refilled w (dependents ds turned) values) u ≡ inside w ds (λ u. u) (slice_index new) u
  unfolding inside
  refills [] P values o n r l u p = l u p refl
  refills (d ∷ ds) P values o n r l u p =
      refill_one d ds P values o n r
      (refills ds (λ u. P u × (nat_eq u d.var ≡ false)) values o.2 (named_past d.var (length values) P ds o.1 n.1)
      (λ u e. r u (ap (λ (b : Bool). b || is_replaced ds u) (not_here d.var ds o.1 u e) ∙ e)
      ∙ ap (λ (b : Bool). if b then derived_inside w d.var d.how (λ u. inside w ds (λ u. u) (slice_index old) u) else inside w ds (λ u. u) (slice_index old) u) (not_here d.var ds o.1 u e))
      (λ u q e. l u q.0 (ap (λ (b : Bool). b || is_replaced ds u) q.1 ∙ e)))
      u p

  -- all values
  pub refills_all : (ds : List Derived) (values : List (Option ℕ)) → AreOrdered ds → AllByRecursion (λ d. d.var < length values) ds
      → ((u : ℕ) → is_replaced ds u ≡ true → tabled values u ≡ inside w ds (λ u. u) (slice_index old) u)
      → ((u : ℕ) → is_replaced ds u ≡ false → tabled values u ≡ Some (slice_index new u))
      → IsTable w ds (λ u. u) new (refilled w (dependents ds turned) values)
  refills_all ds values o n r l u = refills ds (λ u. Unit {0}) values o (all_map (λ d. d.var < length values) (λ d. (d.var < length values) × AllByRecursion (λ u. Unit {0}) (sources d.how)) (λ d k. (k, every (sources d.how))) ds n) r (λ u p e. l u e) u tt
    where
      every : (us : List ℕ) → AllByRecursion (λ u. Unit {0}) us
      every [] = tt
      every (u ∷ us) = (tt, every us)

-- a loop that turns was not replaced
not_inner_loop : (ds : List Derived) (inner_loops : List InnerLoop) (u : ℕ) → AllByRecursion (λ x. is_replaced ds x.var ≡ false) inner_loops → is_replaced ds u ≡ true → is_inner_loop inner_loops u ≡ false
not_inner_loop ds [] u a e = refl
not_inner_loop ds (x ∷ inner_loops) u a e =
    by_number u x.var (is_inner_loop (x ∷ inner_loops) u ≡ false)
    (λ k. let t : is_replaced ds x.var ≡ true = ap (is_replaced ds) (sym k) ∙ e in let f = a.0 in absurd (cc))
    (λ k n. ap (λ (b : Bool). b || is_inner_loop inner_loops u) k ∙ not_inner_loop ds inner_loops u a.1 e)

-- the values after a step of the inner loops
pub turned_table : (w : World) (ds : List Derived) (old new : List ℕ) (values mid : List (Option ℕ)) (inner_loops : List InnerLoop) (k : ℕ) (list : List Derived) → AreOrdered ds → AllByRecursion (λ d. d.var < length mid) ds
    → AllByRecursion (λ x. is_replaced ds x.var ≡ false) inner_loops → IsTable w ds (λ u. u) old values
    → ((u : ℕ) → is_inner_loop (take (k + 1) inner_loops) u ≡ false → slice_index new u ≡ slice_index old u)
    → ((u : ℕ) → is_inner_loop inner_loops u ≡ false → tabled mid u ≡ tabled values u)
    → ((u : ℕ) → tabled values u ≡ Some (slice_index old u) → tabled mid u ≡ Some (slice_index new u))
    → list ≡ dependents ds (is_inner_loop (take (k + 1) inner_loops)) → IsTable w ds (λ u. u) new (refilled w list mid)
turned_table w ds old new values mid inner_loops k list o n l t stay others follow e =
    subst (λ (x : List Derived). IsTable w ds (λ u. u) new (refilled w x mid)) (sym e)
    (refills_all w old new (is_inner_loop (take (k + 1) inner_loops)) stay ds mid o n (λ u r. others u (not_inner_loop ds inner_loops u l r) ∙ t u) (loops_follow w ds old new values mid t follow))

-- what holds of each derivation holds of those that follow from some loops
pub all_dependents : (P : Derived → Type 0) (ds : List Derived) (loops : ℕ → Bool) → AllByRecursion P ds → AllByRecursion P (dependents ds loops)
all_dependents P [] loops a = tt
all_dependents P (d ∷ ds) loops a = all_append P (dependents ds loops) (if list_any (depends ds loops) (sources d.how) then d ∷ [] else []) (all_dependents P ds loops a.1) (go (list_any (depends ds loops) (sources d.how)))
  where
    go : (b : Bool) → AllByRecursion P (if b then d ∷ [] else [])
    go true = (a.0, tt)
    go false = tt

-- an element of a list doesn't hang on what stands past it
pub get_or_any : {X : Type 0} → (xs : List X) (k : ℕ) (d e : X) → k < length xs → get_or xs k d ≡ get_or xs k e
get_or_any [] k d e l = absurd (omega arith)
get_or_any (x ∷ xs) zero d e l = refl
get_or_any (x ∷ xs) (suc k) d e l = get_or_any xs k d e (omega (arith, l))
