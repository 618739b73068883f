-- Lists with the values of all variables, as they are filled.
use Rattle.std.proofs.Common.{◌≡◌, ℕ, ◌+◌, ◌<◌, ◌≤◌, Bool, true, false, ◌||◌, List, [], ◌∷◌, length, Option, Some, refl, sym, ap, ◌∙◌, subst, arith}
use Rattle.std.specs.Prelude.{if◌then◌else◌, nat_eq, nat_lt, slice_index}
use Rattle.std.specs.List.{list_all}
use Rattle.std.proofs.Math.Path.{fun_ext}
use Rattle.std.proofs.Math.ListN.{set}
use Rattle.std.proofs.lemmas.Bool.{eqb-true, eq-eqb, ltb-true, ltb-false}
use Rattle.std.proofs.lemmas.List.{get_or-set_other, get_or-set_same, get_or_past}
use Rattle.dt_nest.specs.declared.loops.Walk.{Walk}
use Rattle.dt_nest.specs.declared.loops.Pair.{Pair}
use Rattle.dt_nest.specs.declared.derivations.Derived.{Derived}
use Rattle.dt_nest.specs.Meaning.{World, Env, renamed}
use Rattle.dt_nest.specs.Lawful.{is_replaced}
use Rattle.dt_nest.specs.Values.{derived_inside, guard_inside, inside, inside_in, inside_tests, is_below, takes_inside}
use Rattle.dt_nest.specs.ValueTables.{tabled, IsTable}

-- a number that is another one, or not
pub by_number : (u v : ℕ) (P : Type 0) → (u ≡ v → P) → (nat_eq u v ≡ false → (u ≡ v → ⊥) → P) → P
by_number u v P f g = go (nat_eq u v) (eqb-true u v) refl
  where
    go : (b : Bool) → (b ≡ true → u ≡ v) → nat_eq u v ≡ b → P
    go true e k = f (e refl)
    go false e k = g k (λ p. let t : nat_eq u v ≡ true = eq-eqb u v p in absurd (cc))

module _ (slots : List ℕ) (values : List (Option ℕ)) where
  -- a variable with the number in its slot
  pub set_slot : (v u : ℕ) → v < length values → (nat_eq u v ≡ false → tabled values u ≡ Some (slice_index slots u)) → tabled (set values v (Some (slice_index slots v))) u ≡ Some (slice_index slots u)
  set_slot v u l h =
      by_number u v (tabled (set values v (Some (slice_index slots v))) u ≡ Some (slice_index slots u))
      (λ e. subst (λ (x : ℕ). tabled (set values v (Some (slice_index slots v))) x ≡ Some (slice_index slots x)) (sym e) (get_or-set_same values v (Some (slice_index slots v)) (Some 0) l))
      (λ k n. get_or-set_other values v u (Some (slice_index slots v)) (Some 0) n ∙ h k)

  -- one more variable
  pub more_slots : (k : ℕ) → k < length values → ((v : ℕ) → v < k → tabled values v ≡ Some (slice_index slots v)) → (v : ℕ) → v < k + 1 → tabled (set values k (Some (slice_index slots k))) v ≡ Some (slice_index slots v)
  more_slots k l h v b = set_slot k v l (λ e. h v (let n : v ≡ k → ⊥ = (λ p. let t : nat_eq v k ≡ true = eq-eqb v k p in absurd (cc)) in below v k b n))
    where
      below : (v k : ℕ) → v < k + 1 → (v ≡ k → ⊥) → v < k
      below v k b n = go (nat_lt v k) (ltb-true v k) (ltb-false v k)
        where
          go : (t : Bool) → (t ≡ true → v < k) → (t ≡ false → k ≤ v) → v < k
          go true p q = p refl
          go false p q = absurd (n (let r = q refl in omega (arith, r)))

  -- all variables
  pub all_slots : (k : ℕ) → length values ≡ length slots → length values ≤ k → ((v : ℕ) → v < k → tabled values v ≡ Some (slice_index slots v)) → (v : ℕ) → tabled values v ≡ Some (slice_index slots v)
  all_slots k e l h v = go (nat_lt v k) (ltb-true v k) (ltb-false v k)
    where
      go : (t : Bool) → (t ≡ true → v < k) → (t ≡ false → k ≤ v) → tabled values v ≡ Some (slice_index slots v)
      go true p q = h v (p refl)
      go false p q =
          let r = q refl in let a : length values ≤ v = omega (arith, l, r) in let b : length slots ≤ v = omega (arith, a, e) in
          get_or_past values v (Some 0) a ∙ ap Some (sym (get_or_past slots v 0 b))

module _ (w : World) (name : Env) (slots : List ℕ) where
  -- no derivation
  pub table_none : (values : List (Option ℕ)) → ((u : ℕ) → tabled values u ≡ Some (slice_index slots u)) → IsTable w [] name slots values
  unfolding inside
  table_none values h u = h u

  -- one more derivation
  pub table_more : (values : List (Option ℕ)) (d : Derived) (rest ds : List Derived) (x : Option ℕ) → d.var < length values → IsTable w rest name slots values → ds ≡ d ∷ rest → x ≡ derived_inside w d.var d.how (λ u. tabled values (name u)) → IsTable w ds name slots (set values d.var x)
  unfolding inside
  table_more values d rest ds x l h e r u =
      let same : tabled values ≡ inside w rest name (slice_index slots) = fun_ext h in
      ap (λ (y : Option ℕ). tabled (set values d.var y) u) (r ∙ ap (λ (val : ℕ → Option ℕ). derived_inside w d.var d.how (λ u. val (name u))) same)
      ∙ go (nat_eq u d.var) refl (eqb-true u d.var)
      ∙ ap (λ (l : List Derived). inside w l name (slice_index slots) u) (sym e)
    where
      go : (b : Bool) → nat_eq u d.var ≡ b → (b ≡ true → u ≡ d.var)
          → tabled (set values d.var (derived_inside w d.var d.how (λ v. inside w rest name (slice_index slots) (name v)))) u ≡ (if b then derived_inside w d.var d.how (λ v. inside w rest name (slice_index slots) (name v)) else inside w rest name (slice_index slots) u)
      go true k p =
          ap (λ (v : ℕ). tabled (set values d.var (derived_inside w d.var d.how (λ v. inside w rest name (slice_index slots) (name v)))) v) (p refl)
          ∙ get_or-set_same values d.var (derived_inside w d.var d.how (λ v. inside w rest name (slice_index slots) (name v))) (Some 0) l
      go false k p =
          get_or-set_other values d.var u (derived_inside w d.var d.how (λ v. inside w rest name (slice_index slots) (name v))) (Some 0) (λ q. let t : nat_eq u d.var ≡ true = eq-eqb u d.var q in absurd (cc)) ∙ h u

-- a loop that was not replaced has its own value
inside_loop : (w : World) (ds : List Derived) (slots : List ℕ) (u : ℕ) → is_replaced ds u ≡ false → inside_in w ds [] slots u ≡ Some (slice_index slots u)
unfolding inside
inside_loop w [] slots u r = refl
inside_loop w (d ∷ ds) slots u r = go (nat_eq u d.var) r (inside_loop w ds slots u)
  where
    go : (b : Bool) → (b || is_replaced ds u) ≡ false → (is_replaced ds u ≡ false → inside_in w ds [] slots u ≡ Some (slice_index slots u))
        → (if b then derived_inside w d.var d.how (inside_in w ds [] slots) else inside_in w ds [] slots u) ≡ Some (slice_index slots u)
    go true e h = absurd (cc)
    go false e h = h e

-- where loops follow their slots, they still have their own values
pub loops_follow : (w : World) (ds : List Derived) (old new : List ℕ) (values after : List (Option ℕ)) → IsTable w ds (λ u. u) old values
    → ((u : ℕ) → tabled values u ≡ Some (slice_index old u) → tabled after u ≡ Some (slice_index new u)) → (u : ℕ) → is_replaced ds u ≡ false → tabled after u ≡ Some (slice_index new u)
loops_follow w ds old new values after t f u r = f u (t u ∙ inside_loop w ds old u r)

-- guards hold by a table
pub table_holds : (w : World) (ds : List Derived) (slots : List ℕ) (values : List (Option ℕ)) (guards : List ℕ) → IsTable w ds (λ u. u) slots values
    → list_all (λ g. is_below (w.extent g) (tabled values g)) guards ≡ list_all (guard_inside w (inside_in w ds [] slots)) guards
table_holds w ds slots values guards t = ap (λ (val : ℕ → Option ℕ). list_all (guard_inside w val) guards) (fun_ext t)

-- and where names are new
pub table_holds_at : (w : World) (ds : List Derived) (pairs : List Pair) (slots : List ℕ) (values : List (Option ℕ)) (guards : List ℕ) → IsTable w ds (renamed pairs) slots values
    → list_all (λ g. is_below (w.extent g) (tabled values (renamed pairs g))) guards ≡ list_all (guard_inside w (inside_in w ds pairs slots)) guards
table_holds_at w ds pairs slots values guards t = ap (λ (val : ℕ → Option ℕ). list_all (guard_inside w val) guards) (fun_ext (λ u. t (renamed pairs u)))

-- a loop takes its value by a table
pub table_takes : (w : World) (ds : List Derived) (pairs : List Pair) (slots : List ℕ) (values : List (Option ℕ)) (walk : Option Walk) (v : ℕ) → IsTable w ds (renamed pairs) slots values
    → takes_inside w walk v (renamed pairs) (λ u. tabled values (renamed pairs u)) ≡ (inside_tests w ds).takes walk v pairs slots
table_takes w ds pairs slots values walk v t = ap (takes_inside w walk v (renamed pairs)) (fun_ext (λ u. t (renamed pairs u)))
