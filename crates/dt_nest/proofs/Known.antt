-- Values of variables that are inside, and what is known of the others.
use Rattle.std.proofs.Common.{◌≡◌, ℕ, ◌+◌, ◌*◌, ◌/◌, ◌%◌, ◌≤◌, Bool, true, false, List, [], ◌∷◌, Option, Some, None, option_map, sum_by, refl, sym, ap, ◌∙◌, subst, arith}
use Rattle.std.specs.Prelude.{max}
use Rattle.std.specs.Prelude.{if◌then◌else◌, MatchBool, nat_eq, nat_lt}
use Rattle.std.specs.List.{AllByRecursion, list_any}
use Rattle.std.proofs.lemmas.Bool.{eqb-true, eq-eqb, ne_eqb, ltb-false}
use Rattle.std.proofs.lemmas.List.Sums.{sum_by-cons}
use Rattle.dt_nest.specs.declared.derivations.Derive.{Derive}
use Rattle.dt_nest.specs.declared.derivations.Derive.TheVariants.{Split, Quotient, Rest, Rotate, Pos}
use Rattle.dt_nest.specs.declared.derivations.Derived.{Derived}
use Rattle.dt_nest.specs.Meaning.{World, Env, derive_of, known}
use Rattle.dt_nest.specs.Lawful.{sources, IsPast, AreOrdered, Loops, Follows, is_split, AreGuarded}
use Rattle.dt_nest.specs.ValueTables.{IsSplitVar}
use Rattle.dt_nest.specs.Values.{bounded, joined, sum_inside, derived_inside, inside}

-- some variable of a split that has a value is not below its extent
pub record Outside (w : World) (ds : List Derived) (around : Loops) (name env : Env) : Type 0 where
  pub var : ℕ
  pub split : IsSplitVar ds var
  pub follows : Follows ds around name var
  pub past : w.extent var ≤ known w ds name env var

sum_some : (val : ℕ → Option ℕ) (f : Env) → ((u x : ℕ) → val u ≡ Some x → f u ≡ x) → (us : List ℕ) (s : Option ℕ) (y : ℕ) → sum_inside val s us ≡ Some y → (a : ℕ) × (s ≡ Some a) × (a + sum_by f us ≡ y)
sum_some val f h [] s y e = (y, e, omega arith)
sum_some val f h (u ∷ us) s y e =
    let r = sum_some val f h us (joined (λ a b. a + b) s (val u)) y e in
    both s (val u) r.0 refl r.1 (omega (arith, r.2, sum_by-cons f u us))
  where
    both : (s x : Option ℕ) (a : ℕ) → x ≡ val u → joined (λ a b. a + b) s x ≡ Some a → a + sum_by f us ≡ y → (a : ℕ) × (s ≡ Some a) × (a + sum_by f (u ∷ us) ≡ y)
    both None x a p q r = absurd (cc)
    both (Some b) None a p q r = absurd (cc)
    both (Some b) (Some x) a p q r = let k : b + x ≡ a = cc in let l : f u ≡ x = h u x (sym p) in (b, refl, omega (arith, k, l, r, sum_by-cons f u us))

bounded_some : (n : ℕ) (o : Option ℕ) (x : ℕ) → bounded n o ≡ Some x → o ≡ Some x
bounded_some n None x e = e
bounded_some n (Some y) x e = go (nat_lt y n) e
  where
    go : (b : Bool) → (if b then Some y else None) ≡ Some x → Some y ≡ Some x
    go true e = e
    go false e = absurd (cc)

joined_some : (f : ℕ → ℕ → ℕ) (a b : Option ℕ) (x : ℕ) → joined f a b ≡ Some x → (p : ℕ) × (q : ℕ) × (a ≡ Some p) × (b ≡ Some q) × (f p q ≡ x)
joined_some f None b x e = absurd (cc)
joined_some f (Some p) None x e = absurd (cc)
joined_some f (Some p) (Some q) x e = (p, q, refl, refl, let r : f p q ≡ x = cc in r)

mapped_some : (f : ℕ → ℕ) (o : Option ℕ) (x : ℕ) → option_map f o ≡ Some x → (y : ℕ) × (o ≡ Some y) × (f y ≡ x)
mapped_some f None x e = absurd (cc)
mapped_some f (Some y) x e = (y, refl, let r : f y ≡ x = cc in r)

derived_known : (w : World) (v : ℕ) (how : Derive) (val : ℕ → Option ℕ) (f : Env) → ((u x : ℕ) → val u ≡ Some x → f u ≡ x) → (x : ℕ) → derived_inside w v how val ≡ Some x → derive_of w how f ≡ x
derived_known w v (Split outer inner factor) val f h x e =
    let j = joined_some (λ x y. x * factor + y) (val outer) (val inner) x (bounded_some (w.extent v) (joined (λ x y. x * factor + y) (val outer) (val inner)) x e) in
    ap (λ (n : ℕ). n * factor + f inner) (h outer j.0 j.2) ∙ ap (λ (n : ℕ). j.0 * factor + n) (h inner j.1 j.3) ∙ j.4
derived_known w v (Quotient fused by) val f h x e = let m = mapped_some (λ n. n / by) (val fused) x e in ap (λ (n : ℕ). n / by) (h fused m.0 m.1) ∙ m.2
derived_known w v (Rest fused by) val f h x e = let m = mapped_some (λ n. n % by) (val fused) x e in ap (λ (n : ℕ). n % by) (h fused m.0 m.1) ∙ m.2
derived_known w v (Rotate base by extent) val f h x e =
    let m = mapped_some (λ n. n % max extent 1) (sum_inside val (val base) by) x e in
    let r = sum_some val f h by (val base) m.0 m.1 in
    ap (λ (n : ℕ). (n + sum_by f by) % max extent 1) (h base r.0 r.1) ∙ ap (λ (n : ℕ). n % max extent 1) r.2 ∙ m.2
derived_known w v (Pos tensor level base) val f h x e = let m = mapped_some (λ n. w.coord tensor level n) (val base) x e in ap (λ (n : ℕ). w.coord tensor level n) (h base m.0 m.1) ∙ m.2

-- a value that is inside is the variable's
pub inside_known : (w : World) (ds : List Derived) (name env : Env) (v x : ℕ) → inside w ds name env v ≡ Some x → known w ds name env v ≡ x
unfolding known inside
inside_known w [] name env v x e = (let r : env v ≡ x = cc in r)
inside_known w (d ∷ ds) name env v x e = go (nat_eq v d.var) (λ u y k. inside_known w ds name env (name u) y k) (λ k. inside_known w ds name env v x k) e
  where
    go : (b : Bool) → ((u y : ℕ) → inside w ds name env (name u) ≡ Some y → known w ds name env (name u) ≡ y) → (inside w ds name env v ≡ Some x → known w ds name env v ≡ x)
        → (if b then derived_inside w d.var d.how (λ u. inside w ds name env (name u)) else inside w ds name env v) ≡ Some x
        → (if b then derive_of w d.how (λ u. known w ds name env (name u)) else known w ds name env v) ≡ x
    go true r s e = derived_known w d.var d.how (λ u. inside w ds name env (name u)) (λ u. known w ds name env (name u)) r x e
    go false r s e = s e

none_source : (P : ℕ → Type 0) (R : Type 0) (val : ℕ → Option ℕ) → ((u : ℕ) → P u → val u ≡ None → R) → (us : List ℕ) (s : Option ℕ) → AllByRecursion P us → sum_inside val s us ≡ None → (s ≡ None → R) → R
none_source P R val h [] s all e k = k e
none_source P R val h (u ∷ us) s all e k = none_source P R val h us (joined (λ a b. a + b) s (val u)) all.1 e (λ j. here s (val u) refl j k)
  where
    here : (s x : Option ℕ) → x ≡ val u → joined (λ a b. a + b) s x ≡ None → (s ≡ None → R) → R
    here None x p j k = k refl
    here (Some a) None p j k = h u all.0 (sym p)
    here (Some a) (Some b) p j k = absurd (cc)

mapped_none : (f : ℕ → ℕ) (o : Option ℕ) → option_map f o ≡ None → o ≡ None
mapped_none f None e = refl
mapped_none f (Some y) e = absurd (cc)

derived_none : (w : World) (v : ℕ) (how : Derive) (val : ℕ → Option ℕ) (f : Env) (P : ℕ → Type 0) (R : Type 0) → ((u : ℕ) → P u → val u ≡ None → R) → ((u x : ℕ) → val u ≡ Some x → f u ≡ x)
    → (is_split how ≡ true → w.extent v ≤ derive_of w how f → R) → AllByRecursion P (sources how) → derived_inside w v how val ≡ None → R
derived_none w v (Split outer inner factor) val f P R out h past all e = go (val outer) (val inner) refl refl e
  where
    over : (p q : ℕ) → val outer ≡ Some p → val inner ≡ Some q → (b : Bool) → (b ≡ false → w.extent v ≤ p * factor + q) → (if b then Some (p * factor + q) else None) ≡ None → R
    over p q i j true k e = absurd (cc)
    over p q i j false k e = let a = h outer p i in let b = h inner q j in past refl (subst (λ (n : ℕ). w.extent v ≤ n) (sym (ap (λ (n : ℕ). n * factor + f inner) a ∙ ap (λ (n : ℕ). p * factor + n) b)) (k refl))

    go : (x y : Option ℕ) → val outer ≡ x → val inner ≡ y → bounded (w.extent v) (joined (λ x y. x * factor + y) x y) ≡ None → R
    go None y i j e = out outer all.0 i
    go (Some p) None i j e = out inner all.1.0 j
    go (Some p) (Some q) i j e = over p q i j (nat_lt (p * factor + q) (w.extent v)) (ltb-false (p * factor + q) (w.extent v)) e
derived_none w v (Quotient fused by) val f P R out h past all e = out fused all.0 (mapped_none (λ n. n / by) (val fused) e)
derived_none w v (Rest fused by) val f P R out h past all e = out fused all.0 (mapped_none (λ n. n % by) (val fused) e)
derived_none w v (Rotate base by extent) val f P R out h past all e =
    none_source P R val out by (val base) all.1 (mapped_none (λ n. n % max extent 1) (sum_inside val (val base) by) e) (λ k. out base all.0 k)
derived_none w v (Pos tensor level base) val f P R out h past all e = out base all.0 (mapped_none (λ n. w.coord tensor level n) (val base) e)

split_apart : (v z : ℕ) (ds : List Derived) → IsPast v ds → IsSplitVar ds z → nat_eq z v ≡ false
split_apart v z [] p s = absurd s
split_apart v z (d ∷ ds) p s = go (nat_eq z d.var) (eqb-true z d.var) s (λ s. split_apart v z ds p.1 s)
  where
    go : (b : Bool) → (b ≡ true → z ≡ d.var) → MatchBool b (is_split d.how ≡ true) (IsSplitVar ds z) → (IsSplitVar ds z → nat_eq z v ≡ false) → nat_eq z v ≡ false
    go true e s r = ne_eqb z v (λ k. let t : nat_eq v d.var ≡ true = eq-eqb v d.var (sym k ∙ e refl) in let f = p.0.0 in absurd (cc))
    go false e s r = r s

-- one more derivation in front
lifted : (w : World) (d : Derived) (ds : List Derived) (around : Loops) (name env : Env) → IsPast d.var ds → Outside w ds around name env → Outside w (d ∷ ds) around name env
unfolding known
lifted w d ds around name env p o =
    let e = split_apart d.var o.var ds p o.split in
    record {
      var = o.var;
      split = subst (λ (b : Bool). MatchBool b (is_split d.how ≡ true) (IsSplitVar ds o.var)) (sym e) o.split;
      follows = subst (λ (b : Bool). MatchBool b (AllByRecursion (λ u. Follows ds around name (name u)) (sources d.how)) (Follows ds around name o.var)) (sym e) o.follows;
      past = subst (λ (b : Bool). w.extent o.var ≤ (if b then derive_of w d.how (λ u. known w ds name env (name u)) else known w ds name env o.var)) (sym e) o.past;
    }

-- a variable that has a value but none inside
pub inside_none : (w : World) (ds : List Derived) (around : Loops) (name env : Env) → AreOrdered ds → (v : ℕ) → Follows ds around name v → inside w ds name env v ≡ None → Outside w ds around name env
unfolding known inside
inside_none w [] around name env o v f e = absurd (cc)
inside_none w (d ∷ ds) around name env o v f e =
    go (nat_eq v d.var) (λ u k n. lifted w d ds around name env o.1 (inside_none w ds around name env o.2 u k n)) f e
  where
    same : nat_eq d.var d.var ≡ true
    same = eq-eqb d.var d.var refl

    go : (b : Bool) → ((u : ℕ) → Follows ds around name u → inside w ds name env u ≡ None → Outside w (d ∷ ds) around name env)
        → MatchBool b (AllByRecursion (λ u. Follows ds around name (name u)) (sources d.how)) (Follows ds around name v)
        → (if b then derived_inside w d.var d.how (λ u. inside w ds name env (name u)) else inside w ds name env v) ≡ None → Outside w (d ∷ ds) around name env
    go true r f e =
        derived_none w d.var d.how (λ u. inside w ds name env (name u)) (λ u. known w ds name env (name u)) (λ u. Follows ds around name (name u)) (Outside w (d ∷ ds) around name env)
        (λ u k n. r (name u) k n) (λ u x k. inside_known w ds name env (name u) x k)
        (λ s l. record {
          var = d.var;
          split = subst (λ (b : Bool). MatchBool b (is_split d.how ≡ true) (IsSplitVar ds d.var)) (sym same) s;
          follows = subst (λ (b : Bool). MatchBool b (AllByRecursion (λ u. Follows ds around name (name u)) (sources d.how)) (Follows ds around name d.var)) (sym same) f;
          past = subst (λ (b : Bool). w.extent d.var ≤ (if b then derive_of w d.how (λ u. known w ds name env (name u)) else known w ds name env d.var)) (sym same) l;
        }) f e
    go false r f e = r v f e

-- a variable of a split that has a value is guarded
pub split_guarded : (ds : List Derived) (guards : List ℕ) (around : Loops) (name : Env) → AreGuarded ds guards around name → (z : ℕ) → IsSplitVar ds z → Follows ds around name z → list_any (λ g. nat_eq (name g) z) guards ≡ true
split_guarded [] guards around name g z s f = absurd s
split_guarded (d ∷ ds) guards around name g z s f = go (nat_eq z d.var) (eqb-true z d.var) s f (λ s f. split_guarded ds guards around name g.1 z s f)
  where
    go : (b : Bool) → (b ≡ true → z ≡ d.var) → MatchBool b (is_split d.how ≡ true) (IsSplitVar ds z) → MatchBool b (AllByRecursion (λ u. Follows ds around name (name u)) (sources d.how)) (Follows ds around name z)
        → (IsSplitVar ds z → Follows ds around name z → list_any (λ g. nat_eq (name g) z) guards ≡ true) → list_any (λ g. nat_eq (name g) z) guards ≡ true
    go true e s f r = subst (λ (k : ℕ). list_any (λ g. nat_eq (name g) k) guards ≡ true) (sym (e refl)) (g.0 s f)
    go false e s f r = r s f
