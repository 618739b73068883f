-- Sums over entries that are equal modulo 2 ^ 64 where they are read.
use Rattle.std.proofs.Common.{◌≡◌, ℕ, zero, suc, ◌+◌, ◌*◌, ◌%◌, ◌^◌, Bool, true, false, ◌&&◌, ◌||◌, not, List, [], ◌∷◌, ◌++◌, map, refl, sym, ap, ◌∙◌, arith}
use Rattle.std.specs.Prelude.{if◌then◌else◌, nat_eq}
use Rattle.std.specs.List.{list_any, flat_map}
use Rattle.std.specs.Str.{bytes_eq}
use Rattle.std.proofs.lemmas.Bool.{eq-eqb, or_left, or_right}
use Rattle.std.proofs.lemmas.Nat.{mul-mod_first, mul-mod_second}
use Rattle.std.proofs.lemmas.List.Sums.{sum_by-cons}
use Rattle.dt_base.specs.Rows.{product}
use Rattle.dt_model.specs.Value.{sign}
use Rattle.dt_model.specs.declared.stmt.Access.{Access}
use Rattle.dt_model.specs.declared.stmt.Factor.{Factor}
use Rattle.dt_model.specs.declared.stmt.Factor.TheVariants.{Read, Literal}
use Rattle.dt_model.specs.declared.stmt.Term.{Term}
use Rattle.dt_nest.specs.declared.derivations.Derived.{Derived}
use Rattle.dt_nest.specs.Tree.{Tree, Loop, Pre, Leaf, factor_accesses, read_accesses}
use Rattle.dt_nest.specs.Sums.{sum_below}
use Rattle.dt_nest.specs.Meaning.{World, Env, Entries, bind, val_of, with_work, factor_of, term_of, terms_of, guards_hold, takes, under, nest_sum}

-- equal modulo 2 ^ 64
pub record Like (a b : ℕ) : Type 0 where
  pub like : a % 2 ^ 64 ≡ b % 2 ^ 64

pub like_same : (a b : ℕ) → a ≡ b → Like a b
like_same a b e = record { like = ap (λ (n : ℕ). n % 2 ^ 64) e }

pub like_sym : (a b : ℕ) → Like a b → Like b a
like_sym a b h = record { like = sym h.like }

pub like_trans : (a b c : ℕ) → Like a b → Like b c → Like a c
like_trans a b c h k = record { like = h.like ∙ k.like }

pub like_add : (a b c d : ℕ) → Like a b → Like c d → Like (a + c) (b + d)
like_add a b c d h k = let p = h.like in let q = k.like in record { like = omega (arith, p, q) }

pub like_mul : (a b c d : ℕ) → Like a b → Like c d → Like (a * c) (b * d)
like_mul a b c d h k = record {
  like = sym (mul-mod_first a c (2 ^ 64)) ∙ ap (λ (n : ℕ). n * c % 2 ^ 64) h.like ∙ mul-mod_first b c (2 ^ 64)
      ∙ sym (mul-mod_second b c (2 ^ 64)) ∙ ap (λ (n : ℕ). b * n % 2 ^ 64) k.like ∙ mul-mod_second b d (2 ^ 64);
}

pub like_below : (n : ℕ) (f g : ℕ → ℕ) → ((i : ℕ) → Like (f i) (g i)) → Like (sum_below n f) (sum_below n g)
unfolding sum_below
like_below zero f g h = like_same 0 0 refl
like_below (suc n) f g h = like_add (sum_below n f) (sum_below n g) (f n) (g n) (like_below n f g h) (h n)

pub like_if : (b : Bool) (p q : ℕ) → Like p q → Like (if b then p else 0) (if b then q else 0)
like_if true p q h = h
like_if false p q h = like_same 0 0 refl

-- whether an access of these is one of the tensor
abbrev pub is_read : ℕ → List Access → Bool
is_read u accesses = list_any (λ a. nat_eq a.tensor u) accesses

-- the entries are alike wherever these accesses read
abbrev pub AlikeAt : Entries → Entries → List Access → Type 0
AlikeAt x y accesses = (u : ℕ) → is_read u accesses ≡ true → (c : List ℕ) → Like (x u c) (y u c)

-- what is read in one of two lists is read in both, one after the other
pub read_first : (u : ℕ) (xs ys : List Access) → is_read u xs ≡ true → is_read u (xs ++ ys) ≡ true
read_first u [] ys e = absurd (cc)
read_first u (x ∷ xs) ys e = go (nat_eq x.tensor u) e (λ e. read_first u xs ys e)
  where
    go : (b : Bool) → (b || is_read u xs) ≡ true → (is_read u xs ≡ true → is_read u (xs ++ ys) ≡ true) → (b || is_read u (xs ++ ys)) ≡ true
    go true e r = refl
    go false e r = r e

pub read_second : (u : ℕ) (xs ys : List Access) → is_read u ys ≡ true → is_read u (xs ++ ys) ≡ true
read_second u [] ys e = e
read_second u (x ∷ xs) ys e = or_right (nat_eq x.tensor u) (is_read u (xs ++ ys)) (read_second u xs ys e)

module _ (x y : Entries) (val : Env) where
  like_factor : (f : Factor) → AlikeAt x y (factor_accesses f) → Like (factor_of x val f) (factor_of y val f)
  like_factor (Read a) h = h a.tensor (or_left (nat_eq a.tensor a.tensor) false (eq-eqb a.tensor a.tensor refl)) (map val a.vars)
  like_factor (Literal n) h = like_same n n refl

  like_factors : (fs : List Factor) → AlikeAt x y (flat_map factor_accesses fs) → Like (product (map (factor_of x val) fs)) (product (map (factor_of y val) fs))
  like_factors [] h = like_same 1 1 refl
  like_factors (f ∷ fs) h =
      like_mul (factor_of x val f) (factor_of y val f) (product (map (factor_of x val) fs)) (product (map (factor_of y val) fs))
      (like_factor f (λ u e. h u (read_first u (factor_accesses f) (flat_map factor_accesses fs) e)))
      (like_factors fs (λ u e. h u (read_second u (factor_accesses f) (flat_map factor_accesses fs) e)))

  -- terms over entries that are alike where they read
  pub like_terms : (terms : List Term) → AlikeAt x y (read_accesses terms) → Like (terms_of x val terms) (terms_of y val terms)
  like_terms [] h = like_same 0 0 refl
  like_terms (t ∷ terms) h =
      let a = like_mul (sign t.minus) (sign t.minus) (product (map (factor_of x val) t.factors)) (product (map (factor_of y val) t.factors)) (like_same (sign t.minus) (sign t.minus) refl)
      (like_factors t.factors (λ u e. h u (read_first u (flat_map factor_accesses t.factors) (read_accesses terms) e))) in
      let b = like_terms terms (λ u e. h u (read_second u (flat_map factor_accesses t.factors) (read_accesses terms) e)) in
      like_trans (terms_of x val (t ∷ terms)) (term_of x val t + terms_of x val terms) (terms_of y val (t ∷ terms)) (like_same (terms_of x val (t ∷ terms)) (term_of x val t + terms_of x val terms) (sum_by-cons (term_of x val) t terms))
      (like_trans (term_of x val t + terms_of x val terms) (term_of y val t + terms_of y val terms) (terms_of y val (t ∷ terms))
      (like_add (term_of x val t) (term_of y val t) (terms_of x val terms) (terms_of y val terms) a b)
      (like_same (term_of y val t + terms_of y val terms) (terms_of y val (t ∷ terms)) (sym (sum_by-cons (term_of y val) t terms))))

-- whether a tree reads a tensor, or a workspace that it doesn't make
abbrev pub reads_free : ℕ → ℕ → Tree → Bool
reads_free n u (Loop v m walk body) = reads_free n u body
reads_free n u (Pre work pairs p q) = reads_free n u p || (not (nat_eq u (n + work)) && reads_free n u q)
reads_free n u (Leaf lhs terms guards kernel) = is_read u (read_accesses terms)

-- the entries are alike wherever a tree reads them
pub record Alike (n : ℕ) (tree : Tree) (x y : Entries) : Type 0 where
  pub alike : (u : ℕ) → reads_free n u tree ≡ true → (c : List ℕ) → Like (x u c) (y u c)

-- a tree's sums over entries that are alike are so
pub nest_sum-like : (w : World) (ds : List Derived) (tree : Tree) (x y : Entries) (name env : Env) → Alike w.tensors tree x y → (c : List ℕ) → Like (nest_sum w ds tree x name env c) (nest_sum w ds tree y name env c)
unfolding nest_sum
nest_sum-like w ds (Loop v n walk body) x y name env h c =
    like_below n (λ i. if takes w walk v name (val_of w ds name (bind env v i)) then nest_sum w ds body x name (bind env v i) c else 0) (λ i. if takes w walk v name (val_of w ds name (bind env v i)) then nest_sum w ds body y name (bind env v i) c else 0)
    (λ i. like_if (takes w walk v name (val_of w ds name (bind env v i))) (nest_sum w ds body x name (bind env v i) c) (nest_sum w ds body y name (bind env v i) c) (nest_sum-like w ds body x y name (bind env v i) (record { alike = h.alike }) c))
nest_sum-like w ds (Pre work pairs p q) x y name env h c =
    let first : (j : List ℕ) → Like (nest_sum w ds p x (under pairs name) env j) (nest_sum w ds p y (under pairs name) env j) =
    λ j. nest_sum-like w ds p x y (under pairs name) env (record { alike = λ u e. h.alike u (or_left (reads_free w.tensors u p) (not (nat_eq u (w.tensors + work)) && reads_free w.tensors u q) e) }) j in
    nest_sum-like w ds q (with_work x (w.tensors + work) (λ j. nest_sum w ds p x (under pairs name) env j)) (with_work y (w.tensors + work) (λ j. nest_sum w ds p y (under pairs name) env j)) name env (record { alike = λ u e d. go u d (nat_eq u (w.tensors + work)) (first d) (λ k. h.alike u k d) e }) c
  where
    go : (u : ℕ) (d : List ℕ) (b : Bool) → Like (nest_sum w ds p x (under pairs name) env d) (nest_sum w ds p y (under pairs name) env d)
        → ((reads_free w.tensors u p || (not b && reads_free w.tensors u q)) ≡ true → Like (x u d) (y u d)) → reads_free w.tensors u q ≡ true
        → Like (if b then nest_sum w ds p x (under pairs name) env d else x u d) (if b then nest_sum w ds p y (under pairs name) env d else y u d)
    go u d true f k e = f
    go u d false f k e = k (or_right (reads_free w.tensors u p) (reads_free w.tensors u q) e)
nest_sum-like w ds (Leaf lhs terms guards kernel) x y name env h c =
    like_if (guards_hold w (val_of w ds name env) guards && bytes_eq (map (val_of w ds name env) lhs.vars) c) (terms_of x (val_of w ds name env) terms) (terms_of y (val_of w ds name env) terms) (like_terms x y (val_of w ds name env) terms h.alike)
