-- What cuts need to know of the numbers of loops, their extents and their values.
use Rattle.std.proofs.Common.{◌≡◌, ℕ, suc, ◌+◌, ◌<◌, ◌≤◌, Bool, true, false, ◌||◌, List, [], ◌∷◌, ◌++◌, length, refl, sym, ap, subst, arith}
use Rattle.std.specs.Prelude.{if◌then◌else◌, nat_eq, nat_le, slice_index}
use Rattle.std.specs.List.{AllByRecursion, IsDistinct}
use Rattle.std.proofs.lemmas.Bool.{eqb-true, eq-eqb, or_left, or_right, le-leb, ne_eqb}
use Rattle.dt_nest.specs.Meaning.{Env, bind}
use Rattle.dt_nest.specs.Lawful.{Loops}
use Rattle.dt_nest.specs.Questions.{is_in}
use Rattle.dt_nest.proofs.Truth.{any_with}
use Rattle.dt_cuts.specs.declared.cuts.Head.{Head}
use Rattle.dt_cuts.specs.Cutting.{is_head}

-- a fact of each of these loops
pub head_fact : (P : ℕ → Type 0) (hs : List Head) → AllByRecursion (λ (h : Head). P h.var) hs → (u : ℕ) → is_head hs u ≡ true → P u
head_fact P hs all u h = any_with (P u) (λ (x : Head). nat_eq u x.var) (λ x. P x.var) (λ x e p. subst P (sym (eqb-true u x.var e)) p) hs h all

-- Numbers of loops --------------------------------------------------------------------------------------------------------

-- a number is itself
pub is_self : (u : ℕ) (b : Bool) → (nat_eq u u || b) ≡ true
is_self u b = or_left (nat_eq u u) b (eq-eqb u u refl)

-- a smaller number is another
pub less_differs : (u k : ℕ) → u < k → nat_eq u k ≡ false
less_differs u k l = ne_eqb u k (λ e. omega arith)

-- so is a greater one
pub more_differs : (k u : ℕ) → u < k → nat_eq k u ≡ false
more_differs k u l = ne_eqb k u (λ e. omega arith)

-- the number of a new loop is not below
pub is_new : (k j : ℕ) → k ≤ j → (b : Bool) → (b || nat_le k j) ≡ true
is_new k j l b = or_right b (nat_le k j) (le-leb k j l)

-- one number differs from all others in its list
pub one_differs : (k : ℕ) → IsDistinct nat_eq (k ∷ [])
unfolding IsDistinct
one_differs k = (tt, tt)

-- what holds of each holds of one that is among them
pub in_all : (P : ℕ → Type 0) (vs : List ℕ) → AllByRecursion P vs → (v : ℕ) → is_in vs v ≡ true → P v
in_all P [] h v e = absurd (cc)
in_all P (u ∷ vs) h v e = go (nat_eq v u) (eqb-true v u) e (λ e. in_all P vs h.1 v e)
  where
    go : (b : Bool) → (b ≡ true → v ≡ u) → (b || is_in vs v) ≡ true → (is_in vs v ≡ true → P v) → P v
    go true q e r = subst P (sym (q refl)) h.0
    go false q e r = r e

-- Extents of new loops ----------------------------------------------------------------------------------------------------

-- the first of two numbers behind a list
pub index_first : (xs : List ℕ) (n a : ℕ) (ys : List ℕ) → length xs ≡ n → slice_index (xs ++ a ∷ ys) n ≡ a
index_first xs n a ys e = subst (λ (m : ℕ). slice_index (xs ++ a ∷ ys) m ≡ a) e (end xs)
  where
    end : (xs : List ℕ) → slice_index (xs ++ a ∷ ys) (length xs) ≡ a
    end [] = refl
    end (x ∷ xs) = end xs

-- the second
pub index_second : (xs : List ℕ) (n a b : ℕ) (ys : List ℕ) → length xs ≡ n → slice_index (xs ++ a ∷ b ∷ ys) (n + 1) ≡ b
index_second xs n a b ys e = let q : suc (length xs) ≡ n + 1 = omega (arith, e) in subst (λ (m : ℕ). slice_index (xs ++ a ∷ b ∷ ys) m ≡ b) q (end xs)
  where
    end : (xs : List ℕ) → slice_index (xs ++ a ∷ b ∷ ys) (suc (length xs)) ≡ b
    end [] = refl
    end (x ∷ xs) = end xs

-- Values of loops -----------------------------------------------------------------------------------------------------------

-- the value of the loop itself
pub bind_here : (env : Env) (k i : ℕ) → bind env k i k ≡ i
bind_here env k i = ap (λ b. if b then i else env k) (eq-eqb k k refl)

-- a loop around keeps its value
pub bind_outside : (around : Loops) (env : Env) (k i u : ℕ) → around k ≡ false → around u ≡ true → bind env k i u ≡ env u
bind_outside around env k i u out a = ap (λ b. if b then i else env u) (ne_eqb u k (λ e. let p : around u ≡ around k = ap around e in cc))
