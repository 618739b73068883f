-- What a visit reads and adds in two states.
use Rattle.std.proofs.Common.{◌≡◌, ℕ, ◌+◌, ◌*◌, Bool, ◌&&◌, List, [], ◌∷◌, ◌++◌, map, refl, sym, ap, ap₂, ◌∙◌, subst}
use Rattle.std.specs.Prelude.{sum_by}
use Rattle.std.specs.List.{AllByRecursion, list_all, flat_map}
use Rattle.std.proofs.lemmas.List.Sums.{sum_by-cons}
use Rattle.std.proofs.lemmas.List.Concat.{flat_map-cons}
use Rattle.dt_base.specs.Rows.{product}
use Rattle.dt_model.specs.Value.{sign}
use Rattle.dt_model.specs.declared.stmt.Access.{Access}
use Rattle.dt_model.specs.declared.stmt.Factor.{Factor}
use Rattle.dt_model.specs.declared.stmt.Factor.TheVariants.{Read, Literal}
use Rattle.dt_model.specs.declared.stmt.Term.{Term}
use Rattle.dt_nest.specs.Tree.{factor_accesses, read_accesses}
use Rattle.dt_nest.specs.Meaning.{Env, Entries, factor_of, term_of, terms_of}

-- a fact of all of two lists one after the other holds of the first
pub all_front : {X : Type 0} (P : X → Type 0) (xs ys : List X) → AllByRecursion P (xs ++ ys) → AllByRecursion P xs
all_front P [] ys h = tt
all_front P (x ∷ xs) ys h = (h.0, all_front P xs ys h.1)

-- and of the second
pub all_back : {X : Type 0} (P : X → Type 0) (xs ys : List X) → AllByRecursion P (xs ++ ys) → AllByRecursion P ys
all_back P [] ys h = h
all_back P (x ∷ xs) ys h = all_back P xs ys h.1

-- sums of equal numbers
pub sum_same : {X : Type 0} (f g : X → ℕ) (xs : List X) → AllByRecursion (λ x. f x ≡ g x) xs → sum_by f xs ≡ sum_by g xs
sum_same f g [] h = refl
sum_same f g (x ∷ xs) h = sum_by-cons f x xs ∙ ap₂ ◌+◌ h.0 (sum_same f g xs h.1) ∙ sym (sum_by-cons g x xs)

-- tests that are equal
pub test_same : {X : Type 0} (f g : X → Bool) (xs : List X) → AllByRecursion (λ x. f x ≡ g x) xs → list_all f xs ≡ list_all g xs
test_same f g [] h = refl
test_same f g (x ∷ xs) h = ap₂ ◌&&◌ h.0 (test_same f g xs h.1)

module _ (x y : Entries) (val : Env) where
  -- the entries have one number where an access reads
  abbrev SameAt : Access → Type 0
  SameAt a = x a.tensor (map val a.vars) ≡ y a.tensor (map val a.vars)

  -- so products have one value
  product_same : (fs : List Factor) → AllByRecursion SameAt (flat_map factor_accesses fs) → product (map (factor_of x val) fs) ≡ product (map (factor_of y val) fs)
  product_same [] h = refl
  product_same (Read a ∷ fs) h =
      let k : AllByRecursion SameAt (a ∷ flat_map factor_accesses fs) = subst (λ (l : List Access). AllByRecursion SameAt l) (flat_map-cons factor_accesses (Read a) fs) h in
      ap₂ ◌*◌ k.0 (product_same fs k.1)
  product_same (Literal n ∷ fs) h =
      let k : AllByRecursion SameAt (flat_map factor_accesses fs) = subst (λ (l : List Access). AllByRecursion SameAt l) (flat_map-cons factor_accesses (Literal n) fs) h in
      ap (λ b. n * b) (product_same fs k)

  -- and so do terms
  pub terms_same : (terms : List Term) → AllByRecursion SameAt (read_accesses terms) → terms_of x val terms ≡ terms_of y val terms
  terms_same [] h = refl
  terms_same (t ∷ terms) h =
      let k : AllByRecursion SameAt (flat_map factor_accesses t.factors ++ read_accesses terms) =
      subst (λ (l : List Access). AllByRecursion SameAt l) (flat_map-cons (λ (u : Term). flat_map factor_accesses u.factors) t terms) h in
      sum_by-cons (term_of x val) t terms
      ∙ ap₂ ◌+◌ (ap (λ b. sign t.minus * b) (product_same t.factors (all_front SameAt (flat_map factor_accesses t.factors) (read_accesses terms) k))) (terms_same terms (all_back SameAt (flat_map factor_accesses t.factors) (read_accesses terms) k))
      ∙ sym (sum_by-cons (term_of y val) t terms)
