-- Lists of tensors, and what is in them.
use Rattle.std.proofs.Common.{◌≡◌, ℕ, ◌+◌, Bool, true, false, ◌||◌, List, [], ◌∷◌, filter, refl, sym, ap₂, ◌∙◌, subst, ⊎_elim, eqb-true, eq-eqb}
use Rattle.std.specs.Prelude.{nat_eq, sum_by}
use Rattle.std.specs.List.{AllByRecursion, list_any}
use Rattle.std.proofs.lemmas.Bool.{cases_Bool, or_left, or_right}
use Rattle.std.proofs.lemmas.List.Sums.{sum_by-cons}
use Rattle.dt_runs.specs.Sets.{contains}
use Rattle.dt_argument.proofs.Shapes.{if_true, if_false}
use Rattle.dt_events.proofs.BlockPlans.{AreApart}

-- one of two that is not the first
pub or_first : (a b : Bool) → a ≡ false → (a || b) ≡ true → b ≡ true
or_first true b e h = cc
or_first false b e h = h

-- neither of two
pub or_none : (a b : Bool) → (a || b) ≡ false → (a ≡ false) × (b ≡ false)
or_none true b h = cc
or_none false b h = (refl, h)

-- two that are false
pub or_both : (a b : Bool) → a ≡ false → b ≡ false → (a || b) ≡ false
or_both true b e f = cc
or_both false b e f = f

-- a Bool that is not true is false
pub not_true : (a : Bool) → (a ≡ true → ⊥) → a ≡ false
not_true true h = absurd (h refl)
not_true false h = refl

-- a Bool is not both
pub both_ways : (a : Bool) → a ≡ true → a ≡ false → ⊥
both_ways a h k = let e : true ≡ false = sym h ∙ k in cc

-- a filter keeps what passes
pub filter_yes : (f : ℕ → Bool) (t : ℕ) (ts : List ℕ) → f t ≡ true → filter f (t ∷ ts) ≡ t ∷ filter f ts
filter_yes f t ts e = if_true (f t) (t ∷ filter f ts) (filter f ts) e

-- and leaves out what does not
pub filter_no : (f : ℕ → Bool) (t : ℕ) (ts : List ℕ) → f t ≡ false → filter f (t ∷ ts) ≡ filter f ts
filter_no f t ts e = if_false (f t) (t ∷ filter f ts) (filter f ts) e

-- what is in a filtered list
pub has_filter : (f : ℕ → Bool) (ts : List ℕ) (t : ℕ) → contains (filter f ts) t ≡ true → (contains ts t ≡ true) × (f t ≡ true)
has_filter f [] t h = cc
has_filter f (u ∷ ts) t h =
    ⊎_elim
    (λ (e : f u ≡ true).
    let g : (nat_eq u t || contains (filter f ts) t) ≡ true = subst (λ (l : List ℕ). contains l t ≡ true) (filter_yes f u ts e) h in
    ⊎_elim
    (λ (q : nat_eq u t ≡ true). (or_left (nat_eq u t) (contains ts t) q, subst (λ (x : ℕ). f x ≡ true) (eqb-true u t q) e))
    (λ (q : nat_eq u t ≡ false). let r = has_filter f ts t (or_first (nat_eq u t) (contains (filter f ts) t) q g) in (or_right (nat_eq u t) (contains ts t) r.0, r.1))
    (cases_Bool (nat_eq u t)))
    (λ (e : f u ≡ false). let r = has_filter f ts t (subst (λ (l : List ℕ). contains l t ≡ true) (filter_no f u ts e) h) in (or_right (nat_eq u t) (contains ts t) r.0, r.1))
    (cases_Bool (f u))

-- what is there and passes is kept
pub filter_has : (f : ℕ → Bool) (ts : List ℕ) (t : ℕ) → contains ts t ≡ true → f t ≡ true → contains (filter f ts) t ≡ true
filter_has f [] t h k = cc
filter_has f (u ∷ ts) t h k =
    ⊎_elim
    (λ (q : nat_eq u t ≡ true).
    let e : f u ≡ true = subst (λ (x : ℕ). f x ≡ true) (sym (eqb-true u t q)) k in
    subst (λ (l : List ℕ). contains l t ≡ true) (sym (filter_yes f u ts e)) (or_left (nat_eq u t) (contains (filter f ts) t) q))
    (λ (q : nat_eq u t ≡ false).
    let r = filter_has f ts t (or_first (nat_eq u t) (contains ts t) q h) k in
    ⊎_elim
    (λ (e : f u ≡ true). subst (λ (l : List ℕ). contains l t ≡ true) (sym (filter_yes f u ts e)) (or_right (nat_eq u t) (contains (filter f ts) t) r))
    (λ (e : f u ≡ false). subst (λ (l : List ℕ). contains l t ≡ true) (sym (filter_no f u ts e)) r)
    (cases_Bool (f u)))
    (cases_Bool (nat_eq u t))

-- a filtered list is apart
pub apart_filter : (f : ℕ → Bool) (ts : List ℕ) → AreApart ts → AreApart (filter f ts)
apart_filter f [] h = tt
apart_filter f (t ∷ ts) h =
    ⊎_elim
    (λ (e : f t ≡ true). subst AreApart (sym (filter_yes f t ts e)) (not_true (contains (filter f ts) t) (λ k. both_ways (contains ts t) (has_filter f ts t k).0 h.0), apart_filter f ts h.1))
    (λ (e : f t ≡ false). subst AreApart (sym (filter_no f t ts e)) (apart_filter f ts h.1))
    (cases_Bool (f t))

-- whether a number is this one
abbrev pub is_one : ℕ → ℕ → Bool
is_one x t = nat_eq t x

-- where a number is not there, none is it
pub filter_none : (x : ℕ) (ts : List ℕ) → contains ts x ≡ false → filter (λ t. nat_eq t x) ts ≡ []
filter_none x [] h = refl
filter_none x (t ∷ ts) h = let p = or_none (nat_eq t x) (contains ts x) h in filter_no (λ u. nat_eq u x) t ts p.0 ∙ filter_none x ts p.1

-- where it is there once, one is it
pub filter_one : (x : ℕ) (ts : List ℕ) → AreApart ts → contains ts x ≡ true → filter (λ t. nat_eq t x) ts ≡ x ∷ []
filter_one x [] a h = cc
filter_one x (t ∷ ts) a h =
    ⊎_elim
    (λ (e : nat_eq t x ≡ true).
    let f : t ≡ x = eqb-true t x e in
    filter_yes (λ u. nat_eq u x) t ts e ∙ ap₂ (λ u l. u ∷ l) f (filter_none x ts (subst (λ (u : ℕ). contains ts u ≡ false) f a.0)))
    (λ (e : nat_eq t x ≡ false). filter_no (λ u. nat_eq u x) t ts e ∙ filter_one x ts a.1 (or_first (nat_eq t x) (contains ts x) e h))
    (cases_Bool (nat_eq t x))

-- where some element passes, this one does
pub any_found : (f : ℕ → Bool) (ts : List ℕ) → list_any f ts ≡ true → (t : ℕ) × (contains ts t ≡ true) × (f t ≡ true)
any_found f [] h = cc
any_found f (t ∷ ts) h =
    ⊎_elim
    (λ (e : f t ≡ true). (t, or_left (nat_eq t t) (contains ts t) (eq-eqb t t refl), e))
    (λ (e : f t ≡ false). let r = any_found f ts (or_first (f t) (list_any f ts) e h) in (r.0, or_right (nat_eq t r.0) (contains ts r.0) r.1, r.2))
    (cases_Bool (f t))

-- an element that passes
pub any_in : (f : ℕ → Bool) (ts : List ℕ) (t : ℕ) → contains ts t ≡ true → f t ≡ true → list_any f ts ≡ true
any_in f [] t h k = cc
any_in f (u ∷ ts) t h k =
    ⊎_elim
    (λ (q : nat_eq u t ≡ true). or_left (f u) (list_any f ts) (subst (λ (x : ℕ). f x ≡ true) (sym (eqb-true u t q)) k))
    (λ (q : nat_eq u t ≡ false). or_right (f u) (list_any f ts) (any_in f ts t (or_first (nat_eq u t) (contains ts t) q h) k))
    (cases_Bool (nat_eq u t))

-- where none passes
pub none_any : {X : Type 0} (f : X → Bool) (xs : List X) → ((x : X) → f x ≡ false) → list_any f xs ≡ false
none_any f [] h = refl
none_any f (x ∷ xs) h = or_both (f x) (list_any f xs) (h x) (none_any f xs h)

-- from one test to another, element by element
pub any_turned : {X : Type 0} (f g : X → Bool) (xs : List X) → ((x : X) → f x ≡ true → g x ≡ true) → list_any f xs ≡ true → list_any g xs ≡ true
any_turned f g [] t h = h
any_turned f g (x ∷ xs) t h =
    ⊎_elim
    (λ (e : f x ≡ true). or_left (g x) (list_any g xs) (t x e))
    (λ (e : f x ≡ false). or_right (g x) (list_any g xs) (any_turned f g xs t (or_first (f x) (list_any f xs) e h)))
    (cases_Bool (f x))

-- a fact that some element gives
pub any_gives : {X : Type 0} (f : X → Bool) (Q : Type 0) (xs : List X) → ((x : X) → f x ≡ true → Q) → list_any f xs ≡ true → Q
any_gives f Q [] t h = cc
any_gives f Q (x ∷ xs) t h =
    ⊎_elim
    (λ (e : f x ≡ true). t x e)
    (λ (e : f x ≡ false). any_gives f Q xs t (or_first (f x) (list_any f xs) e h))
    (cases_Bool (f x))

-- a fact of each number that is in the list
pub all_has : (P : ℕ → Type 0) (ts : List ℕ) → ((t : ℕ) → contains ts t ≡ true → P t) → AllByRecursion P ts
all_has P [] f = tt
all_has P (t ∷ ts) f = (f t (or_left (nat_eq t t) (contains ts t) (eq-eqb t t refl)), all_has P ts (λ u h. f u (or_right (nat_eq t u) (contains ts u) h)))

-- a sum of zeros
pub sum_zero : {X : Type 0} (f : X → ℕ) (xs : List X) → ((x : X) → f x ≡ 0) → sum_by f xs ≡ 0
sum_zero f [] h = refl
sum_zero f (x ∷ xs) h = sum_by-cons f x xs ∙ ap₂ ◌+◌ (h x) (sum_zero f xs h)
