-- Lists that ascend strictly by a key of numbers: their members determine them.
use Rattle.std.proofs.Common.{◌≡◌, ℕ, ◌<◌, Bool, true, false, ◌&&◌, List, [], ◌∷◌, ◌++◌, refl, sym, ap, ◌∙◌, subst, arith, filter, map, ◌⊎◌, inl, inr}
use Rattle.std.specs.Prelude.{if◌then◌else◌, nat_lt, nat_eq}
use Rattle.std.specs.List.{AllByRecursion, flat_map}
use Rattle.std.proofs.lemmas.Bool.{ltb-true, lt-ltb, le-ltb, eq-eqb, eqb-true, or_cases, and_parts, or_left, or_right, cases_order}
use Rattle.dt_model.specs.PositionLaws.{is_before}
use Rattle.dt_model.proofs.Lexicographic.{is_before-itself, is_before-turned}
use Rattle.dt_plan.specs.Listed.{IsIn, Ascends}

-- Members ---------------------------------------------------------------------------------------------------------------

-- what holds of each element holds of a member
pub all_in : {A : Type 0} (P : A → Type 0) (x : A) (xs : List A) → AllByRecursion P xs → IsIn x xs → P x
all_in P x [] a h = absurd h
all_in P x (y ∷ ys) a (inl e) = subst P (sym e) a.0
all_in P x (y ∷ ys) a (inr h) = all_in P x ys a.1 h

-- what holds of each member holds of each element
pub all_from_in : {A : Type 0} (P : A → Type 0) (xs : List A) → ((x : A) → IsIn x xs → P x) → AllByRecursion P xs
all_from_in P [] f = tt
all_from_in P (x ∷ xs) f = (f x (inl refl), all_from_in P xs (λ y h. f y (inr h)))

-- a member of two lists in a row is in one of them
pub in_append : {A : Type 0} (x : A) (xs ys : List A) → IsIn x (xs ++ ys) → IsIn x xs ⊎ IsIn x ys
in_append x [] ys h = inr h
in_append x (z ∷ xs) ys (inl e) = inl (inl e)
in_append x (z ∷ xs) ys (inr h) = elim (in_append x xs ys h) [
  | inl k ↦ inl (inr k)
  | inr k ↦ inr k
]

-- a member of the first list
pub in_left : {A : Type 0} (x : A) (xs ys : List A) → IsIn x xs → IsIn x (xs ++ ys)
in_left x [] ys h = absurd h
in_left x (z ∷ xs) ys (inl e) = inl e
in_left x (z ∷ xs) ys (inr h) = inr (in_left x xs ys h)

-- a member of the second list
pub in_right : {A : Type 0} (x : A) (xs ys : List A) → IsIn x ys → IsIn x (xs ++ ys)
in_right x [] ys h = h
in_right x (z ∷ xs) ys h = inr (in_right x xs ys h)

-- a member of lists made of a list's elements is in the list of one of them
pub in_flat : {X A : Type 0} (f : X → List A) (y : A) (xs : List X) → IsIn y (flat_map f xs) → (x : X) × IsIn x xs × IsIn y (f x)
in_flat f y [] h = absurd h
in_flat f y (x ∷ xs) h = elim (in_append y (f x) (flat_map f xs) h) [
  | inl k ↦ (x, inl refl, k)
  | inr k ↦ let r = in_flat f y xs k in (r.0, inr r.1, r.2)
]

-- and each of these is such a member
pub flat_in : {X A : Type 0} (f : X → List A) (y : A) (x : X) (xs : List X) → IsIn x xs → IsIn y (f x) → IsIn y (flat_map f xs)
flat_in f y x [] h k = absurd h
flat_in f y x (z ∷ xs) (inl e) k = in_left y (f z) (flat_map f xs) (subst (λ u. IsIn y (f u)) e k)
flat_in f y x (z ∷ xs) (inr h) k = in_right y (f z) (flat_map f xs) (flat_in f y x xs h k)

-- a member of what a function makes of a list's elements is made of one
pub in_map : {X A : Type 0} (f : X → A) (y : A) (xs : List X) → IsIn y (map f xs) → (x : X) × IsIn x xs × (y ≡ f x)
in_map f y [] h = absurd h
in_map f y (x ∷ xs) (inl e) = (x, inl refl, e)
in_map f y (x ∷ xs) (inr h) = let r = in_map f y xs h in (r.0, inr r.1, r.2)

-- what is made of an element is a member
pub map_in : {X A : Type 0} (f : X → A) (x : X) (xs : List X) → IsIn x xs → IsIn (f x) (map f xs)
map_in f x [] h = absurd h
map_in f x (z ∷ xs) (inl e) = inl (ap f e)
map_in f x (z ∷ xs) (inr h) = inr (map_in f x xs h)

-- a member that passes a test stays
pub filter_in : {A : Type 0} (p : A → Bool) (x : A) (xs : List A) → IsIn x xs → p x ≡ true → IsIn x (filter p xs)
filter_in p x [] h e = absurd h
filter_in p x (z ∷ xs) (inl q) e = let t : p z ≡ true = ap p (sym q) ∙ e in subst (λ (b : Bool). IsIn x (if b then z ∷ filter p xs else filter p xs)) (sym t) (inl q)
filter_in p x (z ∷ xs) (inr h) e = go (p z) (filter_in p x xs h e)
  where
    go : (b : Bool) → IsIn x (filter p xs) → IsIn x (if b then z ∷ filter p xs else filter p xs)
    go true k = inr k
    go false k = k

-- what stays is a member that passes
pub in_filter : {A : Type 0} (p : A → Bool) (x : A) (xs : List A) → IsIn x (filter p xs) → IsIn x xs × (p x ≡ true)
in_filter p x [] h = absurd h
in_filter p x (z ∷ xs) h = go (p z) refl (in_filter p x xs) h
  where
    go : (b : Bool) → p z ≡ b → (IsIn x (filter p xs) → IsIn x xs × (p x ≡ true)) → IsIn x (if b then z ∷ filter p xs else filter p xs) → IsIn x (z ∷ xs) × (p x ≡ true)
    go true e f (inl q) = (inl q, ap p q ∙ e)
    go true e f (inr k) = let r = f k in (inr r.0, r.1)
    go false e f k = let r = f k in (inr r.0, r.1)

-- The order of keys -----------------------------------------------------------------------------------------------------

-- a lesser first number comes before
pub before_less : (x y : ℕ) (xs ys : List ℕ) → x < y → is_before (x ∷ xs) (y ∷ ys) ≡ true
before_less x y xs ys l = or_left (nat_lt x y) (nat_eq x y && is_before xs ys) (lt-ltb x y l)

-- the same front decides nothing
pub before_front : (front xs ys : List ℕ) → is_before (front ++ xs) (front ++ ys) ≡ is_before xs ys
before_front [] xs ys = refl
before_front (x ∷ front) xs ys = same ∙ before_front front xs ys
  where
    same : is_before (x ∷ (front ++ xs)) (x ∷ (front ++ ys)) ≡ is_before (front ++ xs) (front ++ ys)
    same = rw (le-ltb x x (omega arith), eq-eqb x x refl) refl

-- of three keys that ascend the first comes before the third
pub before_passes : (xs ys zs : List ℕ) → is_before xs ys ≡ true → is_before ys zs ≡ true → is_before xs zs ≡ true
before_passes xs ys [] h k = absurd (cc)
before_passes xs [] (z ∷ zs) h k = absurd (cc)
before_passes [] (y ∷ ys) (z ∷ zs) h k = refl
before_passes (x ∷ xs) (y ∷ ys) (z ∷ zs) h k =
    go (before_passes xs ys zs) (or_cases (nat_lt x y) (nat_eq x y && is_before xs ys) h) (or_cases (nat_lt y z) (nat_eq y z && is_before ys zs) k)
  where
    go : (is_before xs ys ≡ true → is_before ys zs ≡ true → is_before xs zs ≡ true) → (nat_lt x y ≡ true) ⊎ ((nat_eq x y && is_before xs ys) ≡ true) → (nat_lt y z ≡ true) ⊎ ((nat_eq y z && is_before ys zs) ≡ true) → is_before (x ∷ xs) (z ∷ zs) ≡ true
    go f (inl a) (inl b) = let l = ltb-true x y a in let m = ltb-true y z b in before_less x z xs zs (omega (arith, l, m))
    go f (inl a) (inr b) = let l = ltb-true x y a in let m = eqb-true y z (and_parts (nat_eq y z) (is_before ys zs) b).0 in before_less x z xs zs (omega (arith, l, m))
    go f (inr a) (inl b) = let l = eqb-true x y (and_parts (nat_eq x y) (is_before xs ys) a).0 in let m = ltb-true y z b in before_less x z xs zs (omega (arith, l, m))
    go f (inr a) (inr b) =
        let p = and_parts (nat_eq x y) (is_before xs ys) a in
        let q = and_parts (nat_eq y z) (is_before ys zs) b in
        let e : x ≡ z = eqb-true x y p.0 ∙ eqb-true y z q.0 in
        let r = f p.1 q.1 in
        let t : nat_eq x z ≡ true = eq-eqb x z e in
        or_right (nat_lt x z) (nat_eq x z && is_before xs zs) (cc)

-- of two different keys one comes before the other
pub before_either : (xs ys : List ℕ) → (xs ≡ ys → ⊥) → is_before xs ys ≡ false → is_before ys xs ≡ true
before_either [] [] d h = absurd (d refl)
before_either (x ∷ xs) [] d h = refl
before_either [] (y ∷ ys) d h = absurd (cc)
before_either (x ∷ xs) (y ∷ ys) d h = go (before_either xs ys) (cases_order x y)
  where
    go : ((xs ≡ ys → ⊥) → is_before xs ys ≡ false → is_before ys xs ≡ true) → (x ≡ y) ⊎ ((x < y) ⊎ (y < x)) → is_before (y ∷ ys) (x ∷ xs) ≡ true
    go f (inl e) =
        let rest : is_before xs ys ≡ false = sym (before_front (x ∷ []) xs ys) ∙ ap (λ (z : ℕ). is_before (x ∷ xs) (z ∷ ys)) e ∙ h in
        let up : is_before ys xs ≡ true = f (λ q. d (let p = e in let r = q in cc)) rest in
        ap (λ (z : ℕ). is_before (z ∷ ys) (x ∷ xs)) (sym e) ∙ before_front (x ∷ []) ys xs ∙ up
    go f (inr (inl l)) = let q = before_less x y xs ys l in absurd (cc)
    go f (inr (inr l)) = before_less y x ys xs l

-- Ascending lists -------------------------------------------------------------------------------------------------------

-- Two lists that ascend strictly by one key and have the same members are equal.
pub same_ascending : {A : Type 0} (key : A → List ℕ) (xs ys : List A) → Ascends key xs → Ascends key ys
    → ((x : A) → IsIn x xs → IsIn x ys) → ((x : A) → IsIn x ys → IsIn x xs) → xs ≡ ys
same_ascending key [] [] a b f g = refl
same_ascending key [] (y ∷ ys) a b f g = absurd (g y (inl refl))
same_ascending key (x ∷ xs) [] a b f g = absurd (f x (inl refl))
same_ascending {A} key (x ∷ xs) (y ∷ ys) a b f g =
    let e = first (f x (inl refl)) (g y (inl refl)) in
    let r = same_ascending key xs ys a.1 b.1 (λ z h. later x xs z y ys a.0 h (sym e) (f z (inr h))) (λ z h. later y ys z x xs b.0 h e (g z (inr h))) in
    cc
  where
    first : (x ≡ y) ⊎ IsIn x ys → (y ≡ x) ⊎ IsIn y xs → x ≡ y
    first (inl e) q = e
    first (inr h) (inl e) = sym e
    first (inr h) (inr k) =
        let p = all_in (λ z. is_before (key y) (key z) ≡ true) x ys b.0 h in
        let q = is_before-turned (key x) (key y) (all_in (λ z. is_before (key x) (key z) ≡ true) y xs a.0 k) in
        absurd (cc)

    -- a member of the rest is in the other rest
    later : (u : A) (us : List A) (z v : A) (vs : List A) → AllByRecursion (λ z. is_before (key u) (key z) ≡ true) us → IsIn z us → v ≡ u → (z ≡ v) ⊎ IsIn z vs → IsIn z vs
    later u us z v vs a h e (inr k) = k
    later u us z v vs a h e (inl q) =
        let p : is_before (key u) (key u) ≡ true = ap (λ k. is_before (key u) (key k)) (sym (q ∙ e)) ∙ all_in (λ z. is_before (key u) (key z) ≡ true) z us a h in
        let n = is_before-itself (key u) in
        absurd (cc)
