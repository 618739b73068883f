-- Sorting by keys gives a list that ascends strictly.
use Rattle.std.proofs.Common.{◌≡◌, ℕ, ◌<◌, Bool, true, false, List, [], ◌∷◌, refl, sym, ap, ◌∙◌, subst, ◌⊎◌, inl, inr}
use Rattle.std.specs.Prelude.{if◌then◌else◌}
use Rattle.std.proofs.lemmas.Bool.{cases_order}
use Rattle.dt_model.specs.PositionLaws.{is_before}
use Rattle.dt_model.proofs.Lexicographic.{is_before-itself}
use Rattle.dt_nest.proofs.Each.{all_map}
use Rattle.dt_plan.specs.Listed.{IsIn, Ascends, put_in, listed}
use Rattle.dt_plan.proofs.Ascending.{all_in, all_from_in, before_less, before_front, before_passes, same_ascending}

-- keys neither of which comes before the other are the same
pub same_from : (xs ys : List ℕ) → is_before xs ys ≡ false → is_before ys xs ≡ false → xs ≡ ys
same_from [] [] h k = refl
same_from (x ∷ xs) [] h k = absurd (cc)
same_from [] (y ∷ ys) h k = absurd (cc)
same_from (x ∷ xs) (y ∷ ys) h k = go (same_from xs ys) (cases_order x y)
  where
    go : (is_before xs ys ≡ false → is_before ys xs ≡ false → xs ≡ ys) → (x ≡ y) ⊎ ((x < y) ⊎ (y < x)) → (x ∷ xs) ≡ (y ∷ ys)
    go f (inl e) =
        let r = f (sym (before_front (x ∷ []) xs ys) ∙ ap (λ (z : ℕ). is_before (x ∷ xs) (z ∷ ys)) e ∙ h) (sym (before_front (x ∷ []) ys xs) ∙ ap (λ (z : ℕ). is_before (z ∷ ys) (x ∷ xs)) e ∙ k) in
        cc
    go f (inr (inl l)) = let q = before_less x y xs ys l in absurd (cc)
    go f (inr (inr l)) = let q = before_less y x ys xs l in absurd (cc)

module _ {A : Type 0} (key : A → List ℕ) where
  -- in a list that ascends one key has one element
  pub one_of_key : (xs : List A) → Ascends key xs → (x y : A) → IsIn x xs → IsIn y xs → key x ≡ key y → x ≡ y
  one_of_key [] a x y h k e = absurd h
  one_of_key (z ∷ zs) a x y (inl h) (inl k) e = h ∙ sym k
  one_of_key (z ∷ zs) a x y (inr h) (inr k) e = one_of_key zs a.1 x y h k e
  one_of_key (z ∷ zs) a x y (inl h) (inr k) e =
      let q = all_in (λ v. is_before (key z) (key v) ≡ true) y zs a.0 k in
      let p = ap key h in
      let n = is_before-itself (key z) in
      absurd (cc)
  one_of_key (z ∷ zs) a x y (inr h) (inl k) e =
      let q = all_in (λ v. is_before (key z) (key v) ≡ true) x zs a.0 h in
      let p = ap key k in
      let n = is_before-itself (key z) in
      absurd (cc)

  put_members : (x o : A) (ps : List A) → IsIn x (put_in key o ps) → (x ≡ o) ⊎ IsIn x ps
  put_members x o [] h = h
  put_members x o (p ∷ ps) h = go (is_before (key o) (key p)) (is_before (key p) (key o)) (put_members x o ps) h
    where
      go : (b c : Bool) → (IsIn x (put_in key o ps) → (x ≡ o) ⊎ IsIn x ps) → IsIn x (if b then o ∷ p ∷ ps else if c then p ∷ put_in key o ps else p ∷ ps) → (x ≡ o) ⊎ IsIn x (p ∷ ps)
      go true c f h = h
      go false true f (inl e) = inr (inl e)
      go false true f (inr k) = elim (f k) [
        | inl e ↦ inl e
        | inr m ↦ inr (inr m)
      ]
      go false false f h = inr h

  put_keeps : (x o : A) (ps : List A) → IsIn x ps → IsIn x (put_in key o ps)
  put_keeps x o [] h = absurd h
  put_keeps x o (p ∷ ps) h = go (is_before (key o) (key p)) (is_before (key p) (key o)) (put_keeps x o ps) h
    where
      go : (b c : Bool) → (IsIn x ps → IsIn x (put_in key o ps)) → IsIn x (p ∷ ps) → IsIn x (if b then o ∷ p ∷ ps else if c then p ∷ put_in key o ps else p ∷ ps)
      go true c f h = inr h
      go false true f (inl e) = inl e
      go false true f (inr k) = inr (f k)
      go false false f h = h

  put_has : (o : A) (ps : List A) → ((p : A) → IsIn p ps → key o ≡ key p → o ≡ p) → IsIn o (put_in key o ps)
  put_has o [] f = inl refl
  put_has o (p ∷ ps) f = go (is_before (key o) (key p)) (is_before (key p) (key o)) refl refl (put_has o ps (λ q h e. f q (inr h) e))
    where
      go : (b c : Bool) → is_before (key o) (key p) ≡ b → is_before (key p) (key o) ≡ c → IsIn o (put_in key o ps) → IsIn o (if b then o ∷ p ∷ ps else if c then p ∷ put_in key o ps else p ∷ ps)
      go true c e g r = inl refl
      go false true e g r = inr r
      go false false e g r = inl (f p (inl refl) (same_from (key o) (key p) e g))

  put_ascends : (o : A) (ps : List A) → Ascends key ps → Ascends key (put_in key o ps)
  put_ascends o [] a = (tt, tt)
  put_ascends o (p ∷ ps) a = go (is_before (key o) (key p)) (is_before (key p) (key o)) refl refl (put_ascends o ps a.1)
    where
      go : (b c : Bool) → is_before (key o) (key p) ≡ b → is_before (key p) (key o) ≡ c → Ascends key (put_in key o ps) → Ascends key (if b then o ∷ p ∷ ps else if c then p ∷ put_in key o ps else p ∷ ps)
      go true c e g r = ((e, all_map (λ y. is_before (key p) (key y) ≡ true) (λ y. is_before (key o) (key y) ≡ true) (λ y k. before_passes (key o) (key p) (key y) e k) ps a.0), a)
      go false true e g r = (all_from_in (λ y. is_before (key p) (key y) ≡ true) (put_in key o ps) (λ y h. each y (put_members y o ps h)), r)
        where
          each : (y : A) → (y ≡ o) ⊎ IsIn y ps → is_before (key p) (key y) ≡ true
          each y (inl q) = ap (λ z. is_before (key p) (key z)) q ∙ g
          each y (inr h) = all_in (λ y. is_before (key p) (key y) ≡ true) y ps a.0 h
      go false false e g r = a

  -- a sorted list ascends strictly, whatever the list
  pub listed_ascends : (os : List A) → Ascends key (listed key os)
  listed_ascends [] = tt
  listed_ascends (o ∷ os) = put_ascends o (listed key os) (listed_ascends os)

  -- sorting adds no member
  pub in_listed : (x : A) (os : List A) → IsIn x (listed key os) → IsIn x os
  in_listed x [] h = h
  in_listed x (o ∷ os) h = elim (put_members x o (listed key os) h) [
    | inl e ↦ inl e
    | inr k ↦ inr (in_listed x os k)
  ]

  listed_in : (xs : List A) → Ascends key xs → (os : List A) → ((x : A) → IsIn x os → IsIn x xs) → (x : A) → IsIn x os → IsIn x (listed key os)
  listed_in xs a [] f x h = h
  listed_in xs a (o ∷ os) f x (inr h) = put_keeps x o (listed key os) (listed_in xs a os (λ y k. f y (inr k)) x h)
  listed_in xs a (o ∷ os) f x (inl e) =
      let k = put_has o (listed key os) (λ p h q. one_of_key xs a o p (f o (inl refl)) (f p (inr (in_listed p os h))) q) in
      subst (λ v. IsIn v (put_in key o (listed key os))) (sym e) k

  -- A list that ascends strictly is any list with its members, sorted.
  pub listed_is : (os xs : List A) → Ascends key xs → ((x : A) → IsIn x os → IsIn x xs) → ((x : A) → IsIn x xs → IsIn x os) → listed key os ≡ xs
  listed_is os xs a f g = same_ascending key (listed key os) xs (listed_ascends os) a (λ x h. f x (in_listed x os h)) (λ x h. listed_in xs a os f x (g x h))
