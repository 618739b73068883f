-- Stretches: lists that ascend strictly by a key and whose keys all begin alike.
use Rattle.std.proofs.Common.{◌≡◌, ℕ, suc, ◌+◌, ◌<◌, ◌≤◌, true, List, [], ◌∷◌, ◌++◌, refl, ◌∙◌, subst, arith, map, append_assoc, inl, inr}
use Rattle.std.specs.List.{AllByRecursion, flat_map}
use Rattle.std.proofs.lemmas.List.Concat.{flat_map_single}
use Rattle.dt_model.specs.PositionLaws.{is_before}
use Rattle.dt_nest.proofs.Each.{all_map, all_append}
use Rattle.dt_plan.specs.Listed.{IsIn, Ascends}
use Rattle.dt_plan.proofs.Ascending.{all_in, all_from_in, before_less, before_front}

-- a list of things rises by a number
abbrev pub Rises : {X : Type 0} → (X → ℕ) → List X → Type 0
Rises at [] = Unit {0}
Rises at (x ∷ xs) = AllByRecursion (λ y. at x < at y) xs × Rises at xs

-- the key is the front, a number from lo to hi, and more
abbrev pub GoesOn : List ℕ → ℕ → ℕ → List ℕ → Type 0
GoesOn front lo hi k = (n : ℕ) × (rest : List ℕ) × (k ≡ front ++ (n ∷ rest)) × (lo ≤ n) × (n ≤ hi)

-- a list that ascends, with keys that go on from a front by numbers from lo to hi
pub record Stretch {A : Type 0} (key : A → List ℕ) (front : List ℕ) (lo hi : ℕ) (xs : List A) : Type 0 where
  pub ascends : Ascends key xs
  pub within : AllByRecursion (λ x. GoesOn front lo hi (key x)) xs

module _ {A : Type 0} (key : A → List ℕ) where
  -- one list before another
  pub ascends_append : (xs ys : List A) → Ascends key xs → Ascends key ys → ((x y : A) → IsIn x xs → IsIn y ys → is_before (key x) (key y) ≡ true) → Ascends key (xs ++ ys)
  ascends_append [] ys a b f = b
  ascends_append (x ∷ xs) ys a b f = (
    all_append (λ y. is_before (key x) (key y) ≡ true) xs ys a.0 (all_from_in (λ y. is_before (key x) (key y) ≡ true) ys (λ y h. f x y (inl refl) h)),
    ascends_append xs ys a.1 b (λ z y h k. f z y (inr h) k),
  )

  -- no element
  pub no_stretch : (front : List ℕ) (lo hi : ℕ) → Stretch key front lo hi []
  no_stretch front lo hi = record { ascends = tt; within = tt }

  -- one element
  pub one_stretch : (front : List ℕ) (n : ℕ) (rest : List ℕ) (x : A) → key x ≡ front ++ (n ∷ rest) → Stretch key front n n (x ∷ [])
  one_stretch front n rest x e = record { ascends = (tt, tt); within = ((n, rest, e, omega arith, omega arith), tt) }

  -- between wider bounds
  pub wider : (front : List ℕ) (lo hi lower upper : ℕ) (xs : List A) → lower ≤ lo → hi ≤ upper → Stretch key front lo hi xs → Stretch key front lower upper xs
  wider front lo hi lower upper xs a b s =
      record { ascends = s.ascends; within = all_map (λ x. GoesOn front lo hi (key x)) (λ x. GoesOn front lower upper (key x)) (λ x g. (g.0, g.1, g.2, (let l = g.3 in omega (arith, l, a)), (let l = g.4 in omega (arith, l, b)))) xs s.within }

  -- two stretches on one front, the second by greater numbers
  pub joined : (front : List ℕ) (lo mid next hi : ℕ) (xs ys : List A) → mid < next → lo ≤ next → mid ≤ hi → Stretch key front lo mid xs → Stretch key front next hi ys → Stretch key front lo hi (xs ++ ys)
  joined front lo mid next hi xs ys l m n s t = record {
    ascends = ascends_append xs ys s.ascends t.ascends (λ x y h k. apart (key x) (key y) (all_in (λ x. GoesOn front lo mid (key x)) x xs s.within h) (all_in (λ x. GoesOn front next hi (key x)) y ys t.within k));
    within = all_append (λ x. GoesOn front lo hi (key x)) xs ys (wider front lo mid lo hi xs (omega arith) n s).within (wider front next hi lo hi ys m (omega arith) t).within;
  }
    where
      apart : (a b : List ℕ) → GoesOn front lo mid a → GoesOn front next hi b → is_before a b ≡ true
      apart a b g h =
          let less : g.0 < h.0 = (let p = g.4 in let q = h.3 in omega (arith, p, q, l)) in
          let e = before_front front (g.0 ∷ g.1) (h.0 ∷ h.1) ∙ before_less g.0 h.0 g.1 h.1 less in
          let p = g.2 in let q = h.2 in cc

  -- a stretch on a longer front is one number on the shorter front
  pub shorter : (front : List ℕ) (n lo hi : ℕ) (xs : List A) → Stretch key (front ++ (n ∷ [])) lo hi xs → Stretch key front n n xs
  shorter front n lo hi xs s = record {
    ascends = s.ascends;
    within = all_map (λ x. GoesOn (front ++ (n ∷ [])) lo hi (key x)) (λ x. GoesOn front n n (key x)) (λ x g. (n, g.0 ∷ g.1, g.2 ∙ append_assoc front (n ∷ []) (g.0 ∷ g.1), omega arith, omega arith)) xs s.within;
  }

  -- stretches that are made of things that rise, each at its thing's number
  pub row_of : {X : Type 0} (front : List ℕ) (at : X → ℕ) (f : X → List A) (lo hi : ℕ) (xs : List X) → Rises at xs → AllByRecursion (λ x. (lo ≤ at x) × (at x ≤ hi)) xs
      → AllByRecursion (λ x. Stretch key front (at x) (at x) (f x)) xs → Stretch key front lo hi (flat_map f xs)
  row_of front at f lo hi [] r b s = no_stretch front lo hi
  row_of {X} front at f lo hi (x ∷ xs) r b s =
      joined front lo (at x) (suc (at x)) hi (f x) (flat_map f xs) (omega arith) (let l = b.0.0 in omega (arith, l)) b.0.1
      (wider front (at x) (at x) lo (at x) (f x) b.0.0 (omega arith) s.0)
      (row_of front at f (suc (at x)) hi xs r.1 (all_from_in (λ y. (suc (at x) ≤ at y) × (at y ≤ hi)) xs (λ y h. both y (all_in (λ y. at x < at y) y xs r.0 h) (all_in (λ y. (lo ≤ at y) × (at y ≤ hi)) y xs b.1 h).1)) s.1)
    where
      both : (y : X) → at x < at y → at y ≤ hi → (suc (at x) ≤ at y) × (at y ≤ hi)
      both y l m = (omega (arith, l), m)

-- what rises has a greatest number
abbrev pub greatest : {X : Type 0} → (X → ℕ) → List X → ℕ
greatest at [] = 0
greatest at (x ∷ xs) = at x + greatest at xs

-- no number is above it
pub below_greatest : {X : Type 0} (at : X → ℕ) (xs : List X) → AllByRecursion (λ x. (0 ≤ at x) × (at x ≤ greatest at xs)) xs
below_greatest at [] = tt
below_greatest {X} at (x ∷ xs) =
    ((omega arith, omega arith), all_map (λ y. (0 ≤ at y) × (at y ≤ greatest at xs)) (λ y. (0 ≤ at y) × (at y ≤ at x + greatest at xs)) (λ y h. (omega arith, (let l = h.1 in omega (arith, l)))) xs (below_greatest at xs))

module _ {A X : Type 0} (key : A → List ℕ) (front : List ℕ) (n : ℕ) (at : X → ℕ) where
  -- stretches of things that rise, on a longer front, are one number on the shorter front
  pub gathered : (f : X → List A) (xs : List X) → Rises at xs → ((x : X) → Stretch key (front ++ (n ∷ [])) (at x) (at x) (f x)) → Stretch key front n n (flat_map f xs)
  gathered f xs r s =
      shorter key front n 0 (greatest at xs) (flat_map f xs)
      (row_of key (front ++ (n ∷ [])) at f 0 (greatest at xs) xs r (below_greatest at xs) (all_from_in (λ x. Stretch key (front ++ (n ∷ [])) (at x) (at x) (f x)) xs (λ x h. s x)))

  -- so are elements that are made of things that rise
  pub gathered_map : (f : X → A) (rest : X → List ℕ) (xs : List X) → Rises at xs → ((x : X) → key (f x) ≡ (front ++ (n ∷ [])) ++ (at x ∷ rest x)) → Stretch key front n n (map f xs)
  gathered_map f rest xs r e =
      subst (λ (l : List A). Stretch key front n n l) (flat_map_single f xs)
      (gathered (λ x. f x ∷ []) xs r (λ x. one_stretch key (front ++ (n ∷ [])) (at x) (rest x) (f x) (e x)))

-- so do lists that are made of things that rise, if each ascends at its thing's number
pub row_by : {A X : Type 0} (key : A → List ℕ) (at : X → ℕ) (f : X → List A) (xs : List X) → Rises at xs → AllByRecursion (λ x. Stretch key [] (at x) (at x) (f x)) xs → Ascends key (flat_map f xs)
row_by key at f xs r s = (row_of key [] at f 0 (greatest at xs) xs r (below_greatest at xs) s).ascends
