-- The events of one operation, found step by step over the later operations.
use Rattle.std.proofs.Common.{◌≡◌, ℕ, zero, suc, ◌+◌, ◌<◌, ◌≤◌, Bool, true, false, not, ◌&&◌, ◌||◌, List, [], ◌∷◌, ◌++◌, length, map, filter, take, get_or, nat_lt, append-nil, refl, sym, ap, ◌∙◌, arith, ⊎_elim}
use Rattle.std.specs.Prelude.{cond}
use Rattle.std.specs.List.{flat_map, list_any}
use Rattle.std.proofs.lemmas.Bool.{cases_lt, lt-ltb, le-ltb}
use Rattle.std.proofs.lemmas.List.{length-append, map-append, take_more}
use Rattle.std.proofs.lemmas.List.Elements.{filter-append}
use Rattle.std.proofs.lemmas.List.Folds.{list_any-append}
use Rattle.std.proofs.lemmas.List.Concat.{flat_map-append}
use Rattle.dt_base.specs.Ranges.{below}
use Rattle.dt_base.proofs.Ranges.{filter_below-more}
use Rattle.dt_argument.specs.Events.{any_below, is_between, nearest}

-- Parts of a range ------------------------------------------------------------------------------------------------------

regroup : {X : Type 0} (xs ys zs : List X) → (xs ++ ys) ++ zs ≡ xs ++ (ys ++ zs)
regroup [] ys zs = refl
regroup (x ∷ xs) ys zs = ap (λ l. x ∷ l) (regroup xs ys zs)

-- a range begins with a shorter one
below_begins : (n m : ℕ) → n ≤ m → (rest : List ℕ) × (below m ≡ below n ++ rest)
below_begins n zero h = ([], start n (omega (arith, h)))
  where
    start : (n : ℕ) → n ≡ 0 → below 0 ≡ below n ++ []
    start n e = rw e refl
below_begins n (suc m) h =
    ⊎_elim
    (λ (k : n < suc m). let r = below_begins n m (omega (arith, k)) in (r.0 ++ m ∷ [], ap (λ l. l ++ m ∷ []) r.1 ∙ regroup (below n) r.0 (m ∷ [])))
    (λ (k : suc m ≤ n). ([], whole n (omega (arith, h, k))))
    (cases_lt n (suc m))
  where
    none : (xs : List ℕ) → xs ≡ xs ++ []
    none [] = refl
    none (x ∷ xs) = ap (λ l. x ∷ l) (none xs)

    whole : (n : ℕ) → n ≡ suc m → below (suc m) ≡ below n ++ []
    whole n e = rw e (none (below (suc m)))

longer : {X : Type 0} (xs ys zs : List X) → zs ≡ xs ++ ys → length xs ≤ length zs
longer xs ys zs e = let n = ap (λ l. length l) e ∙ length-append xs ys in omega (arith, n)

longer_behind : {X : Type 0} (old xs zs : List X) → length xs ≤ length zs → length (old ++ xs) ≤ length (old ++ zs)
longer_behind old xs zs h = let m = length-append old xs in let n = length-append old zs in omega (arith, m, n, h)

-- no more pass a test in a part of a range, behind what is there
pub fewer_pass : {X : Type 0} (old : List X) (f : ℕ → X) (q : ℕ → Bool) (n m : ℕ) → n ≤ m → length (old ++ map f (filter q (below n))) ≤ length (old ++ map f (filter q (below m)))
fewer_pass old f q n m h =
    let r = below_begins n m h in
    longer_behind old (map f (filter q (below n))) (map f (filter q (below m)))
    (longer (map f (filter q (below n))) (map f (filter q r.0)) (map f (filter q (below m)))
    (ap (λ l. map f (filter q l)) r.1 ∙ ap (λ l. map f l) (filter-append q (below n) r.0) ∙ map-append f (filter q (below n)) (filter q r.0)))

-- no more is made of a part of a range
pub fewer_made : {X : Type 0} (g : ℕ → List X) (n m : ℕ) → n ≤ m → length (flat_map g (below n)) ≤ length (flat_map g (below m))
fewer_made g n m h =
    let r = below_begins n m h in
    longer (flat_map g (below n)) (flat_map g r.0) (flat_map g (below m)) (ap (flat_map g) r.1 ∙ flat_map-append g (below n) r.0)

-- a test of one more element of a list
pub any_more : (f : ℕ → Bool) (xs : List ℕ) (n : ℕ) → n < length xs → list_any f (take (n + 1) xs) ≡ (list_any f (take n xs) || f (get_or xs n 0))
any_more f xs n h =
    ap (list_any f) (take_more xs n 0 h) ∙ list_any-append f (take n xs) (get_or xs n 0 ∷ []) ∙ ap (λ r. list_any f (take n xs) || r) (one (f (get_or xs n 0)))
  where
    one : (b : Bool) → (b || false) ≡ b
    one true = refl
    one false = refl

-- what passes no number of a stretch
pub none_between : (q : ℕ → Bool) (m n : ℕ) → m ≤ n → ((x : ℕ) → m ≤ x → x < n → q x ≡ false) → filter q (below n) ≡ filter q (below m)
none_between q m zero h none = let e : m ≡ 0 = omega (arith, h) in ap (λ k. filter q (below k)) (sym e)
none_between q m (suc n) h none =
    ⊎_elim
    (λ (k : n < m). let e : m ≡ suc n = omega (arith, h, k) in ap (λ i. filter q (below i)) (sym e))
    (λ (k : m ≤ n).
    filter-append q (below n) (n ∷ []) ∙ ap (λ l. l ++ filter q (n ∷ [])) (none_between q m n k (λ x i l. none x i (omega (arith, l))))
    ∙ ap (λ t. filter q (below m) ++ cond t (n ∷ []) []) (none n k (omega arith)) ∙ append-nil (filter q (below m)))
    (cases_lt n m)

-- Steps -----------------------------------------------------------------------------------------------------------------

kept_any : (f : ℕ → Bool) (t : Bool) (n : ℕ) → list_any f (cond t (n ∷ []) []) ≡ (t && f n)
kept_any f true n = one (f n)
  where
    one : (b : Bool) → (b || false) ≡ b
    one true = refl
    one false = refl
kept_any f false n = refl

turned : (x y z w : Bool) → ((x && (y && z)) || w) ≡ (w || ((x && y) && z))
turned true true true true = refl
turned true true true false = refl
turned true true false true = refl
turned true true false false = refl
turned true false z true = refl
turned true false z false = refl
turned false y z true = refl
turned false y z false = refl

kept_pair : {X : Type 0} (f : ℕ → X) (t : Bool) (n : ℕ) → map f (cond t (n ∷ []) []) ≡ cond t (f n ∷ []) []
kept_pair f true n = refl
kept_pair f false n = refl

module _ (c : ℕ → ℕ → Bool) (a : ℕ) where
  -- what conflicts with both is what conflicts with b among what conflicts with a
  covered : (b n : ℕ) → any_below (is_between c a b) n ≡ list_any (λ x. c x b) (filter (λ x. nat_lt a x && c a x) (below n))
  covered b zero = refl
  covered b (suc n) =
      ap (λ r. is_between c a b n || r) (covered b n)
      ∙ turned (nat_lt a n) (c a n) (c n b) (list_any (λ x. c x b) (filter (λ x. nat_lt a x && c a x) (below n)))
      ∙ ap (λ r. list_any (λ x. c x b) (filter (λ x. nat_lt a x && c a x) (below n)) || r) (sym (kept_any (λ x. c x b) (nat_lt a n && c a n) n))
      ∙ sym (list_any-append (λ x. c x b) (filter (λ x. nat_lt a x && c a x) (below n)) (filter (λ x. nat_lt a x && c a x) (n ∷ [])))
      ∙ ap (list_any (λ x. c x b)) (sym (filter-append (λ x. nat_lt a x && c a x) (below n) (n ∷ [])))

  -- up to the operation itself none is later
  pub none_later : (g : ℕ → Bool) (n : ℕ) → n ≤ a + 1 → filter (λ x. nat_lt a x && g x) (below n) ≡ []
  none_later g zero h = refl
  none_later g (suc n) h =
      let not_yet : nat_lt a n ≡ false = le-ltb a n (omega (arith, h)) in
      filter-append (λ x. nat_lt a x && g x) (below n) (n ∷ [])
      ∙ ap (λ l. l ++ filter (λ x. nat_lt a x && g x) (n ∷ [])) (none_later g n (omega (arith, h)))
      ∙ ap (λ t. cond (t && g n) (n ∷ []) []) not_yet

  -- one more that conflicts with a, or not
  pub met_step : (b : ℕ) → a < b → filter (λ x. nat_lt a x && c a x) (below b) ++ cond (c a b) (b ∷ []) [] ≡ filter (λ x. nat_lt a x && c a x) (below (b + 1))
  met_step b h =
      let later : nat_lt a b ≡ true = lt-ltb a b h in
      ap (λ t. filter (λ x. nat_lt a x && c a x) (below b) ++ cond (t && c a b) (b ∷ []) []) (sym later) ∙ sym (filter_below-more (λ x. nat_lt a x && c a x) b)

  -- one more event, or not
  pub event_step : (old : List (ℕ × ℕ)) (b : ℕ) (met : List ℕ) → a < b → met ≡ filter (λ x. nat_lt a x && c a x) (below b)
      → (old ++ map (λ x. (a, x)) (filter (λ x. nat_lt a x && nearest c a x) (below b))) ++ cond (c a b && not (list_any (λ x. c x b) met)) ((a, b) ∷ []) []
      ≡ old ++ map (λ x. (a, x)) (filter (λ x. nat_lt a x && nearest c a x) (below (b + 1)))
  event_step old b met h e =
      let q : ℕ → Bool = λ x. nat_lt a x && nearest c a x in
      let f : ℕ → ℕ × ℕ = λ x. (a, x) in
      let later : nat_lt a b ≡ true = lt-ltb a b h in
      let same : list_any (λ x. c x b) met ≡ any_below (is_between c a b) b = ap (list_any (λ x. c x b)) e ∙ sym (covered b b) in
      regroup old (map f (filter q (below b))) (cond (c a b && not (list_any (λ x. c x b) met)) ((a, b) ∷ []) [])
      ∙ ap (λ l. old ++ l)
      (ap (λ t. map f (filter q (below b)) ++ cond (c a b && not t) ((a, b) ∷ []) []) same
      ∙ ap (λ t. map f (filter q (below b)) ++ cond (t && nearest c a b) ((a, b) ∷ []) []) (sym later)
      ∙ ap (λ l. map f (filter q (below b)) ++ l) (sym (kept_pair f (q b) b))
      ∙ sym (map-append f (filter q (below b)) (cond (q b) (b ∷ []) []))
      ∙ ap (λ l. map f l) (sym (filter_below-more q b)))
