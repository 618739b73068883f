-- What is found in a range.
use Rattle.std.proofs.Common.{◌≡◌, ℕ, zero, suc, ◌+◌, ◌<◌, ◌≤◌, Bool, true, false, cond, List, [], ◌∷◌, ◌++◌, length, filter, get_or, Option, Some, None, refl, ap, sym, ◌∙◌, subst, arith, inl, inr, ⊎_elim, length-append}
use Rattle.std.specs.Option.{is_some, option_or}
use Rattle.std.specs.List.{find}
use Rattle.std.proofs.Math.Seq.{get_or-append_seam}
use Rattle.std.proofs.lemmas.Bool.{cases_lt}
use Rattle.std.proofs.lemmas.List.{get_or_append_left}
use Rattle.std.proofs.lemmas.List.Elements.{filter-append}
use Rattle.std.proofs.lemmas.List.Folds.{find-append}
use Rattle.dt_base.specs.Ranges.{below}

or_none : (o : Option ℕ) (b : Bool) (n : ℕ) → is_some (option_or o (cond b (Some n) None)) ≡ false → (is_some o ≡ false) × (b ≡ false)
or_none None true n e = absurd (cc)
or_none None false n e = (refl, refl)
or_none (Some x) b n e = absurd (cc)

-- nothing found, nothing passes
pub none_found : (p : ℕ → Bool) (n a : ℕ) → is_some (find p (below n)) ≡ false → a < n → p a ≡ false
none_found p zero a e h = absurd (omega arith)
none_found p (suc n) a e h =
    let parts = or_none (find p (below n)) (p n) n (ap (λ (o : Option ℕ). is_some o) (sym (find-append p (below n) (n ∷ []))) ∙ e) in
    ⊎_elim
    (λ (less : a < n). none_found p n a parts.0 less)
    (λ (le : n ≤ a). let at : a ≡ n = omega arith in subst (λ (k : ℕ). p k ≡ false) (sym at) parts.1)
    (cases_lt a n)

some_is : (x y : ℕ) → Some x ≡ Some y → x ≡ y
some_is x y e = cc

found_step : (p : ℕ → Bool) (n k : ℕ) (o : Option ℕ) (b : Bool) → find p (below n) ≡ o → p n ≡ b
    → ((j : ℕ) → find p (below n) ≡ Some j → (j < n) × (p j ≡ true) × ((a : ℕ) → a < j → p a ≡ false))
    → option_or o (cond b (Some n) None) ≡ Some k → (k < suc n) × (p k ≡ true) × ((a : ℕ) → a < k → p a ≡ false)
found_step p n k (Some j) b f g ih e =
    let at : j ≡ k = some_is j k e in
    let old = ih j f in
    subst (λ (i : ℕ). (i < suc n) × (p i ≡ true) × ((a : ℕ) → a < i → p a ≡ false)) at (omega (arith, old.0), old.1, old.2)
found_step p n k None true f g ih e =
    let at : n ≡ k = some_is n k e in
    subst (λ (i : ℕ). (i < suc n) × (p i ≡ true) × ((a : ℕ) → a < i → p a ≡ false)) at
    (omega arith, g, λ a h. none_found p n a (ap (λ (o : Option ℕ). is_some o) f) h)
found_step p n k None false f g ih e = absurd (cc)

-- what is found passes, and nothing before it
pub found : (p : ℕ → Bool) (n k : ℕ) → find p (below n) ≡ Some k → (k < n) × (p k ≡ true) × ((a : ℕ) → a < k → p a ≡ false)
found p zero k e = absurd (cc)
found p (suc n) k e =
    found_step p n k (find p (below n)) (p n) refl refl (λ j f. found p n j f) (sym (find-append p (below n) (n ∷ [])) ∙ e)

kept_step : (p : ℕ → Bool) (n k : ℕ) (b : Bool) → p n ≡ b
    → ((k < length (filter p (below n))) → (get_or (filter p (below n)) k 0 < n) × (p (get_or (filter p (below n)) k 0) ≡ true))
    → k < length (filter p (below n) ++ cond b (n ∷ []) []) → (get_or (filter p (below n) ++ cond b (n ∷ []) []) k 0 < suc n) × (p (get_or (filter p (below n) ++ cond b (n ∷ []) []) k 0) ≡ true)
kept_step p n k b g ih h =
    ⊎_elim
    (λ (less : k < length (filter p (below n))).
    let old = ih less in
    let same = get_or_append_left (filter p (below n)) (cond b (n ∷ []) []) 0 k less in
    subst (λ (x : ℕ). (x < suc n) × (p x ≡ true)) (sym same) (omega (arith, old.0), old.1))
    (λ (le : length (filter p (below n)) ≤ k). last b g h le)
    (cases_lt k (length (filter p (below n))))
  where
    last : (b : Bool) → p n ≡ b → k < length (filter p (below n) ++ cond b (n ∷ []) []) → length (filter p (below n)) ≤ k
        → (get_or (filter p (below n) ++ cond b (n ∷ []) []) k 0 < suc n) × (p (get_or (filter p (below n) ++ cond b (n ∷ []) []) k 0) ≡ true)
    last true g h le =
        let size = length-append (filter p (below n)) (n ∷ []) in
        let at : length (filter p (below n)) ≡ k = omega (arith, size, h, le) in
        let here : get_or (filter p (below n) ++ n ∷ []) k 0 ≡ n = ap (λ (i : ℕ). get_or (filter p (below n) ++ n ∷ []) i 0) (sym at) ∙ get_or-append_seam (filter p (below n)) n [] 0 in
        subst (λ (x : ℕ). (x < suc n) × (p x ≡ true)) (sym here) (omega arith, g)
    last false g h le = let size = length-append (filter p (below n)) [] in absurd (omega (arith, size, h, le))

-- what is kept passes
pub kept : (p : ℕ → Bool) (n k : ℕ) → k < length (filter p (below n)) → (get_or (filter p (below n)) k 0 < n) × (p (get_or (filter p (below n)) k 0) ≡ true)
kept p zero k h = absurd (omega arith)
kept p (suc n) k h =
    let all = filter-append p (below n) (n ∷ []) in
    subst (λ (xs : List ℕ). (get_or xs k 0 < suc n) × (p (get_or xs k 0) ≡ true)) (sym all)
    (kept_step p n k (p n) refl (λ less. kept p n k less) (subst (λ (xs : List ℕ). k < length xs) all h))

empty_parts : (xs ys : List ℕ) → xs ++ ys ≡ [] → (xs ≡ []) × (ys ≡ [])
empty_parts [] ys e = (refl, e)
empty_parts (x ∷ xs) ys e = absurd (cc)

empty_test : (b : Bool) (n : ℕ) → cond b (n ∷ []) [] ≡ [] → b ≡ false
empty_test true n e = absurd (cc)
empty_test false n e = refl

-- nothing kept, nothing passes
pub none_kept : (p : ℕ → Bool) (n a : ℕ) → filter p (below n) ≡ [] → a < n → p a ≡ false
none_kept p zero a e h = absurd (omega arith)
none_kept p (suc n) a e h =
    let parts = empty_parts (filter p (below n)) (cond (p n) (n ∷ []) []) (sym (filter-append p (below n) (n ∷ [])) ∙ e) in
    ⊎_elim
    (λ (less : a < n). none_kept p n a parts.0 less)
    (λ (le : n ≤ a). let at : a ≡ n = omega arith in subst (λ (k : ℕ). p k ≡ false) (sym at) (empty_test (p n) n parts.1))
    (cases_lt a n)

-- nothing passes, nothing kept
pub keeps_none : (p : ℕ → Bool) (n : ℕ) → ((a : ℕ) → a < n → p a ≡ false) → filter p (below n) ≡ []
keeps_none p zero h = refl
keeps_none p (suc n) h =
    filter-append p (below n) (n ∷ []) ∙ ap (λ (b : Bool). filter p (below n) ++ cond b (n ∷ []) []) (h n (omega arith))
    ∙ ap (λ (xs : List ℕ). xs ++ []) (keeps_none p n (λ a l. h a (omega arith)))
