-- Tables with one value for each coordinates of a list, in order.
use Rattle.std.proofs.Common.{◌≡◌, ℕ, ◌<◌, List, [], ◌∷◌, length, get_or, map, replicate, refl, ap, ap₂, sym, ◌∙◌, subst, arith, Option, Some, None, position, inl, inr, length-set, get_or-set_same, get_or-set_other}
use Rattle.std.proofs.Math.ListN.{set}
use Rattle.std.specs.Str.{bytes_eq}
use Rattle.std.proofs.lemmas.Bool.{cases_eq}
use Rattle.std.proofs.lemmas.List.{length-map, get_or-map, same_lists}
use Rattle.std.proofs.lemmas.List.Quantifiers.{position-Some}
use Rattle.std.proofs.lemmas.Slice.Eq.{bytes_eq-Decides}

-- each coordinates of a list are first found at their own place
abbrev pub Distinct : List (List ℕ) → Type 0
Distinct cs = (j : ℕ) → j < length cs → position (λ d. bytes_eq d (get_or cs j [])) cs ≡ Some j

-- where some coordinates are found
pub found_there : (cs : List (List ℕ)) (c : List ℕ) (k : ℕ) → position (λ d. bytes_eq d c) cs ≡ Some k → (k < length cs) × (get_or cs k [] ≡ c)
found_there cs c k e =
    let f = position-Some (λ d. bytes_eq d c) cs k [] e in
    (f.0, (bytes_eq-Decides (get_or cs k []) c).0 f.1)

-- the value at a place
pub value_there : {A : Type 0} (f : List ℕ → A) (cs : List (List ℕ)) (c : List ℕ) (k : ℕ) (d : A) → position (λ d. bytes_eq d c) cs ≡ Some k → get_or (map f cs) k d ≡ f c
value_there f cs c k d e =
    let at = found_there cs c k e in
    get_or-map f cs k [] d at.0 ∙ ap f at.1

-- a write at the place of some coordinates changes the table there
pub stored-set : {A : Type 0} (f g : List ℕ → A) (cs : List (List ℕ)) (c : List ℕ) (k : ℕ) (v : A) → Distinct cs → position (λ d. bytes_eq d c) cs ≡ Some k → g c ≡ v → ((d : List ℕ) → (c ≡ d → ⊥) → g d ≡ f d)
    → set (map f cs) k v ≡ map g cs
stored-set {A} f g cs c k v one e here other =
    same_lists (set (map f cs) k v) (map g cs) (length-set (map f cs) k v ∙ length-map cs f ∙ sym (length-map cs g))
    (λ j d h. let room : j < length cs = omega (arith, length-set (map f cs) k v, length-map cs f) in
    elim (cases_eq j k) [ inl same ↦ there j d room same | inr apart ↦ elsewhere j d room apart ])
  where
    at : (k < length cs) × (get_or cs k [] ≡ c)
    at = found_there cs c k e

    there : (j : ℕ) (d : A) → j < length cs → j ≡ k → get_or (set (map f cs) k v) j d ≡ get_or (map g cs) j d
    there j d room same =
        ap (λ (i : ℕ). get_or (set (map f cs) k v) i d) same ∙ get_or-set_same (map f cs) k v d (omega (arith, at.0, length-map cs f))
        ∙ sym here ∙ sym (value_there g cs c k d e) ∙ ap (λ (i : ℕ). get_or (map g cs) i d) (sym same)

    elsewhere : (j : ℕ) (d : A) → j < length cs → (j ≡ k → ⊥) → get_or (set (map f cs) k v) j d ≡ get_or (map g cs) j d
    elsewhere j d room apart =
        get_or-set_other (map f cs) k j v d apart ∙ get_or-map f cs j [] d room
        ∙ sym (other (get_or cs j []) (λ q. apart (same j q room)))
        ∙ sym (get_or-map g cs j [] d room)
      where
        same : (j : ℕ) → c ≡ get_or cs j [] → j < length cs → j ≡ k
        same j q room =
            let two : ◌≡◌ {A = Option ℕ} (Some j) (Some k) = sym (one j room) ∙ ap (λ (x : List ℕ). position (λ d. bytes_eq d x) cs) (sym q) ∙ e in
            cc

-- where the coordinates are nowhere, the table stays
pub stored-kept : {A : Type 0} (f g : List ℕ → A) (cs : List (List ℕ)) (c : List ℕ) → Distinct cs → position (λ d. bytes_eq d c) cs ≡ None → ((d : List ℕ) → (c ≡ d → ⊥) → g d ≡ f d) → map f cs ≡ map g cs
stored-kept {A} f g cs c one e other =
    same_lists (map f cs) (map g cs) (length-map cs f ∙ sym (length-map cs g))
    (λ j d h. let room : j < length cs = omega (arith, length-map cs f) in
    get_or-map f cs j [] d room ∙ sym (other (get_or cs j []) (λ q. none j q room)) ∙ sym (get_or-map g cs j [] d room))
  where
    none : (j : ℕ) → c ≡ get_or cs j [] → j < length cs → ⊥
    none j q room =
        let two : ◌≡◌ {A = Option ℕ} (Some j) None = sym (one j room) ∙ ap (λ (x : List ℕ). position (λ d. bytes_eq d x) cs) (sym q) ∙ e in
        cc

-- a table of one value
pub stored-same : {A : Type 0} (f : List ℕ → A) (cs : List (List ℕ)) (v : A) → ((c : List ℕ) → f c ≡ v) → replicate (length cs) v ≡ map f cs
stored-same f [] v h = refl
stored-same f (c ∷ cs) v h = ap₂ (λ x xs. x ∷ xs) (sym (h c)) (stored-same f cs v h)

-- a place of some coordinates is one of the table
pub place_fits : {A : Type 0} (f : List ℕ → A) (cs : List (List ℕ)) (c : List ℕ) (k : ℕ) (xs : List A) → position (λ d. bytes_eq d c) cs ≡ Some k → xs ≡ map f cs → k < length xs
place_fits f cs c k xs e same = let at = found_there cs c k e in omega (arith, at.0, ap length same, length-map cs f)
