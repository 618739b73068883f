-- Lists that are gone through, element by element.
use Rattle.std.proofs.Common.{◌≡◌, ℕ, List, [], ◌∷◌, ◌++◌, length, map, refl, ap, sym, ◌∙◌, append-nil, arith}
use Rattle.std.proofs.lemmas.List.{append_assoc, map-append}

-- what was made of the elements so far, with one more
pub made_more : {A B : Type 0} (f : A → B) (front after : List B) (seen : List A) (x : A) (y : B) → y ≡ f x → after ≡ front ++ y ∷ [] → front ≡ map f seen → after ≡ map f (seen ++ x ∷ [])
made_more f front after seen x y m a e = a ∙ ap (λ z. front ++ z ∷ []) m ∙ ap (λ (l : List _). l ++ f x ∷ []) e ∙ sym (map-append f seen (x ∷ []))

-- one more element is gone through
pub seen_more : {A : Type 0} (seen rest left whole : List A) (x : A) → rest ≡ x ∷ left → seen ++ rest ≡ whole → (seen ++ x ∷ []) ++ left ≡ whole
seen_more seen rest left whole x r w = append_assoc seen (x ∷ []) left ∙ ap (λ (l : List _). seen ++ l) (sym r) ∙ w

nothing_left : {A : Type 0} (l : List A) → length l ≡ 0 → l ≡ []
nothing_left [] h = refl
nothing_left (x ∷ xs) h = absurd (omega arith)

-- all elements are gone through where none is left
pub seen_all : {A : Type 0} (seen rest whole : List A) (n : ℕ) → n ≡ length rest → n ≡ 0 → seen ++ rest ≡ whole → seen ≡ whole
seen_all seen rest whole n e z w = sym (append-nil seen) ∙ ap (λ (l : List _). seen ++ l) (sym (nothing_left rest (sym e ∙ z))) ∙ w

-- what was made of the elements so far, and what is to be made of the others
pub mapped_more : {A B : Type 0} (f : A → B) (front after whole : List B) (x : A) (y : B) (rest left : List A) → after ≡ front ++ y ∷ [] → y ≡ f x → rest ≡ x ∷ left → front ++ map f rest ≡ whole → after ++ map f left ≡ whole
mapped_more f front after whole x y rest left a e r w =
    ap (λ (l : List _). l ++ map f left) a ∙ ap (λ z. (front ++ z ∷ []) ++ map f left) e ∙ append_assoc front (f x ∷ []) (map f left) ∙ ap (λ (l : List _). front ++ map f l) (sym r) ∙ w
