-- Texts of numbers, joined by a byte.
use Rattle.std.proofs.Common.{◌≡◌, ℕ, ◌≤◌, List, [], ◌∷◌, ◌++◌, length, slice_range, get_or, map, ap, sym, ◌∙◌, arith, append-nil, append_assoc}
use Rattle.std.proofs.lemmas.List.{take_rest}
use Rattle.std.specs.List.{flat_map, join_with_byte}

-- the first piece, and each other behind the byte
pub join-cons : {A : Type 0} (c : ℕ) (f : A → List ℕ) (x : A) (xs : List A) → join_with_byte c (map f (x ∷ xs)) ≡ f x ++ flat_map (λ y. c ∷ f y) xs
join-cons c f x [] = sym (append-nil (f x))
join-cons c f x (y ∷ ys) = ap (λ (t : List ℕ). f x ++ c ∷ t) (join-cons c f y ys)

-- the first number was put, and then the others
pub joined : {A : Type 0} (c : ℕ) (f : A → List ℕ) (numbers : List A) (x : A) (old mid new : List ℕ) → 1 ≤ length numbers → x ≡ get_or numbers 0 x
    → mid ≡ old ++ f x → new ≡ mid ++ flat_map (λ y. c ∷ f y) (slice_range numbers 1 (length numbers)) → new ≡ old ++ join_with_byte c (map f numbers)
joined c f [] x old mid new h first e q = absurd (omega arith)
joined c f (y ∷ ys) x old mid new h first e q =
    let rest : new ≡ mid ++ flat_map (λ y. c ∷ f y) ys = q ∙ ap (λ zs. mid ++ flat_map (λ y. c ∷ f y) zs) (take_rest (y ∷ ys) 1) in
    rw (rest, e, first) (append_assoc old (f y) (flat_map (λ y. c ∷ f y) ys) ∙ ap (λ (t : List ℕ). old ++ t) (sym (join-cons c f y ys)))
