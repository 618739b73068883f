-- A list that was lent as a slice and came back written.
use Rattle.std.proofs.Common.{◌≡◌, ℕ, ◌++◌, List, length, take, drop, append-nil, ap, ◌∙◌, arith}
use Rattle.std.proofs.lemmas.List.{drop_all, take_all}

-- it has the slice's elements
pub lent : {A : Type 0} (xs ys new : List A) (n : ℕ) → ys ≡ xs → n ≡ length xs → length new ≡ length ys → take n (new ++ drop (length new) xs) ≡ new
lent xs ys new n same whole size =
    let count : length new ≡ length xs = size ∙ ap length same in
    ap (λ (m : ℕ). take n (new ++ drop m xs)) count
    ∙ ap (λ zs. take n (new ++ zs)) (drop_all (length xs) xs (omega arith))
    ∙ ap (λ zs. take n zs) (append-nil new)
    ∙ take_all n new (omega (arith, count, whole))
