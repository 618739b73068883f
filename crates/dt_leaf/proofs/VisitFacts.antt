-- Coordinates, and sums modulo 2 ^ 64.
use Rattle.std.proofs.Common.{◌≡◌, ℕ, ◌+◌, ◌%◌, ◌^◌, ◌<◌, ◌≤◌, List, [], ◌∷◌, ◌++◌, length, take, get_or, map, sum_by, refl, ap, sym, ◌∙◌, arith}
use Rattle.std.specs.Prelude.{slice_set}
use Rattle.std.proofs.lemmas.List.{take_more, take_more_set, take_all, map-append}
use Rattle.std.proofs.lemmas.List.Sums.{sum_by_push}
use Rattle.std.proofs.Math.Nat.{add-mod}
use Rattle.dt_nest.specs.Meaning.{Env}

-- Coordinates ------------------------------------------------------------------------------------------------------------

-- one more coordinate
pub coordinates_more : (env : Env) (vars c : List ℕ) (i x : ℕ) → i < length vars → i < length c → x ≡ env (get_or vars i 0) → take i c ≡ map env (take i vars)
    → take (i + 1) (slice_set c i x) ≡ map env (take (i + 1) vars)
coordinates_more env vars c i x h k q e = rw (take_more_set c i x k, e, take_more vars i 0 h, map-append, q) refl

-- all coordinates
pub coordinates_all : (env : Env) (vars c : List ℕ) (i : ℕ) → length vars ≤ i → i ≤ length vars → take i c ≡ map env (take i vars) → take (length vars) c ≡ map env vars
coordinates_all env vars c i h k e =
    let n : length vars ≡ i = omega arith in
    ap (λ (m : ℕ). take m c) n ∙ e ∙ ap (map env) (take_all i vars h)

-- one more term of a sum modulo 2 ^ 64
pub terms_more : {A : Type 0} (f : A → ℕ) (xs : List A) (i : ℕ) (t : A) (s x : ℕ) → i < length xs → t ≡ get_or xs i t → s ≡ sum_by f (take i xs) % 2 ^ 64 → x ≡ f t % 2 ^ 64
    → (s + x) % 2 ^ 64 ≡ sum_by f (take (i + 1) xs) % 2 ^ 64
terms_more f xs i t s x h item e q =
    let whole : take (i + 1) xs ≡ take i xs ++ t ∷ [] = take_more xs i t h ∙ ap (λ z. take i xs ++ z ∷ []) (sym item) in
    rw (whole, sum_by_push f (take i xs) t, e, q) (sym (add-mod (sum_by f (take i xs)) (f t) (2 ^ 64)))
