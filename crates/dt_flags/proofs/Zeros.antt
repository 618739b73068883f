-- Levels of zeros.
use Rattle.std.proofs.Common.{◌≡◌, ℕ, ◌+◌, ◌-◌, ◌/◌, ◌<◌, List, [], ◌∷◌, ◌++◌, length, replicate, ap, sym, ◌∙◌, arith, length-append}
use Rattle.dt_flags.specs.Sums.{AreHalves, halved, halved_times}
use Rattle.dt_flags.proofs.Halves.{halved_zeros, halves_push, times_push}

-- the first level
pub first_zeros : (n : ℕ) (levels : List (List ℕ)) (zs : List ℕ) → zs ≡ replicate n 0 → levels ≡ zs ∷ []
    → AreHalves (replicate n 0) levels × (halved_times (length levels) (replicate n 0) ≡ replicate (n - n / 2) 0) × (0 < length levels)
first_zeros n levels zs z e = rw e ((z, tt), halved_zeros n, omega arith)

-- the next one
pub more_zeros : (n len : ℕ) (levels after : List (List ℕ)) (zs : List ℕ) → AreHalves (replicate n 0) levels → halved_times (length levels) (replicate n 0) ≡ replicate (len - len / 2) 0
    → zs ≡ replicate (len - len / 2) 0 → after ≡ levels ++ zs ∷ []
    → AreHalves (replicate n 0) after × (halved_times (length after) (replicate n 0) ≡ replicate (len - len / 2 - (len - len / 2) / 2) 0) × (0 < length after)
more_zeros n len levels after zs a next z e =
    let count : length (levels ++ zs ∷ []) ≡ length levels + 1 = length-append levels (zs ∷ []) in
    rw e (
      halves_push levels (replicate n 0) zs a (z ∙ sym next),
      times_push levels (replicate n 0) zs ∙ ap halved next ∙ halved_zeros (len - len / 2),
      omega (arith, count),
    )
