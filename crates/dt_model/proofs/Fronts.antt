-- Reading a list from the front: what is read already, and what the rest gives.
use Rattle.std.proofs.Common.{◌≡◌, List, [], ◌∷◌, ◌++◌, Result, Ok, Err, refl, ap, append_assoc, append-nil}
use Rattle.dt_model.specs.declared.cause.Cause.{Cause}
use Rattle.dt_model.specs.Steps.{◌>>=◌}

-- the items that were read, and those to read
abbrev pub with_front : {A : Type 0} → List A → Result (List A) Cause → Result (List A) Cause
with_front front (Ok xs) = Ok (front ++ xs)
with_front front (Err e) = Err e

-- nothing is read yet
pub with_front-nil : {A : Type 0} (r : Result (List A) Cause) → with_front [] r ≡ r
with_front-nil (Ok xs) = refl
with_front-nil (Err e) = refl

-- one more item is read
pub with_front-push : {A : Type 0} (front : List A) (x : A) (r : Result (List A) Cause) → with_front (front ++ x ∷ []) r ≡ with_front front (r >>= λ xs. Ok (x ∷ xs))
with_front-push front x (Ok xs) = ap Ok (append_assoc front (x ∷ []) xs)
with_front-push front x (Err e) = refl

-- everything is read
pub with_front-end : {A : Type 0} (front : List A) → with_front front (Ok []) ≡ Ok front
with_front-end front = ap Ok (append-nil front)
