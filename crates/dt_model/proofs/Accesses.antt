-- The numbers of accesses.
use Rattle.std.proofs.Common.{◌≡◌, ℕ, ◌+◌, ◌<◌, List, length, take, get_or, map, refl, ap, sym, ◌∙◌, arith, slice_index, slice_get, Some, None, unwrap_or, slice_set}
use Rattle.std.proofs.lemmas.List.{take_more, take_more_set, map-append, take_all}
use Rattle.dt_model.specs.WholeTensor.{WholeTensor, number_at}
use Rattle.dt_model.specs.Value.{coordinates, access_value}
use Rattle.dt_model.specs.declared.stmt.Access.{Access}

pub coordinates_more : (env vars c : List ℕ) (i : ℕ) → i < length vars → i < length c → take i c ≡ map (λ v. slice_index env v) (take i vars)
    → take (i + 1) (slice_set c i (get_or env (get_or vars i 0) 0)) ≡ map (λ v. slice_index env v) (take (i + 1) vars)
coordinates_more env vars c i h k e = rw (take_more_set c i (get_or env (get_or vars i 0) 0) k, e, take_more vars i 0 h, map-append) refl

pub access_none : (ts : List WholeTensor) (env : List ℕ) (a : Access) → None ≡ slice_get ts a.tensor → 0 ≡ access_value ts env a
access_none ts env a e = rw (← e) refl

pub access_some : (ts : List WholeTensor) (env : List ℕ) (a : Access) (t : WholeTensor) (xs : List ℕ) (r : ℕ) → Some t ≡ slice_get ts a.tensor → xs ≡ coordinates env a.vars
    → r ≡ unwrap_or (number_at t xs) 0 → r ≡ access_value ts env a
access_some ts env a t xs r e x h = rw (← e, ← x) h

pub take_full : (env vars all c : List ℕ) (i : ℕ) → vars ≡ all → i ≡ length vars → take i c ≡ map (λ v. slice_index env v) (take i vars) → take (length vars) c ≡ coordinates env all
take_full env vars all c i e n h = ap (λ (k : ℕ). take k c) (sym n) ∙ h ∙ ap (λ (v : List ℕ). map (λ v. slice_index env v) v) (take_all i vars (omega arith) ∙ e)
