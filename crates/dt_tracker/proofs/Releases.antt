-- Each operation of a row waits for one less.
use Rattle.std.proofs.Common.{◌≡◌, ◌≢◌, ℕ, zero, suc, ◌+◌, ◌-◌, ◌<◌, ◌≤◌, Bool, true, false, ◌&&◌, ◌||◌, nat_eq, List, [], ◌∷◌, length, drop, get_or, slice_set, refl, ap, ap₂, sym, ◌∙◌, subst, arith, ⊎_elim, length-set, get_or-set_same, get_or-set_other}
use Rattle.std.specs.List.{list_any}
use Rattle.std.proofs.lemmas.Bool.{cases_eq, eq-eqb, ne_eqb}
use Rattle.std.proofs.lemmas.List.{drop_more, get_or_read}
use Rattle.dt_tracker.specs.Tracks.{has_left}
use Rattle.dt_tracker.specs.Waiting.{AreReady, CanRelease, fewer, is_ready, one_if, times_in}

module _ (row waiting : List ℕ) (i v : ℕ) (h : i < length row) (can : CanRelease (drop i row) waiting) where
  here : CanRelease (get_or row i 0 ∷ drop (i + 1) row) waiting
  here = subst (λ (xs : List ℕ). CanRelease xs waiting) (drop_more row i 0 h) can

  pub op_there : get_or row i 0 < length waiting
  op_there = here.0

  module _ (read : v ≡ get_or waiting (get_or row i 0) v) where
    pub value : v ≡ get_or waiting (get_or row i 0) 0
    value = get_or_read waiting (get_or row i 0) v here.0 read 0

    pub next_can : CanRelease (drop (i + 1) row) (slice_set waiting (get_or row i 0) (v - 1))
    next_can = subst (λ (n : ℕ). CanRelease (drop (i + 1) row) (slice_set waiting (get_or row i 0) (n - 1))) (sym value) here.2

    pub next_fewer : fewer (drop (i + 1) row) (slice_set waiting (get_or row i 0) (v - 1)) ≡ fewer (drop i row) waiting
    next_fewer =
        ap (λ (n : ℕ). fewer (drop (i + 1) row) (slice_set waiting (get_or row i 0) (n - 1))) value
        ∙ sym (ap (λ (xs : List ℕ). fewer xs waiting) (drop_more row i 0 h))

-- a flag that is set anew with its number
pub ready_set : (units done waiting : List ℕ) (flags : List Bool) (op w : ℕ) (r : Bool) → op < length waiting → length flags ≡ length waiting → AreReady units done waiting flags
    → r ≡ (has_left units done op && nat_eq w 0) → AreReady units done (slice_set waiting op w) (slice_set flags op r)
ready_set units done waiting flags op w r h len are e b l =
    let same = length-set waiting op w in
    ⊎_elim
    (λ (at : b ≡ op).
    let flag : get_or (slice_set flags op r) op false ≡ r = get_or-set_same flags op r false (omega (arith, h, len)) in
    let number : get_or (slice_set waiting op w) op 0 ≡ w = get_or-set_same waiting op w 0 h in
    subst (λ (x : ℕ). get_or (slice_set flags op r) x false ≡ is_ready units done (slice_set waiting op w) x) (sym at)
    (flag ∙ e ∙ ap (λ (n : ℕ). has_left units done op && nat_eq n 0) (sym number)))
    (λ (ne : b ≢ op).
    get_or-set_other flags op b r false ne ∙ are b (omega (arith, l, same))
    ∙ ap (λ (n : ℕ). has_left units done b && nat_eq n 0) (sym (get_or-set_other waiting op b w 0 ne)))
    (cases_eq b op)

pub length-fewer : (row waiting : List ℕ) → length (fewer row waiting) ≡ length waiting
length-fewer [] waiting = refl
length-fewer (b ∷ row) waiting = length-fewer row (slice_set waiting b (get_or waiting b 0 - 1)) ∙ length-set waiting b (get_or waiting b 0 - 1)

-- one that is at the front of a row
module _ (b : ℕ) (row ws : List ℕ) (h : b < length ws) where
  pub times_less : (x t : ℕ) → 0 < get_or ws b 0 → t + times_in row x ≡ get_or (slice_set ws b (get_or ws b 0 - 1)) x 0 → t + (one_if (nat_eq x b) + times_in row x) ≡ get_or ws x 0
  times_less x t p r =
      ⊎_elim
      (λ (e : x ≡ b).
      let g = get_or-set_same ws b (get_or ws b 0 - 1) 0 h in
      let one : one_if (nat_eq b b) ≡ 1 = ap one_if (eq-eqb b b refl) in
      let r2 = subst (λ (y : ℕ). t + times_in row y ≡ get_or (slice_set ws b (get_or ws b 0 - 1)) y 0) e r in
      subst (λ (y : ℕ). t + (one_if (nat_eq y b) + times_in row y) ≡ get_or ws y 0) (sym e) (omega (arith, g, one, r2, p)))
      (λ (n : x ≢ b).
      let g = get_or-set_other ws b x (get_or ws b 0 - 1) 0 n in
      let none : one_if (nat_eq x b) ≡ 0 = ap one_if (ne_eqb x b n) in
      omega (arith, g, none, r))
      (cases_eq x b)

-- each waits for as many less as it is in the row
pub fewer_at : (row ws : List ℕ) (x : ℕ) → CanRelease row ws → get_or (fewer row ws) x 0 + times_in row x ≡ get_or ws x 0
fewer_at [] ws x c = omega arith
fewer_at (b ∷ row) ws x c =
    times_less b row ws c.0 x (get_or (fewer row (slice_set ws b (get_or ws b 0 - 1))) x 0) c.1 (fewer_at row (slice_set ws b (get_or ws b 0 - 1)) x c.2)

or_right : (x y : Bool) → y ≡ true → (x || y) ≡ true
or_right true y e = refl
or_right false y e = e

or_left : (x y : Bool) → x ≡ true → (x || y) ≡ true
or_left true y e = refl
or_left false y e = absurd (cc)

-- a row can be released whose operations wait for as many as they are in it
pub can_release : (row ws : List ℕ) → ((x : ℕ) → list_any (nat_eq x) row ≡ true → (x < length ws) × (times_in row x ≤ get_or ws x 0)) → CanRelease row ws
can_release [] ws h = tt
can_release (b ∷ row) ws h =
    let self : nat_eq b b ≡ true = eq-eqb b b refl in
    let one : one_if (nat_eq b b) ≡ 1 = ap one_if self in
    let first = h b (or_left (nat_eq b b) (list_any (nat_eq b) row) self) in
    let some : 0 < get_or ws b 0 = omega (arith, first.1, one) in
    let len = length-set ws b (get_or ws b 0 - 1) in (
      first.0,
      some,
      can_release row (slice_set ws b (get_or ws b 0 - 1)) (λ x e.
          let there = h x (or_right (nat_eq x b) (list_any (nat_eq x) row) e) in
          let most : times_in row x ≤ get_or (slice_set ws b (get_or ws b 0 - 1)) x 0 =
          ⊎_elim
          (λ (at : x ≡ b).
          let g = get_or-set_same ws b (get_or ws b 0 - 1) 0 first.0 in
          subst (λ (y : ℕ). times_in row y ≤ get_or (slice_set ws b (get_or ws b 0 - 1)) y 0) (sym at) (omega (arith, g, one, first.1)))
          (λ (n : x ≢ b). let g = get_or-set_other ws b x (get_or ws b 0 - 1) 0 n in omega (arith, g, there.1))
          (cases_eq x b) in
          (omega (arith, there.0, len), most)),
    )
