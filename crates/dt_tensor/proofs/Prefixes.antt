-- Prefixes of the coordinates of a tensor whose levels are dense.
use Rattle.std.proofs.Common.{◌≡◌, ℕ, ◌<◌, ◌≤◌, List, [], ◌∷◌, ◌++◌, length, get_or, refl, ap, sym, ◌∙◌, subst, arith, length-append, Some, None, Bool, true, false, ◌&&◌, nat_le, nat_lt}
use Rattle.std.specs.List.{list_all, zip}
use Rattle.std.proofs.lemmas.Bool.{le-leb, lt-leb, lt-ltb, and_from, and_left, and_right}
use Rattle.dt_model.specs.Positions.{StoredTensor, is_front, is_stored_prefix, next_child_of}
use Rattle.dt_tensor.specs.Packed.{dense_levels}
use Rattle.dt_base.specs.Ranges.{assignments}
use Rattle.dt_base.proofs.Firsts.{find-below-none, find-below-some}
use Rattle.dt_tensor.proofs.DenseTensors.{is_followed-dense}

-- one more coordinate of a front
zip_push : (front ns : List ℕ) (x : ℕ) → length front < length ns
    → list_all (λ p. nat_lt p.0 p.1) (zip (front ++ x ∷ []) ns) ≡ (list_all (λ p. nat_lt p.0 p.1) (zip front ns) && nat_lt x (get_or ns (length front) 0))
zip_push [] [] x h = absurd (omega arith)
zip_push [] (n ∷ ns) x h = last (nat_lt x n)
  where
    last : (b : Bool) → (b && true) ≡ (true && b)
    last true = refl
    last false = refl
zip_push (y ∷ ys) [] x h = absurd (omega arith)
zip_push (y ∷ ys) (n ∷ ns) x h = ap (λ (b : Bool). nat_lt y n && b) (zip_push ys ns x (omega arith)) ∙ regroup (nat_lt y n) (list_all (λ p. nat_lt p.0 p.1) (zip ys ns)) (nat_lt x (get_or ns (length ys) 0))
  where
    regroup : (a b c : Bool) → (a && (b && c)) ≡ ((a && b) && c)
    regroup true b c = refl
    regroup false b c = refl

pub is_front-push : (ns front : List ℕ) (x : ℕ) → length front < length ns → is_front ns (front ++ x ∷ []) ≡ (is_front ns front && nat_lt x (get_or ns (length front) 0))
is_front-push ns front x h =
    let longer : nat_le (length (front ++ x ∷ [])) (length ns) ≡ true = le-leb (length (front ++ x ∷ [])) (length ns) (omega (arith, length-append front (x ∷ []))) in
    let shorter : nat_le (length front) (length ns) ≡ true = le-leb (length front) (length ns) (omega arith) in
    ap (λ (b : Bool). b && list_all (λ p. nat_lt p.0 p.1) (zip (front ++ x ∷ []) ns)) longer
    ∙ zip_push front ns x h
    ∙ ap (λ (b : Bool). (b && list_all (λ p. nat_lt p.0 p.1) (zip front ns)) && nat_lt x (get_or ns (length front) 0)) (sym shorter)

-- the stored prefixes of dense levels are all fronts
pub is_stored_prefix-dense : (ns c : List ℕ) → is_stored_prefix (dense_levels ns) c ≡ is_front ns c
is_stored_prefix-dense ns c = ap (λ (b : Bool). is_front ns c && b) (is_followed-dense (length ns) (assignments ns) c) ∙ whole (is_front ns c)
  where
    whole : (b : Bool) → (b && true) ≡ b
    whole true = refl
    whole false = refl

-- a coordinate follows a front where it is below the extent
follows : (ns front : List ℕ) (x : ℕ) → length front < length ns
    → is_stored_prefix (dense_levels ns) (front ++ x ∷ []) ≡ (is_front ns front && nat_lt x (get_or ns (length front) 0))
follows ns front x h = is_stored_prefix-dense ns (front ++ x ∷ []) ∙ is_front-push ns front x h

-- the next coordinate behind a front
next_child-here : (ns front : List ℕ) (from : ℕ) → length front < length ns → is_front ns front ≡ true → from < get_or ns (length front) 0
    → Some from ≡ next_child_of (dense_levels ns) front from
next_child-here ns front from h inside lt =
    sym (find-below-some (λ x. nat_le from x && is_stored_prefix (dense_levels ns) (front ++ x ∷ [])) (get_or ns (length front) 0) from lt
    (and_from (nat_le from from) (is_stored_prefix (dense_levels ns) (front ++ from ∷ [])) (le-leb from from (omega arith))
    (follows ns front from h ∙ and_from (is_front ns front) (nat_lt from (get_or ns (length front) 0)) inside (lt-ltb from (get_or ns (length front) 0) lt)))
    (λ j less. and_left (nat_le from j) (is_stored_prefix (dense_levels ns) (front ++ j ∷ [])) (lt-leb from j less)))

-- no coordinate behind what is no front
next_child-outside : (ns front : List ℕ) (from : ℕ) → length front < length ns → is_front ns front ≡ false
    → None ≡ next_child_of (dense_levels ns) front from
next_child-outside ns front from h outside =
    sym (find-below-none (λ x. nat_le from x && is_stored_prefix (dense_levels ns) (front ++ x ∷ [])) (get_or ns (length front) 0)
    (λ j less. and_right (nat_le from j) (is_stored_prefix (dense_levels ns) (front ++ j ∷ []))
    (follows ns front j h ∙ and_left (is_front ns front) (nat_lt j (get_or ns (length front) 0)) outside)))

-- no coordinate from the extent on
next_child-past : (ns front : List ℕ) (from : ℕ) → get_or ns (length front) 0 ≤ from
    → None ≡ next_child_of (dense_levels ns) front from
next_child-past ns front from past =
    sym (find-below-none (λ x. nat_le from x && is_stored_prefix (dense_levels ns) (front ++ x ∷ [])) (get_or ns (length front) 0)
    (λ j less. and_left (nat_le from j) (is_stored_prefix (dense_levels ns) (front ++ j ∷ [])) (lt-leb from j (omega arith))))

-- the same of a tensor that is such a dense one
pub next_here : (t : StoredTensor) (ns ds front : List ℕ) (from : ℕ) → dense_levels ns ≡ t → ds ≡ ns → length front < length t.extents → is_stored_prefix t front ≡ true
    → from < get_or ds (length front) 0 → Some from ≡ next_child_of t front from
next_here t ns ds front from is same =
    subst (λ (t : StoredTensor). length front < length t.extents → is_stored_prefix t front ≡ true → from < get_or ds (length front) 0 → Some from ≡ next_child_of t front from) is
    (λ h inside lt. next_child-here ns front from h (sym (is_stored_prefix-dense ns front) ∙ inside) (subst (λ (l : List ℕ). from < get_or l (length front) 0) same lt))

pub next_outside : (t : StoredTensor) (ns front : List ℕ) (from : ℕ) → dense_levels ns ≡ t → length front < length t.extents → is_stored_prefix t front ≡ false
    → None ≡ next_child_of t front from
next_outside t ns front from is =
    subst (λ (t : StoredTensor). length front < length t.extents → is_stored_prefix t front ≡ false → None ≡ next_child_of t front from) is
    (λ h outside. next_child-outside ns front from h (sym (is_stored_prefix-dense ns front) ∙ outside))

pub next_past : (t : StoredTensor) (ns ds front : List ℕ) (from : ℕ) → dense_levels ns ≡ t → ds ≡ ns → get_or ds (length front) 0 ≤ from
    → None ≡ next_child_of t front from
next_past t ns ds front from is same past =
    subst (λ (t : StoredTensor). None ≡ next_child_of t front from) is (next_child-past ns front from (subst (λ (l : List ℕ). get_or l (length front) 0 ≤ from) same past))
