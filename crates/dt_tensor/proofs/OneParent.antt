-- A level with one parent.
use Rattle.std.proofs.Common.{◌≡◌, ℕ, zero, suc, ◌+◌, ◌-◌, ◌<◌, ◌==◌, List, [], ◌∷◌, length, get_or, take, drop, refl, ap, ap₂, sym, ◌∙◌, arith, Bool, true, ◌&&◌, nat_lt, nat_le, inl, inr}
use Rattle.std.specs.List.{list_all}
use Rattle.std.specs.List.Sorted.{IsStrictlyIncreasing}
use Rattle.std.proofs.lemmas.Bool.{and_from, lt-ltb, le-leb}
use Rattle.std.proofs.lemmas.Bool.Decides.{eqb_tells}
use Rattle.std.proofs.lemmas.List.{take_all}
use Rattle.dt_level.specs.Segments.{segments, ascends, never_falls, cuts_whole, are_parts}

pub ascends_increasing : (xs : List ℕ) → IsStrictlyIncreasing xs → ascends xs ≡ true
ascends_increasing [] up = refl
ascends_increasing (x ∷ []) up = refl
ascends_increasing (x ∷ y ∷ ys) up =
    let first : x < y = up 0 (omega arith) in
    and_from (nat_lt x y) (ascends (y ∷ ys)) (lt-ltb x y first) (ascends_increasing (y ∷ ys) (λ k h. let e : suc k + 1 ≡ suc (k + 1) = omega arith in rw e at (up (suc k) (omega arith))))

pub one_segment : (fs : List ℕ) → segments (0 ∷ length fs ∷ []) fs ≡ fs ∷ []
one_segment fs = ap (λ (l : List ℕ). l ∷ []) (take_all (length fs - 0) fs (omega arith))

pub one_parent : (fs : List ℕ) → IsStrictlyIncreasing fs → are_parts (0 ∷ length fs ∷ []) fs ≡ true
one_parent fs up =
    and_from (cuts_whole (0 ∷ length fs ∷ []) (length fs)) (list_all ascends (segments (0 ∷ length fs ∷ []) fs))
    (and_from (length fs == length fs) (nat_le 0 (length fs) && true) (itself (length fs)) (and_from (nat_le 0 (length fs)) true (le-leb 0 (length fs) (omega arith)) refl))
    (ap (list_all ascends) (one_segment fs) ∙ and_from (ascends fs) true (ascends_increasing fs up) refl)
  where
    itself : (n : ℕ) → (n == n) ≡ true
    itself n = elim (eqb_tells n n) [ inl e ↦ e.0 | inr e ↦ absurd (e.1 refl) ]
