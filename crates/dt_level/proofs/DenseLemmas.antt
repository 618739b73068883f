-- Levels with every coordinate.
use Rattle.std.proofs.Common.{◌≡◌, ℕ, suc, ◌+◌, ◌*◌, ◌^◌, ◌<◌, ◌≤◌, List, [], length, get_or, ap, sym, ◌∙◌, arith, Some, None, ◌==◌, min}
use Rattle.std.specs.Prelude.{nat_le, replicate}
use Rattle.std.specs.Option.{option_map}
use Rattle.std.specs.List.{position, position_or_len, sum_by}
use Rattle.std.specs.List.Sorted.{IsStrictlyIncreasing}
use Rattle.std.proofs.Math.Nat.{mul-le-mul_right}
use Rattle.std.proofs.lemmas.List.{get_or-replicate, length-replicate, take-replicate}
use Rattle.std.proofs.lemmas.List.Folds.{sum_by-replicate}
use Rattle.std.proofs.lemmas.List.Elements.{All-replicate}
use Rattle.dt_base.specs.Ranges.{below}
use Rattle.dt_base.proofs.Ranges.{length-below, get_or-below}
use Rattle.dt_level.specs.Levels.{IsLevel, children_of, first_child, find_child, least_child}
use Rattle.dt_level.proofs.SearchLemmas.{least_is, found_at, found_nowhere}

-- each parent has every coordinate
pub children-dense : (n parents p : ℕ) → p < parents → children_of (replicate parents (below n)) p ≡ below n
children-dense n parents p h = get_or-replicate parents p (below n) [] h

pub first_child-dense : (n parents p : ℕ) → p < parents → first_child (replicate parents (below n)) p ≡ p * n
first_child-dense n parents p h =
    ap (sum_by length) (take-replicate p parents (below n) (omega arith))
    ∙ sum_by-replicate length p (below n)
    ∙ ap (λ (k : ℕ). p * k) (length-below n)

below-increasing : (n : ℕ) → IsStrictlyIncreasing (below n)
below-increasing n k h =
    let long = length-below n in
    omega (arith, get_or-below n k 0 (omega arith), get_or-below n (k + 1) 0 (omega arith))

pub dense_level : (n parents : ℕ) → parents * n < 2 ^ 32 → IsLevel (replicate parents (below n))
dense_level n parents h = record {
  ascending = All-replicate IsStrictlyIncreasing parents (below n) (below-increasing n);
  numbered = rw (sum_by-replicate {X = List ℕ} length parents (below n), length-below n) h;
}

pub least-below : (n x : ℕ) → position_or_len (λ y. nat_le x y) (below n) ≡ min x n
least-below n x =
    least_is (below n) x (min x n) (omega (arith, length-below n))
    (λ i lt. omega (arith, get_or-below n i 0 (omega arith)))
    (λ lt. omega (arith, length-below n, get_or-below n (min x n) 0 (omega (arith, length-below n))))

pub found-below : (n x : ℕ) → x < n → position (λ y. y == x) (below n) ≡ Some x
found-below n x h =
    found_at (below n) x x (omega (arith, length-below n)) (λ i lt. omega (arith, get_or-below n i 0 (omega arith))) (get_or-below n x 0 h)

pub found-outside : (n x : ℕ) → n ≤ x → position (λ y. y == x) (below n) ≡ None
found-outside n x h =
    found_nowhere (below n) x n (below-increasing n) (omega (arith, length-below n))
    (λ i lt. omega (arith, get_or-below n i 0 lt))
    (λ lt. absurd (omega (arith, length-below n)))

-- the last number of a parent's children is below the number of all
pub child_fits : (n parents p : ℕ) → p < parents → p * n + n ≤ parents * n
child_fits n parents p h = let e = mul-le-mul_right {m = suc p} {n = parents} n (omega arith) in grind arith

-- What a dense level's calls answer.

parents_are : (n parents p : ℕ) (level : List (List ℕ)) → replicate parents (below n) ≡ level → p < length level → p < parents
parents_are n parents p level is h = omega (arith, ap length is, length-replicate parents (below n), h)

children_are : (n parents p : ℕ) (level : List (List ℕ)) → replicate parents (below n) ≡ level → p < length level → below n ≡ children_of level p
children_are n parents p level is h =
    sym (children-dense n parents p (parents_are n parents p level is h)) ∙ ap (λ (l : List (List ℕ)). children_of l p) is

pub dense_count : (n parents p : ℕ) (level : List (List ℕ)) → replicate parents (below n) ≡ level → p < length level → n ≡ length (children_of level p)
dense_count n parents p level is h = sym (length-below n) ∙ ap length (children_are n parents p level is h)

pub dense_number : (n parents p : ℕ) (level : List (List ℕ)) → replicate parents (below n) ≡ level → p < length level → p * n ≡ first_child level p
dense_number n parents p level is h =
    sym (first_child-dense n parents p (parents_are n parents p level is h)) ∙ ap (λ (l : List (List ℕ)). first_child l p) is

pub dense_coordinate : (n parents p k : ℕ) (level : List (List ℕ)) → replicate parents (below n) ≡ level → p < length level → k < length (children_of level p)
    → k ≡ get_or (children_of level p) k 0
dense_coordinate n parents p k level is h lt =
    sym (get_or-below n k 0 (omega (arith, dense_count n parents p level is h, lt))) ∙ ap (λ (l : List ℕ). get_or l k 0) (children_are n parents p level is h)

pub dense_fits : (n parents p k : ℕ) (level : List (List ℕ)) → replicate parents (below n) ≡ level → parents * n < 2 ^ 32 → p < length level → k < n → p * n + k < 2 ^ 32
dense_fits n parents p k level is small h lt = omega (arith, child_fits n parents p (parents_are n parents p level is h), small, lt)

pub dense_least : (n parents p x : ℕ) (level : List (List ℕ)) → replicate parents (below n) ≡ level → p < length level → least_child level p x ≡ min x n
dense_least n parents p x level is h =
    ap (position_or_len (λ y. nat_le x y)) (sym (children_are n parents p level is h)) ∙ least-below n x

pub dense_found : (n parents p x : ℕ) (level : List (List ℕ)) → replicate parents (below n) ≡ level → p < length level → x < n → Some (p * n + x) ≡ find_child level p x
dense_found n parents p x level is h lt =
    ap (λ (m : ℕ). Some (m + x)) (dense_number n parents p level is h)
    ∙ ap (option_map (λ k. first_child level p + k)) (sym (found-below n x lt) ∙ ap (position (λ y. y == x)) (children_are n parents p level is h))

pub dense_missing : (n parents p x : ℕ) (level : List (List ℕ)) → replicate parents (below n) ≡ level → p < length level → n ≤ x → None ≡ find_child level p x
dense_missing n parents p x level is h le =
    ap (option_map (λ k. first_child level p + k)) (sym (found-outside n x le) ∙ ap (position (λ y. y == x)) (children_are n parents p level is h))
