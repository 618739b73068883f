-- A list that is sorted and freed of repetitions has the same numbers.
use Rattle.std.proofs.Common.{◌≡◌, ℕ, Bool, true, false, ◌||◌, List, [], ◌∷◌, get_or, refl, ap, sym, ◌∙◌, subst, cond}
use Rattle.std.specs.List.{All, Contains, dedup, dedup_from}
use Rattle.std.specs.List.Sorted.{IsPermutation, IsSorted, IsStrictlyIncreasing}
use Rattle.std.specs.List.Retain.{IsFiltered, DiffersFromLast}
use Rattle.std.specs.Ordering.{nat_cmp}
use Rattle.std.specs.Prelude.{nat_eq}
use Rattle.std.proofs.lemmas.Bool.{eqb-true}
use Rattle.std.proofs.lemmas.List.Filters.{dedup_is}
use Rattle.std.proofs.lemmas.List.Elements.{All-contains_itself}
use Rattle.std.proofs.lemmas.List.Kept.{Contains-from_dedup}
use Rattle.std.proofs.lemmas.List.Sorted.{All-permutation, list_any-IsPermutation}
use Rattle.std.proofs.lemmas.Map.Keys.{IsStrictlyIncreasing-dedup}
use Rattle.dt_runs.specs.Sets.{contains}

-- a list has the numbers that are left when repetitions are dropped
contains-dedup_from : (k : ℕ) (xs : List ℕ) (x : ℕ) → contains (dedup_from nat_eq k xs) x ≡ contains (k ∷ xs) x
contains-dedup_from k [] x = refl
contains-dedup_from k (y ∷ xs) x = go (nat_eq y k) (eqb-true y k) (contains-dedup_from k xs x) (contains-dedup_from y xs x)
  where
    again : (a b : Bool) → (a || b) ≡ (a || (a || b))
    again true b = refl
    again false b = refl

    go : (b : Bool) → (b ≡ true → y ≡ k) → contains (dedup_from nat_eq k xs) x ≡ contains (k ∷ xs) x → contains (dedup_from nat_eq y xs) x ≡ contains (y ∷ xs) x
        → contains (cond b (dedup_from nat_eq k xs) (k ∷ dedup_from nat_eq y xs)) x ≡ contains (k ∷ y ∷ xs) x
    go true e same next = same ∙ again (nat_eq k x) (contains xs x) ∙ ap (λ (z : ℕ). nat_eq k x || (nat_eq z x || contains xs x)) (sym (e refl))
    go false e same next = ap (λ (b : Bool). nat_eq k x || b) next

-- and so it is from its first number on
contains-dedup : (xs : List ℕ) (x : ℕ) → contains (dedup nat_eq xs) x ≡ contains xs x
contains-dedup [] x = refl
contains-dedup (y ∷ xs) x = contains-dedup_from y xs x

-- so do sorting and dropping repetitions
pub sorted-members : (old sorted new : List ℕ) → IsPermutation old sorted → IsFiltered (DiffersFromLast nat_eq) [] sorted new → (x : ℕ) → contains new x ≡ contains old x
sorted-members old sorted new p f x =
    ap (λ (l : List ℕ). contains l x) (dedup_is nat_eq sorted new f) ∙ contains-dedup sorted x ∙ sym (list_any-IsPermutation (λ y. nat_eq y x) old sorted p)

-- and what is left ascends
pub sorted-ascends : (sorted new : List ℕ) → IsSorted nat_cmp sorted → IsFiltered (DiffersFromLast nat_eq) [] sorted new → IsStrictlyIncreasing new
sorted-ascends sorted new s f = subst IsStrictlyIncreasing (sym (dedup_is nat_eq sorted new f)) (IsStrictlyIncreasing-dedup sorted s)

-- a fact of each number of the list is one of each that is left
pub sorted-all : (P : ℕ → Type 0) (old sorted new : List ℕ) → IsPermutation old sorted → IsFiltered (DiffersFromLast nat_eq) [] sorted new → All P old → All P new
sorted-all P old sorted new p f h =
    subst (λ (l : List ℕ). All P l) (sym (dedup_is nat_eq sorted new f)) (λ k d l. holds (get_or (dedup nat_eq sorted) k d) (All-contains_itself (dedup nat_eq sorted) k d l))
  where
    at : (x : ℕ) → Contains sorted x → P x
    at x (k, l, e) = subst P e (All-permutation P old sorted p h k x l)

    holds : (x : ℕ) → Contains (dedup nat_eq sorted) x → P x
    holds x m = at x (Contains-from_dedup nat_eq sorted x m)
