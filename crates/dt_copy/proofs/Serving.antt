-- Pieces have needed words that their nodes hold, and all of them.
use Rattle.std.proofs.Common.{◌≡◌, ℕ, ◌+◌, ◌<◌, List, [], ◌∷◌, ◌++◌, length, refl, ap, ◌∙◌, sym, subst, arith, Bool, true, false, ◌&&◌, ◌||◌, Option, Some, None}
use Rattle.std.specs.Prelude.{position, if◌then◌else◌, count_by}
use Rattle.std.specs.List.{AllByRecursion, flat_map, list_any}
use Rattle.std.proofs.lemmas.Bool.{and_parts, eqb-true}
use Rattle.std.proofs.lemmas.List.Quantifiers.{position-Some}
use Rattle.std.proofs.lemmas.List.Sums.{sum_by-cons}
use Rattle.dt_base.specs.Ranges.{below}
use Rattle.dt_runs.specs.Sets.{contains}
use Rattle.dt_runs.proofs.SetLemmas.{contains-filter}
use Rattle.dt_copy.specs.declared.piece_list.Piece.{Piece}
use Rattle.dt_copy.specs.Serving.{IsHeld, PiecesServe}
use Rattle.dt_copy.specs.Sources.{home_at, source_of, is_it, piece_of, words_from, pieces_of}
use Rattle.dt_copy.proofs.Once.{each_once}

-- what holds of the pieces at each node holds of all
each_append : (P : Piece → Type 0) (xs ys : List Piece) → AllByRecursion P xs → AllByRecursion P ys → AllByRecursion P (xs ++ ys)
each_append P [] ys h k = k
each_append P (x ∷ xs) ys h k = (h.0, each_append P xs ys h.1 k)

pub each_flat : (P : Piece → Type 0) (f : ℕ → List Piece) (ms : List ℕ) → ((m : ℕ) → AllByRecursion P (f m)) → AllByRecursion P (flat_map f ms)
each_flat P f [] h = tt
each_flat P f (m ∷ ms) h = each_append P (f m) (flat_map f ms) (h m) (each_flat P f ms h)

pub each_piece : (P : Piece → Type 0) (m : ℕ) (words : List ℕ) → P (record { node = m; words = words }) → AllByRecursion P (piece_of m words)
each_piece P m [] h = tt
each_piece P m (x ∷ xs) h = (h, tt)

-- the node that was found is this one
is_it-some : (m : ℕ) (o : Option ℕ) → is_it m o ≡ true → o ≡ Some m
is_it-some m None h = absurd (cc)
is_it-some m (Some k) h = ap Some (eqb-true k m h)

-- a word is held where it comes from
source-holds : (homes : List (List ℕ)) (node x m : ℕ) → source_of homes node x ≡ Some m → contains (home_at homes m) x ≡ true
source-holds homes node x m h = go (contains (home_at homes node) x) refl h
  where
    go : (b : Bool) → contains (home_at homes node) x ≡ b → (if b then Some node else position (λ home. contains home x) homes) ≡ Some m → contains (home_at homes m) x ≡ true
    go true e k = let same : node ≡ m = cc in subst (λ (n : ℕ). contains (home_at homes n) x ≡ true) same e
    go false e k = (position-Some (λ home. contains home x) homes m [] k).1

held_from : (need : List ℕ) (homes : List (List ℕ)) (node m x : ℕ) → contains (words_from need homes node m) x ≡ true → (contains need x ≡ true) × (contains (home_at homes m) x ≡ true)
held_from need homes node m x h =
    let both : (contains need x && is_it m (source_of homes node x)) ≡ true = sym (contains-filter (λ x. is_it m (source_of homes node x)) need x) ∙ h in
    let parts = and_parts (contains need x) (is_it m (source_of homes node x)) both in
    (parts.0, source-holds homes node x m (is_it-some m (source_of homes node x) parts.1))

-- a count that is not 0 has an element that passes
counted_some : {X : Type 0} (f : X → Bool) (xs : List X) → 0 < count_by f xs → list_any f xs ≡ true
counted_some f [] h = absurd (omega arith)
counted_some f (x ∷ xs) h = go (f x) (sum_by-cons (λ x. if f x then 1 else 0) x xs) (counted_some f xs)
  where
    go : (b : Bool) → count_by f (x ∷ xs) ≡ (if b then 1 else 0) + count_by f xs → (0 < count_by f xs → list_any f xs ≡ true) → (b || list_any f xs) ≡ true
    go true e r = refl
    go false e r = r (omega (arith, e, h))

pub pieces_serve : PiecesServe
pieces_serve need homes node l = record {
  held = each_flat (IsHeld need homes) (λ m. piece_of m (words_from need homes node m)) (below (length homes))
      (λ m. each_piece (IsHeld need homes) m (words_from need homes node m) (held_from need homes node m));
  whole = λ x h some. let one = each_once need homes node l x h some in counted_some (λ (p : Piece). contains p.words x) (pieces_of need homes node) (omega (arith, one));
}
