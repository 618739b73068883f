-- Each needed word is in one piece.
use Rattle.std.proofs.Common.{◌≡◌, ℕ, zero, suc, ◌+◌, ◌<◌, List, [], ◌∷◌, ◌++◌, length, refl, ap, ◌∙◌, sym, arith, Bool, true, false, ◌&&◌, ◌||◌, not, filter, nat_lt, nat_eq, Some, None}
use Rattle.std.specs.Prelude.{position, if◌then◌else◌, count_by}
use Rattle.std.specs.List.{flat_map, list_any, position_or_len}
use Rattle.std.proofs.lemmas.Bool.{lt-ltb, le-ltb}
use Rattle.std.proofs.lemmas.Grind.{flat_map-append}
use Rattle.std.proofs.lemmas.List.{append-nil}
use Rattle.std.proofs.lemmas.List.Sums.{sum_by-append}
use Rattle.std.proofs.lemmas.Bool.Decides.{nat_tests}
use Rattle.dt_runs.proofs.SetLemmas.{contains-filter}
use Rattle.dt_base.specs.Ranges.{below}
use Rattle.dt_runs.specs.Sets.{contains}
use Rattle.dt_copy.specs.declared.piece_list.Piece.{Piece}
use Rattle.dt_copy.specs.Sources.{home_at, source_of, is_it, piece_of, words_from, pieces_of, EachWordOnce}

-- how many pieces have a word
counted : ℕ → List Piece → ℕ
counted x pieces = count_by (λ (p : Piece). contains p.words x) pieces

counted-append : (x : ℕ) (xs ys : List Piece) → counted x (xs ++ ys) ≡ counted x xs + counted x ys
unfolding counted
counted-append x xs ys = sum_by-append (λ (p : Piece). if contains p.words x then 1 else 0) xs ys

counted-piece : (x m : ℕ) (words : List ℕ) → counted x (piece_of m words) ≡ (if contains words x then 1 else 0)
unfolding counted
counted-piece x m [] = refl
counted-piece x m (y ∷ ys) = omega arith

contains_filter : (p : ℕ → Bool) (xs : List ℕ) (x : ℕ) → contains xs x ≡ true → contains (filter p xs) x ≡ p x
contains_filter p xs x h = contains-filter p xs x ∙ ap (λ (b : Bool). b && p x) h

-- a list that has an element that passes has a first one
some_place : {X : Type 0} (p : X → Bool) (xs : List X) → list_any p xs ≡ true → position_or_len p xs < length xs
some_place p [] h = absurd (cc)
some_place p (x ∷ xs) h = go (p x) h (λ k. some_place p xs k)
  where
    go : (b : Bool) → (b || list_any p xs) ≡ true → (list_any p xs ≡ true → position_or_len p xs < length xs) → (if not b then 1 + position_or_len p xs else 0) < suc (length xs)
    go true h r = omega arith
    go false h r = omega (arith, r h)

-- the pieces of the first n nodes that have a word whose source is node k
below_counted : (need : List ℕ) (homes : List (List ℕ)) (node x k : ℕ) → contains need x ≡ true → source_of homes node x ≡ Some k → (n : ℕ) → counted x (flat_map (λ m. piece_of m (words_from need homes node m)) (below n)) ≡ (if nat_lt k n then 1 else 0)
unfolding counted
below_counted need homes node x k h e zero = sym (ap (λ (b : Bool). if b then 1 else 0) (le-ltb k 0 (omega arith)))
below_counted need homes node x k h e (suc n) =
    ap (counted x) (flat_map-append g (below n) (n ∷ [])) ∙ counted-append x (flat_map g (below n)) (g n ++ [])
    ∙ ap (λ (l : List Piece). counted x (flat_map g (below n)) + counted x l) (append-nil (g n))
    ∙ ap (λ (k : ℕ). k + counted x (g n)) (below_counted need homes node x k h e n)
    ∙ ap (λ (c : ℕ). (if nat_lt k n then 1 else 0) + c) (counted-piece x n (words_from need homes node n) ∙ ap (λ (b : Bool). if b then 1 else 0) (contains_filter (λ x. is_it n (source_of homes node x)) need x h ∙ ap (is_it n) e))
    ∙ one_of k n
  where
    g : ℕ → List Piece
    g m = piece_of m (words_from need homes node m)

    one_of : (k n : ℕ) → (if nat_lt k n then 1 else 0) + (if nat_eq k n then 1 else 0) ≡ (if nat_lt k (suc n) then 1 else 0)
    one_of k n = grind (arith, nat_tests)

pub each_once : (need : List ℕ) (homes : List (List ℕ)) (node : ℕ) → node < length homes → EachWordOnce need homes (pieces_of need homes node)
unfolding counted
each_once need homes node l x h any = go (contains (home_at homes node) x) refl
  where
    p : List ℕ → Bool
    p home = contains home x

    ends : (k : ℕ) → source_of homes node x ≡ Some k → k < length homes → count_by (λ (p : Piece). contains p.words x) (pieces_of need homes node) ≡ 1
    ends k e k_in = below_counted need homes node x k h e (length homes) ∙ ap (λ (b : Bool). if b then 1 else 0) (lt-ltb k (length homes) k_in)

    go : (b : Bool) → contains (home_at homes node) x ≡ b → count_by (λ (p : Piece). contains p.words x) (pieces_of need homes node) ≡ 1
    go true e = ends node (ap (λ (b : Bool). if b then Some node else position p homes) e) l
    go false e =
        let k = some_place p homes any in
        ends (position_or_len p homes) (ap (λ (b : Bool). if b then Some node else position p homes) e ∙ ap (λ (b : Bool). if b then Some (position_or_len p homes) else None) (lt-ltb (position_or_len p homes) (length homes) k)) k
