-- Each home gets its own words of a need once.
use Rattle.std.proofs.Common.{◌≡◌, ℕ, zero, suc, ◌+◌, ◌<◌, ◌≤◌, List, [], ◌∷◌, ◌++◌, length, get_or, refl, ap, ◌∙◌, sym, subst, arith, Bool, true, false, ◌&&◌, filter, nat_eq, nat_lt, inl, inr, ◌⊎◌}
use Rattle.std.specs.Prelude.{if◌then◌else◌, count_by}
use Rattle.std.specs.List.{flat_map}
use Rattle.std.proofs.lemmas.Bool.{and_parts, cases_lt, lt-ltb}
use Rattle.std.proofs.lemmas.Bool.Decides.{nat_tests}
use Rattle.std.proofs.lemmas.Grind.{flat_map-append}
use Rattle.std.proofs.lemmas.List.{append-nil, get_or_past}
use Rattle.std.proofs.lemmas.List.Sums.{sum_by-append, sum_by-cons}
use Rattle.dt_base.specs.Ranges.{below}
use Rattle.dt_runs.specs.Sets.{contains}
use Rattle.dt_runs.proofs.SetLemmas.{contains-filter}
use Rattle.dt_copy.specs.declared.piece_list.Piece.{Piece}
use Rattle.dt_copy.specs.Serving.{IsHeld, SharesReachHomes}
use Rattle.dt_copy.specs.Sources.{home_at, piece_of, shares_of}
use Rattle.dt_copy.proofs.Serving.{each_flat, each_piece}

-- the words of a need that node m's home has
abbrev share_of : List ℕ → List (List ℕ) → ℕ → List ℕ
share_of need homes m = filter (contains (home_at homes m)) need

held_share : (need : List ℕ) (homes : List (List ℕ)) (m x : ℕ) → contains (share_of need homes m) x ≡ true → (contains need x ≡ true) × (contains (home_at homes m) x ≡ true)
held_share need homes m x h = and_parts (contains need x) (contains (home_at homes m) x) (sym (contains-filter (contains (home_at homes m)) need x) ∙ h)

-- how many pieces bring a word to a node
brought : ℕ → ℕ → List Piece → ℕ
brought m x pieces = count_by (λ (p : Piece). nat_eq p.node m && contains p.words x) pieces

brought-append : (m x : ℕ) (ps qs : List Piece) → brought m x (ps ++ qs) ≡ brought m x ps + brought m x qs
unfolding brought
brought-append m x ps qs = sum_by-append (λ (p : Piece). if nat_eq p.node m && contains p.words x then 1 else 0) ps qs

-- a word is in the share of a node
abbrev is_shared : List ℕ → List (List ℕ) → ℕ → ℕ → Bool
is_shared need homes m x = contains need x && contains (home_at homes m) x

brought-piece : (m x n : ℕ) (words : List ℕ) → brought m x (piece_of n words) ≡ (if nat_eq n m && contains words x then 1 else 0)
unfolding brought
brought-piece m x n [] = none (nat_eq n m)
  where
    none : (b : Bool) → ◌≡◌ {A = ℕ} 0 (if b && false then 1 else 0)
    none true = refl
    none false = refl
brought-piece m x n (y ∷ ys) = omega arith

-- the shares of the first n nodes
brought-below : (need : List ℕ) (homes : List (List ℕ)) (m x n : ℕ) → brought m x (flat_map (λ k. piece_of k (share_of need homes k)) (below n)) ≡ (if nat_lt m n && is_shared need homes m x then 1 else 0)
unfolding brought
brought-below need homes m x zero = none (nat_lt m 0) (contains need x && contains (home_at homes m) x) (grind (arith, nat_tests))
  where
    none : (a b : Bool) → a ≡ false → ◌≡◌ {A = ℕ} 0 (if a && b then 1 else 0)
    none true b h = absurd (cc)
    none false b h = refl
brought-below need homes m x (suc n) =
    ap (brought m x) (flat_map-append g (below n) (n ∷ [])) ∙ brought-append m x (flat_map g (below n)) (g n ++ [])
    ∙ ap (λ (l : List Piece). brought m x (flat_map g (below n)) + brought m x l) (append-nil (g n))
    ∙ ap (λ (k : ℕ). k + brought m x (g n)) (brought-below need homes m x n)
    ∙ ap (λ (k : ℕ). (if nat_lt m n && is_shared need homes m x then 1 else 0) + k) (brought-piece m x n (share_of need homes n) ∙ ap (λ (b : Bool). if nat_eq n m && b then 1 else 0) (contains-filter (contains (home_at homes n)) need x))
    ∙ last (cases_lt m n)
  where
    g : ℕ → List Piece
    g k = piece_of k (share_of need homes k)

    last : (m < n) ⊎ (n ≤ m) → (if nat_lt m n && is_shared need homes m x then 1 else 0) + (if nat_eq n m && is_shared need homes n x then 1 else 0) ≡ (if nat_lt m (suc n) && is_shared need homes m x then 1 else 0)
    last h = one m n (is_shared need homes m x) (is_shared need homes n x) (λ e. ap (λ (k : ℕ). is_shared need homes k x) e)
      where
        one : (m n : ℕ) (a b : Bool) → (m ≡ n → a ≡ b) → (if nat_lt m n && a then 1 else 0) + (if nat_eq n m && b then 1 else 0) ≡ (if nat_lt m (suc n) && a then 1 else 0)
        one m n a b e = grind (arith, nat_tests, e)

-- a node past all homes has no word
all_shared : (need : List ℕ) (homes : List (List ℕ)) (m x : ℕ) → (nat_lt m (length homes) && is_shared need homes m x) ≡ is_shared need homes m x
all_shared need homes m x = elim (cases_lt m (length homes)) [
  | inl less ↦ ap (λ (b : Bool). b && is_shared need homes m x) (lt-ltb m (length homes) less)
  | inr past ↦ empty (nat_lt m (length homes)) (contains need x) (contains (home_at homes m) x) (ap (λ (l : List ℕ). contains l x) (get_or_past homes m [] past))
]
  where
    empty : (a b c : Bool) → c ≡ false → (a && (b && c)) ≡ (b && c)
    empty a b c h = grind arith

pub shares_reach_homes : SharesReachHomes
unfolding brought
shares_reach_homes need homes = record {
  held = each_flat (IsHeld need homes) (λ m. piece_of m (share_of need homes m)) (below (length homes)) (λ m. each_piece (IsHeld need homes) m (share_of need homes m) (held_share need homes m));
  once = λ m x. brought-below need homes m x (length homes) ∙ ap (λ (b : Bool). if b then 1 else 0) (all_shared need homes m x);
}
