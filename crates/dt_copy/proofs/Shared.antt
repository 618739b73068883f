-- Words that are left for later homes, and the pieces that they make.
use Rattle.std.proofs.Common.{◌≡◌, ℕ, zero, suc, ◌+◌, ◌<◌, List, [], ◌∷◌, ◌++◌, length, get_or, take, refl, ap, ◌∙◌, sym, arith, Bool, true, false, ◌&&◌, ◌||◌, not, filter, nat_lt, nat_eq, Some, None}
use Rattle.std.specs.Prelude.{position, if◌then◌else◌}
use Rattle.std.specs.List.{flat_map, list_any, position_or_len}
use Rattle.std.proofs.Math.Dec.{eqb-suc-suc}
use Rattle.std.proofs.lemmas.List.{append-nil}
use Rattle.std.proofs.lemmas.Bool.{eqb-true, ne_eqb, eq-eqb, lt-ltb}
use Rattle.std.proofs.lemmas.List.Elements.{filter_agree}
use Rattle.std.proofs.lemmas.List.Folds.{list_any_more}
use Rattle.std.proofs.lemmas.Grind.{flat_map-append}
use Rattle.dt_base.specs.Ranges.{below}
use Rattle.dt_runs.specs.Sets.{contains}
use Rattle.dt_copy.specs.Sources.{home_at, source_of, is_it, words_from}

-- the place of the first element that passes, in a list that has more than m elements
first_at : {X : Type 0} (p : X → Bool) (xs : List X) (m : ℕ) (d : X) → m < length xs → nat_eq (position_or_len p xs) m ≡ (not (list_any p (take m xs)) && p (get_or xs m d))
first_at p [] m d l = absurd (omega arith)
first_at p (x ∷ xs) zero d l = go (p x)
  where
    go : (b : Bool) → nat_eq (if not b then 1 + position_or_len p xs else 0) 0 ≡ (not false && b)
    go true = refl
    go false = ne_eqb (1 + position_or_len p xs) 0 (λ e. omega (arith, e))
first_at p (x ∷ xs) (suc m) d l = go (p x) (first_at p xs m d (omega arith))
  where
    go : (b : Bool) → nat_eq (position_or_len p xs) m ≡ (not (list_any p (take m xs)) && p (get_or xs m d)) → nat_eq (if not b then 1 + position_or_len p xs else 0) (suc m) ≡ (not (b || list_any p (take m xs)) && p (get_or xs m d))
    go true h = ne_eqb 0 (suc m) (λ e. omega (arith, e))
    go false h = ap (λ (k : ℕ). nat_eq k (suc m)) (let e : 1 + position_or_len p xs ≡ suc (position_or_len p xs) = omega arith in e) ∙ eqb-suc-suc (position_or_len p xs) m ∙ h

pub found_at : {X : Type 0} (p : X → Bool) (xs : List X) (m : ℕ) (d : X) → m < length xs → is_it m (position p xs) ≡ (not (list_any p (take m xs)) && p (get_or xs m d))
found_at p xs m d l = go (nat_lt (position_or_len p xs) (length xs)) (nat_eq (position_or_len p xs) m) (λ e. lt-ltb (position_or_len p xs) (length xs) (let q = eqb-true (position_or_len p xs) m e in omega (arith, q, l))) refl ∙ first_at p xs m d l
  where
    go : (a b : Bool) → (b ≡ true → a ≡ true) → nat_eq (position_or_len p xs) m ≡ b → is_it m (if a then Some (position_or_len p xs) else None) ≡ b
    go true b h e = e
    go false true h e = absurd (let q = h refl in cc)
    go false false h e = refl

-- an element of a list, whatever stands for one past the end
pub home_got : (xs : List (List ℕ)) (i : ℕ) (d : List ℕ) → i < length xs → d ≡ get_or xs i d → d ≡ home_at xs i
home_got xs i d l e = e ∙ same xs i d l
  where
    same : (xs : List (List ℕ)) (i : ℕ) (d : List ℕ) → i < length xs → get_or xs i d ≡ home_at xs i
    same [] i d l = absurd (omega arith)
    same (x ∷ xs) zero d l = refl
    same (x ∷ xs) (suc i) d l = same xs i d (omega arith)

-- a word that neither the node's own home nor an earlier one has
abbrev pub is_left : List (List ℕ) → ℕ → ℕ → ℕ → Bool
is_left homes node m x = not (contains (home_at homes node) x || list_any (λ home. contains home x) (take m homes))

pub filter_twice : (p q : ℕ → Bool) (xs : List ℕ) → filter q (filter p xs) ≡ filter (λ x. p x && q x) xs
filter_twice p q [] = refl
filter_twice p q (x ∷ xs) = go (p x) (filter_twice p q xs)
  where
    go : (a : Bool) → filter q (filter p xs) ≡ filter (λ x. p x && q x) xs → filter q (if a then x ∷ filter p xs else filter p xs) ≡ (if a && q x then x ∷ filter (λ x. p x && q x) xs else filter (λ x. p x && q x) xs)
    go true h = ap (λ (l : List ℕ). if q x then x ∷ l else l) h
    go false h = h

-- at the start what the node's own home lacks is left
pub left_first : (homes : List (List ℕ)) (node : ℕ) (need : List ℕ) → filter (λ x. not (contains (home_at homes node) x)) need ≡ filter (is_left homes node 0) need
left_first homes node need = filter_agree (λ x. not (contains (home_at homes node) x)) (is_left homes node 0) (λ x. go (contains (home_at homes node) x)) need
  where
    go : (b : Bool) → not b ≡ not (b || false)
    go true = refl
    go false = refl

-- after one more home
pub left_next : (homes : List (List ℕ)) (node m : ℕ) (need : List ℕ) → m < length homes → filter (λ x. not (contains (home_at homes m) x)) (filter (is_left homes node m) need) ≡ filter (is_left homes node (m + 1)) need
left_next homes node m need l =
    filter_twice (is_left homes node m) (λ x. not (contains (home_at homes m) x)) need
    ∙ filter_agree (λ x. is_left homes node m x && not (contains (home_at homes m) x)) (is_left homes node (m + 1))
    (λ x. go (contains (home_at homes node) x) (list_any (λ home. contains home x) (take m homes)) (contains (home_at homes m) x)
    ∙ ap (λ (b : Bool). not (contains (home_at homes node) x || b)) (sym (list_any_more (λ home. contains home x) homes m [] l))) need
  where
    go : (a b c : Bool) → (not (a || b) && not c) ≡ not (a || (b || c))
    go true b c = refl
    go false true c = refl
    go false false c = refl

-- what another node gives: the words that are left and that its home has
pub given_next : (homes : List (List ℕ)) (node m : ℕ) (need : List ℕ) → m < length homes → nat_eq m node ≡ false → filter (contains (home_at homes m)) (filter (is_left homes node m) need) ≡ words_from need homes node m
given_next homes node m need l ne =
    filter_twice (is_left homes node m) (contains (home_at homes m)) need
    ∙ filter_agree (λ x. is_left homes node m x && contains (home_at homes m) x) (λ x. is_it m (source_of homes node x))
    (λ x. go x (contains (home_at homes node) x)) need
  where
    go : (x : ℕ) (a : Bool) → (not (a || list_any (λ home. contains home x) (take m homes)) && contains (home_at homes m) x) ≡ is_it m (if a then Some node else position (λ home. contains home x) homes)
    go x true = sym (ne_eqb node m (λ e. let t = eq-eqb m node (sym e) in cc))
    go x false = sym (found_at (λ home. contains home x) homes m [] l)

-- what the node gives itself
pub given_own : (homes : List (List ℕ)) (node : ℕ) (need : List ℕ) → node < length homes → filter (contains (home_at homes node)) need ≡ words_from need homes node node
given_own homes node need l = filter_agree (contains (home_at homes node)) (λ x. is_it node (source_of homes node x)) (λ x. go x (contains (home_at homes node) x) refl) need
  where
    go : (x : ℕ) (a : Bool) → contains (home_at homes node) x ≡ a → a ≡ is_it node (if a then Some node else position (λ home. contains home x) homes)
    go x true e = sym (eq-eqb node node refl)
    go x false e = sym (found_at (λ home. contains home x) homes node [] l ∙ ap (λ (b : Bool). not (list_any (λ home. contains home x) (take node homes)) && b) e ∙ none (list_any (λ home. contains home x) (take node homes)))
      where
        none : (b : Bool) → (not b && false) ≡ false
        none true = refl
        none false = refl

-- one more node's piece
pub one_more : {X : Type 0} (g : ℕ → List X) (m : ℕ) → flat_map g (below m) ++ g m ≡ flat_map g (below (m + 1))
one_more g m = ap (λ l. flat_map g (below m) ++ l) (sym (append-nil (g m))) ∙ sym (flat_map-append g (below m) (m ∷ [])) ∙ ap (λ k. flat_map g (below k)) (let e : suc m ≡ m + 1 = omega arith in e)

-- what a node gives, its own or another's
pub given : (homes : List (List ℕ)) (node m : ℕ) (need rest from home : List ℕ) → m < length homes → node < length homes → home ≡ home_at homes m → rest ≡ filter (is_left homes node m) need → from ≡ (if nat_eq m node then need else rest)
    → filter (contains home) from ≡ words_from need homes node m
given homes node m need rest from home l k h r f =
    ap (λ (y : List ℕ). filter (contains y) from) h ∙ ap (filter (contains (home_at homes m))) f ∙ go (nat_eq m node) (eqb-true m node) refl
  where
    go : (b : Bool) → (b ≡ true → m ≡ node) → nat_eq m node ≡ b → filter (contains (home_at homes m)) (if b then need else rest) ≡ words_from need homes node m
    go true e q = let p = e refl in ap (λ (y : ℕ). filter (contains (home_at homes y)) need) p ∙ given_own homes node need k ∙ ap (words_from need homes node) (sym p)
    go false e q = ap (filter (contains (home_at homes m))) r ∙ given_next homes node m need l q
