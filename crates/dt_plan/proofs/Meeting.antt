-- How the lists of a job meet what is asked of an outline.
use Rattle.std.proofs.Common.{◌≡◌, ℕ, ◌<◌, ◌≤◌, Bool, List, [], ◌∷◌, ◌++◌, length, map, filter, refl, sym, subst, arith}
use Rattle.std.specs.List.{AllByRecursion, flat_map}
use Rattle.dt_base.specs.Ranges.{below}
use Rattle.dt_nest.proofs.Each.{all_map, all_filter, all_append, all_flat, all_made, below_all}
use Rattle.dt_copy.specs.declared.piece_list.Piece.{Piece}
use Rattle.dt_copy.specs.Sources.{home_at, piece_of, pieces_of, shares_of, words_from}
use Rattle.dt_runs.specs.Sets.{contains}
use Rattle.dt_plan.proofs.Stretches.{Rises}
use Rattle.dt_plan.proofs.BracketsAscend.{rises_filter, below_rises}

-- the numbers below an extent that pass a test rise, and are below 2^32
pub values_meet : (p : ℕ → Bool) (n : ℕ) → n ≤ 4294967296 → Rises (λ i. i) (filter p (below n)) × AllByRecursion (λ i. i < 4294967296) (filter p (below n))
values_meet p n l = (
  rises_filter (λ i. i) p (below n) (below_rises n),
  all_filter (λ i. i < 4294967296) p (below n) (all_map (λ i. i < n) (λ i. i < 4294967296) (λ i k. omega (arith, k, l)) (below n) (below_all n)),
)

-- two lists that rise, the second by greater things
pub rises_append : {X : Type 0} (at : X → ℕ) (n : ℕ) (xs ys : List X) → Rises at xs → AllByRecursion (λ x. at x < n) xs → Rises at ys → AllByRecursion (λ y. n ≤ at y) ys → Rises at (xs ++ ys)
rises_append at n [] ys a b c d = c
rises_append at n (x ∷ xs) ys a b c d =
    (all_append (λ y. at x < at y) xs ys a.0 (all_map (λ y. n ≤ at y) (λ y. at x < at y) (λ y l. (let k = b.0 in omega (arith, k, l))) ys d), rises_append at n xs ys a.1 b.1 c d)

-- what is made of things that rise, by greater numbers for greater ones, rises
pub rises_map : {X Y : Type 0} (at : X → ℕ) (to : Y → ℕ) (f : X → Y) → ((x y : X) → at x < at y → to (f x) < to (f y)) → (xs : List X) → Rises at xs → Rises to (map f xs)
rises_map at to f h [] r = tt
rises_map at to f h (x ∷ xs) r = (all_made (λ y. at x < at y) (λ y. to (f x) < to y) f (λ y l. h x y l) xs r.0, rises_map at to f h xs r.1)

-- things that are made for each of some rising numbers, each with its number, rise
pub made_rise : {X : Type 0} (at : X → ℕ) (f : ℕ → List X) → ((n : ℕ) → Rises at (f n)) → ((n : ℕ) → AllByRecursion (λ x. at x ≡ n) (f n)) → (ns : List ℕ) → Rises (λ i. i) ns → Rises at (flat_map f ns)
made_rise at f s e [] r = tt
made_rise {X} at f s e (n ∷ ns) r =
    push (f n) (flat_map f ns) (s n) (e n) (made_rise at f s e ns r.1)
    (all_flat (λ m. n < m) (λ x. n < at x) f (λ m l. all_map (λ x. at x ≡ m) (λ x. n < at x) (λ x q. subst (λ k. n < k) (sym q) l) (f m) (e m)) ns r.0)
  where
    push : (xs ys : List X) → Rises at xs → AllByRecursion (λ x. at x ≡ n) xs → Rises at ys → AllByRecursion (λ y. n < at y) ys → Rises at (xs ++ ys)
    push [] ys a b c d = c
    push (x ∷ xs) ys a b c d =
        (all_append (λ y. at x < at y) xs ys a.0 (all_map (λ y. n < at y) (λ y. at x < at y) (λ y l. subst (λ k. k < at y) (sym b.0) l) ys d), push xs ys a.1 b.1 c d)

abbrev pub node_at : Piece → ℕ
node_at x = x.node

-- a piece rises, and is at its node
one_rises : (m : ℕ) (ws : List ℕ) → Rises node_at (piece_of m ws)
one_rises m [] = tt
one_rises m (w ∷ ws) = (tt, tt)

one_at : (m : ℕ) (ws : List ℕ) → AllByRecursion (λ x. node_at x ≡ m) (piece_of m ws)
one_at m [] = tt
one_at m (w ∷ ws) = (refl, tt)

-- pieces rise by their nodes
pub pieces_rise : (need : List ℕ) (homes : List (List ℕ)) (node : ℕ) → Rises node_at (pieces_of need homes node)
pieces_rise need homes node =
    made_rise node_at (λ m. piece_of m (words_from need homes node m)) (λ m. one_rises m (words_from need homes node m)) (λ m. one_at m (words_from need homes node m)) (below (length homes)) (below_rises (length homes))

pub shares_rise : (need : List ℕ) (homes : List (List ℕ)) → Rises node_at (shares_of need homes)
shares_rise need homes =
    made_rise node_at (λ m. piece_of m (filter (contains (home_at homes m)) need)) (λ m. one_rises m (filter (contains (home_at homes m)) need)) (λ m. one_at m (filter (contains (home_at homes m)) need)) (below (length homes)) (below_rises (length homes))
