-- Numbers of words by node, and the greatest of some.
use Rattle.std.proofs.Common.{◌≡◌, ℕ, ◌+◌, ◌<◌, Bool, true, false, List, [], ◌∷◌, ◌++◌, length, map, filter, refl, ap, sym, ◌∙◌, arith}
use Rattle.std.specs.Prelude.{if◌then◌else◌, fold, max, nat_eq, slice_index, slice_set}
use Rattle.std.proofs.lemmas.Bool.{eqb-true, eqb-false}
use Rattle.std.proofs.lemmas.List.{ext_get_or, length-map, map-append, get_or-map, get_or-set_same, get_or-set_other, length-set}
use Rattle.std.proofs.lemmas.List.Elements.{filter-append}
use Rattle.dt_base.specs.Ranges.{below}
use Rattle.dt_base.proofs.Ranges.{length-below, get_or-below}
use Rattle.dt_plan.specs.Bounds.{greatest_of}
use Rattle.dt_plan.specs.Brackets.{has_some}
use Rattle.dt_plan.specs.NodeWords.{capped, row_of, most_on, Raises}

-- Lists by place --------------------------------------------------------------------------------------------------------

-- the number at a place
pub at_place : (f : ℕ → ℕ) (k n : ℕ) → n < k → slice_index (map f (below k)) n ≡ f n
at_place f k n l = get_or-map f (below k) n 0 0 (let e = length-below k in omega (arith, e, l)) ∙ ap f (get_or-below k n 0 l)

-- how many there are
pub so_many : (f : ℕ → ℕ) (k : ℕ) → length (map f (below k)) ≡ k
so_many f k = length-map (below k) f ∙ length-below k

-- numbers that are equal at each place
pub same_places : (f : ℕ → ℕ) (k : ℕ) (row : List ℕ) → length row ≡ k → ((n : ℕ) → n < k → slice_index row n ≡ f n) → row ≡ map f (below k)
same_places f k row e h =
    ext_get_or 0 row (map f (below k)) (e ∙ sym (so_many f k)) (λ n l. h n (omega (arith, e, l)) ∙ sym (at_place f k n (omega (arith, e, l))))

pub same_rows : (f g : ℕ → ℕ) (k : ℕ) → ((n : ℕ) → n < k → f n ≡ g n) → map f (below k) ≡ map g (below k)
same_rows f g k h = same_places g k (map f (below k)) (so_many f k) (λ n l. at_place f k n l ∙ h n l)

-- Greatest numbers ------------------------------------------------------------------------------------------------------

fold_from : (acc : ℕ) (ns : List ℕ) → fold max acc ns ≡ max acc (fold max 0 ns)
fold_from acc [] = omega arith
fold_from acc (n ∷ ns) = let a = fold_from (max acc n) ns in let b = fold_from (max 0 n) ns in omega (arith, a, b)

pub greatest-cons : (n : ℕ) (ns : List ℕ) → greatest_of (n ∷ ns) ≡ max n (greatest_of ns)
greatest-cons n ns = let a = fold_from (max 0 n) ns in omega (arith, a)

pub greatest-append : (ms ns : List ℕ) → greatest_of (ms ++ ns) ≡ max (greatest_of ms) (greatest_of ns)
greatest-append [] ns = omega arith
greatest-append (m ∷ ms) ns =
    let a = greatest-cons m (ms ++ ns) in
    let b = greatest-append ms ns in
    let c = greatest-cons m ms in
    omega (arith, a, b, c)

-- the first number past the limit is kept
pub greatest-capped : {X : Type 0} (f : X → ℕ) (xs : List X) → greatest_of (map (λ x. capped (f x)) xs) ≡ capped (greatest_of (map f xs))
greatest-capped f [] = omega arith
greatest-capped f (x ∷ xs) =
    let a = greatest-cons (capped (f x)) (map (λ y. capped (f y)) xs) in
    let b = greatest-capped f xs in
    let c = greatest-cons (f x) (map f xs) in
    omega (arith, a, b, c)

-- a number that all have
pub greatest-same : {X : Type 0} (n : ℕ) (xs : List X) → greatest_of (map (λ x. n) xs) ≡ (if has_some xs then n else 0)
greatest-same n [] = refl
greatest-same n (x ∷ xs) = go (has_some xs) (greatest-same n xs)
  where
    go : (b : Bool) → greatest_of (map (λ x. n) xs) ≡ (if b then n else 0) → greatest_of (n ∷ map (λ x. n) xs) ≡ n
    go true e = let a = greatest-cons n (map (λ x. n) xs) in omega (arith, a, e)
    go false e = let a = greatest-cons n (map (λ x. n) xs) in omega (arith, a, e)

-- Rising rows -----------------------------------------------------------------------------------------------------------

module _ (words node : List ℕ → ℕ) where
  most-append : (n : ℕ) (ps qs : List (List ℕ)) → most_on words node n (ps ++ qs) ≡ max (most_on words node n ps) (most_on words node n qs)
  most-append n ps qs =
      ap (λ l. greatest_of (map words l)) (filter-append (λ p. nat_eq (node p) n) ps qs)
      ∙ ap greatest_of (map-append words (filter (λ p. nat_eq (node p) n) ps) (filter (λ p. nat_eq (node p) n) qs))
      ∙ greatest-append (map words (filter (λ p. nat_eq (node p) n) ps)) (map words (filter (λ p. nat_eq (node p) n) qs))

  -- no path
  pub rises_none : (row : List ℕ) → Raises words node [] row row
  rises_none row = record { count = refl; each = λ n l. omega arith }

  -- one path
  pub rises_one : (p old new : List ℕ) (w : ℕ) → node p < length old → w ≡ words p → new ≡ slice_set old (node p) (max (slice_index old (node p)) w) → Raises words node (p ∷ []) old new
  rises_one p old new w l same h = record {
    count = ap length h ∙ length-set old (node p) (max (slice_index old (node p)) w);
    each = λ n k. go (nat_eq (node p) n) n refl k;
  }
    where
      last : (a b c : ℕ) → b ≡ c → max a b ≡ max a (max 0 c)
      last a b c q = omega (arith, q)

      none : (a : ℕ) → a ≡ max a 0
      none a = omega arith

      go : (b : Bool) → (n : ℕ) → nat_eq (node p) n ≡ b → n < length old → slice_index new n ≡ max (slice_index old n) (greatest_of (map words (if b then p ∷ [] else [])))
      go true n t k =
          let e = eqb-true (node p) n t in
          ap (λ (r : List ℕ). slice_index r n) h ∙ ap (λ (i : ℕ). slice_index (slice_set old (node p) (max (slice_index old (node p)) w)) i) (sym e)
          ∙ get_or-set_same old (node p) (max (slice_index old (node p)) w) 0 l ∙ ap (λ (i : ℕ). max (slice_index old i) w) e ∙ last (slice_index old n) w (words p) same
      go false n t k =
          ap (λ (r : List ℕ). slice_index r n) h ∙ get_or-set_other old (node p) n (max (slice_index old (node p)) w) 0 (λ q. eqb-false (node p) n t (sym q)) ∙ none (slice_index old n)

  -- one after the other
  pub rises_then : (ps qs : List (List ℕ)) (old mid new : List ℕ) → Raises words node ps old mid → Raises words node qs mid new → Raises words node (ps ++ qs) old new
  rises_then ps qs old mid new a b = record {
    count = b.count ∙ a.count;
    each = λ n l.
        (let c = a.count in
        let x = a.each n l in
        let y = b.each n (omega (arith, c, l)) in
        let z = most-append n ps qs in
        omega (arith, x, y, z));
  }

-- Rows of a schedule ----------------------------------------------------------------------------------------------------

-- rows of equal numbers
pub row_same : (nodes : ℕ) (f g : ℕ → ℕ) → ((n : ℕ) → n < nodes → f n ≡ g n) → row_of nodes f ≡ row_of nodes g
row_same nodes f g h = same_rows (λ n. capped (f n)) (λ n. capped (g n)) nodes (λ n l. ap capped (h n l))

-- the words of some paths, from none
pub risen : (words node : List ℕ → ℕ) (paths : List (List ℕ)) (nodes : ℕ) (old new : List ℕ) → old ≡ row_of nodes (λ n. 0) → Raises (λ p. capped (words p)) node paths old new
    → new ≡ row_of nodes (λ n. most_on words node n paths)
risen words node paths nodes old new o r =
    same_places (λ n. capped (most_on words node n paths)) nodes new (r.count ∙ ap length o ∙ so_many (λ n. capped 0) nodes)
    (λ n l.
    let e = ap length o ∙ so_many (λ n. capped 0) nodes in
    let x = r.each n (omega (arith, e, l)) in
    let y = ap (λ (row : List ℕ). slice_index row n) o ∙ at_place (λ n. capped 0) nodes n l in
    let z = greatest-capped words (filter (λ p. nat_eq (node p) n) paths) in
    omega (arith, x, y, z))

-- the sums of two rows
pub rows_summed : (nodes : ℕ) (a b : ℕ → ℕ) (left right : List ℕ) → left ≡ row_of nodes a → right ≡ row_of nodes b
    → map (λ n. capped (capped (slice_index left n) + capped (slice_index right n))) (below (length left)) ≡ row_of nodes (λ n. a n + b n)
rows_summed nodes a b left right e f =
    ap (λ k. map (λ n. capped (capped (slice_index left n) + capped (slice_index right n))) (below k)) (ap length e ∙ so_many (λ n. capped (a n)) nodes)
    ∙ same_rows (λ n. capped (capped (slice_index left n) + capped (slice_index right n))) (λ n. capped (a n + b n)) nodes
    (λ n l.
    let x = ap (λ (row : List ℕ). slice_index row n) e ∙ at_place (λ n. capped (a n)) nodes n l in
    let y = ap (λ (row : List ℕ). slice_index row n) f ∙ at_place (λ n. capped (b n)) nodes n l in
    omega (arith, x, y))

-- and their greater numbers
pub rows_greater : (nodes : ℕ) (a b : ℕ → ℕ) (left right : List ℕ) → left ≡ row_of nodes a → right ≡ row_of nodes b
    → map (λ n. max (slice_index left n) (slice_index right n)) (below (length left)) ≡ row_of nodes (λ n. max (a n) (b n))
rows_greater nodes a b left right e f =
    ap (λ k. map (λ n. max (slice_index left n) (slice_index right n)) (below k)) (ap length e ∙ so_many (λ n. capped (a n)) nodes)
    ∙ same_rows (λ n. max (slice_index left n) (slice_index right n)) (λ n. capped (max (a n) (b n))) nodes
    (λ n l.
    let x = ap (λ (row : List ℕ). slice_index row n) e ∙ at_place (λ n. capped (a n)) nodes n l in
    let y = ap (λ (row : List ℕ). slice_index row n) f ∙ at_place (λ n. capped (b n)) nodes n l in
    omega (arith, x, y))
