-- The list of the events has exactly the nearest conflicting pairs.
use Rattle.std.proofs.Common.{◌≡◌, ℕ, zero, suc, ◌<◌, ◌≤◌, Bool, true, false, ◌&&◌, ◌||◌, List, [], ◌∷◌, map, filter, nat_eq, nat_lt, refl, sym, ap, ◌∙◌, arith, ⊎_elim}
use Rattle.std.specs.Prelude.{cond}
use Rattle.std.specs.List.{flat_map, list_any}
use Rattle.std.proofs.lemmas.Bool.{cases_lt, cases_order, lt-ltb, le-ltb, ne_eqb, eq-eqb, and_from, and_left}
use Rattle.std.proofs.lemmas.List.Folds.{list_any-append}
use Rattle.dt_base.specs.Ranges.{below}
use Rattle.dt_argument.specs.Events.{nearest, events_among, is_listed, IsEvent, Chain, Last, Then}
use Rattle.dt_argument.proofs.Chains.{chain, chain_up}

any-flat_map : {X : Type 0} (p : X → Bool) (f : ℕ → List X) (ns : List ℕ) → list_any p (flat_map f ns) ≡ list_any (λ n. list_any p (f n)) ns
any-flat_map p f [] = refl
any-flat_map p f (n ∷ ns) = list_any-append p (f n) (flat_map f ns) ∙ ap (λ r. list_any p (f n) || r) (any-flat_map p f ns)

any_same : (f g : ℕ → Bool) → ((n : ℕ) → f n ≡ g n) → (ns : List ℕ) → list_any f ns ≡ list_any g ns
any_same f g h [] = refl
any_same f g h (n ∷ ns) = ap (λ t. t || list_any f ns) (h n) ∙ ap (λ r. g n || r) (any_same f g h ns)

any_kept : {X : Type 0} (p : X → Bool) (g : ℕ → X) (b : Bool) (n : ℕ) (rest : List ℕ) → list_any p (map g (cond b (n ∷ rest) rest)) ≡ ((b && p (g n)) || list_any p (map g rest))
any_kept p g true n rest = refl
any_kept p g false n rest = refl

-- a test of what a filter keeps
any-map-filter : {X : Type 0} (p : X → Bool) (g : ℕ → X) (q : ℕ → Bool) (ns : List ℕ) → list_any p (map g (filter q ns)) ≡ list_any (λ n. q n && p (g n)) ns
any-map-filter p g q [] = refl
any-map-filter p g q (n ∷ ns) = any_kept p g (q n) n (filter q ns) ∙ ap (λ r. (q n && p (g n)) || r) (any-map-filter p g q ns)

or_none : (x : Bool) → (x || false) ≡ x
or_none true = refl
or_none false = refl

or_last : (t : ℕ → Bool) (a n : ℕ) → ((nat_lt a n && t a) || ((nat_eq n a && t n) || false)) ≡ (nat_lt a (suc n) && t a)
or_last t a n =
    ⊎_elim
    (λ (e : a ≡ n).
    let same : nat_eq n n ≡ true = eq-eqb n n refl in
    let here : nat_lt n n ≡ false = le-ltb n n (omega arith) in
    let now : nat_lt n (suc n) ≡ true = lt-ltb n (suc n) (omega arith) in
    rw e (rw (same, here, now) (or_none (t n))))
    (⊎_elim
    (λ (h : a < n).
    let other : nat_eq n a ≡ false = ne_eqb n a (λ e. absurd (omega (arith, h, e))) in
    let there : nat_lt a n ≡ true = lt-ltb a n h in
    let now : nat_lt a (suc n) ≡ true = lt-ltb a (suc n) (omega arith) in
    rw (other, there, now) (or_none (t a)))
    (λ (h : n < a).
    let other : nat_eq n a ≡ false = ne_eqb n a (λ e. absurd (omega (arith, h, e))) in
    let there : nat_lt a n ≡ false = le-ltb a n (omega arith) in
    let now : nat_lt a (suc n) ≡ false = le-ltb a (suc n) (omega arith) in
    rw (other, there, now) refl))
    (cases_order a n)

-- a test of one number in a range
any_one : (t : ℕ → Bool) (a n : ℕ) → list_any (λ x. nat_eq x a && t x) (below n) ≡ (nat_lt a n && t a)
any_one t a zero = sym (and_left (nat_lt a 0) (t a) (le-ltb a 0 (omega arith)))
any_one t a (suc n) =
    list_any-append (λ x. nat_eq x a && t x) (below n) (n ∷ [])
    ∙ ap (λ r. r || ((nat_eq n a && t n) || false)) (any_one t a n)
    ∙ or_last t a n

turned : (q e f : Bool) → (q && (e && f)) ≡ (f && (e && q))
turned true true true = refl
turned true true false = refl
turned true false true = refl
turned true false false = refl
turned false true true = refl
turned false true false = refl
turned false false true = refl
turned false false false = refl

swapped : (x y z : Bool) → (x && (y && z)) ≡ (y && (x && z))
swapped true true z = refl
swapped true false z = refl
swapped false true z = refl
swapped false false z = refl

none_third : (x y z : Bool) → (x && (y && (false && z))) ≡ false
none_third true true z = refl
none_third true false z = refl
none_third false y z = refl

none_second : (x z : Bool) → (x && (false && z)) ≡ false
none_second true z = refl
none_second false z = refl

-- a first number that is before the second is in a range with it
regrouped : (count a b : ℕ) (n : Bool) → (nat_lt a count && (nat_lt b count && (nat_lt a b && n))) ≡ (nat_lt a b && (nat_lt b count && n))
regrouped count a b n =
    ⊎_elim
    (λ (h : a < b).
    let up : nat_lt a b ≡ true = lt-ltb a b h in
    ⊎_elim
    (λ (k : b < count).
    let first : nat_lt a count ≡ true = lt-ltb a count (omega arith) in
    let second : nat_lt b count ≡ true = lt-ltb b count k in
    rw (up, first, second) refl)
    (λ (k : count ≤ b). let second : nat_lt b count ≡ false = le-ltb b count k in rw (up, second) (none_second (nat_lt a count) n))
    (cases_lt b count))
    (λ (h : b ≤ a). let up : nat_lt a b ≡ false = le-ltb a b h in rw up (none_third (nat_lt a count) (nat_lt b count) n))
    (cases_lt a b)

module _ (conflict : ℕ → ℕ → Bool) (count : ℕ) where
  row_of : (a b x : ℕ) → list_any (λ (e : ℕ × ℕ). nat_eq e.0 a && nat_eq e.1 b) (map (λ y. (x, y)) (filter (λ y. nat_lt x y && nearest conflict x y) (below count))) ≡ (nat_eq x a && (nat_lt b count && (nat_lt x b && nearest conflict x b)))
  row_of a b x =
      any-map-filter (λ (e : ℕ × ℕ). nat_eq e.0 a && nat_eq e.1 b) (λ y. (x, y)) (λ y. nat_lt x y && nearest conflict x y) (below count)
      ∙ any_same (λ y. (nat_lt x y && nearest conflict x y) && (nat_eq x a && nat_eq y b)) (λ y. nat_eq y b && (nat_eq x a && (nat_lt x y && nearest conflict x y)))
      (λ y. turned (nat_lt x y && nearest conflict x y) (nat_eq x a) (nat_eq y b)) (below count)
      ∙ any_one (λ y. nat_eq x a && (nat_lt x y && nearest conflict x y)) b count
      ∙ swapped (nat_lt b count) (nat_eq x a) (nat_lt x b && nearest conflict x b)

  pub is_listed_is : (a b : ℕ) → is_listed (events_among conflict count) a b ≡ (nat_lt a b && (nat_lt b count && nearest conflict a b))
  is_listed_is a b =
      any-flat_map (λ (e : ℕ × ℕ). nat_eq e.0 a && nat_eq e.1 b) (λ x. map (λ y. (x, y)) (filter (λ y. nat_lt x y && nearest conflict x y) (below count))) (below count)
      ∙ any_same (λ x. list_any (λ (e : ℕ × ℕ). nat_eq e.0 a && nat_eq e.1 b) (map (λ y. (x, y)) (filter (λ y. nat_lt x y && nearest conflict x y) (below count))))
      (λ x. nat_eq x a && (nat_lt b count && (nat_lt x b && nearest conflict x b))) (row_of a b) (below count)
      ∙ any_one (λ x. nat_lt b count && (nat_lt x b && nearest conflict x b)) a count
      ∙ regrouped count a b (nearest conflict a b)

  listed_event : (a b : ℕ) → b < count → IsEvent (nearest conflict) a b → IsEvent (is_listed (events_among conflict count)) a b
  listed_event a b h e = (e.0, is_listed_is a b ∙ and_from _ _ (lt-ltb a b e.0) (and_from _ _ (lt-ltb b count h) e.1))

  -- a chain of the relation is one of the list
  listed_chain : {a b : ℕ} → b < count → Chain (nearest conflict) a b → Chain (is_listed (events_among conflict count)) a b
  listed_chain {a} {b} h (Last e) = Last (listed_event a b h e)
  listed_chain {a} {b} h (Then {x = x} e c) = let up : x < b = chain_up c in Then (listed_event a x (omega arith) e) (listed_chain h c)

  pub chain_listed : (a b : ℕ) → a < b → b < count → conflict a b ≡ true → Chain (is_listed (events_among conflict count)) a b
  chain_listed a b h k e = listed_chain k (chain conflict a b h e)
