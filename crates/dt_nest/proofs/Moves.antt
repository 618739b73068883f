-- What each step of the search adds.
use Rattle.std.proofs.Common.{◌≡◌, ℕ, zero, suc, ◌+◌, ◌-◌, ◌<◌, ◌≤◌, Bool, true, false, List, [], ◌∷◌, ◌++◌, append_assoc, length, map, drop, Option, Some, None, refl, sym, ap, ◌∙◌, subst, arith}
use Rattle.std.specs.Prelude.{if◌then◌else◌, MatchBool, nat_lt, slice_index, slice_set}
use Rattle.std.specs.List.{flat_map, range_with_len}
use Rattle.std.proofs.Math.Path.{fun_ext}
use Rattle.std.proofs.Math.ListN.{set}
use Rattle.std.proofs.lemmas.Bool.{lt-ltb, le-ltb}
use Rattle.std.proofs.lemmas.List.{get_or-set_same, set-set, set-get_or}
use Rattle.std.proofs.lemmas.Grind.{flat_map-append}
use Rattle.dt_nest.specs.declared.loops.Walk.{Walk}
use Rattle.dt_nest.specs.declared.loops.Pair.{Pair}
use Rattle.dt_nest.specs.declared.search.Stand.{Stand}
use Rattle.dt_nest.specs.Tree.{Tree, Loop, Pre, leaf_count, is_kernel_leaf}
use Rattle.dt_nest.specs.Visits.{Scope, scoped, entered, in_producer, Item, IsReset, Tests, valid_values, values_on, with_reset, substituted_visits, tree_visits}
use Rattle.dt_nest.specs.Search.{cleared, AreZero, Lacks, HaveSlots, works_at, leaf_item, node_of, item_at, step_of, end_on, after, IsAt, Reaches, Finds, Enters, ReachesFrom, FindsFrom, Steps}
use Rattle.dt_nest.proofs.Slots.{zero_set, cleared_other, zero_kept, zero_before, zero_cleared, cleared_zero}

-- a longer range in two parts
pub range-add : (a k m : ℕ) → range_with_len a (k + m) ≡ range_with_len a k ++ range_with_len (a + k) m
range-add a zero m = let e : 0 + m ≡ m = omega arith in let g : a + 0 ≡ a = omega arith in ap (range_with_len a) e ∙ sym (ap (λ (b : ℕ). range_with_len b m) g)
range-add a (suc k) m =
    let e : suc k + m ≡ suc (k + m) = omega arith in let g : a + 1 + k ≡ a + suc k = omega arith in
    ap (range_with_len a) e ∙ ap (λ (l : List ℕ). a ∷ l) (range-add (a + 1) k m) ∙ ap (λ (b : ℕ). a ∷ (range_with_len (a + 1) k ++ range_with_len b m)) g

-- the items of values of which the first give none
past_first : (f : ℕ → List Item) (a i n : ℕ) → a ≤ i → i < n → flat_map f (range_with_len a (i - a)) ≡ [] → flat_map f (range_with_len a (n - a)) ≡ f i ++ flat_map f (range_with_len (i + 1) (n - (i + 1)))
past_first f a i n le lt e =
    let k : n - a ≡ (i - a) + suc (n - (i + 1)) = omega arith in let g : a + (i - a) ≡ i = omega arith in
    ap (λ (m : ℕ). flat_map f (range_with_len a m)) k ∙ ap (flat_map f) (range-add a (i - a) (suc (n - (i + 1)))) ∙ flat_map-append f (range_with_len a (i - a)) (range_with_len (a + (i - a)) (suc (n - (i + 1))))
    ∙ ap (λ (l : List Item). l ++ flat_map f (range_with_len (a + (i - a)) (suc (n - (i + 1))))) e ∙ ap (λ (b : ℕ). flat_map f (range_with_len b (suc (n - (i + 1))))) g

-- one more value that gives none
past_more : (f : ℕ → List Item) (a i : ℕ) → a ≤ i → flat_map f (range_with_len a (i - a)) ≡ [] → f i ≡ [] → flat_map f (range_with_len a (i + 1 - a)) ≡ []
past_more f a i le e h =
    let k : i + 1 - a ≡ (i - a) + 1 = omega arith in let g : a + (i - a) ≡ i = omega arith in
    ap (λ (m : ℕ). flat_map f (range_with_len a m)) k ∙ ap (flat_map f) (range-add a (i - a) 1) ∙ flat_map-append f (range_with_len a (i - a)) (range_with_len (a + (i - a)) 1)
    ∙ ap (λ (l : List Item). l ++ flat_map f (range_with_len (a + (i - a)) 1)) e ∙ ap (λ (b : ℕ). flat_map f (range_with_len b 1)) g ∙ ap (λ (l : List Item). l ++ []) h

-- a step looks at the other slots alone
pub step_base : (t : Tests) (walk : Option Walk) (v : ℕ) (body : Tree) (scope : Scope) (path base : List ℕ) (x : ℕ) → step_of t walk v body scope (slice_set base v x) path ≡ step_of t walk v body scope base path
step_base t walk v body scope path base x = fun_ext (λ i. ap (λ (l : List ℕ). if t.takes walk v scope.pairs l then tree_visits t body (entered scope v) l path else []) (set-set base v x i))

pub enters_body : (walk : Option Walk) (body : Tree) (v i n : ℕ) (old slots : List ℕ) → slots ≡ old → HaveSlots (Loop v n walk body) (length old) → AreZero (Loop v n walk body) old → AreZero body (slice_set slots v i)
enters_body walk body v i n old slots e r z = zero_set body v i slots r.1 (subst (λ (l : List ℕ). AreZero body l) (sym e) z.1)

-- one value of a loop has a first visit
pub found_from : (t : Tests) (walk : Option Walk) (v : ℕ) (body : Tree) (pairs : List Pair) (path : List ℕ) (from to i : ℕ) (old slots new : List ℕ) (leaf : ℕ) → slots ≡ old
    → ((around : List ℕ) → flat_map (step_of t walk v body (scoped pairs around) slots path) (range_with_len from (i - from)) ≡ []) → from ≤ i → i < to → v < length old → Lacks v body → slice_index old v ≡ 0
    → Enters t walk v body pairs path (slice_set slots v i) new (Some leaf) → FindsFrom t walk v body pairs path from to old new (Some leaf)
found_from t walk v body pairs path from to i old slots new leaf e none le lt room lacks z f = subst (λ (l : List ℕ). FindsFrom t walk v body pairs path from to l new (Some leaf)) e (record {
  goes = λ around. record {
    items =
        past_first (step_of t walk v body (scoped pairs around) slots path) from i to le lt (none around)
        ∙ ap (λ (l : List Item). l ++ flat_map (step_of t walk v body (scoped pairs around) slots path) (range_with_len (i + 1) (to - (i + 1)))) (ap (λ (b : Bool). if b then tree_visits t body (scoped pairs (v ∷ around)) (slice_set slots v i) path else []) f.goes.0 ∙ (f.goes.1.goes.0 (v ∷ around)).items)
        ∙ append_assoc (map IsReset (works_at body leaf)) (item_at t body (scoped pairs (v ∷ around)) new leaf ∷ after t body (scoped pairs (v ∷ around)) new path leaf) (flat_map (step_of t walk v body (scoped pairs around) slots path) (range_with_len (i + 1) (to - (i + 1))))
        ∙ ap (λ (g : ℕ → List Item). map IsReset (works_at body leaf) ++ item_at t body (scoped pairs (v ∷ around)) new leaf ∷ (after t body (scoped pairs (v ∷ around)) new path leaf ++ flat_map g (range_with_len (i + 1) (to - (i + 1))))) (same around)
        ∙ ap (λ (x : ℕ). map IsReset (works_at body leaf) ++ item_at t body (scoped pairs (v ∷ around)) new leaf ∷ (after t body (scoped pairs (v ∷ around)) new path leaf ++ flat_map (step_of t walk v body (scoped pairs around) (cleared body new) path) (range_with_len (x + 1) (to - (x + 1))))) (sym here);
    begins = omega (arith, here);
    ends = omega (arith, here);
    stands = (f.goes.1.goes.0 []).stands;
    exists = (f.goes.1.goes.0 []).exists;
    back =
        ap (λ (l : List ℕ). set l v 0) f.goes.1.goes.1 ∙ set-set slots v i 0 ∙ ap (λ (k : ℕ). set slots v k) (sym (ap (λ (l : List ℕ). slice_index l v) e ∙ z)) ∙ set-get_or slots v 0;
  };
})
  where
    here : slice_index new v ≡ i
    here = sym (cleared_other body v new lacks) ∙ ap (λ (l : List ℕ). slice_index l v) f.goes.1.goes.1 ∙ get_or-set_same slots v i 0 (subst (λ (l : List ℕ). v < length l) (sym e) room)

    same : (around : List ℕ) → step_of t walk v body (scoped pairs around) slots path ≡ step_of t walk v body (scoped pairs around) (cleared body new) path
    same around = sym (ap (λ (l : List ℕ). step_of t walk v body (scoped pairs around) l path) f.goes.1.goes.1 ∙ step_base t walk v body (scoped pairs around) path slots i)

-- one value of a loop has none
pub none_at : (t : Tests) (walk : Option Walk) (v : ℕ) (body : Tree) (pairs : List Pair) (path : List ℕ) (from i : ℕ) (old slots new : List ℕ) → slots ≡ old
    → ((around : List ℕ) → flat_map (step_of t walk v body (scoped pairs around) slots path) (range_with_len from (i - from)) ≡ []) → from ≤ i → slice_index old v ≡ 0
    → Enters t walk v body pairs path (slice_set slots v i) new None
    → (slice_set new v 0 ≡ old) × ((around : List ℕ) → flat_map (step_of t walk v body (scoped pairs around) (slice_set new v 0) path) (range_with_len from (i + 1 - from)) ≡ [])
none_at t walk v body pairs path from i old slots new e none le z f =
    (back, λ around. subst (λ (l : List ℕ). flat_map (step_of t walk v body (scoped pairs around) l path) (range_with_len from (i + 1 - from)) ≡ []) (e ∙ sym back) (past_more (step_of t walk v body (scoped pairs around) slots path) from i le (none around) (f.goes.0 (v ∷ around))))
  where
    back : slice_set new v 0 ≡ old
    back =
        ap (λ (l : List ℕ). set l v 0) f.goes.1 ∙ set-set slots v i 0 ∙ ap (λ (k : ℕ). set slots v k) (sym (ap (λ (l : List ℕ). slice_index l v) e ∙ z)) ∙ set-get_or slots v 0 ∙ e

-- a loop that takes its value goes into its body
pub enters_taken : (t : Tests) (walk : Option Walk) (v : ℕ) (body : Tree) (pairs : List Pair) (path old new : List ℕ) (found : Option ℕ) → t.takes walk v pairs old ≡ true → Finds t body pairs path old new found → Enters t walk v body pairs path old new found
enters_taken t walk v body pairs path old new None e f = record { goes = ((λ around. ap (λ (b : Bool). if b then tree_visits t body (scoped pairs around) old path else []) e ∙ f.goes.0 around), f.goes.1) }
enters_taken t walk v body pairs path old new (Some leaf) e f = record { goes = (e, f) }

-- what a loop's run reaches, the whole loop does
pub reached : (t : Tests) (walk : Option Walk) (v n : ℕ) (body : Tree) (scope : Scope) (path : List ℕ) (from to : ℕ) (old new : List ℕ) (leaf : ℕ) (list : List Item) → is_kernel_leaf body ≡ false
    → list ≡ flat_map (step_of t walk v body scope old (drop 1 path)) (range_with_len from (to - from)) → ((x : ℕ) → from ≤ x → x < to → end_on path n x ≡ to) → to ≤ n
    → ReachesFrom t walk v body scope (drop 1 path) from to old new leaf → Reaches t (Loop v n walk body) scope path list new leaf 0
reached t walk v n body scope path from to old new leaf list plain values stop le f = record {
  items =
      values ∙ f.items
      ∙ ap (λ (k : ℕ). map IsReset (works_at body leaf) ++ item_at t body (entered scope v) new leaf ∷ (after t body (entered scope v) new (drop 1 path) leaf ++ flat_map (step_of t walk v body scope (cleared body new) (drop 1 path)) (range_with_len (slice_index new v + 1) (k - (slice_index new v + 1))))) (sym (stop (slice_index new v) f.begins f.ends))
      ∙ sym (ap (λ (i : Item). map IsReset (works_at body leaf) ++ i ∷ after t (Loop v n walk body) scope new path leaf) item
      ∙ ap (λ (r : List Item). map IsReset (works_at body leaf) ++ item_at t body (entered scope v) new leaf ∷ r) rest);
  stands = (subst (λ (b : Bool). MatchBool b (slice_index new v ≡ 0) (slice_index new v < n)) (sym plain) (omega (arith, f.ends, le)), f.stands);
  exists = f.exists;
  resets = omega arith;
}
  where
    item : item_at t (Loop v n walk body) scope new leaf ≡ item_at t body (entered scope v) new leaf
    item = ap (λ (b : Bool). if b then leaf_item t body scope new (Some (record { var = v; extent = n; valid = valid_values t walk v n (node_of body) scope.pairs new })) else item_at t body (entered scope v) new leaf) plain

    rest : after t (Loop v n walk body) scope new path leaf ≡ after t body (entered scope v) new (drop 1 path) leaf ++ flat_map (step_of t walk v body scope (cleared body new) (drop 1 path)) (range_with_len (slice_index new v + 1) (end_on path n (slice_index new v) - (slice_index new v + 1)))
    rest = ap (λ (b : Bool). if b then [] else after t body (entered scope v) new (drop 1 path) leaf ++ flat_map (step_of t walk v body scope (cleared body new) (drop 1 path)) (range_with_len (slice_index new v + 1) (end_on path n (slice_index new v) - (slice_index new v + 1)))) plain

-- the values of a loop, from the first or the one on the path
loop_values : (t : Tests) (walk : Option Walk) (v n : ℕ) (body : Tree) (scope : Scope) (path old : List ℕ) (from to : ℕ) → is_kernel_leaf body ≡ false → values_on path n ≡ range_with_len from (to - from)
    → tree_visits t (Loop v n walk body) scope old path ≡ flat_map (step_of t walk v body scope old (drop 1 path)) (range_with_len from (to - from))
loop_values t walk v n body scope path old from to plain values =
    ap (λ (b : Bool). if b then substituted_visits t walk v n body scope old else flat_map (step_of t walk v body scope old (drop 1 path)) (values_on path n)) plain
    ∙ ap (flat_map (step_of t walk v body scope old (drop 1 path))) values

-- a loop outside the path, or on it
abbrev pub IsRange : List ℕ → ℕ → ℕ → ℕ → Type 0
IsRange path n from to = (values_on path n ≡ range_with_len from (to - from)) × ((x : ℕ) → from ≤ x → x < to → end_on path n x ≡ to) × (to ≤ n)

pub all_values : (n : ℕ) → IsRange [] n 0 n
all_values n = let e : n - 0 ≡ n = omega arith in (ap (range_with_len 0) (sym e), (λ x a b. refl), omega arith)

pub one_value : (x n : ℕ) (path : List ℕ) → x < n → IsRange (x ∷ path) n x (x + 1)
one_value x n path lt = let e : x + 1 - x ≡ 1 = omega arith in (sym (ap (range_with_len x) e), (λ y a b. omega (arith, a, b)), omega arith)

pub later_values : (path : List ℕ) (n x : ℕ) → x < n → ((y : ℕ) → x + 1 ≤ y → y < end_on path n x → end_on path n y ≡ end_on path n x) × (end_on path n x ≤ n)
later_values [] n x lt = ((λ y a b. refl), omega arith)
later_values (p ∷ path) n x lt = ((λ y a b. absurd (omega (arith, a, b))), omega arith)

-- the first visit of a loop that is not substituted
pub loop_finds : (t : Tests) (walk : Option Walk) (v n : ℕ) (body : Tree) (pairs : List Pair) (path : List ℕ) (from to : ℕ) (old new : List ℕ) (found : Option ℕ) → is_kernel_leaf body ≡ false → IsRange path n from to
    → FindsFrom t walk v body pairs (drop 1 path) from to old new found → Finds t (Loop v n walk body) pairs path old new found
loop_finds t walk v n body pairs path from to old new None plain r f = record { goes = (λ around. loop_values t walk v n body (scoped pairs around) path old from to plain r.0 ∙ (f.goes.0 around), f.goes.1) }
loop_finds t walk v n body pairs path from to old new (Some leaf) plain r f = record {
  goes = (
    λ around. reached t walk v n body (scoped pairs around) path from to old new leaf (tree_visits t (Loop v n walk body) (scoped pairs around) old path) plain (loop_values t walk v n body (scoped pairs around) path old from to plain r.0) r.1 r.2 (f.goes around),
    (f.goes []).back,
  );
}

reset_first : (work : ℕ) (ws : List ℕ) (item : Item) (items : List Item) → with_reset work (map IsReset ws ++ item ∷ items) ≡ IsReset work ∷ (map IsReset ws ++ item ∷ items)
reset_first work [] item items = refl
reset_first work (w ∷ ws) item items = refl

-- where a leaf of the producer stands in the whole node
module _ (t : Tests) (work : ℕ) (more : List Pair) (p q : Tree) (scope : Scope) (path : List ℕ) (leaf : ℕ) (inside : leaf < leaf_count p) where
  in_first : nat_lt leaf (leaf_count p) ≡ true
  in_first = lt-ltb leaf (leaf_count p) inside

  pub first_works : works_at (Pre work more p q) leaf ≡ work ∷ works_at p leaf
  first_works = ap (λ (b : Bool). work ∷ (if b then works_at p leaf else works_at q (leaf - leaf_count p))) in_first

  pub first_item : (slots : List ℕ) → item_at t (Pre work more p q) scope slots leaf ≡ item_at t p (in_producer scope more) slots leaf
  first_item slots = ap (λ (b : Bool). if b then item_at t p (in_producer scope more) slots leaf else item_at t q scope slots (leaf - leaf_count p)) in_first

  pub first_after : (slots : List ℕ) → after t (Pre work more p q) scope slots path leaf ≡ after t p (in_producer scope more) slots [] leaf ++ tree_visits t q scope (cleared p slots) []
  first_after slots = ap (λ (b : Bool). if b then after t p (in_producer scope more) slots [] leaf ++ tree_visits t q scope (cleared p slots) [] else after t q scope slots [] (leaf - leaf_count p)) in_first

  pub first_stands : (slots : List ℕ) → IsAt p slots leaf → AreZero q slots → IsAt (Pre work more p q) slots leaf
  first_stands slots a z = subst (λ (b : Bool). MatchBool b (IsAt p slots leaf × AreZero q slots) (AreZero p slots × IsAt q slots (leaf - leaf_count p))) (sym in_first) (a, z)

  pub first_stood : (slots : List ℕ) → IsAt (Pre work more p q) slots leaf → IsAt p slots leaf × AreZero q slots
  first_stood slots a = subst (λ (b : Bool). MatchBool b (IsAt p slots leaf × AreZero q slots) (AreZero p slots × IsAt q slots (leaf - leaf_count p))) in_first a

-- where a leaf of the consumer stands in the whole node
module _ (t : Tests) (work : ℕ) (more : List Pair) (p q : Tree) (scope : Scope) (path : List ℕ) (leaf at : ℕ) (outside : leaf_count p + at ≡ leaf) where
  in_second : nat_lt leaf (leaf_count p) ≡ false
  in_second = le-ltb leaf (leaf_count p) (omega arith)

  own : leaf - leaf_count p ≡ at
  own = omega arith

  pub second_works : works_at (Pre work more p q) leaf ≡ work ∷ works_at q at
  second_works = ap (λ (b : Bool). work ∷ (if b then works_at p leaf else works_at q (leaf - leaf_count p))) in_second ∙ ap (λ (k : ℕ). work ∷ works_at q k) own

  pub second_item : (slots : List ℕ) → item_at t (Pre work more p q) scope slots leaf ≡ item_at t q scope slots at
  second_item slots = ap (λ (b : Bool). if b then item_at t p (in_producer scope more) slots leaf else item_at t q scope slots (leaf - leaf_count p)) in_second ∙ ap (item_at t q scope slots) own

  pub second_after : (slots : List ℕ) → after t (Pre work more p q) scope slots path leaf ≡ after t q scope slots [] at
  second_after slots = ap (λ (b : Bool). if b then after t p (in_producer scope more) slots [] leaf ++ tree_visits t q scope (cleared p slots) [] else after t q scope slots [] (leaf - leaf_count p)) in_second ∙ ap (after t q scope slots []) own

  pub second_stands : (slots : List ℕ) → AreZero p slots → IsAt q slots at → IsAt (Pre work more p q) slots leaf
  second_stands slots z a = subst (λ (b : Bool). MatchBool b (IsAt p slots leaf × AreZero q slots) (AreZero p slots × IsAt q slots (leaf - leaf_count p))) (sym in_second) (z, subst (IsAt q slots) (sym own) a)

  pub second_stood : (slots : List ℕ) → IsAt (Pre work more p q) slots leaf → AreZero p slots × IsAt q slots at
  second_stood slots a =
      let h : AreZero p slots × IsAt q slots (leaf - leaf_count p) = subst (λ (b : Bool). MatchBool b (IsAt p slots leaf × AreZero q slots) (AreZero p slots × IsAt q slots (leaf - leaf_count p))) in_second a in
      (h.0, subst (IsAt q slots) own h.1)

-- a list of resets, an item and the rest, where each part is another
pub parts : (list : List Item) (ws vs : List ℕ) (i j : Item) (r u : List Item) → list ≡ map IsReset ws ++ i ∷ r → vs ≡ ws → j ≡ i → u ≡ r → list ≡ map IsReset vs ++ j ∷ u
parts list ws vs i j r u e a b c = cc

-- one more workspace that was reset
drop_more : (past work : ℕ) (ws vs : List ℕ) → vs ≡ work ∷ ws → drop (past + 1) vs ≡ drop past ws
drop_more past work ws vs e = let k : past + 1 ≡ suc past = omega arith in ap (λ (m : ℕ). drop m vs) k ∙ ap (drop (suc past)) e

module _ (t : Tests) (work : ℕ) (more : List Pair) (p q : Tree) (pairs : List Pair) (path : List ℕ) (room : ℕ) (r : HaveSlots (Pre work more p q) room) where
  -- the first visit stands in the producer
  pub finds_first : (old new : List ℕ) (leaf : ℕ) → AreZero (Pre work more p q) old → Finds t p (pairs ++ more) [] old new (Some leaf) → Finds t (Pre work more p q) pairs path old new (Some leaf)
  finds_first old new leaf z f =
      let lt = (f.goes.0 []).exists in
      let b : AreZero q new = zero_before q p new r.3 (subst (AreZero q) (sym f.goes.1) z.1) in
      record {
        goes = (
          λ around. record {
            items = parts (tree_visits t (Pre work more p q) (scoped pairs around) old path) (work ∷ works_at p leaf) (works_at (Pre work more p q) leaf)
                (item_at t p (scoped (pairs ++ more) around) new leaf) (item_at t (Pre work more p q) (scoped pairs around) new leaf)
                (after t p (scoped (pairs ++ more) around) new [] leaf ++ tree_visits t q (scoped pairs around) (cleared p new) []) (after t (Pre work more p q) (scoped pairs around) new path leaf)
                (ap (λ (l : List Item). with_reset work (l ++ tree_visits t q (scoped pairs around) old [])) (f.goes.0 around).items
                ∙ ap (with_reset work) (append_assoc (map IsReset (works_at p leaf)) (item_at t p (scoped (pairs ++ more) around) new leaf ∷ after t p (scoped (pairs ++ more) around) new [] leaf) (tree_visits t q (scoped pairs around) old []))
                ∙ reset_first work (works_at p leaf) (item_at t p (scoped (pairs ++ more) around) new leaf) (after t p (scoped (pairs ++ more) around) new [] leaf ++ tree_visits t q (scoped pairs around) old [])
                ∙ ap (λ (l : List ℕ). IsReset work ∷ (map IsReset (works_at p leaf) ++ item_at t p (scoped (pairs ++ more) around) new leaf ∷ (after t p (scoped (pairs ++ more) around) new [] leaf ++ tree_visits t q (scoped pairs around) l []))) (sym f.goes.1))
                (first_works t work more p q (scoped pairs around) path leaf lt) (first_item t work more p q (scoped pairs around) path leaf lt new) (first_after t work more p q (scoped pairs around) path leaf lt new);
            stands = first_stands t work more p q (scoped pairs around) path leaf lt new (f.goes.0 around).stands b;
            exists = omega (arith, lt);
            resets = omega arith;
          },
          ap (cleared q) f.goes.1 ∙ cleared_zero q old z.1,
        );
      }

  -- the first visit stands in the consumer
  pub finds_second : (old mid new : List ℕ) (leaf at : ℕ) → leaf_count p + at ≡ leaf → AreZero (Pre work more p q) old → Finds t p (pairs ++ more) [] old mid None → Finds t q pairs [] mid new (Some at) → Finds t (Pre work more p q) pairs path old new (Some leaf)
  finds_second old mid new leaf at e z f g =
      let same : mid ≡ old = f.goes.1 in
      let b : AreZero p new = zero_before p q new r.2 (subst (AreZero p) (sym (g.goes.1 ∙ same)) z.0) in
      record {
        goes = (
          λ around. record {
            items = parts (tree_visits t (Pre work more p q) (scoped pairs around) old path) (work ∷ works_at q at) (works_at (Pre work more p q) leaf)
                (item_at t q (scoped pairs around) new at) (item_at t (Pre work more p q) (scoped pairs around) new leaf) (after t q (scoped pairs around) new [] at) (after t (Pre work more p q) (scoped pairs around) new path leaf)
                (ap (λ (l : List Item). with_reset work (l ++ tree_visits t q (scoped pairs around) old [])) (f.goes.0 around)
                ∙ ap (λ (l : List ℕ). with_reset work (tree_visits t q (scoped pairs around) l [])) (sym same)
                ∙ ap (with_reset work) (g.goes.0 around).items
                ∙ reset_first work (works_at q at) (item_at t q (scoped pairs around) new at) (after t q (scoped pairs around) new [] at))
                (second_works t work more p q (scoped pairs around) path leaf at e) (second_item t work more p q (scoped pairs around) path leaf at e new) (second_after t work more p q (scoped pairs around) path leaf at e new);
            stands = second_stands t work more p q (scoped pairs around) path leaf at e new b (g.goes.0 around).stands;
            exists = omega (arith, (g.goes.0 around).exists);
            resets = omega arith;
          },
          ap (cleared q) (cleared_zero p new b) ∙ g.goes.1 ∙ same,
        );
      }

  pub finds_none : (old mid new : List ℕ) → Finds t p (pairs ++ more) [] old mid None → Finds t q pairs [] mid new None → Finds t (Pre work more p q) pairs path old new None
  finds_none old mid new f g = record {
    goes = (
      λ around. ap (λ (l : List Item). with_reset work (l ++ tree_visits t q (scoped pairs around) old [])) (f.goes.0 around) ∙ ap (λ (l : List ℕ). with_reset work (tree_visits t q (scoped pairs around) l [])) (sym f.goes.1) ∙ ap (with_reset work) (g.goes.0 around),
      g.goes.1 ∙ f.goes.1,
    );
  }

  -- the next visit stands in the producer too
  pub steps_first : (old new : List ℕ) (leaf0 : ℕ) (at to : Stand) → leaf0 < leaf_count p → to.leaf ≡ at.leaf → to.past ≡ at.past + 1 → IsAt (Pre work more p q) old leaf0
      → Steps t p (pairs ++ more) [] leaf0 old new (Some at) → Steps t (Pre work more p q) pairs path leaf0 old new (Some to)
  steps_first old new leaf0 at to lt0 same_leaf one_more stands f =
      let lt : to.leaf < leaf_count p = omega (arith, same_leaf, (f.goes.0 []).exists) in
      let stood = first_stood t work more p q (scoped pairs []) path leaf0 lt0 old stands in
      let b : AreZero q new = zero_before q p new r.3 (subst (AreZero q) (sym f.goes.1) (zero_kept q p old r.3 stood.1)) in
      record {
        goes = (
          λ around. record {
            items = parts (after t (Pre work more p q) (scoped pairs around) old path leaf0) (drop at.past (works_at p at.leaf)) (drop to.past (works_at (Pre work more p q) to.leaf))
                (item_at t p (scoped (pairs ++ more) around) new at.leaf) (item_at t (Pre work more p q) (scoped pairs around) new to.leaf)
                (after t p (scoped (pairs ++ more) around) new [] at.leaf ++ tree_visits t q (scoped pairs around) (cleared p new) []) (after t (Pre work more p q) (scoped pairs around) new path to.leaf)
                (first_after t work more p q (scoped pairs around) path leaf0 lt0 old
                ∙ ap (λ (l : List Item). l ++ tree_visits t q (scoped pairs around) (cleared p old) []) (f.goes.0 around).items
                ∙ append_assoc (map IsReset (drop at.past (works_at p at.leaf))) (item_at t p (scoped (pairs ++ more) around) new at.leaf ∷ after t p (scoped (pairs ++ more) around) new [] at.leaf) (tree_visits t q (scoped pairs around) (cleared p old) [])
                ∙ ap (λ (l : List ℕ). map IsReset (drop at.past (works_at p at.leaf)) ++ item_at t p (scoped (pairs ++ more) around) new at.leaf ∷ (after t p (scoped (pairs ++ more) around) new [] at.leaf ++ tree_visits t q (scoped pairs around) l [])) (sym f.goes.1))
                (ap (λ (k : ℕ). drop k (works_at (Pre work more p q) to.leaf)) one_more ∙ drop_more at.past work (works_at p at.leaf) (works_at (Pre work more p q) to.leaf) (first_works t work more p q (scoped pairs around) path to.leaf lt ∙ ap (λ (k : ℕ). work ∷ works_at p k) same_leaf))
                (first_item t work more p q (scoped pairs around) path to.leaf lt new ∙ ap (item_at t p (scoped (pairs ++ more) around) new) same_leaf)
                (first_after t work more p q (scoped pairs around) path to.leaf lt new ∙ ap (λ (k : ℕ). after t p (scoped (pairs ++ more) around) new [] k ++ tree_visits t q (scoped pairs around) (cleared p new) []) same_leaf);
            stands = first_stands t work more p q (scoped pairs around) path to.leaf lt new (subst (IsAt p new) (sym same_leaf) (f.goes.0 around).stands) b;
            exists = omega (arith, lt);
            resets = let k : length (works_at (Pre work more p q) to.leaf) ≡ suc (length (works_at p to.leaf)) = ap length (first_works t work more p q (scoped pairs around) path to.leaf lt) in
                let l : length (works_at p to.leaf) ≡ length (works_at p at.leaf) = ap (λ (m : ℕ). length (works_at p m)) same_leaf in omega (arith, (f.goes.0 around).resets, one_more, k, l);
          },
          ap (cleared q) f.goes.1,
        );
      }

  -- the next visit is the first of the consumer
  pub steps_over : (old mid new : List ℕ) (leaf0 at : ℕ) (to : Stand) → leaf0 < leaf_count p → leaf_count p + at ≡ to.leaf → to.past ≡ 1 → length old ≡ room → IsAt (Pre work more p q) old leaf0
      → Steps t p (pairs ++ more) [] leaf0 old mid None → Finds t q pairs [] mid new (Some at) → Steps t (Pre work more p q) pairs path leaf0 old new (Some to)
  steps_over old mid new leaf0 at to lt0 e one long stands f g =
      let stood = first_stood t work more p q (scoped pairs []) path leaf0 lt0 old stands in
      let same : mid ≡ cleared p old = f.goes.1 in
      let zp : AreZero p mid = subst (AreZero p) (sym same) (zero_cleared p old (subst (HaveSlots p) (sym long) r.0)) in
      let zq : AreZero q mid = subst (AreZero q) (sym same) (zero_kept q p old r.3 stood.1) in
      let b : AreZero p new = zero_before p q new r.2 (subst (AreZero p) (sym g.goes.1) zp) in
      record {
        goes = (
          λ around. record {
            items = parts (after t (Pre work more p q) (scoped pairs around) old path leaf0) (works_at q at) (drop to.past (works_at (Pre work more p q) to.leaf))
                (item_at t q (scoped pairs around) new at) (item_at t (Pre work more p q) (scoped pairs around) new to.leaf) (after t q (scoped pairs around) new [] at) (after t (Pre work more p q) (scoped pairs around) new path to.leaf)
                (first_after t work more p q (scoped pairs around) path leaf0 lt0 old
                ∙ ap (λ (l : List Item). l ++ tree_visits t q (scoped pairs around) (cleared p old) []) (f.goes.0 around)
                ∙ ap (λ (l : List ℕ). tree_visits t q (scoped pairs around) l []) (sym same)
                ∙ (g.goes.0 around).items)
                (ap (λ (k : ℕ). drop k (works_at (Pre work more p q) to.leaf)) one ∙ ap (drop 1) (second_works t work more p q (scoped pairs around) path to.leaf at e))
                (second_item t work more p q (scoped pairs around) path to.leaf at e new) (second_after t work more p q (scoped pairs around) path to.leaf at e new);
            stands = second_stands t work more p q (scoped pairs around) path to.leaf at e new b (g.goes.0 around).stands;
            exists = omega (arith, (g.goes.0 around).exists, e);
            resets = let k : length (works_at (Pre work more p q) to.leaf) ≡ suc (length (works_at q at)) = ap length (second_works t work more p q (scoped pairs around) path to.leaf at e) in omega (arith, one, k);
          },
          ap (cleared q) (cleared_zero p new b) ∙ g.goes.1 ∙ sym (cleared_zero q mid zq) ∙ ap (cleared q) same,
        );
      }

  pub steps_over_none : (old mid new : List ℕ) (leaf0 : ℕ) → leaf0 < leaf_count p → IsAt (Pre work more p q) old leaf0
      → Steps t p (pairs ++ more) [] leaf0 old mid None → Finds t q pairs [] mid new None → Steps t (Pre work more p q) pairs path leaf0 old new None
  steps_over_none old mid new leaf0 lt0 stands f g =
      let stood = first_stood t work more p q (scoped pairs []) path leaf0 lt0 old stands in
      let same : mid ≡ cleared p old = f.goes.1 in
      let zq : AreZero q mid = subst (AreZero q) (sym same) (zero_kept q p old r.3 stood.1) in
      record {
        goes = (
          λ around. first_after t work more p q (scoped pairs around) path leaf0 lt0 old ∙ ap (λ (l : List Item). l ++ tree_visits t q (scoped pairs around) (cleared p old) []) (f.goes.0 around) ∙ ap (λ (l : List ℕ). tree_visits t q (scoped pairs around) l []) (sym same) ∙ (g.goes.0 around),
          g.goes.1 ∙ sym (cleared_zero q mid zq) ∙ ap (cleared q) same,
        );
      }

  -- the next visit stands in the consumer, as the last did
  pub steps_second : (old new : List ℕ) (leaf0 at0 : ℕ) (at to : Stand) → leaf_count p + at0 ≡ leaf0 → leaf_count p + at.leaf ≡ to.leaf → to.past ≡ at.past + 1 → IsAt (Pre work more p q) old leaf0
      → Steps t q pairs [] at0 old new (Some at) → Steps t (Pre work more p q) pairs path leaf0 old new (Some to)
  steps_second old new leaf0 at0 at to e0 e one_more stands f =
      let stood = second_stood t work more p q (scoped pairs []) path leaf0 at0 e0 old stands in
      let b : AreZero p new = zero_before p q new r.2 (subst (AreZero p) (sym f.goes.1) (zero_kept p q old r.2 stood.0)) in
      record {
        goes = (
          λ around. record {
            items = parts (after t (Pre work more p q) (scoped pairs around) old path leaf0) (drop at.past (works_at q at.leaf)) (drop to.past (works_at (Pre work more p q) to.leaf))
                (item_at t q (scoped pairs around) new at.leaf) (item_at t (Pre work more p q) (scoped pairs around) new to.leaf) (after t q (scoped pairs around) new [] at.leaf) (after t (Pre work more p q) (scoped pairs around) new path to.leaf)
                (second_after t work more p q (scoped pairs around) path leaf0 at0 e0 old ∙ (f.goes.0 around).items)
                (ap (λ (k : ℕ). drop k (works_at (Pre work more p q) to.leaf)) one_more ∙ drop_more at.past work (works_at q at.leaf) (works_at (Pre work more p q) to.leaf) (second_works t work more p q (scoped pairs around) path to.leaf at.leaf e))
                (second_item t work more p q (scoped pairs around) path to.leaf at.leaf e new) (second_after t work more p q (scoped pairs around) path to.leaf at.leaf e new);
            stands = second_stands t work more p q (scoped pairs around) path to.leaf at.leaf e new b (f.goes.0 around).stands;
            exists = omega (arith, (f.goes.0 around).exists, e);
            resets = let k : length (works_at (Pre work more p q) to.leaf) ≡ suc (length (works_at q at.leaf)) = ap length (second_works t work more p q (scoped pairs around) path to.leaf at.leaf e) in omega (arith, (f.goes.0 around).resets, one_more, k);
          },
          ap (cleared q) (cleared_zero p new b) ∙ f.goes.1 ∙ sym (ap (cleared q) (cleared_zero p old stood.0)),
        );
      }

  pub steps_second_none : (old new : List ℕ) (leaf0 at0 : ℕ) → leaf_count p + at0 ≡ leaf0 → IsAt (Pre work more p q) old leaf0 → Steps t q pairs [] at0 old new None → Steps t (Pre work more p q) pairs path leaf0 old new None
  steps_second_none old new leaf0 at0 e0 stands f =
      let stood = second_stood t work more p q (scoped pairs []) path leaf0 at0 e0 old stands in
      record { goes = (λ around. second_after t work more p q (scoped pairs around) path leaf0 at0 e0 old ∙ (f.goes.0 around), f.goes.1 ∙ sym (ap (cleared q) (cleared_zero p old stood.0))) }
