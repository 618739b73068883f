-- At each visit the guards of its leaf hold, and the visit has the parts that stand on the way to its leaf.
use Rattle.std.proofs.Common.{◌≡◌, ℕ, ◌-◌, Bool, true, false, ◌&&◌, List, [], ◌∷◌, ◌++◌, append_assoc, drop, filter, Option, Some, None, refl, ap, ◌∙◌, arith}
use Rattle.std.specs.Prelude.{if◌then◌else◌, nat_lt, slice_set}
use Rattle.std.specs.List.{AllByRecursion, flat_map, range_with_len}
use Rattle.dt_nest.specs.declared.loops.Walk.{Walk}
use Rattle.dt_nest.specs.declared.loops.Pair.{Pair}
use Rattle.dt_nest.specs.Tree.{Tree, Loop, Pre, Leaf, leaf_count, is_kernel_leaf}
use Rattle.dt_nest.proofs.Each.{all_append, all_flat_map}
use Rattle.dt_nest.specs.Visits.{LeafNode, Lanes, Scope, entered, in_producer, Item, IsVisit, Tests, with_reset, values_on, lane_visit, is_valid, valid_values, substituted_visits, tree_visits, leaf_node}
use Rattle.dt_nest.specs.Search.{leaf_item, node_of, item_at, pairs_at}
use Rattle.dt_nest.specs.Branch.{node_at, loops_at, lanes_at, visit_at}
use Rattle.dt_nest.specs.Run.{ItemHolds}

and_right : (a b : Bool) → (a && b) ≡ true → b ≡ true
and_right true b e = e
and_right false b e = absurd (cc)

module _ (t : Tests) where
  valid_hold : (walk : Option Walk) (v : ℕ) (leaf : LeafNode) (pairs : List Pair) (slots xs : List ℕ) → AllByRecursion (λ x. t.holds leaf pairs (slice_set slots v x) ≡ true) (filter (is_valid t walk v leaf pairs slots) xs)
  valid_hold walk v leaf pairs slots [] = tt
  valid_hold walk v leaf pairs slots (x ∷ xs) =
      go (is_valid t walk v leaf pairs slots x) (and_right (t.takes walk v pairs (slice_set slots v x)) (t.holds leaf pairs (slice_set slots v x))) (valid_hold walk v leaf pairs slots xs)
    where
      go : (b : Bool) → (b ≡ true → t.holds leaf pairs (slice_set slots v x) ≡ true) → AllByRecursion (λ x. t.holds leaf pairs (slice_set slots v x) ≡ true) (filter (is_valid t walk v leaf pairs slots) xs)
          → AllByRecursion (λ x. t.holds leaf pairs (slice_set slots v x) ≡ true) (if b then x ∷ filter (is_valid t walk v leaf pairs slots) xs else filter (is_valid t walk v leaf pairs slots) xs)
      go true e r = (e refl, r)
      go false e r = r

  lane_holds : (leaf : LeafNode) (scope : Scope) (slots : List ℕ) (v n : ℕ) (valid : List ℕ) → AllByRecursion (λ x. t.holds leaf scope.pairs (slice_set slots v x) ≡ true) valid → AllByRecursion (ItemHolds t) (lane_visit leaf scope slots v n valid)
  lane_holds leaf scope slots v n [] h = tt
  lane_holds leaf scope slots v n (x ∷ valid) h = ((omega arith, h), tt)

  lanes_hold : (walk : Option Walk) (v n : ℕ) (body : Tree) (scope : Scope) (slots : List ℕ) → AllByRecursion (ItemHolds t) (substituted_visits t walk v n body scope slots)
  lanes_hold walk v n (Loop u m more inner) scope slots = tt
  lanes_hold walk v n (Pre work more p q) scope slots = tt
  lanes_hold walk v n (Leaf lhs terms guards kernel) scope slots =
      lane_holds (record { lhs = lhs; terms = terms; guards = guards; kernel = kernel }) scope slots v n (valid_values t walk v n (leaf_node lhs terms guards kernel) scope.pairs slots) (valid_hold walk v (leaf_node lhs terms guards kernel) scope.pairs slots (range_with_len 0 n))

  reset_holds : (work : ℕ) (items : List Item) → AllByRecursion (ItemHolds t) items → AllByRecursion (ItemHolds t) (with_reset work items)
  reset_holds work [] h = tt
  reset_holds work (item ∷ items) h = (tt, h)

  -- the guards hold at each visit of a tree
  pub visits_hold : (tree : Tree) (scope : Scope) (slots path : List ℕ) → AllByRecursion (ItemHolds t) (tree_visits t tree scope slots path)
  visits_hold (Loop v n walk body) scope slots path =
      go (is_kernel_leaf body) (lanes_hold walk v n body scope slots)
      (all_flat_map (ItemHolds t) (λ i. if t.takes walk v scope.pairs (slice_set slots v i) then tree_visits t body (entered scope v) (slice_set slots v i) (drop 1 path) else []) (values_on path n)
      (λ i. taken (t.takes walk v scope.pairs (slice_set slots v i)) (tree_visits t body (entered scope v) (slice_set slots v i) (drop 1 path)) (visits_hold body (entered scope v) (slice_set slots v i) (drop 1 path))))
    where
      taken : (b : Bool) (l : List Item) → AllByRecursion (ItemHolds t) l → AllByRecursion (ItemHolds t) (if b then l else [])
      taken true l h = h
      taken false l h = tt

      go : (b : Bool) → AllByRecursion (ItemHolds t) (substituted_visits t walk v n body scope slots)
          → AllByRecursion (ItemHolds t) (flat_map (λ i. if t.takes walk v scope.pairs (slice_set slots v i) then tree_visits t body (entered scope v) (slice_set slots v i) (drop 1 path) else []) (values_on path n))
          → AllByRecursion (ItemHolds t) (if b then substituted_visits t walk v n body scope slots
          else flat_map (λ i. if t.takes walk v scope.pairs (slice_set slots v i) then tree_visits t body (entered scope v) (slice_set slots v i) (drop 1 path) else []) (values_on path n))
      go true a b = a
      go false a b = b
  visits_hold (Pre work more p q) scope slots path =
      reset_holds work (tree_visits t p (in_producer scope more) slots [] ++ tree_visits t q scope slots [])
      (all_append (ItemHolds t) (tree_visits t p (in_producer scope more) slots []) (tree_visits t q scope slots []) (visits_hold p (in_producer scope more) slots []) (visits_hold q scope slots []))
  visits_hold (Leaf lhs terms guards kernel) scope slots path = go (t.holds (leaf_node lhs terms guards kernel) scope.pairs slots) refl
    where
      go : (b : Bool) → t.holds (leaf_node lhs terms guards kernel) scope.pairs slots ≡ b
          → AllByRecursion (ItemHolds t) (if b then IsVisit (record { leaf = record { lhs = lhs; terms = terms; guards = guards; kernel = kernel }; around = scope.around; pairs = scope.pairs; slots = slots; lanes = None }) ∷ [] else [])
      go true e = (e, tt)
      go false e = tt

  append_none : (l : List Pair) → l ≡ l ++ []
  append_none [] = refl
  append_none (x ∷ l) = ap (λ (m : List Pair). x ∷ m) (append_none l)

  lane_item : (body : Tree) (scope : Scope) (slots : List ℕ) (leaf : ℕ) (lanes : Option Lanes) → is_kernel_leaf body ≡ true
      → leaf_item t body scope slots lanes ≡ IsVisit (record { leaf = node_at body leaf; around = scope.around; pairs = scope.pairs ++ pairs_at body leaf; slots = slots; lanes = lanes })
  lane_item (Loop u m more inner) scope slots leaf lanes e = absurd (cc)
  lane_item (Pre work more p q) scope slots leaf lanes e = absurd (cc)
  lane_item (Leaf lhs terms guards kernel) scope slots leaf lanes e =
      ap (λ (l : List Pair). IsVisit (record { leaf = record { lhs = lhs; terms = terms; guards = guards; kernel = kernel }; around = scope.around; pairs = l; slots = slots; lanes = lanes })) (append_none scope.pairs)

  -- the item where a run stands is the visit of its leaf
  pub item-visit : (tree : Tree) (scope : Scope) (slots : List ℕ) (leaf : ℕ) → item_at t tree scope slots leaf ≡ IsVisit (visit_at t tree scope slots leaf)
  item-visit (Loop v n walk body) scope slots leaf =
      go (is_kernel_leaf body) (lane_item body scope slots leaf (Some (record { var = v; extent = n; valid = valid_values t walk v n (node_of body) scope.pairs slots }))) (item-visit body (entered scope v) slots leaf)
    where
      go : (b : Bool) → (b ≡ true → leaf_item t body scope slots (Some (record { var = v; extent = n; valid = valid_values t walk v n (node_of body) scope.pairs slots }))
          ≡ IsVisit (record { leaf = node_at body leaf; around = scope.around; pairs = scope.pairs ++ pairs_at body leaf; slots = slots; lanes = Some (record { var = v; extent = n; valid = valid_values t walk v n (node_of body) scope.pairs slots }) }))
          → item_at t body (entered scope v) slots leaf ≡ IsVisit (visit_at t body (entered scope v) slots leaf)
          → (if b then leaf_item t body scope slots (Some (record { var = v; extent = n; valid = valid_values t walk v n (node_of body) scope.pairs slots })) else item_at t body (entered scope v) slots leaf)
          ≡ IsVisit (record {
            leaf = node_at body leaf;
            around = if b then scope.around else loops_at body (v ∷ scope.around) leaf;
            pairs = scope.pairs ++ pairs_at body leaf;
            slots = slots;
            lanes = if b then Some (record { var = v; extent = n; valid = valid_values t walk v n (node_of body) scope.pairs slots }) else lanes_at t body scope.pairs slots leaf;
          })
      go true a r = a refl
      go false a r = r
  item-visit (Pre work more p q) scope slots leaf =
      go (nat_lt leaf (leaf_count p)) (item-visit p (in_producer scope more) slots leaf) (item-visit q scope slots (leaf - leaf_count p))
    where
      go : (b : Bool) → item_at t p (in_producer scope more) slots leaf ≡ IsVisit (visit_at t p (in_producer scope more) slots leaf)
          → item_at t q scope slots (leaf - leaf_count p) ≡ IsVisit (visit_at t q scope slots (leaf - leaf_count p))
          → (if b then item_at t p (in_producer scope more) slots leaf else item_at t q scope slots (leaf - leaf_count p))
          ≡ IsVisit (record {
            leaf = if b then node_at p leaf else node_at q (leaf - leaf_count p);
            around = if b then loops_at p scope.around leaf else loops_at q scope.around (leaf - leaf_count p);
            pairs = scope.pairs ++ (if b then more ++ pairs_at p leaf else pairs_at q (leaf - leaf_count p));
            slots = slots;
            lanes = if b then lanes_at t p (scope.pairs ++ more) slots leaf else lanes_at t q scope.pairs slots (leaf - leaf_count p);
          })
      go true a r =
          a ∙ ap (λ (l : List Pair). IsVisit (record { leaf = node_at p leaf; around = loops_at p scope.around leaf; pairs = l; slots = slots; lanes = lanes_at t p (scope.pairs ++ more) slots leaf })) (append_assoc scope.pairs more (pairs_at p leaf))
      go false a r = r
  item-visit (Leaf lhs terms guards kernel) scope slots leaf =
      ap (λ (l : List Pair). IsVisit (record { leaf = record { lhs = lhs; terms = terms; guards = guards; kernel = kernel }; around = scope.around; pairs = l; slots = slots; lanes = None })) (append_none scope.pairs)
