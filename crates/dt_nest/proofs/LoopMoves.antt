-- What the search does at a loop, and at a leaf.
use Rattle.std.proofs.Common.{◌≡◌, ℕ, ◌+◌, ◌-◌, ◌<◌, Bool, true, false, ◌||◌, List, [], ◌∷◌, ◌++◌, length, map, drop, filter, Option, Some, None, refl, sym, ap, ◌∙◌, subst, arith}
use Rattle.std.specs.Prelude.{if◌then◌else◌, MatchBool, slice_index, slice_set}
use Rattle.std.specs.List.{flat_map, list_any, range_with_len}
use Rattle.std.proofs.Math.ListN.{set}
use Rattle.std.proofs.lemmas.List.{set-get_or}
use Rattle.dt_nest.specs.declared.loops.Walk.{Walk}
use Rattle.dt_nest.specs.declared.loops.Pair.{Pair}
use Rattle.dt_nest.specs.declared.search.Stand.{Stand}
use Rattle.dt_nest.specs.Tree.{Tree, Loop, Pre, Leaf, is_kernel_leaf}
use Rattle.dt_nest.specs.Visits.{Scope, scoped, entered, Item, IsReset, IsVisit, Tests, LeafNode, lane_visit, is_valid, valid_values, values_on, tree_visits, leaf_node}
use Rattle.dt_nest.specs.Search.{cleared, AreZero, Lacks, HaveSlots, works_at, leaf_item, node_of, item_at, step_of, end_on, after, IsAt, Reaches, Finds, FindsFrom, Steps}
use Rattle.dt_nest.proofs.Slots.{cleared_other, zero_cleared}
use Rattle.dt_nest.proofs.Moves.{step_base, parts, reached, later_values}

-- a leaf
abbrev pub IsLeafTree : Tree → Type 0
IsLeafTree (Loop v n walk body) = ⊥
IsLeafTree (Pre work more p q) = ⊥
IsLeafTree (Leaf lhs terms guards kernel) = Unit {0}

-- the items after a visit in a loop's body, by the other slots and the loop's value
abbrev pub later : Tests → Option Walk → ℕ → ℕ → Tree → Scope → List ℕ → List ℕ → ℕ → List Item
later t walk v n body scope path base x = flat_map (step_of t walk v body scope base (drop 1 path)) (range_with_len (x + 1) (end_on path n x - (x + 1)))

-- the items after a visit below a loop that is not substituted, and the item there
pub after_loop : (t : Tests) (walk : Option Walk) (v n : ℕ) (body : Tree) (scope : Scope) (path slots : List ℕ) (leaf : ℕ) → is_kernel_leaf body ≡ false
    → after t (Loop v n walk body) scope slots path leaf ≡ after t body (entered scope v) slots (drop 1 path) leaf ++ later t walk v n body scope path (cleared body slots) (slice_index slots v)
after_loop t walk v n body scope path slots leaf plain =
    ap (λ (b : Bool). if b then [] else after t body (entered scope v) slots (drop 1 path) leaf ++ later t walk v n body scope path (cleared body slots) (slice_index slots v)) plain

pub item_loop : (t : Tests) (walk : Option Walk) (v n : ℕ) (body : Tree) (scope : Scope) (slots : List ℕ) (leaf : ℕ) → is_kernel_leaf body ≡ false → item_at t (Loop v n walk body) scope slots leaf ≡ item_at t body (entered scope v) slots leaf
item_loop t walk v n body scope slots leaf plain =
    ap (λ (b : Bool). if b then leaf_item t body scope slots (Some (record { var = v; extent = n; valid = valid_values t walk v n (node_of body) scope.pairs slots })) else item_at t body (entered scope v) slots leaf) plain

-- below a loop that is not substituted, the loop's slot has its value
pub stood_loop : (walk : Option Walk) (v n : ℕ) (body : Tree) (slots : List ℕ) (leaf : ℕ) → is_kernel_leaf body ≡ false → IsAt (Loop v n walk body) slots leaf → (slice_index slots v < n) × IsAt body slots leaf
stood_loop walk v n body slots leaf plain a = (subst (λ (b : Bool). MatchBool b (slice_index slots v ≡ 0) (slice_index slots v < n)) plain a.0, a.1)

-- the body has a next visit
pub loop_steps : (t : Tests) (walk : Option Walk) (v n : ℕ) (body : Tree) (pairs : List Pair) (path old new : List ℕ) (leaf0 : ℕ) (at : Stand) → is_kernel_leaf body ≡ false → Lacks v body → IsAt (Loop v n walk body) old leaf0
    → Steps t body pairs (drop 1 path) leaf0 old new (Some at) → Steps t (Loop v n walk body) pairs path leaf0 old new (Some at)
loop_steps t walk v n body pairs path old new leaf0 at plain lacks a f =
    let slot : slice_index new v ≡ slice_index old v = sym (cleared_other body v new lacks) ∙ ap (λ (l : List ℕ). slice_index l v) f.goes.1 ∙ cleared_other body v old lacks in
    let stood = stood_loop walk v n body old leaf0 plain a in
    record {
      goes = (
        λ around. record {
          items = parts (after t (Loop v n walk body) (scoped pairs around) old path leaf0) (drop at.past (works_at body at.leaf)) (drop at.past (works_at body at.leaf))
              (item_at t body (scoped pairs (v ∷ around)) new at.leaf) (item_at t (Loop v n walk body) (scoped pairs around) new at.leaf)
              (after t body (scoped pairs (v ∷ around)) new (drop 1 path) at.leaf ++ later t walk v n body (scoped pairs around) path (cleared body new) (slice_index new v)) (after t (Loop v n walk body) (scoped pairs around) new path at.leaf)
              (after_loop t walk v n body (scoped pairs around) path old leaf0 plain
              ∙ ap (λ (l : List Item). l ++ later t walk v n body (scoped pairs around) path (cleared body old) (slice_index old v)) (f.goes.0 (v ∷ around)).items
              ∙ more (map IsReset (drop at.past (works_at body at.leaf))) (item_at t body (scoped pairs (v ∷ around)) new at.leaf) (after t body (scoped pairs (v ∷ around)) new (drop 1 path) at.leaf) (later t walk v n body (scoped pairs around) path (cleared body old) (slice_index old v))
              ∙ ap (λ (l : List ℕ). map IsReset (drop at.past (works_at body at.leaf)) ++ item_at t body (scoped pairs (v ∷ around)) new at.leaf ∷ (after t body (scoped pairs (v ∷ around)) new (drop 1 path) at.leaf ++ later t walk v n body (scoped pairs around) path l (slice_index old v))) (sym f.goes.1)
              ∙ ap (λ (x : ℕ). map IsReset (drop at.past (works_at body at.leaf)) ++ item_at t body (scoped pairs (v ∷ around)) new at.leaf ∷ (after t body (scoped pairs (v ∷ around)) new (drop 1 path) at.leaf ++ later t walk v n body (scoped pairs around) path (cleared body new) x)) (sym slot))
              refl (item_loop t walk v n body (scoped pairs around) new at.leaf plain) (after_loop t walk v n body (scoped pairs around) path new at.leaf plain);
          stands = (subst (λ (b : Bool). MatchBool b (slice_index new v ≡ 0) (slice_index new v < n)) (sym plain) (omega (arith, slot, stood.0)), (f.goes.0 (v ∷ around)).stands);
          exists = (f.goes.0 (v ∷ around)).exists;
          resets = (f.goes.0 (v ∷ around)).resets;
        },
        ap (λ (l : List ℕ). set l v 0) f.goes.1,
      );
    }
  where
    more : (rs : List Item) (i : Item) (r u : List Item) → (rs ++ i ∷ r) ++ u ≡ rs ++ i ∷ (r ++ u)
    more [] i r u = refl
    more (x ∷ rs) i r u = ap (λ (l : List Item). x ∷ l) (more rs i r u)

-- the rest of a loop's values, where its body has no next visit
over_list : (t : Tests) (walk : Option Walk) (v n : ℕ) (body : Tree) (pairs : List Pair) (path old mid : List ℕ) (leaf0 : ℕ) (around : List ℕ) → is_kernel_leaf body ≡ false → Steps t body pairs (drop 1 path) leaf0 old mid None
    → after t (Loop v n walk body) (scoped pairs around) old path leaf0 ≡ flat_map (step_of t walk v body (scoped pairs around) (slice_set mid v 0) (drop 1 path)) (range_with_len (slice_index old v + 1) (end_on path n (slice_index old v) - (slice_index old v + 1)))
over_list t walk v n body pairs path old mid leaf0 around plain f =
    after_loop t walk v n body (scoped pairs around) path old leaf0 plain
    ∙ ap (λ (l : List Item). l ++ later t walk v n body (scoped pairs around) path (cleared body old) (slice_index old v)) (f.goes.0 (v ∷ around))
    ∙ ap (λ (l : List ℕ). later t walk v n body (scoped pairs around) path l (slice_index old v)) (sym f.goes.1)
    ∙ ap (λ (g : ℕ → List Item). flat_map g (range_with_len (slice_index old v + 1) (end_on path n (slice_index old v) - (slice_index old v + 1)))) (sym (step_base t walk v body (scoped pairs around) (drop 1 path) mid 0))

-- the loop goes on with a later value
pub loop_over : (t : Tests) (walk : Option Walk) (v n : ℕ) (body : Tree) (pairs : List Pair) (path old mid new : List ℕ) (leaf0 leaf to : ℕ) (at : Stand) → is_kernel_leaf body ≡ false → IsAt (Loop v n walk body) old leaf0
    → Steps t body pairs (drop 1 path) leaf0 old mid None → to ≡ end_on path n (slice_index old v) → at.leaf ≡ leaf → at.past ≡ 0
    → FindsFrom t walk v body pairs (drop 1 path) (slice_index old v + 1) to (slice_set mid v 0) new (Some leaf) → Steps t (Loop v n walk body) pairs path leaf0 old new (Some at)
loop_over t walk v n body pairs path old mid new leaf0 leaf to at plain a f stop same none g =
    let stood = stood_loop walk v n body old leaf0 plain a in
    let values = later_values path n (slice_index old v) stood.0 in
    let r : (around : List ℕ) → Reaches t (Loop v n walk body) (scoped pairs around) path (after t (Loop v n walk body) (scoped pairs around) old path leaf0) new leaf 0 =
    λ around. reached t walk v n body (scoped pairs around) path (slice_index old v + 1) to (slice_set mid v 0) new leaf (after t (Loop v n walk body) (scoped pairs around) old path leaf0) plain
    (over_list t walk v n body pairs path old mid leaf0 around plain f ∙ ap (λ (k : ℕ). flat_map (step_of t walk v body (scoped pairs around) (slice_set mid v 0) (drop 1 path)) (range_with_len (slice_index old v + 1) (k - (slice_index old v + 1)))) (sym stop))
    (λ x b c. values.0 x b (subst (λ (k : ℕ). x < k) stop c) ∙ sym stop) (omega (arith, stop, values.1)) (g.goes around) in
    record {
      goes = (
        λ around. subst (λ (k : ℕ). Reaches t (Loop v n walk body) (scoped pairs around) path (after t (Loop v n walk body) (scoped pairs around) old path leaf0) new k at.past) (sym same)
            (subst (λ (k : ℕ). Reaches t (Loop v n walk body) (scoped pairs around) path (after t (Loop v n walk body) (scoped pairs around) old path leaf0) new leaf k) (sym none) (r around)),
        (g.goes []).back ∙ ap (λ (l : List ℕ). set l v 0) f.goes.1,
      );
    }

-- the loop has no later visit
pub loop_ends : (t : Tests) (walk : Option Walk) (v n : ℕ) (body : Tree) (pairs : List Pair) (path old mid new : List ℕ) (leaf0 to : ℕ) → is_kernel_leaf body ≡ false
    → Steps t body pairs (drop 1 path) leaf0 old mid None → to ≡ end_on path n (slice_index old v)
    → FindsFrom t walk v body pairs (drop 1 path) (slice_index old v + 1) to (slice_set mid v 0) new None → Steps t (Loop v n walk body) pairs path leaf0 old new None
loop_ends t walk v n body pairs path old mid new leaf0 to plain f stop g = record {
  goes = (
    λ around. over_list t walk v n body pairs path old mid leaf0 around plain f
        ∙ ap (λ (k : ℕ). flat_map (step_of t walk v body (scoped pairs around) (slice_set mid v 0) (drop 1 path)) (range_with_len (slice_index old v + 1) (k - (slice_index old v + 1)))) (sym stop)
        ∙ (g.goes.0 around),
    g.goes.1 ∙ ap (λ (l : List ℕ). set l v 0) f.goes.1,
  );
}

-- the slots at which a loop's next value is tried
pub over_slots : (walk : Option Walk) (v n : ℕ) (body : Tree) (t : Tests) (pairs : List Pair) (path old mid : List ℕ) (leaf0 : ℕ) → HaveSlots (Loop v n walk body) (length old) → Steps t body pairs path leaf0 old mid None → AreZero (Loop v n walk body) (slice_set mid v 0)
over_slots walk v n body t pairs path old mid leaf0 r f =
    subst (λ (l : List ℕ). AreZero (Loop v n walk body) (slice_set l v 0)) (sym f.goes.1) (zero_cleared (Loop v n walk body) old r)

-- Substituted loops

none_passes : (p : ℕ → Bool) (xs : List ℕ) → list_any p xs ≡ false → filter p xs ≡ []
none_passes p [] h = refl
none_passes p (x ∷ xs) h = go (p x) (λ r. none_passes p xs r) h
  where
    go : (b : Bool) → (list_any p xs ≡ false → filter p xs ≡ []) → (b || list_any p xs) ≡ false → (if b then x ∷ filter p xs else filter p xs) ≡ []
    go true r h = absurd (cc)
    go false r h = r h

one_passes : (p : ℕ → Bool) (xs : List ℕ) → list_any p xs ≡ true → (y : ℕ) × (ys : List ℕ) × (filter p xs ≡ y ∷ ys)
one_passes p [] h = absurd (cc)
one_passes p (x ∷ xs) h = go (p x) (λ r. one_passes p xs r) h
  where
    go : (b : Bool) → (list_any p xs ≡ true → (y : ℕ) × (ys : List ℕ) × (filter p xs ≡ y ∷ ys)) → (b || list_any p xs) ≡ true → (y : ℕ) × (ys : List ℕ) × ((if b then x ∷ filter p xs else filter p xs) ≡ y ∷ ys)
    go true r h = (x, filter p xs, refl)
    go false r h = r h

lanes_are : (leaf : LeafNode) (scope : Scope) (slots : List ℕ) (v n y : ℕ) (valid ys : List ℕ) → valid ≡ y ∷ ys → lane_visit leaf scope slots v n valid ≡ IsVisit (record { leaf = leaf; around = scope.around; pairs = scope.pairs; slots = slots; lanes = Some (record { var = v; extent = n; valid = valid }) }) ∷ []
lanes_are leaf scope slots v n y valid ys e = subst (λ (l : List ℕ). lane_visit leaf scope slots v n l ≡ IsVisit (record { leaf = leaf; around = scope.around; pairs = scope.pairs; slots = slots; lanes = Some (record { var = v; extent = n; valid = l }) }) ∷ []) (sym e) refl

-- a substituted loop with a valid value has one visit
pub lanes_found : (t : Tests) (walk : Option Walk) (v n : ℕ) (body : Tree) (pairs : List Pair) (path slots : List ℕ) → is_kernel_leaf body ≡ true → list_any (is_valid t walk v (node_of body) pairs slots) (range_with_len 0 n) ≡ true → slice_index slots v ≡ 0
    → Finds t (Loop v n walk body) pairs path slots slots (Some 0)
lanes_found t walk v n (Loop u m more inner) pairs path slots k h z = absurd (cc)
lanes_found t walk v n (Pre work more p q) pairs path slots k h z = absurd (cc)
lanes_found t walk v n (Leaf lhs terms guards kernel) pairs path slots k h z =
    let one = one_passes (is_valid t walk v (leaf_node lhs terms guards kernel) pairs slots) (range_with_len 0 n) h in
    let leaf : LeafNode = record { lhs = lhs; terms = terms; guards = guards; kernel = kernel } in
    let item : List ℕ → Item = λ around. IsVisit (record { leaf = leaf; around = around; pairs = pairs; slots = slots; lanes = Some (record { var = v; extent = n; valid = valid_values t walk v n (leaf_node lhs terms guards kernel) pairs slots }) }) in
    record {
      goes = (
        λ around. record {
          items = parts (tree_visits t (Loop v n walk (Leaf lhs terms guards kernel)) (scoped pairs around) slots path) [] [] (item around) (item_at t (Loop v n walk (Leaf lhs terms guards kernel)) (scoped pairs around) slots 0) [] (after t (Loop v n walk (Leaf lhs terms guards kernel)) (scoped pairs around) slots path 0)
              (ap (λ (b : Bool). if b then lane_visit leaf (scoped pairs around) slots v n (valid_values t walk v n (leaf_node lhs terms guards kernel) pairs slots) else flat_map (λ i. if t.takes walk v pairs (slice_set slots v i) then tree_visits t (Leaf lhs terms guards kernel) (scoped pairs (v ∷ around)) (slice_set slots v i) (drop 1 path) else []) (values_on path n)) k
              ∙ lanes_are leaf (scoped pairs around) slots v n one.0 (valid_values t walk v n (leaf_node lhs terms guards kernel) pairs slots) one.1 one.2)
              refl
              (ap (λ (b : Bool). if b then item around else item_at t (Leaf lhs terms guards kernel) (scoped pairs (v ∷ around)) slots 0) k)
              (ap (λ (b : Bool). if b then [] else after t (Leaf lhs terms guards kernel) (scoped pairs (v ∷ around)) slots (drop 1 path) 0 ++ later t walk v n (Leaf lhs terms guards kernel) (scoped pairs around) path slots (slice_index slots v)) k);
          stands = (subst (λ (b : Bool). MatchBool b (slice_index slots v ≡ 0) (slice_index slots v < n)) (sym k) z, refl);
          exists = omega arith;
          resets = omega arith;
        },
        ap (λ (x : ℕ). set slots v x) (sym z) ∙ set-get_or slots v 0,
      );
    }

-- one without has none
pub lanes_none : (t : Tests) (walk : Option Walk) (v n : ℕ) (body : Tree) (pairs : List Pair) (path slots : List ℕ) → is_kernel_leaf body ≡ true → list_any (is_valid t walk v (node_of body) pairs slots) (range_with_len 0 n) ≡ false
    → Finds t (Loop v n walk body) pairs path slots slots None
lanes_none t walk v n (Loop u m more inner) pairs path slots k h = absurd (cc)
lanes_none t walk v n (Pre work more p q) pairs path slots k h = absurd (cc)
lanes_none t walk v n (Leaf lhs terms guards kernel) pairs path slots k h =
    let leaf : LeafNode = record { lhs = lhs; terms = terms; guards = guards; kernel = kernel } in
    record {
      goes = (
        λ around. ap (λ (b : Bool). if b then lane_visit leaf (scoped pairs around) slots v n (valid_values t walk v n (leaf_node lhs terms guards kernel) pairs slots) else flat_map (λ i. if t.takes walk v pairs (slice_set slots v i) then tree_visits t (Leaf lhs terms guards kernel) (scoped pairs (v ∷ around)) (slice_set slots v i) (drop 1 path) else []) (values_on path n)) k
            ∙ ap (lane_visit leaf (scoped pairs around) slots v n) (none_passes (is_valid t walk v (leaf_node lhs terms guards kernel) pairs slots) (range_with_len 0 n) h),
        refl,
      );
    }

-- behind the one visit of a substituted loop there is none
pub lanes_over : (t : Tests) (walk : Option Walk) (v n : ℕ) (body : Tree) (pairs : List Pair) (path slots : List ℕ) (leaf0 : ℕ) → is_kernel_leaf body ≡ true → IsAt (Loop v n walk body) slots leaf0 → Steps t (Loop v n walk body) pairs path leaf0 slots slots None
lanes_over t walk v n (Loop u m more inner) pairs path slots leaf0 k a = absurd (cc)
lanes_over t walk v n (Pre work more p q) pairs path slots leaf0 k a = absurd (cc)
lanes_over t walk v n (Leaf lhs terms guards kernel) pairs path slots leaf0 k a =
    let z : slice_index slots v ≡ 0 = subst (λ (b : Bool). MatchBool b (slice_index slots v ≡ 0) (slice_index slots v < n)) k a.0 in
    record {
      goes = (
        λ around. ap (λ (b : Bool). if b then [] else after t (Leaf lhs terms guards kernel) (scoped pairs (v ∷ around)) slots (drop 1 path) leaf0 ++ later t walk v n (Leaf lhs terms guards kernel) (scoped pairs around) path slots (slice_index slots v)) k,
        sym (ap (λ (x : ℕ). set slots v x) (sym z) ∙ set-get_or slots v 0),
      );
    }

-- Leaves

pub leaf_found : (t : Tests) (tree : Tree) (pairs : List Pair) (path slots : List ℕ) → IsLeafTree tree → t.holds (node_of tree) pairs slots ≡ true → Finds t tree pairs path slots slots (Some 0)
leaf_found t (Loop u m more inner) pairs path slots l h = absurd l
leaf_found t (Pre work more p q) pairs path slots l h = absurd l
leaf_found t (Leaf lhs terms guards kernel) pairs path slots l h = record {
  goes = (
    λ around. record {
      items = ap (λ (b : Bool). if b then item_at t (Leaf lhs terms guards kernel) (scoped pairs around) slots 0 ∷ [] else []) h;
      stands = refl;
      exists = omega arith;
      resets = omega arith;
    },
    refl,
  );
}

pub leaf_none : (t : Tests) (tree : Tree) (pairs : List Pair) (path slots : List ℕ) → IsLeafTree tree → t.holds (node_of tree) pairs slots ≡ false → Finds t tree pairs path slots slots None
leaf_none t (Loop u m more inner) pairs path slots l h = absurd l
leaf_none t (Pre work more p q) pairs path slots l h = absurd l
leaf_none t (Leaf lhs terms guards kernel) pairs path slots l h =
    record { goes = (λ around. ap (λ (b : Bool). if b then item_at t (Leaf lhs terms guards kernel) (scoped pairs around) slots 0 ∷ [] else []) h, refl) }

pub leaf_over : (t : Tests) (tree : Tree) (pairs : List Pair) (path slots : List ℕ) (leaf0 : ℕ) → IsLeafTree tree → Steps t tree pairs path leaf0 slots slots None
leaf_over t (Loop u m more inner) pairs path slots leaf0 l = absurd l
leaf_over t (Pre work more p q) pairs path slots leaf0 l = absurd l
leaf_over t (Leaf lhs terms guards kernel) pairs path slots leaf0 l = record { goes = (λ around. refl, refl) }
