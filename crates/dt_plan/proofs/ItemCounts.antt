-- A nest has at most twice as many visits and resets as its loops allow visits.
use Rattle.std.proofs.Common.{◌≡◌, ℕ, ◌+◌, ◌*◌, ◌<◌, ◌≤◌, Bool, true, false, List, [], ◌∷◌, ◌++◌, length, length-append, None, arith}
use Rattle.std.specs.Prelude.{◌-◌, drop, max, slice_set, if◌then◌else◌}
use Rattle.std.specs.List.{flat_map}
use Rattle.std.proofs.lemmas.Nat.{mul-le}
use Rattle.std.proofs.lemmas.List.FromFn.{length-range_with_len}
use Rattle.dt_model.specs.Positions.{StoredTensor}
use Rattle.dt_nest.specs.Tree.{Tree, Loop, Pre, Leaf, is_kernel_leaf}
use Rattle.dt_nest.specs.Schedule.{Schedule}
use Rattle.dt_nest.specs.World.{world_of}
use Rattle.dt_nest.specs.Visits.{LeafNode, Scope, Item, IsVisit, Tests, with_reset, values_on, lane_visit, valid_values, substituted_visits, tree_visits, tests_of, at_root, no_slots, entered, in_producer, visits_of}
use Rattle.dt_plan.specs.Limits.{visits_bound, visit_limit}
use Rattle.dt_plan.proofs.OutlineFacts.{visits_some}

-- lists of at most k elements for each of some things
flat_few : {X Y : Type 0} (f : X → List Y) (k : ℕ) → ((x : X) → length (f x) ≤ k) → (xs : List X) → length (flat_map f xs) ≤ length xs * k
flat_few f k h [] = omega arith
flat_few f k h (x ∷ xs) =
    let a = h x in
    let r = flat_few f k h xs in
    let e = length-append (f x) (flat_map f xs) in
    omega (arith, a, r, e)

-- a loop goes through one value on a path
values_few : (path : List ℕ) (n : ℕ) → length (values_on path n) ≤ max 1 n
values_few [] n = let e = length-range_with_len 0 n in omega (arith, e)
values_few (x ∷ path) n = omega arith

-- a substituted loop has at most one visit
lane_few : (leaf : LeafNode) (scope : Scope) (slots : List ℕ) (v n : ℕ) (valid : List ℕ) → length (lane_visit leaf scope slots v n valid) ≤ 1
lane_few leaf scope slots v n [] = omega arith
lane_few leaf scope slots v n (x ∷ valid) = omega arith

reset_few : (work : ℕ) (items : List Item) → length (with_reset work items) ≤ length items + 1
reset_few work [] = omega arith
reset_few work (i ∷ items) = omega arith

-- a factor
scaled : (m c k b n : ℕ) → n ≤ c * k → c ≤ m → 1 ≤ m → k + 1 ≡ 2 * b → n + 1 ≤ 2 * (m * b)
scaled m c k b n l d o e =
    let p = mul-le c k m k d (omega arith) in
    let q = mul-le m (k + 1) m (2 * b) (omega arith) (omega (arith, e)) in
    omega (arith, l, p, q, o)

either : {X : Type 0} (b : Bool) (xs : List X) (k : ℕ) → length xs ≤ k → length (if b then xs else []) ≤ k
either true xs k l = l
either false xs k l = omega arith

one : (b : Bool) (i : Item) → length (if b then i ∷ [] else []) + 1 ≤ 2
one true i = omega arith
one false i = omega arith

few_items : (t : Tests) (tree : Tree) (scope : Scope) (slots path : List ℕ) → length (tree_visits t tree scope slots path) + 1 ≤ 2 * visits_bound tree
few_items t (Loop v n walk body) scope slots path = go (is_kernel_leaf body) body (λ p c q. few_items t body p c q)
  where
    some : 1 ≤ visits_bound body
    some = visits_some body

    all : 1 ≤ visits_bound (Loop v n walk body)
    all = visits_some (Loop v n walk body)

    lane : (b : Tree) → length (substituted_visits t walk v n b scope slots) ≤ 1
    lane (Loop u m inner c) = omega arith
    lane (Pre work more p q) = omega arith
    lane (Leaf lhs terms guards kernel) = lane_few (record { lhs = lhs; terms = terms; guards = guards; kernel = kernel }) scope slots v n (valid_values t walk v n (record { lhs = lhs; terms = terms; guards = guards; kernel = kernel }) scope.pairs slots)

    go : (b : Bool) (u : Tree) → ((p : Scope) (c q : List ℕ) → length (tree_visits t body p c q) + 1 ≤ 2 * visits_bound body)
        → length (if b then substituted_visits t walk v n u scope slots
        else flat_map (λ i. if t.takes walk v scope.pairs (slice_set slots v i) then tree_visits t body (entered scope v) (slice_set slots v i) (drop 1 path) else []) (values_on path n)) + 1 ≤ 2 * (max 1 n * visits_bound body)
    go true u h = let l = lane u in let a = all in omega (arith, l, a)
    go false u h =
        let s = some in
        let each = λ (i : ℕ). either (t.takes walk v scope.pairs (slice_set slots v i)) (tree_visits t body (entered scope v) (slice_set slots v i) (drop 1 path)) (2 * visits_bound body - 1) (let r = h (entered scope v) (slice_set slots v i) (drop 1 path) in omega (arith, r)) in
        let l = flat_few (λ i. if t.takes walk v scope.pairs (slice_set slots v i) then tree_visits t body (entered scope v) (slice_set slots v i) (drop 1 path) else []) (2 * visits_bound body - 1) each (values_on path n) in
        scaled (max 1 n) (length (values_on path n)) (2 * visits_bound body - 1) (visits_bound body) _ l (values_few path n) (omega arith) (omega (arith, s))
few_items t (Pre work more producer consumer) scope slots path =
    let a = few_items t producer (in_producer scope more) slots [] in
    let b = few_items t consumer scope slots [] in
    let r = reset_few work (tree_visits t producer (in_producer scope more) slots [] ++ tree_visits t consumer scope slots []) in
    let e = length-append (tree_visits t producer (in_producer scope more) slots []) (tree_visits t consumer scope slots []) in
    omega (arith, a, b, r, e)
few_items t (Leaf lhs terms guards kernel) scope slots path =
    one (t.holds (record { lhs = lhs; terms = terms; guards = guards; kernel = kernel }) scope.pairs slots) (IsVisit (record { leaf = record { lhs = lhs; terms = terms; guards = guards; kernel = kernel }; around = scope.around; pairs = scope.pairs; slots = slots; lanes = None }))

-- so they can be counted
pub few_visits : (stored : List StoredTensor) (s : Schedule) (path : List ℕ) → visits_bound s.nest ≤ visit_limit → length (visits_of stored s path) < 4294967296
unfolding visits_of
few_visits stored s path l =
    let f = few_items (tests_of (world_of stored s) s.derived) s.nest at_root (no_slots s) path in
    omega (arith, f, l)
