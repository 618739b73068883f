-- The outlines of a layout meet what is asked of them.
use Rattle.std.proofs.Common.{◌≡◌, ◌⊎◌, inl, inr, ℕ, zero, suc, ◌+◌, ◌-◌, ◌<◌, ◌≤◌, Bool, true, false, List, [], ◌∷◌, ◌++◌, length, take, Option, None, Some, refl, sym, ap, subst, arith}
use Rattle.std.specs.Prelude.{max, if◌then◌else◌, nat_eq, nat_lt, unwrap_or}
use Rattle.std.specs.List.{AllByRecursion, zip}
use Rattle.std.proofs.lemmas.Bool.{lt-ltb, le-ltb, eqb-true}
use Rattle.std.proofs.lemmas.List.{take-append-le}
use Rattle.std.proofs.lemmas.Nat.{mul-le}
use Rattle.std.proofs.lemmas.List.Sums.{sum_by-cons}
use Rattle.dt_base.specs.Ranges.{below}
use Rattle.dt_base.specs.Rows.{product, row_major}
use Rattle.dt_base.proofs.Rows.{row_major-below}
use Rattle.dt_nest.proofs.Each.{all_map, all_both, all_filter, all_append, all_made, below_all}
use Rattle.dt_nest.specs.Tree.{Tree, Loop, Pre, Leaf}
use Rattle.dt_nest.specs.Schedule.{Schedule}
use Rattle.dt_nest.specs.Lawful.{IsLawful}
use Rattle.dt_nest.specs.Outputs.{output_of}
use Rattle.dt_nest.specs.Visits.{visits_of, needed_of}
use Rattle.dt_nest.specs.Questions.{accesses_tensor}
use Rattle.dt_nest.specs.Paths.{extent_inside, depth_of, tensors_in, task_depth, paths_of}
use Rattle.dt_nest.specs.PathSteps.{visited_values}
use Rattle.dt_nest.proofs.PathDepths.{fewer_loops}
use Rattle.dt_nest.proofs.PathFans.{paths_grow}
use Rattle.dt_copy.specs.declared.piece_list.Piece.{Piece}
use Rattle.dt_copy.specs.Sources.{home_at}
use Rattle.dt_place.specs.Machines.{MachineView, IsMachine, dims_of, nodes_of}
use Rattle.dt_place.proofs.MachineFacts.{machine_facts}
use Rattle.dt_plan.specs.declared.parts.Part.{Part}
use Rattle.dt_plan.specs.declared.ops.Op.{Op}
use Rattle.dt_plan.specs.Layouts.{Layout, homes_at, node_of}
use Rattle.dt_plan.specs.Brackets.{Outline}
use Rattle.dt_plan.specs.Operations.{works_in, root_works, node_works, moved_depth, zero_on, outline_of, outlines_of, key_of}
use Rattle.dt_plan.specs.Limits.{visits_bound, visit_count, visit_limit}
use Rattle.dt_plan.specs.ListingLaws.{IsLayout}
use Rattle.dt_plan.proofs.Stretches.{Rises, Stretch, no_stretch, one_stretch}
use Rattle.dt_plan.proofs.Outlines.{IsOutline}
use Rattle.dt_plan.proofs.BracketsAscend.{rises_filter, below_rises}
use Rattle.dt_plan.proofs.Meeting.{values_meet, rises_append, rises_map, node_at, pieces_rise, shares_rise}
use Rattle.dt_plan.proofs.Depths.{depth_least, depths_below, deepest_is, inner_loops}

-- Nodes -----------------------------------------------------------------------------------------------------------------

module _ (m : MachineView) (h : IsMachine m) (s : Schedule) where
  pub path_node_below : (p : List ℕ) → node_of m s p < nodes_of m
  path_node_below p = go (row_major (dims_of m) (take s.distributed p)) (row_major-below (dims_of m) (take s.distributed p))
    where
      go : (o : Option ℕ) → ((k : ℕ) → o ≡ Some k → k < product (dims_of m)) → unwrap_or o 0 < product (dims_of m)
      go (Some k) f = f k refl
      go None f = let l = (machine_facts m h).positive in omega (arith, l)

  path_node_stays : (p : List ℕ) (i : ℕ) → s.distributed ≤ length p → node_of m s (p ++ (i ∷ [])) ≡ node_of m s p
  path_node_stays p i l = ap (λ (c : List ℕ). unwrap_or (row_major (dims_of m) c) 0) (take-append-le s.distributed p (i ∷ []) l)

-- Tensors and workspaces ------------------------------------------------------------------------------------------------

works_rise : (s : Schedule) → Rises (λ w. w) (works_in s)
works_rise s = rises_map (λ w. w) (λ w. w) (λ w. length s.tensors + w) (λ x y l. omega (arith, l)) (below (length s.works)) (below_rises (length s.works))

pub works_after : (s : Schedule) → AllByRecursion (λ w. length s.tensors ≤ w) (works_in s)
works_after s = all_made (λ w. w < length s.works) (λ w. length s.tensors ≤ w) (λ w. length s.tensors + w) (λ w l. omega arith) (below (length s.works)) (below_all (length s.works))

pub tensors_before : (s : Schedule) → AllByRecursion (λ t. t < length s.tensors) (tensors_in s)
tensors_before s = all_filter (λ t. t < length s.tensors) (accesses_tensor s.nest) (below (length s.tensors)) (below_all (length s.tensors))

moved_rise : (s : Schedule) → Rises (λ t. t) (tensors_in s ++ root_works s)
moved_rise s =
    rises_append (λ t. t) (length s.tensors) (tensors_in s) (root_works s) (rises_filter (λ t. t) (accesses_tensor s.nest) (below (length s.tensors)) (below_rises (length s.tensors))) (tensors_before s)
    (rise (nat_eq s.distributed 0)) (after (nat_eq s.distributed 0))
  where
    rise : (b : Bool) → Rises (λ t. t) (if b then works_in s else [])
    rise true = works_rise s
    rise false = tt

    after : (b : Bool) → AllByRecursion (λ w. length s.tensors ≤ w) (if b then works_in s else [])
    after true = works_after s
    after false = tt

node_works_rise : (s : Schedule) → Rises (λ t. t) (node_works s)
node_works_rise s = rise (nat_eq s.distributed 0)
  where
    rise : (b : Bool) → Rises (λ t. t) (if b then [] else works_in s)
    rise true = tt
    rise false = works_rise s

node_works_inside : (s : Schedule) → (node_works s ≡ []) ⊎ (1 ≤ s.distributed)
node_works_inside s = go s.distributed
  where
    go : (k : ℕ) → ((if nat_eq k 0 then [] else works_in s) ≡ []) ⊎ (1 ≤ k)
    go zero = inl refl
    go (suc k) = inr (omega arith)

-- between the distributed loops and the task
abbrev IsDeep : Schedule → ℕ → Type 0
IsDeep s t = (s.distributed ≤ moved_depth s t) × (moved_depth s t ≤ s.distributed + (task_depth s - s.distributed))

all_deep : (s : Schedule) → IsLawful s → AllByRecursion (IsDeep s) (tensors_in s ++ root_works s)
all_deep s lawful =
    all_append (IsDeep s) (tensors_in s) (root_works s) (all_both (λ t. t < length s.tensors) (λ t. depth_of s t ≤ task_depth s) (IsDeep s) tensor (tensors_in s) (tensors_before s) (depths_below s))
    (works (nat_eq s.distributed 0) refl)
  where
    tensor : (t : ℕ) → t < length s.tensors → depth_of s t ≤ task_depth s → IsDeep s t
    tensor t l d =
        let least = depth_least s lawful t in
        subst (λ (b : Bool). (s.distributed ≤ (if b then depth_of s t else 0)) × ((if b then depth_of s t else 0) ≤ s.distributed + (task_depth s - s.distributed))) (sym (lt-ltb t (length s.tensors) l)) (least, omega (arith, least, d))

    work : s.distributed ≡ 0 → (t : ℕ) → length s.tensors ≤ t → IsDeep s t
    work z t l =
        subst (λ (b : Bool). (s.distributed ≤ (if b then depth_of s t else 0)) × ((if b then depth_of s t else 0) ≤ s.distributed + (task_depth s - s.distributed))) (sym (le-ltb t (length s.tensors) l)) (omega (arith, z), omega arith)

    works : (b : Bool) → nat_eq s.distributed 0 ≡ b → AllByRecursion (IsDeep s) (if b then works_in s else [])
    works true e = all_map (λ w. length s.tensors ≤ w) (IsDeep s) (work (eqb-true s.distributed 0 e)) (works_in s) (works_after s)
    works false e = tt

-- Values ----------------------------------------------------------------------------------------------------------------

-- each leaf counts
pub visits_some : (tree : Tree) → 1 ≤ visits_bound tree
visits_some (Loop v n walk body) = let l = mul-le 1 1 (max 1 n) (visits_bound body) (omega arith) (visits_some body) in omega (arith, l)
visits_some (Pre work more p q) = let l = visits_some p in omega (arith, l)
visits_some (Leaf lhs terms guards kernel) = omega arith

-- an extent counts in all visits
extent_counts : (k : ℕ) (tree : Tree) → extent_inside k tree ≤ visits_bound tree
extent_counts zero (Loop v n walk body) = let l = mul-le n 1 (max 1 n) (visits_bound body) (omega arith) (visits_some body) in omega (arith, l)
extent_counts zero (Pre work more p q) = omega arith
extent_counts zero (Leaf lhs terms guards kernel) = omega arith
extent_counts (suc k) (Loop v n walk body) =
    let r = extent_counts k body in
    let l = mul-le 1 (visits_bound body) (max 1 n) (visits_bound body) (omega arith) (omega arith) in
    omega (arith, l, r)
extent_counts (suc k) (Pre work more p q) = omega arith
extent_counts (suc k) (Leaf lhs terms guards kernel) = omega arith

-- the visits of each part are among those of all
pub visits_each : (parts : List Part) → AllByRecursion (λ (p : Part). visits_bound p.sched.nest ≤ visit_count parts) parts
visits_each [] = tt
visits_each (p ∷ parts) =
    let e = sum_by-cons (λ (q : Part). visits_bound q.sched.nest) p parts in (
      omega (arith, e),
      all_map (λ (q : Part). visits_bound q.sched.nest ≤ visit_count parts) (λ (q : Part). visits_bound q.sched.nest ≤ visit_count (p ∷ parts)) (λ q l. omega (arith, e, l)) parts (visits_each parts),
    )

-- Outlines --------------------------------------------------------------------------------------------------------------

module _ (l : Layout) (machine : IsMachine l.machine) (k : ℕ) (p : Part) (lawful : IsLawful p.sched) (few : visits_bound p.sched.nest ≤ visit_limit) where
  values_are : (q : List ℕ) → Rises (λ i. i) (visited_values l.stored p.sched q) × AllByRecursion (λ i. i < 4294967296) (visited_values l.stored p.sched q)
  values_are q =
      values_meet (λ i. nat_lt 0 (length (visits_of l.stored p.sched (q ++ i ∷ [])))) (extent_inside (length q) p.sched.nest) (let e = extent_counts (length q) p.sched.nest in omega (arith, e, few))

  root_is : (paths_of l.stored p.sched 0 ≡ []) ⊎ (paths_of l.stored p.sched 0 ≡ [] ∷ [])
  root_is = go (nat_lt 0 (length (visits_of l.stored p.sched [])))
    where
      none : List (List ℕ)
      none = []

      go : (b : Bool) → ((if b then [] ∷ none else none) ≡ none) ⊎ ((if b then [] ∷ none else none) ≡ [] ∷ none)
      go true = inr refl
      go false = inl refl

  zeros_are : (n : ℕ) → Stretch key_of (k ∷ 0 ∷ []) n n ((outline_of l k p).zeros n)
  zeros_are n = go p.adds (home_at (homes_at l (output_of p.sched.nest)) n)
    where
      go : (b : Bool) (ws : List ℕ) → Stretch key_of (k ∷ 0 ∷ []) n n (if b then [] else zero_on k (output_of p.sched.nest) n ws)
      go true ws = no_stretch key_of (k ∷ 0 ∷ []) n n
      go false [] = no_stretch key_of (k ∷ 0 ∷ []) n n
      go false (w ∷ ws) = one_stretch key_of (k ∷ 0 ∷ []) n (0 ∷ 0 ∷ output_of p.sched.nest ∷ n ∷ []) _ refl

  pub is_outline : IsOutline key_of node_at (outline_of l k p)
  is_outline = record {
    tensors_rise = moved_rise p.sched;
    works_rise = node_works_rise p.sched;
    works_inside = node_works_inside p.sched;
    deepest = deepest_is p.sched lawful;
    deep = all_deep p.sched lawful;
    root = root_is;
    grow = λ j i. paths_grow l.stored p.sched j (fewer_loops (suc j) (p.sched.distributed + (task_depth p.sched - p.sched.distributed)) p.sched.nest i (inner_loops p.sched lawful));
    values_rise = λ q. (values_are q).0;
    values_below = λ q. (values_are q).1;
    pieces_rise = λ t q. pieces_rise (needed_of l.stored p.sched t q) (homes_at l t) (node_of l.machine p.sched q);
    shares_rise = λ t q. shares_rise (needed_of l.stored p.sched t q) (homes_at l t);
    node_stays = λ q i. path_node_stays l.machine machine p.sched q i;
    node_below = λ q. path_node_below l.machine machine p.sched q;
    zeros_key = zeros_are;
    alloc_key = λ t q. refl;
    copy_key = λ t q x. refl;
    task_key = λ q. refl;
    fold_key = λ t q x. refl;
    free_key = λ t q. refl;
    work_alloc_key = λ n w. refl;
    work_free_key = λ n w. refl;
  }

-- the first and the second elements of pairs
zip_first : {X Y : Type 0} (P : X → Type 0) (xs : List X) (ys : List Y) → AllByRecursion P xs → AllByRecursion (λ (x : X × Y). P x.0) (zip xs ys)
zip_first P [] ys h = tt
zip_first P (x ∷ xs) [] h = tt
zip_first P (x ∷ xs) (y ∷ ys) h = (h.0, zip_first P xs ys h.1)

pub zip_second : {X Y : Type 0} (P : Y → Type 0) (xs : List X) (ys : List Y) → AllByRecursion P ys → AllByRecursion (λ (x : X × Y). P x.1) (zip xs ys)
zip_second P [] ys h = tt
zip_second P (x ∷ xs) [] h = tt
zip_second P (x ∷ xs) (y ∷ ys) h = (h.0, zip_second P xs ys h.1)

zip_rises : {Y : Type 0} (xs : List ℕ) (ys : List Y) → Rises (λ i. i) xs → Rises (λ (x : ℕ × Y). x.0) (zip xs ys)
zip_rises [] ys r = tt
zip_rises (x ∷ xs) [] r = tt
zip_rises (x ∷ xs) (y ∷ ys) r = (zip_first (λ i. x < i) xs ys r.0, zip_rises xs ys r.1)

module _ (l : Layout) (h : IsLayout l) where
  -- each statement has an outline
  pub are_outlines : AllByRecursion (IsOutline key_of node_at) (outlines_of l)
  are_outlines =
      all_made (λ (x : ℕ × Part). IsLawful x.1.sched × (visits_bound x.1.sched.nest ≤ visit_limit)) (IsOutline key_of node_at) (λ (x : ℕ × Part). outline_of l x.0 x.1)
      (λ x f. is_outline l h.machine x.0 x.1 f.0 f.1) (zip (below (length l.parts)) l.parts)
      (zip_second (λ (p : Part). IsLawful p.sched × (visits_bound p.sched.nest ≤ visit_limit)) (below (length l.parts)) l.parts
      (all_both (λ (p : Part). IsLawful p.sched) (λ (p : Part). visits_bound p.sched.nest ≤ visit_count l.parts) (λ (p : Part). IsLawful p.sched × (visits_bound p.sched.nest ≤ visit_limit))
      (λ p a b. (a, (let few = h.visits in omega (arith, b, few)))) l.parts h.lawful (visits_each l.parts)))

  -- and their numbers rise
  pub outlines_rise : Rises (λ (m : Outline Op Piece). m.stmt) (outlines_of l)
  outlines_rise =
      rises_map (λ (x : ℕ × Part). x.0) (λ (m : Outline Op Piece). m.stmt) (λ (x : ℕ × Part). outline_of l x.0 x.1) (λ x y i. i) (zip (below (length l.parts)) l.parts)
      (zip_rises (below (length l.parts)) l.parts (below_rises (length l.parts)))
