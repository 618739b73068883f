-- A statement makes of the homes with some numbers those with the numbers after it.
use Rattle.std.proofs.Common.{◌≡◌, ◌≢◌, ℕ, zero, suc, ◌+◌, ◌-◌, ◌%◌, ◌^◌, ◌<◌, ◌≤◌, Bool, true, false, ◌&&◌, List, [], ◌∷◌, length, Option, Some, None, is_some, refl, sym, ap, ap₂, ◌∙◌, subst, ⊎_elim, eqb-true, eq-eqb, arith, if◌then◌else◌}
use Rattle.std.specs.Prelude.{filter, nat_eq, nat_lt, sum_by}
use Rattle.std.specs.List.{AllByRecursion, flat_map}
use Rattle.std.proofs.lemmas.Bool.{and_parts, cases_lt, lt-ltb, ltb-true}
use Rattle.std.proofs.lemmas.List.Sums.{sum_by-cons, sum_by-append}
use Rattle.std.proofs.lemmas.List.Concat.{flat_map-cons}
use Rattle.dt_base.specs.Ranges.{below}
use Rattle.dt_base.proofs.Sums.{sum_by-same}
use Rattle.dt_runs.specs.Sets.{contains}
use Rattle.dt_runs.proofs.SetLemmas.{contains-filter}
use Rattle.dt_runs.proofs.BelowSets.{contains-below}
use Rattle.dt_model.specs.Positions.{coords_at, tensor_at}
use Rattle.dt_nest.specs.Meaning.{Entries}
use Rattle.dt_nest.specs.Outputs.{output_of}
use Rattle.dt_nest.specs.Effects.{sum_over}
use Rattle.dt_nest.specs.Paths.{HasLoops, depth_of, tensors_in, task_depth, paths_of, sum_on}
use Rattle.dt_nest.specs.PathSteps.{IsVisited}
use Rattle.dt_nest.proofs.PathSums.{sums_read}
use Rattle.dt_nest.specs.Questions.{accesses_tensor}
use Rattle.dt_nest.specs.Visits.{IsPath}
use Rattle.dt_nest.proofs.Each.{all_map, all_filter, all_flat_map}
use Rattle.dt_nest.proofs.PathFans.{paths_are_visited, sums_over_paths}
use Rattle.dt_copy.specs.Sources.{home_at}
use Rattle.dt_argument.proofs.Shapes.{if_true, if_false}
use Rattle.dt_place.specs.Machines.{nodes_of}
use Rattle.dt_plan.specs.declared.parts.Part.{Part}
use Rattle.dt_plan.specs.declared.touches.Buffer.TheVariants.{Home, Scratch, Work}
use Rattle.dt_plan.specs.Layouts.{Layout, homes_at, node_of}
use Rattle.dt_plan.specs.Operations.{moved_depth}
use Rattle.dt_plan.proofs.Depths.{depth_least, distributed_loops_are, deepest_is, inner_loops}
use Rattle.dt_events.specs.State.{Cell, Word, Sign, is_of}
use Rattle.dt_events.specs.Jobs.{state_of}
use Rattle.dt_events.specs.StateLaws.{IsRunnable}
use Rattle.dt_events.specs.Placed.{IsPlaced, HasRoom, AreNumbers}
use Rattle.dt_events.proofs.BlockLists.{not_true, sum_zero}
use Rattle.dt_events.proofs.BlockPlans.{Blocks, block, home_target, amount_at, grow_all, AreSmall, IsReady, IsPlanned, AreServed, AreBlocks}
use Rattle.dt_events.proofs.BlockMoves.{run_ops}
use Rattle.dt_events.proofs.BlockRows.{row_adds}
use Rattle.dt_events.proofs.JobBlocks.{path_amount, blocks_at}
use Rattle.dt_events.proofs.JobServed.{blocks_planned, blocks_served, amount_is, sums_alike}
use Rattle.dt_events.proofs.JobTaskSums.{task_adds}

-- Sums by node -----------------------------------------------------------------------------------------------------------------

-- a sum over joined lists
sum_flat : {X : Type 0} (f : X → ℕ) (g : ℕ → List X) (ns : List ℕ) → sum_by f (flat_map g ns) ≡ sum_by (λ n. sum_by f (g n)) ns
sum_flat f g [] = refl
sum_flat f g (n ∷ ns) =
    ap (sum_by f) (flat_map-cons g n ns)
    ∙ sum_by-append f (g n) (flat_map g ns)
    ∙ ap (λ v. sum_by f (g n) + v) (sum_flat f g ns)
    ∙ sym (sum_by-cons (λ m. sum_by f (g m)) n ns)

-- a sum of sums
sum_add : (f g : ℕ → ℕ) (ns : List ℕ) → sum_by (λ n. f n + g n) ns ≡ sum_by f ns + sum_by g ns
sum_add f g [] = refl
sum_add f g (n ∷ ns) =
    let a = sum_by-cons (λ m. f m + g m) n ns in
    let b = sum_by-cons f n ns in
    let c = sum_by-cons g n ns in
    let again = sum_add f g ns in
    omega (arith, a, b, c, again)

-- a number at one place
abbrev one_at : ℕ → ℕ → ℕ → ℕ
one_at a v n = if nat_eq a n then v else 0

-- the last of the first numbers
sum_last : (f : ℕ → ℕ) (n : ℕ) → sum_by f (below (suc n)) ≡ sum_by f (below n) + f n
sum_last f n = let a = sum_by-append f (below n) (n ∷ []) in let b = sum_by-cons f n [] in omega (arith, a, b)

sum_none : (a v n : ℕ) → n ≤ a → sum_by (one_at a v) (below n) ≡ 0
sum_none a v zero h = refl
sum_none a v (suc n) h =
    let e = sum_last (one_at a v) n in
    let again = sum_none a v n (omega arith) in
    let zero_there : one_at a v n ≡ 0 = if_false (nat_eq a n) v 0 (not_true (nat_eq a n) (λ f. let g : a ≡ n = eqb-true a n f in absurd (omega (arith, g, h)))) in
    omega (arith, e, again, zero_there)

sum_one : (a v n : ℕ) → a < n → sum_by (one_at a v) (below n) ≡ v
sum_one a v zero h = absurd (omega arith)
sum_one a v (suc n) h =
    ⊎_elim
    (λ (lt : a < n).
    let e = sum_last (one_at a v) n in
    let again = sum_one a v n lt in
    let zero_there : one_at a v n ≡ 0 = if_false (nat_eq a n) v 0 (not_true (nat_eq a n) (λ f. let g : a ≡ n = eqb-true a n f in absurd (omega (arith, g, lt)))) in
    omega (arith, e, again, zero_there))
    (λ (le : n ≤ a).
    let e = sum_last (one_at a v) n in
    let none = sum_none a v n le in
    let there : one_at a v n ≡ v = if_true (nat_eq a n) v 0 (eq-eqb a n (omega (arith, le, h))) in
    omega (arith, e, none, there))
    (cases_lt a n)

-- a sum over elements that are taken node by node is the sum over them all
sum_by_node : {X : Type 0} (f node : X → ℕ) (count : ℕ) (xs : List X) → AllByRecursion (λ x. node x < count) xs
    → sum_by (λ n. sum_by f (filter (λ x. nat_eq (node x) n) xs)) (below count) ≡ sum_by f xs
sum_by_node f node count [] h = sum_zero (λ n. 0) (below count) (λ n. refl)
sum_by_node f node count (x ∷ xs) h =
    sum_by-same (λ n. sum_by f (filter (λ y. nat_eq (node y) n) (x ∷ xs))) (λ n. one_at (node x) (f x) n + sum_by f (filter (λ y. nat_eq (node y) n) xs)) (below count) (λ n. one n (nat_eq (node x) n))
    ∙ sum_add (one_at (node x) (f x)) (λ n. sum_by f (filter (λ y. nat_eq (node y) n) xs)) (below count)
    ∙ ap₂ ◌+◌ (sum_one (node x) (f x) count h.0) (sum_by_node f node count xs h.1)
    ∙ sym (sum_by-cons f x xs)
  where
    one : (n : ℕ) (b : Bool) → sum_by f (if b then x ∷ filter (λ y. nat_eq (node y) n) xs else filter (λ y. nat_eq (node y) n) xs) ≡ (if b then f x else 0) + sum_by f (filter (λ y. nat_eq (node y) n) xs)
    one n true = sum_by-cons f x (filter (λ y. nat_eq (node y) n) xs)
    one n false = let z : sum_by f (filter (λ y. nat_eq (node y) n) xs) ≡ 0 + sum_by f (filter (λ y. nat_eq (node y) n) xs) = omega arith in z

-- Rows of blocks -------------------------------------------------------------------------------------------------------------

-- a path of the distributed loops
abbrev pub IsFirst : Part → List ℕ → Type 0
IsFirst p q = IsPath p.sched q × (length q ≡ p.sched.distributed)

module _ (l : Layout) (k : ℕ) (p : Part) (x : Entries) (fit : IsRunnable l p) (placed : IsPlaced l) (numbers : AreNumbers l x) (nodes : (q : List ℕ) → node_of l.machine p.sched q < nodes_of l.machine) (workless : p.sched.works ≡ []) (room : HasRoom l p) where
  -- the blocks of a path, on its node
  abbrev pub blocks_on : List ℕ → Blocks
  blocks_on q = blocks_at l k p x (node_of l.machine p.sched q)

  abbrev first : Blocks
  first = blocks_at l k p x 0

  -- the loops below the distributed ones, down to the task
  abbrev pub inner : ℕ
  inner = task_depth p.sched - p.sched.distributed

  -- no moved tensor is moved outside the distributed loops
  deep : (t : ℕ) → contains (tensors_in p.sched) t ≡ true → p.sched.distributed ≤ moved_depth p.sched t
  deep t h =
      let a = and_parts (contains (below (length p.sched.tensors)) t) (accesses_tensor p.sched.nest t) (sym (contains-filter (accesses_tensor p.sched.nest) (below (length p.sched.tensors)) t) ∙ h) in
      let small : t < length p.sched.tensors = ltb-true t (length p.sched.tensors) (sym (contains-below (length p.sched.tensors) t) ∙ a.0) in
      subst (λ (d : ℕ). p.sched.distributed ≤ d) (sym (if_true (nat_lt t (length p.sched.tensors)) (depth_of p.sched t) 0 (lt-ltb t (length p.sched.tensors) small))) (depth_least p.sched fit.lawful t)

  -- what the homes alone have
  state_small : AreSmall (state_of l x)
  state_small (Word n (Home t) w) v e = go (contains (home_at (homes_at l t) n) w) e
    where
      go : (b : Bool) → (if b then Some (x t (coords_at (tensor_at l.stored t) w)) else None) ≡ Some v → v < 2 ^ 64
      go true f = let g : x t (coords_at (tensor_at l.stored t) w) ≡ v = cc in subst (λ (u : ℕ). u < 2 ^ 64) g (numbers.small t (coords_at (tensor_at l.stored t) w))
      go false f = cc
  state_small (Word n (Scratch j t) w) v e = cc
  state_small (Word n (Work j u) w) v e = cc
  state_small (Sign n (Home t)) v e = go (nat_lt t (length l.stored) && nat_lt n (nodes_of l.machine)) e
    where
      go : (b : Bool) → (if b then Some 0 else None) ≡ Some v → v < 2 ^ 64
      go true f = let g : 0 ≡ v = cc in omega (arith, g)
      go false f = cc
  state_small (Sign n (Scratch j t)) v e = cc
  state_small (Sign n (Work j u)) v e = cc

  -- no scratch is open
  closed_there : (n t : ℕ) (c : Cell) → is_of n (Scratch k t) c ≡ true → state_of l x c ≡ None
  closed_there n t (Word m (Home u) w) h = let q = and_parts (nat_eq n m) false h in cc
  closed_there n t (Word m (Scratch j u) w) h = refl
  closed_there n t (Word m (Work j u) w) h = refl
  closed_there n t (Sign m (Home u)) h = let q = and_parts (nat_eq n m) false h in cc
  closed_there n t (Sign m (Scratch j u)) h = refl
  closed_there n t (Sign m (Work j u)) h = refl

  -- the homes are ready for the first paths
  ready : (q : List ℕ) → IsReady (blocks_on q) p.sched.distributed q (state_of l x)
  ready q = record {
    right = λ t w h d shallow need. absurd (let e = deep t h in omega (arith, e, shallow));
    left = λ w shallow need. absurd (let e = deep (output_of p.sched.nest) (planned q).written in omega (arith, e, shallow));
    absent = λ t c h d e. closed_there (node_of l.machine p.sched q) t c e;
    homes = λ t m w h d e. if_true (contains (home_at (homes_at l t) m) w) (Some (x t (coords_at (tensor_at l.stored t) w))) none e;
    left_homes = λ m w e. ap is_some (if_true (contains (home_at (homes_at l (output_of p.sched.nest)) m) w) (Some (x (output_of p.sched.nest) (coords_at (tensor_at l.stored (output_of p.sched.nest)) w))) none e);
    small = state_small;
  }
    where
      none : Option ℕ
      none = None

      planned : (q : List ℕ) → IsPlanned (blocks_on q)
      planned q = blocks_planned l k p x fit placed numbers (node_of l.machine p.sched q) (nodes q)

  -- what holds of all blocks of the first paths
  rows : AreBlocks blocks_on (λ q. q) first inner p.sched.distributed (IsFirst p)
  rows = record {
    planned = λ q h. blocks_planned l k p x fit placed numbers (node_of l.machine p.sched q) (nodes q);
    served = λ q h.
        subst (λ (j : ℕ). AreServed (blocks_on q) inner j q) h.1
        (blocks_served l k p x fit placed numbers (node_of l.machine p.sched q) (nodes q) inner q h.0
        (subst (λ (j : ℕ). HasLoops j p.sched.nest) (ap (λ (j : ℕ). j + inner) (sym h.1)) (inner_loops p.sched fit.lawful))
        (λ r g e. task_adds l k p x fit placed numbers (node_of l.machine p.sched q) (nodes q) workless room r g (let d = deepest_is p.sched fit.lawful in let f = h.1 in omega (arith, d, e, f))));
    same = λ q h c. refl;
    deep = λ q h. deep (output_of p.sched.nest) (blocks_planned l k p x fit placed numbers (node_of l.machine p.sched q) (nodes q)).written;
  }

  -- the blocks of some first paths let the left tensor's homes grow by their amounts
  pub rows_run : (qs : List (List ℕ)) → AllByRecursion (IsFirst p) qs
      → run_ops (flat_map (λ q. block (blocks_on q) inner p.sched.distributed q) qs) (state_of l x) ≡ Some (grow_all (λ c. amount_at (λ w. sum_by (λ q. path_amount l k p x q w) qs) (home_target first c)) (state_of l x))
  rows_run qs h = row_adds blocks_on (λ q. q) first inner p.sched.distributed (IsFirst p) rows qs h (state_of l x) (state_small, λ q i. ready q)

  -- the first paths, node by node
  abbrev pub first_paths : List (List ℕ)
  first_paths = paths_of l.stored p.sched p.sched.distributed

  abbrev pub node_paths : List (List ℕ)
  node_paths = flat_map (λ n. filter (λ q. nat_eq (node_of l.machine p.sched q) n) first_paths) (below (nodes_of l.machine))

  -- they are first paths
  pub paths_are_first : AllByRecursion (IsFirst p) first_paths
  paths_are_first = all_map (IsVisited l.stored p.sched p.sched.distributed) (IsFirst p) (λ q h. (h.path, h.count)) first_paths (paths_are_visited l.stored p.sched p.sched.distributed (distributed_loops_are p.sched fit.lawful))

  pub node_paths_are_first : AllByRecursion (IsFirst p) node_paths
  node_paths_are_first = all_flat_map (IsFirst p) (λ n. filter (λ q. nat_eq (node_of l.machine p.sched q) n) first_paths) (below (nodes_of l.machine)) (λ n. all_filter (IsFirst p) (λ q. nat_eq (node_of l.machine p.sched q) n) first_paths paths_are_first)

  -- their amounts are the schedule's sum
  pub amounts_are : (y : Entries) → ((t : ℕ) (c : List ℕ) → t < length p.sched.tensors → t ≢ output_of p.sched.nest → x t c ≡ y t c) → (w : ℕ) → w < length (tensor_at l.stored (output_of p.sched.nest)).coords
      → sum_by (λ q. path_amount l k p x q w) node_paths % 2 ^ 64 ≡ sum_over l.stored p.sched y (coords_at (tensor_at l.stored (output_of p.sched.nest)) w)
  amounts_are y same w small =
      ap (λ (v : ℕ). v % 2 ^ 64)
      (sum_flat (λ q. path_amount l k p x q w) (λ n. filter (λ q. nat_eq (node_of l.machine p.sched q) n) first_paths) (below (nodes_of l.machine))
      ∙ sum_by_node (λ q. path_amount l k p x q w) (node_of l.machine p.sched) (nodes_of l.machine) first_paths (all_map (IsFirst p) (λ q. node_of l.machine p.sched q < nodes_of l.machine) (λ q h. nodes q) first_paths paths_are_first))
      ∙ sums_alike (λ q. path_amount l k p x q w) (λ q. sum_on l.stored p.sched q y (coords_at (tensor_at l.stored (output_of p.sched.nest)) w)) first_paths
      (all_map (IsFirst p) (λ q. path_amount l k p x q w % 2 ^ 64 ≡ sum_on l.stored p.sched q y (coords_at (tensor_at l.stored (output_of p.sched.nest)) w) % 2 ^ 64)
      (λ q h.
      sym (amount_is l k p x fit placed numbers (node_of l.machine p.sched q) (nodes q) q w h.0 small)
      ∙ sums_read p.sched l.stored q x y fit.lawful fit.unread (λ t c i d. ap (λ (v : ℕ). v % 2 ^ 64) (same t c i d)) (coords_at (tensor_at l.stored (output_of p.sched.nest)) w))
      first_paths paths_are_first)
      ∙ sym (sums_over_paths p.sched l.stored p.sched.distributed y (coords_at (tensor_at l.stored (output_of p.sched.nest)) w) fit.lawful fit.unread (distributed_loops_are p.sched fit.lawful))
