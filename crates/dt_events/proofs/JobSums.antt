-- All operations of a statement make of the homes with some numbers those with the numbers after its part.
use Rattle.std.proofs.Common.{◌≡◌, ℕ, ◌+◌, ◌%◌, ◌^◌, ◌<◌, ◌≤◌, Bool, true, false, ◌&&◌, List, [], ◌++◌, length, map, Option, Some, None, refl, sym, ap, ◌∙◌, subst, ⊎_elim, eqb-true, eq-eqb, arith, if◌then◌else◌, append-nil}
use Rattle.std.specs.Prelude.{nat_eq, nat_lt, slice_get, sum_by}
use Rattle.std.specs.List.{flat_map}
use Rattle.std.proofs.lemmas.Bool.{and_parts, and_from, cases_Bool, cases_lt, lt-ltb}
use Rattle.dt_base.specs.Ranges.{below}
use Rattle.dt_runs.specs.Sets.{contains}
use Rattle.dt_model.specs.Positions.{coords_at, place_in, tensor_at}
use Rattle.dt_nest.specs.declared.parts.Work as parts
use Rattle.dt_nest.specs.Meaning.{Entries}
use Rattle.dt_nest.specs.World.{world_of}
use Rattle.dt_nest.specs.Outputs.{output_of}
use Rattle.dt_nest.specs.Effects.{sum_over, entries_after}
use Rattle.dt_nest.specs.Unit as own
use Rattle.dt_nest.specs.Visits.{visits_of}
use Rattle.dt_nest.proofs.Each.{all_map, all_filter}
use Rattle.dt_nest.proofs.RootApart.{visits_add}
use Rattle.dt_bounds.specs.TaskUnits.{Carries}
use Rattle.dt_bounds.proofs.PathAccesses.{place_has}
use Rattle.dt_bounds.proofs.PathUnitSums.{units_follow_effects}
use Rattle.dt_copy.specs.declared.piece_list.Piece.{Piece}
use Rattle.dt_copy.specs.Sources.{home_at}
use Rattle.dt_argument.specs.Frames.{grown}
use Rattle.dt_argument.proofs.Shapes.{if_true, if_false}
use Rattle.dt_place.specs.Machines.{nodes_of}
use Rattle.dt_plan.specs.declared.ops.Op.{Op}
use Rattle.dt_plan.specs.declared.parts.Part.{Part}
use Rattle.dt_plan.specs.declared.touches.Buffer.TheVariants.{Home, Scratch, Work}
use Rattle.dt_plan.specs.Layouts.{Layout, homes_at, node_of}
use Rattle.dt_plan.specs.Brackets as plan
use Rattle.dt_plan.specs.Operations.{outline_of, key_of}
use Rattle.dt_plan.proofs.Outlines.{IsOutline}
use Rattle.dt_plan.proofs.Meeting.{node_at}
use Rattle.dt_events.specs.State.{Cell, Word, Sign, State}
use Rattle.dt_events.specs.Jobs.{state_of}
use Rattle.dt_events.specs.StateLaws.{IsRunnable}
use Rattle.dt_events.specs.Placed.{IsPlaced, CanRun, AreNumbers, numbers_after}
use Rattle.dt_events.proofs.BlockLists.{not_true, both_ways}
use Rattle.dt_events.proofs.BlockMoves.{run_op, run_ops}
use Rattle.dt_events.proofs.BlockPlans.{block, home_target, amount_at, grow_all}
use Rattle.dt_events.proofs.BlockRuns.{grown_none}
use Rattle.dt_events.proofs.ListRuns.{run_all, chain, run_flat, run_same, run_alike, op_run}
use Rattle.dt_events.proofs.JobBlocks.{path_amount, blocks_at, block_same}
use Rattle.dt_events.proofs.JobServed.{left_exists}
use Rattle.dt_events.proofs.JobStatements.{IsFirst, blocks_on, inner, rows_run, first_paths, paths_are_first, node_paths, node_paths_are_first, amounts_are}
use Rattle.dt_events.proofs.JobTasks.{no_word}
use Rattle.dt_events.proofs.JobZeros.{numbers_before, before_others, zeros_run}

module _ (l : Layout) (k : ℕ) (p : Part) (x : Entries) (fit : IsRunnable l p) (placed : IsPlaced l) (numbers : AreNumbers l x) (can : CanRun l p) (outline : IsOutline key_of node_at (outline_of l k p)) where
  -- the outline, the left tensor, and the numbers once the zeros have run
  abbrev M : plan.Outline Op Piece
  M = outline_of l k p

  abbrev out : ℕ
  out = output_of p.sched.nest

  abbrev before : Entries
  before = numbers_before p x

  abbrev after : Entries
  after = numbers_after l.stored p x

  -- each path has a node
  nodes : (q : List ℕ) → node_of l.machine p.sched q < nodes_of l.machine
  nodes q = outline.node_below q

  -- the left tensor is one of the layout's
  left_inside : out < length l.stored
  left_inside = subst (λ (n : ℕ). out < n) fit.tensors (left_exists l k p x fit placed numbers (node_of l.machine p.sched []) (nodes []))

  -- what holds of a number and of 0 holds of the number before the part adds
  before_has : (P : ℕ → Type 0) (t : ℕ) (c : List ℕ) → P (x t c) → P 0 → P (before t c)
  before_has P t c h z = go (nat_eq t out) p.adds
    where
      go : (a b : Bool) → P (if a then if b then x t c else 0 else x t c)
      go true true = h
      go true false = z
      go false b = h

  numbers_too : AreNumbers l before
  numbers_too = record {
    small = λ t c. before_has (λ v. v < 2 ^ 64) t c (numbers.small t c) (omega arith);
    zeros = λ t c e. before_has (λ v. v ≡ 0) t c (numbers.zeros t c e) refl;
    others = λ t c e. before_has (λ v. v ≡ 0) t c (numbers.others t c e) refl;
  }

  -- Sums where nothing is stored ---------------------------------------------------------------------------------------------

  -- a node that has the number of each word
  full : own.State
  full (own.Word t w) = Some (x t (coords_at (tensor_at l.stored t) w))
  full (own.Sign t) = Some 0

  -- the word at some coordinates of a tensor is its position
  word_is_place : (t : ℕ) (c : List ℕ) → t < length p.sched.tensors → own.word_of l.stored p.sched t c ≡ place_in (tensor_at l.stored t) c
  word_is_place t c h = if_true (nat_lt t (length p.sched.tensors)) (place_in (tensor_at l.stored t) c) _ (lt-ltb t (length p.sched.tensors) h)

  full_carries : Carries l.stored p.sched [] full x
  unfolding full
  full_carries = record {
    held = λ t c w e need.
        ⊎_elim
        (λ (h : t < length p.sched.tensors). ap (λ (b : List ℕ). Some (x t b)) (place_has (tensor_at l.stored t) c w (sym (word_is_place t c h) ∙ e)).1)
        (λ (h : length p.sched.tensors ≤ t). let z : Some w ≡ None = sym e ∙ no_word l.stored p.sched can.workless t c h in absurd (cc))
        (cases_lt t (length p.sched.tensors));
    none = λ t c e.
        ⊎_elim
        (λ (h : t < length p.sched.tensors). numbers.zeros t c (sym (word_is_place t c h) ∙ e))
        (λ (h : length p.sched.tensors ≤ t). numbers.others t c (subst (λ (m : ℕ). m ≤ t) fit.tensors h))
        (cases_lt t (length p.sched.tensors));
  }

  -- the schedule adds nothing where its left tensor stores nothing
  unstored_sum : (c : List ℕ) → place_in (tensor_at l.stored out) c ≡ None → sum_over l.stored p.sched x c ≡ 0
  unstored_sum c e =
      let none : own.word_of l.stored p.sched out c ≡ None = word_is_place out c (left_exists l k p x fit placed numbers (node_of l.machine p.sched []) (nodes [])) ∙ e in
      let zero_after : entries_after (world_of l.stored p.sched) p.sched.derived (visits_of l.stored p.sched []) x out c ≡ 0 =
      (units_follow_effects l.stored p.sched [] full x (can.room [] tt) full_carries).none out c none in
      adds_none (entries_after (world_of l.stored p.sched) p.sched.derived (visits_of l.stored p.sched []) x out c) (x out c) _ zero_after (numbers.zeros out c e)
      ((visits_add p.sched l.stored x fit.lawful fit.unread).sums c)
    where
      adds_none : (a v b : ℕ) → a ≡ 0 → v ≡ 0 → a % 2 ^ 64 ≡ (v + b % 2 ^ 64) % 2 ^ 64 → b % 2 ^ 64 ≡ 0
      adds_none a v b e f g = omega (arith, e, f, g)

  -- the numbers after the part are numbers
  pub numbers_go_on : AreNumbers l after
  numbers_go_on = record {
    small = λ t c. go_small t c (nat_eq t out) p.adds;
    zeros = λ t c e. go_zero t c (numbers.zeros t c e) (nat_eq t out) p.adds (λ f. unstored_sum c (subst (λ (u : ℕ). place_in (tensor_at l.stored u) c ≡ None) (eqb-true t out f) e));
    others = λ t c e. if_false (nat_eq t out) _ (x t c) (not_true (nat_eq t out) (λ f. let g : t ≡ out = eqb-true t out f in let i = left_inside in absurd (omega (arith, e, g, i)))) ∙ numbers.others t c e;
  }
    where
      mod_small : (v : ℕ) → v % 2 ^ 64 < 2 ^ 64
      mod_small v = omega arith

      go_small : (t : ℕ) (c : List ℕ) (a b : Bool) → (if a then if b then (x t c + sum_over l.stored p.sched x c) % 2 ^ 64 else sum_over l.stored p.sched x c else x t c) < 2 ^ 64
      go_small t c true true = mod_small (x t c + sum_over l.stored p.sched x c)
      go_small t c true false = mod_small _
      go_small t c false b = numbers.small t c

      zero_sum : (v b : ℕ) → v ≡ 0 → b ≡ 0 → (v + b) % 2 ^ 64 ≡ 0
      zero_sum v b e f = omega (arith, e, f)

      go_zero : (t : ℕ) (c : List ℕ) → x t c ≡ 0 → (a b : Bool) → (a ≡ true → sum_over l.stored p.sched x c ≡ 0) → (if a then if b then (x t c + sum_over l.stored p.sched x c) % 2 ^ 64 else sum_over l.stored p.sched x c else x t c) ≡ 0
      go_zero t c z true true e = zero_sum (x t c) (sum_over l.stored p.sched x c) z (e refl)
      go_zero t c z true false e = e refl
      go_zero t c z false b e = z

  -- Homes after the folds ----------------------------------------------------------------------------------------------------

  -- how much a word of the left tensor grows
  abbrev amount : ℕ → ℕ
  amount w = sum_by (λ q. path_amount l k p before q w) (node_paths l k p before fit placed numbers_too nodes can.workless can.room)

  -- what it is then
  left_number : (w : ℕ) → w < length (tensor_at l.stored out).coords → (before out (coords_at (tensor_at l.stored out) w) + amount w) % 2 ^ 64 ≡ after out (coords_at (tensor_at l.stored out) w)
  left_number w small =
      go (nat_eq out out) (eq-eqb out out refl) p.adds (x out (coords_at (tensor_at l.stored out) w)) (amount w) (sum_over l.stored p.sched x (coords_at (tensor_at l.stored out) w))
      (amounts_are l k p before fit placed numbers_too nodes can.workless can.room x (λ t c h d. before_others p x t c d) w small)
    where
      go : (a : Bool) → a ≡ true → (b : Bool) (v m s : ℕ) → m % 2 ^ 64 ≡ s → ((if a then if b then v else 0 else v) + m) % 2 ^ 64 ≡ (if a then if b then (v + s) % 2 ^ 64 else s else v)
      go true e true v m s f = omega (arith, f)
      go true e false v m s f = let z : (0 + m) % 2 ^ 64 ≡ m % 2 ^ 64 = omega arith in z ∙ f
      go false e b v m s f = absurd (cc)

  -- the blocks as far as homes ask
  abbrev target_of : Cell → Option ℕ
  target_of c = home_target (blocks_at l k p before 0) c

  -- each cell
  grown_cell : (c : Cell) → grow_all (λ d. amount_at amount (target_of d)) (state_of l before) c ≡ state_of l after c
  grown_cell (Word n (Scratch j t) w) = refl
  grown_cell (Word n (Work j u) w) = refl
  grown_cell (Sign n (Scratch j t)) = refl
  grown_cell (Sign n (Work j u)) = refl
  grown_cell (Sign n (Home t)) = go (nat_lt t (length l.stored) && nat_lt n (nodes_of l.machine))
    where
      go : (b : Bool) → grown 0 (if b then Some 0 else None) ≡ (if b then Some 0 else None)
      go true = refl
      go false = refl
  grown_cell (Word n (Home t) w) =
      ⊎_elim
      (λ (h : contains (home_at (homes_at l t) n) w ≡ true).
      ap (grown (amount_at amount (target_of (Word n (Home t) w)))) (if_true (contains (home_at (homes_at l t) n) w) (Some (before t (coords_at (tensor_at l.stored t) w))) None h)
      ∙ ⊎_elim (λ (e : nat_eq t out ≡ true). left_word e h) (λ (e : nat_eq t out ≡ false). other_word e) (cases_Bool (nat_eq t out))
      ∙ sym (if_true (contains (home_at (homes_at l t) n) w) (Some (after t (coords_at (tensor_at l.stored t) w))) None h))
      (λ (h : contains (home_at (homes_at l t) n) w ≡ false).
      ap (grown (amount_at amount (target_of (Word n (Home t) w)))) (if_false (contains (home_at (homes_at l t) n) w) (Some (before t (coords_at (tensor_at l.stored t) w))) None h)
      ∙ sym (if_false (contains (home_at (homes_at l t) n) w) (Some (after t (coords_at (tensor_at l.stored t) w))) None h))
      (cases_Bool (contains (home_at (homes_at l t) n) w))
    where
      left_word : nat_eq t out ≡ true → contains (home_at (homes_at l t) n) w ≡ true
          → grown (amount_at amount (target_of (Word n (Home t) w))) (Some (before t (coords_at (tensor_at l.stored t) w))) ≡ Some (after t (coords_at (tensor_at l.stored t) w))
      left_word e h =
          subst (λ (u : ℕ). contains (home_at (homes_at l u) n) w ≡ true → grown (amount_at amount (target_of (Word n (Home u) w))) (Some (before u (coords_at (tensor_at l.stored u) w))) ≡ Some (after u (coords_at (tensor_at l.stored u) w)))
          (sym (eqb-true t out e))
          (λ g. ap (λ z. grown (amount_at amount z) (Some (before out (coords_at (tensor_at l.stored out) w))))
          (if_true (nat_eq out out && contains (home_at (homes_at l out) n) w) (Some w) None (and_from (nat_eq out out) (contains (home_at (homes_at l out) n) w) (eq-eqb out out refl) g))
          ∙ ap Some (left_number w (placed.positions out n w g)))
          h

      other_word : nat_eq t out ≡ false → grown (amount_at amount (target_of (Word n (Home t) w))) (Some (before t (coords_at (tensor_at l.stored t) w))) ≡ Some (after t (coords_at (tensor_at l.stored t) w))
      other_word e =
          ap (λ z. grown (amount_at amount z) (Some (before t (coords_at (tensor_at l.stored t) w))))
          (if_false (nat_eq out t && contains (home_at (homes_at l out) n) w) (Some w) None (not_true (nat_eq out t && contains (home_at (homes_at l out) n) w) (λ f. both_ways (nat_eq t out) (eq-eqb t out (sym (eqb-true out t (and_parts (nat_eq out t) (contains (home_at (homes_at l out) n) w) f).0))) e)))
          ∙ grown_none 0 (Some (before t (coords_at (tensor_at l.stored t) w))) (λ v f. let g : before t (coords_at (tensor_at l.stored t) w) ≡ v = cc in subst (λ (u : ℕ). u < 2 ^ 64) g (numbers_too.small t (coords_at (tensor_at l.stored t) w))) refl
          ∙ ap Some (before_others p x t (coords_at (tensor_at l.stored t) w) (λ f. both_ways (nat_eq t out) (eq-eqb t out f) e)
          ∙ sym (if_false (nat_eq t out) _ (x t (coords_at (tensor_at l.stored t) w)) e))

  -- All operations -----------------------------------------------------------------------------------------------------------

  module _ (here : slice_get l.parts k ≡ Some p) where
    -- none
    abbrev none : List ℕ
    none = []

    -- a node has no workspaces
    works_none : (n : ℕ) → plan.works_on M n ≡ none
    works_none n =
        ap (λ (ws : List ℕ). if plan.has_some (plan.paths_on M n) then ws else none)
        (ap (λ (ws : List parts.Work). if nat_eq p.sched.distributed 0 then none else map (λ w. length p.sched.tensors + w) (below (length ws))) can.workless ∙ empty (nat_eq p.sched.distributed 0))
        ∙ empty (plan.has_some (plan.paths_on M n))
      where
        empty : (b : Bool) → (if b then none else none) ≡ none
        empty true = refl
        empty false = refl

    node_ops_are : (n : ℕ) → plan.node_ops M n ≡ flat_map (plan.block M M.inner) (plan.paths_on M n)
    node_ops_are n =
        ap (λ (ws : List ℕ). map (M.work_alloc n) ws ++ (flat_map (plan.block M M.inner) (plan.paths_on M n) ++ map (M.work_free n) ws)) (works_none n)
        ∙ append-nil (flat_map (plan.block M M.inner) (plan.paths_on M n))

    -- one block of a first path
    abbrev one_block : List ℕ → State → Option State
    one_block q = run_ops (block (blocks_on l k p before fit placed numbers_too nodes can.workless can.room q) (inner l k p before fit placed numbers_too nodes can.workless can.room) p.sched.distributed q)

    block_runs : (q : List ℕ) → IsFirst p q → (s : State) → run_all (op_run l) (plan.block M M.inner q) s ≡ one_block q s
    block_runs q h s =
        block_same l k p before here can.workless fit.tensors M.inner q (node_of l.machine p.sched q) refl (λ r i long. outline.node_stays r i (let e = h.1 in omega (arith, e, long))) s
        ∙ ap (λ (j : ℕ). run_ops (block (blocks_at l k p before (node_of l.machine p.sched q)) M.inner j q) s) h.1

    node_run : (n : ℕ) (s : State) → run_all (op_run l) (plan.node_ops M n) s ≡ run_all one_block (plan.paths_on M n) s
    node_run n s =
        ap (λ (os : List Op). run_all (op_run l) os s) (node_ops_are n)
        ∙ run_flat (op_run l) (plan.block M M.inner) (plan.paths_on M n) s
        ∙ run_alike (λ q. run_all (op_run l) (plan.block M M.inner q)) one_block (plan.paths_on M n)
        (all_map (IsFirst p) (λ q. (u : State) → run_all (op_run l) (plan.block M M.inner q) u ≡ one_block q u) block_runs (plan.paths_on M n)
        (all_filter (IsFirst p) (λ q. nat_eq (node_of l.machine p.sched q) n) (first_paths l k p before fit placed numbers_too nodes can.workless can.room) (paths_are_first l k p before fit placed numbers_too nodes can.workless can.room))) s

    -- a statement
    pub statement_runs : run_all (op_run l) (plan.brackets M) (state_of l x) ≡ Some (state_of l after)
    statement_runs =
        chain (op_run l) (flat_map M.zeros (below M.nodes)) (flat_map (plan.node_ops M) (below M.nodes)) (state_of l x) (state_of l before) (Some (state_of l after))
        (zeros_run l k p x placed left_inside)
        (run_flat (op_run l) (plan.node_ops M) (below M.nodes) (state_of l before)
        ∙ run_same (λ n. run_all (op_run l) (plan.node_ops M n)) (λ n. run_all one_block (plan.paths_on M n)) node_run (below M.nodes) (state_of l before)
        ∙ sym (run_flat one_block (plan.paths_on M) (below M.nodes) (state_of l before))
        ∙ sym (run_flat run_op (λ q. block (blocks_on l k p before fit placed numbers_too nodes can.workless can.room q) (inner l k p before fit placed numbers_too nodes can.workless can.room) p.sched.distributed q) (flat_map (plan.paths_on M) (below M.nodes)) (state_of l before))
        ∙ rows_run l k p before fit placed numbers_too nodes can.workless can.room (node_paths l k p before fit placed numbers_too nodes can.workless can.room) (node_paths_are_first l k p before fit placed numbers_too nodes can.workless can.room)
        ∙ ap Some (λ i c. grown_cell c i))
