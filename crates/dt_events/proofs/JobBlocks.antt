-- The operations of a statement's paths run as its blocks.
use Rattle.std.proofs.Common.{◌≡◌, ℕ, zero, suc, ◌+◌, ◌<◌, ◌≤◌, Bool, true, false, List, [], ◌∷◌, ◌++◌, length, map, Some, refl, sym, ap, ap₂, ◌∙◌, subst, arith, append-nil, append_assoc, length-append, eqb-true}
use Rattle.std.specs.Prelude.{filter, not, if◌then◌else◌, nat_eq, nat_lt, slice_get}
use Rattle.std.specs.List.{AllByRecursion, flat_map}
use Rattle.std.proofs.lemmas.Bool.{lt-ltb}
use Rattle.dt_base.specs.Ranges.{below}
use Rattle.dt_runs.specs.Sets.{contains}
use Rattle.dt_model.specs.Positions.{coords_at, tensor_at}
use Rattle.dt_nest.specs.declared.parts.Work.{Work}
use Rattle.dt_nest.specs.Meaning.{Entries}
use Rattle.dt_nest.specs.Outputs.{output_of}
use Rattle.dt_nest.specs.Paths.{tensors_in, sum_on}
use Rattle.dt_nest.specs.PathSteps.{visited_values}
use Rattle.dt_nest.specs.Questions.{accesses_tensor}
use Rattle.dt_nest.specs.Visits.{needed_of, visits_of}
use Rattle.dt_nest.proofs.Each.{all_filter, all_map, below_all}
use Rattle.dt_copy.specs.declared.piece_list.Piece.{Piece}
use Rattle.dt_copy.specs.Sources.{home_at, pieces_of, shares_of}
use Rattle.dt_argument.proofs.OperationRuns.{and_then}
use Rattle.dt_argument.proofs.Shapes.{if_true}
use Rattle.dt_plan.specs.declared.ops.Op.{Op}
use Rattle.dt_plan.specs.declared.parts.Part.{Part}
use Rattle.dt_plan.specs.declared.touches.Buffer.{Buffer}
use Rattle.dt_plan.specs.declared.touches.Buffer.TheVariants.{Home}
use Rattle.dt_plan.specs.Layouts.{Layout, homes_at, node_of}
use Rattle.dt_plan.specs.Brackets as plan
use Rattle.dt_plan.specs.Operations.{outline_of, root_works, moved_depth, scratch_on}
use Rattle.dt_events.specs.State.{State}
use Rattle.dt_events.proofs.OwnCells.{scratch_by}
use Rattle.dt_events.proofs.ListRuns.{run_all, run_append, run_flat, run_map, run_same, run_alike, run_filter, op_run}
use Rattle.dt_events.proofs.OperationMoves.{item_step, alloc_is, free_is, copy_is, fold_is, task_is}
use Rattle.dt_events.proofs.BlockMoves.{Move, Alloc, Free, Copy, Fold, Task, run_op, run_ops}
use Rattle.dt_events.proofs.BlockPlans.{Blocks, moved, rights, lefts, alloc_on, free_on, copy_on, fold_on, copies_on, folds_on, opened, closed, block}

module _ (l : Layout) (k : ℕ) (p : Part) (x : Entries) where
  -- what a path adds to a word of the left tensor that it needs
  abbrev pub path_amount : List ℕ → ℕ → ℕ
  path_amount path w =
      if contains (needed_of l.stored p.sched (output_of p.sched.nest) path) w then sum_on l.stored p.sched path x (coords_at (tensor_at l.stored (output_of p.sched.nest)) w) else 0

  -- the statement's blocks on a node, where the right-side tensors have the numbers of these entries
  abbrev pub blocks_at : ℕ → Blocks
  blocks_at n = record {
    node = n;
    stmt = k;
    out = output_of p.sched.nest;
    tensors = tensors_in p.sched;
    depth = moved_depth p.sched;
    children = visited_values l.stored p.sched;
    need = needed_of l.stored p.sched;
    pieces = λ t path. pieces_of (needed_of l.stored p.sched t path) (homes_at l t) n;
    shares = λ path. shares_of (needed_of l.stored p.sched (output_of p.sched.nest) path) (homes_at l (output_of p.sched.nest));
    task = λ path. run_all (item_step l k n p) (visits_of l.stored p.sched path);
    amount = path_amount;
    home = λ t m. home_at (homes_at l t) m;
    number = λ t w. x t (coords_at (tensor_at l.stored t) w);
  }

  -- the outline of the statement
  abbrev M : plan.Outline Op Piece
  M = outline_of l k p

  module _ (here : slice_get l.parts k ≡ Some p) (workless : p.sched.works ≡ []) (fits : length p.sched.tensors ≡ length l.stored) where
    -- none
    abbrev no_tensors : List ℕ
    no_tensors = []

    -- without workspaces only tensors are moved
    tensors_alone : M.tensors ≡ tensors_in p.sched
    tensors_alone = ap (λ (ts : List ℕ). tensors_in p.sched ++ ts) none ∙ append-nil (tensors_in p.sched)
      where
        empty : (b : Bool) → (if b then no_tensors else no_tensors) ≡ no_tensors
        empty true = refl
        empty false = refl

        none : root_works p.sched ≡ no_tensors
        none = ap (λ (ws : List Work). if nat_eq p.sched.distributed 0 then map (λ w. length p.sched.tensors + w) (below (length ws)) else no_tensors) workless ∙ empty (nat_eq p.sched.distributed 0)

    -- each of them is one of the schedule's
    tensors_exist : AllByRecursion (λ t. t < length p.sched.tensors) (tensors_in p.sched)
    tensors_exist = all_filter (λ t. t < length p.sched.tensors) (accesses_tensor p.sched.nest) (below (length p.sched.tensors)) (below_all (length p.sched.tensors))

    module _ (path : List ℕ) where
      -- the blocks on the path's node
      abbrev B : Blocks
      B = blocks_at (node_of l.machine p.sched path)

      -- those that are moved here
      moved_exist : AllByRecursion (λ t. t < length p.sched.tensors) (moved B (length path))
      moved_exist = all_filter (λ t. t < length p.sched.tensors) (λ t. nat_eq (moved_depth p.sched t) (length path)) (tensors_in p.sched) tensors_exist

      moved_alike : plan.moved_here M path ≡ moved B (length path)
      moved_alike = ap (filter (λ t. nat_eq (moved_depth p.sched t) (length path))) tensors_alone

      alloc_same : (t : ℕ) → t < length p.sched.tensors → (s : State) → op_run l (M.alloc t path) s ≡ run_op (alloc_on B path t) s
      alloc_same t h s =
          alloc_is l k (node_of l.machine p.sched path) path t (node_of l.machine p.sched path) (scratch_on l p.sched t path) 1 s
          ∙ ap₂ (λ (b : Buffer) (ws : List ℕ). run_op (Alloc (node_of l.machine p.sched path) b ws) s) (scratch_by l k t (subst (λ (n : ℕ). t < n) fits h))
          (if_true (nat_lt t (length p.sched.tensors)) (needed_of l.stored p.sched t path) _ (lt-ltb t (length p.sched.tensors) h))

      free_same : (t : ℕ) → t < length p.sched.tensors → (s : State) → op_run l (M.free t path) s ≡ run_op (free_on B t) s
      free_same t h s =
          free_is l k (node_of l.machine p.sched path) path t (node_of l.machine p.sched path) (scratch_on l p.sched t path) 1 s
          ∙ ap (λ (b : Buffer). run_op (Free (node_of l.machine p.sched path) b) s) (scratch_by l k t (subst (λ (n : ℕ). t < n) fits h))

      copy_same : (t : ℕ) → t < length p.sched.tensors → (piece : Piece) (s : State) → op_run l (M.copy t path piece) s ≡ run_op (copy_on B t piece) s
      copy_same t h piece s =
          copy_is l k (node_of l.machine p.sched path) path t piece.node piece.words (length piece.words) s
          ∙ ap (λ (b : Buffer). run_op (Copy piece.node (Home t) (node_of l.machine p.sched path) b piece.words) s) (scratch_by l k t (subst (λ (n : ℕ). t < n) fits h))

      fold_same : (t : ℕ) → t < length p.sched.tensors → (piece : Piece) (s : State) → op_run l (M.fold t path piece) s ≡ run_op (fold_on B t piece) s
      fold_same t h piece s =
          fold_is l k (node_of l.machine p.sched path) path t piece.node piece.words (length piece.words) s
          ∙ ap (λ (b : Buffer). run_op (Fold (node_of l.machine p.sched path) b piece.node (Home t) piece.words) s) (scratch_by l k t (subst (λ (n : ℕ). t < n) fits h))

      task_same : (s : State) → op_run l (M.task path) s ≡ run_op (Task (B.task path)) s
      task_same s = task_is l k (node_of l.machine p.sched path) path 0 (node_of l.machine p.sched path) [] (length (visits_of l.stored p.sched path)) p here s

      -- lists of allocs and frees
      allocs_same : (ts : List ℕ) → AllByRecursion (λ t. t < length p.sched.tensors) ts → (s : State) → run_all (op_run l) (map (λ t. M.alloc t path) ts) s ≡ run_ops (map (alloc_on B path) ts) s
      allocs_same ts h s =
          run_map (op_run l) (λ t. M.alloc t path) ts s
          ∙ run_alike (λ t. op_run l (M.alloc t path)) (λ t. run_op (alloc_on B path t)) ts (all_map (λ t. t < length p.sched.tensors) (λ t. (u : State) → op_run l (M.alloc t path) u ≡ run_op (alloc_on B path t) u) alloc_same ts h) s
          ∙ sym (run_map run_op (alloc_on B path) ts s)

      frees_same : (ts : List ℕ) → AllByRecursion (λ t. t < length p.sched.tensors) ts → (s : State) → run_all (op_run l) (map (λ t. M.free t path) ts) s ≡ run_ops (map (free_on B) ts) s
      frees_same ts h s =
          run_map (op_run l) (λ t. M.free t path) ts s
          ∙ run_alike (λ t. op_run l (M.free t path)) (λ t. run_op (free_on B t)) ts (all_map (λ t. t < length p.sched.tensors) (λ t. (u : State) → op_run l (M.free t path) u ≡ run_op (free_on B t) u) free_same ts h) s
          ∙ sym (run_map run_op (free_on B) ts s)

      -- a tensor's copies, and nothing for the left tensor
      copies_one : (t : ℕ) → t < length p.sched.tensors → (s : State) → run_all (op_run l) (plan.copies_on M path t) s ≡ (if not (nat_eq t (output_of p.sched.nest)) then run_ops (copies_on B path t) s else Some s)
      copies_one t h s = go (nat_eq t (output_of p.sched.nest))
        where
          go : (b : Bool) → run_all (op_run l) (if b then [] else map (M.copy t path) (M.pieces t path)) s ≡ (if not b then run_ops (copies_on B path t) s else Some s)
          go true = refl
          go false =
              run_map (op_run l) (M.copy t path) (M.pieces t path) s
              ∙ run_same (λ piece. op_run l (M.copy t path piece)) (λ piece. run_op (copy_on B t piece)) (copy_same t h) (M.pieces t path) s
              ∙ sym (run_map run_op (copy_on B t) (M.pieces t path) s)

      copies_same : (ts : List ℕ) → AllByRecursion (λ t. t < length p.sched.tensors) ts → (s : State) → run_all (op_run l) (flat_map (plan.copies_on M path) ts) s ≡ run_ops (flat_map (copies_on B path) (rights B ts)) s
      copies_same ts h s =
          run_flat (op_run l) (plan.copies_on M path) ts s
          ∙ run_filter (λ t. not (nat_eq t (output_of p.sched.nest))) (λ t. run_all (op_run l) (plan.copies_on M path t)) (λ t. run_ops (copies_on B path t)) ts
          (all_map (λ t. t < length p.sched.tensors) (λ t. (u : State) → run_all (op_run l) (plan.copies_on M path t) u ≡ (if not (nat_eq t (output_of p.sched.nest)) then run_ops (copies_on B path t) u else Some u)) copies_one ts h) s
          ∙ sym (run_flat run_op (copies_on B path) (rights B ts) s)

      -- a tensor's folds, if it is the left one
      folds_one : (t : ℕ) → t < length p.sched.tensors → (s : State) → run_all (op_run l) (plan.folds_on M path t) s ≡ (if nat_eq t (output_of p.sched.nest) then run_ops (folds_on B path t) s else Some s)
      folds_one t h s = go (nat_eq t (output_of p.sched.nest)) (λ e. eqb-true t (output_of p.sched.nest) e)
        where
          go : (b : Bool) → (b ≡ true → t ≡ output_of p.sched.nest) → run_all (op_run l) (if b then map (M.fold t path) (M.shares t path) else []) s ≡ (if b then run_ops (folds_on B path t) s else Some s)
          go true e =
              run_map (op_run l) (M.fold t path) (M.shares t path) s
              ∙ run_same (λ piece. op_run l (M.fold t path piece)) (λ piece. run_op (fold_on B t piece)) (fold_same t h) (M.shares t path) s
              ∙ ap (λ (u : ℕ). run_all (λ piece. run_op (fold_on B t piece)) (shares_of (needed_of l.stored p.sched u path) (homes_at l u)) s) (e refl)
              ∙ sym (run_map run_op (fold_on B t) (B.shares path) s)
          go false e = refl

      folds_same : (ts : List ℕ) → AllByRecursion (λ t. t < length p.sched.tensors) ts → (s : State) → run_all (op_run l) (flat_map (plan.folds_on M path) ts) s ≡ run_ops (flat_map (folds_on B path) (lefts B ts)) s
      folds_same ts h s =
          run_flat (op_run l) (plan.folds_on M path) ts s
          ∙ run_filter (λ t. nat_eq t (output_of p.sched.nest)) (λ t. run_all (op_run l) (plan.folds_on M path t)) (λ t. run_ops (folds_on B path t)) ts
          (all_map (λ t. t < length p.sched.tensors) (λ t. (u : State) → run_all (op_run l) (plan.folds_on M path t) u ≡ (if nat_eq t (output_of p.sched.nest) then run_ops (folds_on B path t) u else Some u)) folds_one ts h) s
          ∙ sym (run_flat run_op (folds_on B path) (lefts B ts) s)

      -- two lists, one after the other, that run alike
      both_same : (os qs : List Op) (cs ds : List Move) → ((s : State) → run_all (op_run l) os s ≡ run_ops cs s) → ((s : State) → run_all (op_run l) qs s ≡ run_ops ds s)
          → (s : State) → run_all (op_run l) (os ++ qs) s ≡ run_ops (cs ++ ds) s
      both_same os qs cs ds f g s =
          run_append (op_run l) os qs s ∙ ap (λ o. and_then o (run_all (op_run l) qs)) (f s) ∙ ap (and_then (run_ops cs s)) (λ i u. g u i) ∙ sym (run_append run_op cs ds s)

      -- what comes before all that is deeper
      opened_same : (s : State) → run_all (op_run l) (plan.opened M path) s ≡ run_ops (opened B (length path) path) s
      opened_same s =
          ap (λ ts. run_all (op_run l) (map (λ t. M.alloc t path) ts ++ flat_map (plan.copies_on M path) ts) s) moved_alike
          ∙ both_same (map (λ t. M.alloc t path) (moved B (length path))) (flat_map (plan.copies_on M path) (moved B (length path)))
          (map (alloc_on B path) (moved B (length path))) (flat_map (copies_on B path) (rights B (moved B (length path))))
          (allocs_same (moved B (length path)) moved_exist) (copies_same (moved B (length path)) moved_exist) s

      -- and what comes after it
      closed_same : (s : State) → run_all (op_run l) (plan.closed M path) s ≡ run_ops (closed B (length path) path) s
      closed_same s =
          ap (λ ts. run_all (op_run l) (flat_map (plan.folds_on M path) ts ++ map (λ t. M.free t path) ts) s) moved_alike
          ∙ both_same (flat_map (plan.folds_on M path) (moved B (length path))) (map (λ t. M.free t path) (moved B (length path)))
          (flat_map (folds_on B path) (lefts B (moved B (length path)))) (map (free_on B) (moved B (length path)))
          (folds_same (moved B (length path)) moved_exist) (frees_same (moved B (length path)) moved_exist) s

      -- a level around something
      level_same : (inner : List Op) (moves : List Move) → ((s : State) → run_all (op_run l) inner s ≡ run_ops moves s)
          → (s : State) → run_all (op_run l) (plan.opened M path ++ (inner ++ plan.closed M path)) s ≡ run_ops (opened B (length path) path ++ moves ++ closed B (length path) path) s
      level_same inner moves f s =
          ap (λ os. run_all (op_run l) os s) (sym (append_assoc (plan.opened M path) inner (plan.closed M path)))
          ∙ both_same (plan.opened M path ++ inner) (plan.closed M path) (opened B (length path) path ++ moves) (closed B (length path) path)
          (both_same (plan.opened M path) inner (opened B (length path) path) moves opened_same f) closed_same s

    -- a block
    pub block_same : (d : ℕ) (path : List ℕ) (n : ℕ) → node_of l.machine p.sched path ≡ n → ((q : List ℕ) (i : ℕ) → length path ≤ length q → node_of l.machine p.sched (q ++ i ∷ []) ≡ node_of l.machine p.sched q)
        → (s : State) → run_all (op_run l) (plan.block M d path) s ≡ run_ops (block (blocks_at n) d (length path) path) s
    block_same zero path n e stays s =
        level_same path (M.task path ∷ []) (Task ((blocks_at (node_of l.machine p.sched path)).task path) ∷ [])
        (λ u. ap (λ o. and_then o (λ v. Some v)) (task_same path u)) s
        ∙ ap (λ m. run_ops (block (blocks_at m) zero (length path) path) s) e
    block_same (suc d) path n e stays s =
        level_same path (flat_map (λ i. plan.block M d (path ++ i ∷ [])) (M.values path))
        (flat_map (λ i. block (blocks_at (node_of l.machine p.sched path)) d (suc (length path)) (path ++ i ∷ [])) (M.values path))
        (λ u.
        run_flat (op_run l) (λ i. plan.block M d (path ++ i ∷ [])) (M.values path) u
        ∙ run_same (λ i. run_all (op_run l) (plan.block M d (path ++ i ∷ []))) (λ i. run_ops (block (blocks_at (node_of l.machine p.sched path)) d (suc (length path)) (path ++ i ∷ [])))
        (λ i v.
        block_same d (path ++ i ∷ []) (node_of l.machine p.sched path) (stays path i (omega arith)) (λ q j h. stays q j (let f = longer i in omega (arith, f, h))) v
        ∙ ap (λ j. run_ops (block (blocks_at (node_of l.machine p.sched path)) d j (path ++ i ∷ [])) v) (longer i))
        (M.values path) u
        ∙ sym (run_flat run_op (λ i. block (blocks_at (node_of l.machine p.sched path)) d (suc (length path)) (path ++ i ∷ [])) (M.values path) u))
        s
        ∙ ap (λ m. run_ops (block (blocks_at m) (suc d) (length path) path) s) e
      where
        longer : (i : ℕ) → length (path ++ i ∷ []) ≡ suc (length path)
        longer i = let f = length-append path (i ∷ []) in omega (arith, f)
