-- The most words of what is opened on the paths of a statement, by node.
use Rattle.std.proofs.Common.{◌≡◌, ℕ, zero, suc, ◌+◌, ◌*◌, ◌<◌, ◌≤◌, Bool, true, false, List, [], ◌∷◌, ◌++◌, length, map, take, get_or, refl, ap, sym, ◌∙◌, subst, arith}
use Rattle.std.specs.Prelude.{◌-◌, if◌then◌else◌, slice_index, sum_by}
use Rattle.std.specs.List.{AllByRecursion, flat_map}
use Rattle.std.proofs.lemmas.List.{take_all}
use Rattle.std.proofs.lemmas.List.Sums.{sum_by_more, sum_by_push}
use Rattle.dt_base.specs.Ranges.{below}
use Rattle.dt_nest.specs.Schedule.{Schedule}
use Rattle.dt_nest.specs.Paths.{depth_of, paths_of, task_depth, tensors_in}
use Rattle.dt_nest.proofs.Each.{all_get}
use Rattle.dt_place.specs.Machines.{nodes_of}
use Rattle.dt_copy.specs.declared.piece_list.Piece.{Piece}
use Rattle.dt_plan.specs.declared.opened.Opened.{Opened}
use Rattle.dt_plan.specs.declared.opened.Opened.TheVariants.{Scratch, Works}
use Rattle.dt_plan.specs.Bounds.{node_paths, part_words, scratch_words, work_words}
use Rattle.dt_plan.specs.declared.ops.Op.{Op}
use Rattle.dt_plan.specs.Brackets.{Outline, has_some, paths_from, visited}
use Rattle.dt_plan.specs.Layouts.{Layout, node_of}
use Rattle.dt_plan.specs.NodeWords.{IsOpened, Raises, capped, most_on, opened_depth, opened_on, opened_words, row_of}
use Rattle.dt_plan.specs.Operations.{key_of, work_size}
use Rattle.dt_plan.specs.Statements.{StatementView, HasHomes, FitsPart, outline_at}
use Rattle.dt_plan.proofs.Depths.{deepest_is, depths_below}
use Rattle.dt_plan.proofs.Meeting.{node_at}
use Rattle.dt_plan.proofs.NodeRows.{greatest-same, risen, row_same, rows_summed}
use Rattle.dt_plan.proofs.OutlineFacts.{is_outline, tensors_before}
use Rattle.dt_plan.proofs.Outlines.{paths_are}

-- it is opened outside the task
within : (s : Schedule) (o : Opened) → IsOpened s o → opened_depth s o ≤ task_depth s
within s (Scratch t) h = h.1
within s (Works words) h = omega arith

module _ (v : StatementView) (homes : HasHomes v.layout) (part : FitsPart v.layout v.part) (o : Opened) (opened : IsOpened v.part.sched o) where
  -- the paths on which it is opened
  opened_paths : (b : Bool) → visited (outline_at v) ≡ b → paths_of v.layout.stored v.part.sched (opened_depth v.part.sched o) ≡ (if b then paths_from (outline_at v) (opened_depth v.part.sched o) [] else [])
  opened_paths b e =
      (let deep = deepest_is v.part.sched part.lawful in let l = within v.part.sched o opened in
      paths_are key_of node_at (outline_at v) (is_outline v.layout homes.machine v.number v.part part.lawful part.visits) (opened_depth v.part.sched o) (omega (arith, deep, l)))
      ∙ ap (λ (c : Bool). if c then paths_from (outline_at v) (opened_depth v.part.sched o) [] else []) e

  -- there are none
  pub none_opened : (row : List ℕ) → visited (outline_at v) ≡ false → row ≡ row_of (nodes_of v.layout.machine) (λ n. 0) → row ≡ row_of (nodes_of v.layout.machine) (opened_words v.layout v.part.sched o)
  none_opened row e r =
      r
      ∙ row_same (nodes_of v.layout.machine) (λ n. 0) (opened_words v.layout v.part.sched o)
      (λ n l. sym (ap (λ (ps : List (List ℕ)). most_on (opened_on v.layout v.part.sched o) (node_of v.layout.machine v.part.sched) n ps) (opened_paths false e)))

  -- the row was raised along them
  pub all_opened : (old new : List ℕ) → visited (outline_at v) ≡ true → old ≡ row_of (nodes_of v.layout.machine) (λ n. 0)
      → Raises (λ p. capped (opened_on v.layout v.part.sched o p)) (node_of v.layout.machine v.part.sched) (paths_from (outline_at v) (opened_depth v.part.sched o) []) old new
      → new ≡ row_of (nodes_of v.layout.machine) (opened_words v.layout v.part.sched o)
  all_opened old new e r raised =
      risen (opened_on v.layout v.part.sched o) (node_of v.layout.machine v.part.sched) (paths_from (outline_at v) (opened_depth v.part.sched o) []) (nodes_of v.layout.machine) old new r raised
      ∙ row_same (nodes_of v.layout.machine) (λ n. most_on (opened_on v.layout v.part.sched o) (node_of v.layout.machine v.part.sched) n (paths_from (outline_at v) (opened_depth v.part.sched o) [])) (opened_words v.layout v.part.sched o)
      (λ n l. sym (ap (λ (ps : List (List ℕ)). most_on (opened_on v.layout v.part.sched o) (node_of v.layout.machine v.part.sched) n ps) (opened_paths true e)))

-- Workspaces ------------------------------------------------------------------------------------------------------------

module _ (l : Layout) (s : Schedule) (words : ℕ) (is : words ≡ sum_by (work_size s) (below (length s.works))) where
  -- there are no words
  pub no_works : (row : List ℕ) → words ≡ 0 → row ≡ row_of (nodes_of l.machine) (λ n. 0) → row ≡ row_of (nodes_of l.machine) (work_words l s)
  no_works row z r = r ∙ row_same (nodes_of l.machine) (λ n. 0) (work_words l s) (λ n b. go (has_some (node_paths l s (task_depth s) n)))
    where
      go : (c : Bool) → 0 ≡ (if c then sum_by (work_size s) (below (length s.works)) else 0)
      go true = sym z ∙ is
      go false = refl

  -- those that are opened with the tasks
  pub some_works : (row : List ℕ) → row ≡ row_of (nodes_of l.machine) (opened_words l s (Works words)) → row ≡ row_of (nodes_of l.machine) (work_words l s)
  some_works row r =
      r
      ∙ row_same (nodes_of l.machine) (opened_words l s (Works words)) (work_words l s)
      (λ n b. greatest-same words (node_paths l s (task_depth s) n) ∙ ap (λ (w : ℕ). if has_some (node_paths l s (task_depth s) n) then w else 0) is)

-- one workspace more
pub sum_below-more : (f : ℕ → ℕ) (n : ℕ) → sum_by f (below (n + 1)) ≡ sum_by f (below n) + f n
sum_below-more f n = ap (λ (k : ℕ). sum_by f (below k)) (one n) ∙ sum_by_push f (below n) n
  where
    one : (k : ℕ) → k + 1 ≡ suc k
    one k = omega arith

-- Parts -----------------------------------------------------------------------------------------------------------------

-- a tensor of the schedule may be opened
pub tensor_opened : (s : Schedule) (tensors : List ℕ) (k : ℕ) → tensors ≡ tensors_in s → k < length tensors → IsOpened s (Scratch (get_or tensors k 0))
tensor_opened s tensors k e l = (
  all_get (λ t. t < length s.tensors) tensors k 0 (subst (λ (ts : List ℕ). AllByRecursion (λ t. t < length s.tensors) ts) (sym e) (tensors_before s)) l,
  all_get (λ t. depth_of s t ≤ task_depth s) tensors k 0 (subst (λ (ts : List ℕ). AllByRecursion (λ t. depth_of s t ≤ task_depth s) ts) (sym e) (depths_below s)) l,
)

module _ (v : StatementView) (tensors : List ℕ) where
  -- what the workspaces and the first tensors cost
  abbrev pub so_far : ℕ → ℕ → ℕ
  so_far k n = work_words v.layout v.part.sched n + sum_by (scratch_words v.layout v.part.sched n) (take k tensors)

  pub part_starts : (row : List ℕ) → row ≡ row_of (nodes_of v.layout.machine) (work_words v.layout v.part.sched) → row ≡ row_of (nodes_of v.layout.machine) (so_far 0)
  part_starts row e = e ∙ row_same (nodes_of v.layout.machine) (work_words v.layout v.part.sched) (so_far 0) (λ n l. omega arith)

  pub part_goes : (k : ℕ) (row scratch new : List ℕ) → k < length tensors → row ≡ row_of (nodes_of v.layout.machine) (so_far k) → scratch ≡ row_of (nodes_of v.layout.machine) (opened_words v.layout v.part.sched (Scratch (get_or tensors k 0)))
      → new ≡ map (λ n. capped (capped (slice_index row n) + capped (slice_index scratch n))) (below (length row)) → new ≡ row_of (nodes_of v.layout.machine) (so_far (k + 1))
  part_goes k row scratch new l a b e =
      e ∙ rows_summed (nodes_of v.layout.machine) (so_far k) (opened_words v.layout v.part.sched (Scratch (get_or tensors k 0))) row scratch a b
      ∙ row_same (nodes_of v.layout.machine) (λ n. so_far k n + opened_words v.layout v.part.sched (Scratch (get_or tensors k 0)) n) (so_far (k + 1))
      (λ n m. (let more = sum_by_more (scratch_words v.layout v.part.sched n) tensors k 0 l in omega (arith, more)))

  pub part_ends : (k : ℕ) (row : List ℕ) → length tensors ≤ k → tensors ≡ tensors_in v.part.sched → row ≡ row_of (nodes_of v.layout.machine) (so_far k) → row ≡ row_of (nodes_of v.layout.machine) (λ n. part_words v.layout n v.part)
  part_ends k row l e a =
      a
      ∙ row_same (nodes_of v.layout.machine) (so_far k) (λ n. part_words v.layout n v.part)
      (λ n m. (let all = ap (λ (ts : List ℕ). sum_by (scratch_words v.layout v.part.sched n) ts) (take_all k tensors l ∙ e) in omega (arith, all)))

-- Paths -----------------------------------------------------------------------------------------------------------------

-- the paths of one loop more begin with a value
paths_open : (m : Outline Op Piece) (k : ℕ) (p : List ℕ) → (k ≡ 0 → ⊥) → paths_from m k p ≡ flat_map (λ i. paths_from m (k - 1) (p ++ (i ∷ []))) (m.values p)
paths_open m zero p h = absurd (h refl)
paths_open m (suc k) p h = ap (λ (j : ℕ). flat_map (λ i. paths_from m j (p ++ (i ∷ []))) (m.values p)) (one k)
  where
    one : (k : ℕ) → k ≡ suc k - 1
    one k = omega arith

-- the row was raised along all of them
pub raised_all : (words node : List ℕ → ℕ) (m : Outline Op Piece) (k : ℕ) (p values : List ℕ) (i : ℕ) (old new : List ℕ) → (k ≡ 0 → ⊥) → values ≡ m.values p → length values ≤ i
    → Raises words node (flat_map (λ j. paths_from m (k - 1) (p ++ (j ∷ []))) (take i values)) old new → Raises words node (paths_from m k p) old new
raised_all words node m k p values i old new h e l r =
    subst (λ (ps : List (List ℕ)). Raises words node ps old new) (ap (λ (vs : List ℕ). flat_map (λ j. paths_from m (k - 1) (p ++ (j ∷ []))) vs) (take_all i values l ∙ e) ∙ sym (paths_open m k p h)) r

-- Homes -----------------------------------------------------------------------------------------------------------------

-- one tensor more
pub homes_more : (f : ℕ → ℕ) (t words cost count a b new : ℕ) → words ≡ capped (sum_by f (below t)) → cost ≡ a → count ≡ b → f t ≡ a * b → new ≡ capped (words + cost * count) → new ≡ capped (sum_by f (below (t + 1)))
homes_more f t words cost count a b new e p q is h =
    let same : cost * count ≡ a * b = ap (λ (x : ℕ). x * count) p ∙ ap (λ (y : ℕ). a * y) q in
    let more = sum_below-more f t in
    omega (arith, e, same, is, h, more)
