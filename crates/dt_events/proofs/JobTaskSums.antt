-- A task adds its path's amounts to the left tensor's scratch.
use Rattle.std.proofs.Common.{◌≡◌, ◌≢◌, ℕ, suc, ◌+◌, ◌%◌, ◌^◌, ◌<◌, ◌≤◌, Bool, true, false, ◌&&◌, ◌||◌, List, [], ◌∷◌, length, map, Option, Some, None, is_some, refl, sym, ap, ap₂, ◌∙◌, subst, ⊎_elim, eqb-true, eq-eqb, arith, if◌then◌else◌}
use Rattle.std.specs.Prelude.{nat_eq, nat_lt, slice_get, unwrap_or}
use Rattle.std.specs.List.{AllByRecursion, list_any}
use Rattle.std.specs.Str.{bytes_eq}
use Rattle.std.proofs.lemmas.Bool.{and_parts, and_from, cases_Bool, cases_lt, lt-ltb, ltb-true}
use Rattle.dt_base.specs.Ranges.{below}
use Rattle.dt_runs.specs.Sets.{contains}
use Rattle.dt_runs.proofs.SetLemmas.{contains-filter}
use Rattle.dt_runs.proofs.BelowSets.{contains-below}
use Rattle.dt_model.specs.Positions.{StoredTensor, coords_at, place_in, tensor_at}
use Rattle.dt_model.specs.declared.stmt.Access.{Access}
use Rattle.dt_model.specs.declared.stmt.Term.{Term}
use Rattle.dt_nest.specs.declared.parts.Work.{Work}
use Rattle.dt_nest.specs.Tree.{accesses_of, read_accesses}
use Rattle.dt_nest.specs.Schedule.{Schedule}
use Rattle.dt_nest.specs.Meaning.{Env, Entries}
use Rattle.dt_nest.specs.World.{world_of}
use Rattle.dt_nest.specs.Outputs.{output_of, reads_of}
use Rattle.dt_nest.specs.Paths.{depth_of, tensors_in, task_depth, sum_on}
use Rattle.dt_nest.specs.Questions.{accesses_tensor}
use Rattle.dt_nest.specs.Visits.{Item, IsReset, IsVisit, visits_of, needed_of, environments, is_accessed, touches, IsPath}
use Rattle.dt_nest.specs.Unit as own
use Rattle.dt_nest.proofs.PathSums.{sums_read}
use Rattle.dt_bounds.specs.TaskUnits.{HoldsNeeded, Carries, units_after}
use Rattle.dt_bounds.proofs.PathAccesses.{IsFound, each_found, place_has}
use Rattle.dt_bounds.proofs.PathNeeds.{contains-needed}
use Rattle.dt_bounds.proofs.PathHeld.{tasks_are_defined, path_resets}
use Rattle.dt_bounds.proofs.PathTasks.{tasks_leave_others, tasks_add_the_sum}
use Rattle.dt_argument.specs.Frames.{grown}
use Rattle.dt_argument.proofs.Shapes.{if_true, if_false}
use Rattle.dt_place.specs.Machines.{nodes_of}
use Rattle.dt_plan.specs.declared.parts.Part.{Part}
use Rattle.dt_plan.specs.declared.touches.Buffer.{Buffer}
use Rattle.dt_plan.specs.declared.touches.Buffer.TheVariants.{Scratch}
use Rattle.dt_plan.specs.Layouts.{Layout}
use Rattle.dt_plan.specs.Footprints.{buffer_by}
use Rattle.dt_plan.proofs.Depths.{depths_below}
use Rattle.dt_events.specs.Conflicts.{is_same_buffer}
use Rattle.dt_events.specs.State.{Cell, Word, Sign, State, is_of, own_of, with_own}
use Rattle.dt_events.specs.StateLaws.{IsRunnable}
use Rattle.dt_events.specs.Placed.{IsPlaced, HasRoom, AreNumbers}
use Rattle.dt_events.proofs.Cells.{same_buffer_true, word_is_of}
use Rattle.dt_events.proofs.OwnCells.{IsOwn, IsOther, own_or_other, buffer_by_same, scratch_by}
use Rattle.dt_events.proofs.BlockLists.{not_true}
use Rattle.dt_events.proofs.BlockPlans.{Blocks, scratch_target, home_target, target, amount_at, grown_by, IsReady, TaskAdds}
use Rattle.dt_events.proofs.BlockRuns.{grown_none}
use Rattle.dt_events.proofs.JobBlocks.{path_amount, blocks_at}
use Rattle.dt_events.proofs.JobServed.{left_exists, needed_exists, blocks_planned}
use Rattle.dt_events.proofs.JobTasks.{items_run, no_word, items_others}
use Rattle.dt_events.proofs.VisitedLeaves.{EachLeaf, LeafHas, path_leaves, leaf_accesses}

-- What is needed is accessed -------------------------------------------------------------------------------------------------

-- where a test that some element passes gives a fact of each that passes, the fact holds
some_gives : {X : Type 0} (Q : Type 0) (P : X → Type 0) (f : X → Bool) → ((x : X) → P x → f x ≡ true → Q) → (xs : List X) → AllByRecursion P xs → list_any f xs ≡ true → Q
some_gives Q P f g [] h e = cc
some_gives Q P f g (x ∷ xs) h e = go (f x) refl e (some_gives Q P f g xs h.1)
  where
    go : (b : Bool) → f x ≡ b → (b || list_any f xs) ≡ true → (list_any f xs ≡ true → Q) → Q
    go true i k again = g x h.0 i
    go false i k again = again k

-- what holds of everything
all_any : {X : Type 0} (xs : List X) → AllByRecursion (λ x. Unit {0}) xs
all_any [] = tt
all_any (x ∷ xs) = (tt, all_any xs)

module _ (stored : List StoredTensor) (s : Schedule) where
  -- each access of a leaf is one of the nest
  abbrev LeafFound : Access → List Term → Type 0
  LeafFound lhs terms = AllByRecursion (IsFound (accesses_of s.nest)) (lhs ∷ read_accesses terms) × AllByRecursion (λ (a : Access). Unit {0}) (read_accesses terms)

  leaves_found : EachLeaf LeafFound s.nest
  leaves_found = leaf_accesses (IsFound (accesses_of s.nest)) (λ a. Unit {0}) s.nest (each_found (accesses_of s.nest)) (all_any (reads_of s.nest))

  item_accesses : (t : ℕ) (c : List ℕ) (item : Item) → LeafHas LeafFound item → touches (world_of stored s) s.derived t c item ≡ true → accesses_tensor s.nest t ≡ true
  item_accesses t c (IsReset work) h e = cc
  item_accesses t c (IsVisit visit) h e =
      some_gives (accesses_tensor s.nest t ≡ true) (λ (val : Env). Unit {0}) (λ val. is_accessed t c val (visit.leaf.lhs ∷ read_accesses visit.leaf.terms))
      (λ val u f. some_gives (accesses_tensor s.nest t ≡ true) (IsFound (accesses_of s.nest)) (λ (a : Access). nat_eq a.tensor t && bytes_eq (map val a.vars) c)
      (λ a found g. found (λ b. nat_eq b.tensor t) (and_parts (nat_eq a.tensor t) (bytes_eq (map val a.vars) c) g).0) (visit.leaf.lhs ∷ read_accesses visit.leaf.terms) h.0 f)
      (environments (world_of stored s) s.derived visit) (all_any (environments (world_of stored s) s.derived visit)) e

  -- a tensor of which a path needs a word is accessed
  needed_accessed : (t w : ℕ) (path : List ℕ) → contains (needed_of stored s t path) w ≡ true → accesses_tensor s.nest t ≡ true
  needed_accessed t w path h =
      some_gives (accesses_tensor s.nest t ≡ true) (LeafHas LeafFound) (touches (world_of stored s) s.derived t (coords_at (tensor_at stored t) w)) (item_accesses t (coords_at (tensor_at stored t) w)) (visits_of stored s path)
      (path_leaves LeafFound stored s path leaves_found)
      (and_parts (nat_lt w (length (tensor_at stored t).coords)) (list_any (touches (world_of stored s) s.derived t (coords_at (tensor_at stored t) w)) (visits_of stored s path)) (sym (contains-needed stored s t path w) ∙ h)).1

-- Tasks ----------------------------------------------------------------------------------------------------------------------

module _ (l : Layout) (k : ℕ) (p : Part) (x : Entries) (fit : IsRunnable l p) (placed : IsPlaced l) (numbers : AreNumbers l x) (n : ℕ) (exists : n < nodes_of l.machine) (workless : p.sched.works ≡ []) (room : HasRoom l p) where
  -- the statement's blocks on the node
  abbrev B : Blocks
  B = blocks_at l k p x n

  -- its schedule, and its left tensor
  abbrev s : Schedule
  s = p.sched

  abbrev out : ℕ
  out = output_of p.sched.nest

  -- a moved tensor is moved outside the task
  is_outside : (t : ℕ) → contains (tensors_in s) t ≡ true → (j : ℕ) → task_depth s ≤ j → B.depth t < suc j
  is_outside t h j deep =
      let a = and_parts (contains (below (length s.tensors)) t) (accesses_tensor s.nest t) (sym (contains-filter (accesses_tensor s.nest) (below (length s.tensors)) t) ∙ h) in
      let small : t < length s.tensors = ltb-true t (length s.tensors) (sym (contains-below (length s.tensors) t) ∙ a.0) in
      let most : depth_of s t ≤ task_depth s = has_all (λ u. depth_of s u ≤ task_depth s) (tensors_in s) (depths_below s) t h in
      subst (λ (d : ℕ). d < suc j) (sym (if_true (nat_lt t (length s.tensors)) (depth_of s t) 0 (lt-ltb t (length s.tensors) small))) (omega (arith, most, deep))
    where
      has_all : (P : ℕ → Type 0) (ts : List ℕ) → AllByRecursion P ts → (t : ℕ) → contains ts t ≡ true → P t
      has_all P [] f t e = cc
      has_all P (u ∷ ts) f t e =
          ⊎_elim
          (λ (q : nat_eq u t ≡ true). subst P (eqb-true u t q) f.0)
          (λ (q : nat_eq u t ≡ false). has_all P ts f.1 t (let g : (nat_eq u t || contains ts t) ≡ contains ts t = ap (λ b. b || contains ts t) q in sym g ∙ e))
          (cases_Bool (nat_eq u t))

  -- a tensor of which a word is needed is moved
  is_needed : (t w : ℕ) (path : List ℕ) → t < length s.tensors → contains (needed_of l.stored s t path) w ≡ true → contains (tensors_in s) t ≡ true
  is_needed t w path h need =
      contains-filter (accesses_tensor s.nest) (below (length s.tensors)) t
      ∙ and_from (contains (below (length s.tensors)) t) (accesses_tensor s.nest t) (contains-below (length s.tensors) t ∙ lt-ltb t (length s.tensors) h) (needed_accessed l.stored s t w path need)

  module _ (path : List ℕ) (is_path : IsPath s path) (deep : task_depth s ≤ length path) (st : State) (ready : IsReady B (suc (length path)) path st) where
    -- what the task sees
    abbrev o : own.State
    o = own_of l k n st

    -- a needed word of it
    own_right : (t w : ℕ) → t < length s.tensors → t ≢ out → contains (needed_of l.stored s t path) w ≡ true → o (own.Word t w) ≡ Some (x t (coords_at (tensor_at l.stored t) w))
    own_right t w h d need =
        let at : contains (tensors_in s) t ≡ true = is_needed t w path h need in
        ap (λ (b : Buffer). st (Word n b w)) (scratch_by l k t (subst (λ (m : ℕ). t < m) fit.tensors h)) ∙ ready.right t w at d (is_outside t at (length path) deep) need

    own_left : (w : ℕ) → contains (needed_of l.stored s out path) w ≡ true → is_some (o (own.Word out w)) ≡ true
    own_left w need =
        let h : out < length s.tensors = left_exists l k p x fit placed numbers n exists in
        let at : contains (tensors_in s) out ≡ true = is_needed out w path h need in
        ap (λ (b : Buffer). is_some (st (Word n b w))) (scratch_by l k out (subst (λ (m : ℕ). out < m) fit.tensors h)) ∙ ready.left w (is_outside out at (length path) deep) need

    -- so the node holds what the task needs
    holds : HoldsNeeded l.stored s path o
    holds = record {
      words = λ t w h need.
          ⊎_elim
          (λ (e : nat_eq t out ≡ true). subst (λ (u : ℕ). contains (needed_of l.stored s u path) w ≡ true → is_some (o (own.Word u w)) ≡ true) (sym (eqb-true t out e)) (own_left w) need)
          (λ (e : nat_eq t out ≡ false). ap is_some (own_right t w h (λ q. let z : nat_eq t out ≡ true = eq-eqb t out q in let no : true ≡ false = sym z ∙ e in cc) need))
          (cases_Bool (nat_eq t out));
      works = λ u w y e h. let z : slice_get no_works u ≡ Some y = ap (λ (ws : List Work). slice_get ws u) (sym workless) ∙ e in absurd (cc);
      signs = λ u h. let z : length s.works ≡ 0 = ap (λ (ws : List Work). length ws) workless in absurd (omega (arith, h, z));
    }
      where
        no_works : List Work
        no_works = []

    -- the numbers that it holds
    abbrev seen : Entries
    seen t c = if nat_eq t out then own.number_in o out (own.word_of l.stored s out c) else x t c

    seen_left : (c : List ℕ) → seen out c ≡ own.number_in o out (own.word_of l.stored s out c)
    seen_left c = if_true (nat_eq out out) (own.number_in o out (own.word_of l.stored s out c)) (x out c) (eq-eqb out out refl)

    seen_right : (t : ℕ) (c : List ℕ) → t ≢ out → seen t c ≡ x t c
    seen_right t c d = if_false (nat_eq t out) (own.number_in o out (own.word_of l.stored s out c)) (x t c) (not_true (nat_eq t out) (λ e. d (eqb-true t out e)))

    -- what is present is its number
    some_number : (z : Option ℕ) → is_some z ≡ true → z ≡ Some (unwrap_or z 0)
    some_number None e = cc
    some_number (Some v) e = refl

    -- the word at some coordinates of a tensor is its position
    word_is_place : (t : ℕ) (c : List ℕ) → t < length s.tensors → own.word_of l.stored s t c ≡ place_in (tensor_at l.stored t) c
    word_is_place t c h = if_true (nat_lt t (length s.tensors)) (place_in (tensor_at l.stored t) c) _ (lt-ltb t (length s.tensors) h)

    carries : Carries l.stored s path o seen
    carries = record {
      held = λ t c w e need.
          ⊎_elim
          (λ (h : t < length s.tensors). word_held t c w h e (need h))
          (λ (h : length s.tensors ≤ t). let z : Some w ≡ None = sym e ∙ no_word l.stored s workless t c h in absurd (cc))
          (cases_lt t (length s.tensors));
      none = λ t c e.
          ⊎_elim
          (λ (q : nat_eq t out ≡ true). if_true (nat_eq t out) (own.number_in o out (own.word_of l.stored s out c)) (x t c) q ∙ ap (own.number_in o out) (subst (λ (u : ℕ). own.word_of l.stored s u c ≡ None) (eqb-true t out q) e))
          (λ (q : nat_eq t out ≡ false).
          if_false (nat_eq t out) (own.number_in o out (own.word_of l.stored s out c)) (x t c) q
          ∙ ⊎_elim
          (λ (h : t < length s.tensors). numbers.zeros t c (sym (word_is_place t c h) ∙ e))
          (λ (h : length s.tensors ≤ t). numbers.others t c (subst (λ (m : ℕ). m ≤ t) fit.tensors h))
          (cases_lt t (length s.tensors)))
          (cases_Bool (nat_eq t out));
    }
      where
        word_held : (t : ℕ) (c : List ℕ) (w : ℕ) → t < length s.tensors → own.word_of l.stored s t c ≡ Some w → contains (needed_of l.stored s t path) w ≡ true → o (own.Word t w) ≡ Some (seen t c)
        word_held t c w h e need =
            ⊎_elim
            (λ (q : nat_eq t out ≡ true).
            let f : t ≡ out = eqb-true t out q in
            let there : is_some (o (own.Word t w)) ≡ true = subst (λ (u : ℕ). contains (needed_of l.stored s u path) w ≡ true → is_some (o (own.Word u w)) ≡ true) (sym f) (own_left w) need in
            some_number (o (own.Word t w)) there
            ∙ ap Some (ap (λ (u : ℕ). unwrap_or (o (own.Word u w)) 0) f ∙ ap (own.number_in o out) (sym (subst (λ (u : ℕ). own.word_of l.stored s u c ≡ Some w) f e)))
            ∙ ap Some (sym (if_true (nat_eq t out) (own.number_in o out (own.word_of l.stored s out c)) (x t c) q)))
            (λ (q : nat_eq t out ≡ false).
            let d : t ≢ out = λ f. (let z : nat_eq t out ≡ true = eq-eqb t out f in let no : true ≡ false = sym z ∙ q in cc) in
            own_right t w h d need
            ∙ ap (λ (b : List ℕ). Some (x t b)) (place_has (tensor_at l.stored t) c w (sym (word_is_place t c h) ∙ e)).1
            ∙ ap Some (sym (seen_right t c d)))
            (cases_Bool (nat_eq t out))

    -- what the task's units make of a needed word of the left tensor
    added : (w : ℕ) → contains (needed_of l.stored s out path) w ≡ true → units_after l.stored s (visits_of l.stored s path) o (own.Word out w) ≡ grown (path_amount l k p x path w) (o (own.Word out w))
    added w need =
        let h : out < length s.tensors = left_exists l k p x fit placed numbers n exists in
        let e : own.word_of l.stored s out (coords_at (tensor_at l.stored out) w) ≡ Some w =
        word_is_place out (coords_at (tensor_at l.stored out) w) h ∙ placed.place out w (needed_exists l k p x fit placed numbers n exists out w path need) in
        let there : o (own.Word out w) ≡ Some (unwrap_or (o (own.Word out w)) 0) = some_number (o (own.Word out w)) (own_left w need) in
        let same : seen out (coords_at (tensor_at l.stored out) w) ≡ unwrap_or (o (own.Word out w)) 0 = seen_left (coords_at (tensor_at l.stored out) w) ∙ ap (own.number_in o out) e in
        let small : unwrap_or (o (own.Word out w)) 0 < 2 ^ 64 = ready.small (Word n (buffer_by l k out) w) (unwrap_or (o (own.Word out w)) 0) there in
        let sums : sum_on l.stored s path seen (coords_at (tensor_at l.stored out) w) % 2 ^ 64 ≡ sum_on l.stored s path x (coords_at (tensor_at l.stored out) w) % 2 ^ 64 =
        sums_read s l.stored path seen x fit.lawful fit.unread (λ t b i d. ap (λ (v : ℕ). v % 2 ^ 64) (seen_right t b d)) (coords_at (tensor_at l.stored out) w) in
        let amount : path_amount l k p x path w ≡ sum_on l.stored s path x (coords_at (tensor_at l.stored out) w) = if_true (contains (needed_of l.stored s out path) w) (sum_on l.stored s path x (coords_at (tensor_at l.stored out) w)) 0 need in
        tasks_add_the_sum s l.stored path o seen fit.lawful fit.unread is_path (room path is_path) carries (coords_at (tensor_at l.stored out) w) w e need (subst (λ (v : ℕ). v < 2 ^ 64) (sym same) small)
        ∙ ap Some (mod_same (seen out (coords_at (tensor_at l.stored out) w)) (unwrap_or (o (own.Word out w)) 0) (sum_on l.stored s path seen (coords_at (tensor_at l.stored out) w)) (sum_on l.stored s path x (coords_at (tensor_at l.stored out) w)) (path_amount l k p x path w) same sums amount)
        ∙ ap (grown (path_amount l k p x path w)) (sym there)
      where
        mod_same : (a v f g b : ℕ) → a ≡ v → f % 2 ^ 64 ≡ g % 2 ^ 64 → b ≡ g → (a + f) % 2 ^ 64 ≡ (v + b) % 2 ^ 64
        mod_same a v f g b e h i = omega (arith, e, h, i)

    -- the cell is no word of the left tensor's scratch
    not_target : (c : Cell) → ((w : ℕ) → c ≡ Word n (buffer_by l k out) w → ⊥) → scratch_target B c ≡ None
    not_target (Sign m d) h = refl
    not_target (Word m d v) h =
        if_false (is_of n (Scratch k out) (Word m d v)) (Some v) None
        (not_true (is_of n (Scratch k out) (Word m d v)) (λ e.
        let q = and_parts (nat_eq n m) (is_same_buffer (Scratch k out) d) e in
        h v (ap₂ (λ a b. Word a b v) (sym (eqb-true n m q.0)) (sym (same_buffer_true (Scratch k out) d q.1) ∙ sym left_buffer))))
      where
        left_buffer : buffer_by l k out ≡ Scratch k out
        left_buffer = scratch_by l k out (subst (λ (m : ℕ). out < m) fit.tensors (left_exists l k p x fit placed numbers n exists))

    -- where the scratch is open it is what grows
    target_is : (c : Cell) → target B (suc (length path)) c ≡ scratch_target B c
    target_is c =
        if_true (nat_lt (B.depth out) (suc (length path))) (scratch_target B c) (home_target B c)
        (lt-ltb (B.depth out) (suc (length path)) (is_outside out (blocks_planned l k p x fit placed numbers n exists).written (length path) deep))

    -- a cell that stays, and is none of these words
    stays : (c : Cell) (z : Option ℕ) → z ≡ st c → ((w : ℕ) → c ≡ Word n (buffer_by l k out) w → ⊥) → z ≡ grown_by B (suc (length path)) (path_amount l k p x path) st c
    stays c z e h =
        e ∙ sym (ap (λ t. grown (amount_at (path_amount l k p x path) t) (st c)) (target_is c ∙ not_target c h) ∙ grown_none 0 (st c) (ready.small c) refl)

    -- what the task leaves at each cell
    left_at_cell : (c : Cell) → with_own l k n (units_after l.stored s (visits_of l.stored s path) o) st c ≡ grown_by B (suc (length path)) (path_amount l k p x path) st c
    left_at_cell c =
        ⊎_elim
        (λ (q : IsOwn l k n st c).
        q.given (units_after l.stored s (visits_of l.stored s path) o)
        ∙ subst (λ (d : Cell). units_after l.stored s (visits_of l.stored s path) o (own.Word q.tensor q.word) ≡ grown_by B (suc (length path)) (path_amount l k p x path) st d) (sym q.cell) (own_cell q.tensor q.word))
        (λ (q : IsOther l k n st c). stays c (with_own l k n (units_after l.stored s (visits_of l.stored s path) o) st c) (q.stays (units_after l.stored s (visits_of l.stored s path) o)) (q.apart out))
        (own_or_other l k n st c)
      where
        same_parts : (t w v : ℕ) → Word n (buffer_by l k t) w ≡ Word n (buffer_by l k out) v → buffer_by l k t ≡ buffer_by l k out
        same_parts t w v e = cc

        left_target : (w : ℕ) → scratch_target B (Word n (buffer_by l k out) w) ≡ Some w
        left_target w =
            ap (λ (b : Buffer). scratch_target B (Word n b w)) (scratch_by l k out (subst (λ (m : ℕ). out < m) fit.tensors (left_exists l k p x fit placed numbers n exists)))
            ∙ if_true (is_of n (Scratch k out) (Word n (Scratch k out) w)) (Some w) None (word_is_of n (Scratch k out) w)

        left_cell : (w : ℕ) → units_after l.stored s (visits_of l.stored s path) o (own.Word out w) ≡ grown (path_amount l k p x path w) (st (Word n (buffer_by l k out) w))
        left_cell w =
            ⊎_elim
            (λ (e : contains (needed_of l.stored s out path) w ≡ true). added w e)
            (λ (e : contains (needed_of l.stored s out path) w ≡ false).
            (tasks_leave_others l.stored s path o fit.lawful).unneeded w e
            ∙ sym (grown_none (path_amount l k p x path w) (st (Word n (buffer_by l k out) w)) (ready.small (Word n (buffer_by l k out) w))
            (ap (λ (v : ℕ). v % 2 ^ 64) (if_false (contains (needed_of l.stored s out path) w) (sum_on l.stored s path x (coords_at (tensor_at l.stored out) w)) 0 e))))
            (cases_Bool (contains (needed_of l.stored s out path) w))

        own_cell : (t w : ℕ) → units_after l.stored s (visits_of l.stored s path) o (own.Word t w) ≡ grown_by B (suc (length path)) (path_amount l k p x path) st (Word n (buffer_by l k t) w)
        own_cell t w =
            ⊎_elim
            (λ (e : nat_eq t out ≡ true).
            subst (λ (u : ℕ). units_after l.stored s (visits_of l.stored s path) o (own.Word u w) ≡ grown_by B (suc (length path)) (path_amount l k p x path) st (Word n (buffer_by l k u) w)) (sym (eqb-true t out e))
            (left_cell w ∙ ap (λ z. grown (amount_at (path_amount l k p x path) z) (st (Word n (buffer_by l k out) w))) (sym (target_is (Word n (buffer_by l k out) w) ∙ left_target w))))
            (λ (e : nat_eq t out ≡ false).
            let d : t ≢ out = λ f. (let z : nat_eq t out ≡ true = eq-eqb t out f in let no : true ≡ false = sym z ∙ e in cc) in
            stays (Word n (buffer_by l k t) w) (units_after l.stored s (visits_of l.stored s path) o (own.Word t w))
            (⊎_elim
            (λ (h : t < length s.tensors). (tasks_leave_others l.stored s path o fit.lawful).others t w h d)
            (λ (h : length s.tensors ≤ t). items_others l.stored s workless (visits_of l.stored s path) (path_resets l.stored s path fit.lawful.named) o t w h)
            (cases_lt t (length s.tensors)))
            (λ v f. d (buffer_by_same l k t out (same_parts t w v f))))
            (cases_Bool (nat_eq t out))

  -- a task adds its path's amounts
  pub task_adds : (path : List ℕ) → IsPath s path → task_depth s ≤ length path → TaskAdds B (length path) path
  task_adds path is_path deep st ready =
      items_run l k n p (visits_of l.stored s path) st (tasks_are_defined l.stored s path (own_of l k n st) fit.lawful (holds path is_path deep st ready))
      ∙ ap Some (λ i c. left_at_cell path is_path deep st ready c i)
