-- All units of an operation, kind by kind.
use Rattle.std.proofs.Common.{◌≡◌, ℕ, Bool, true, false, not, ◌&&◌, ◌||◌, List, [], ◌∷◌, length, Option, Some, None, is_some, refl, sym, ap, ◌∙◌, if◌then◌else◌}
use Rattle.std.specs.Prelude.{nat_eq, option_map, unwrap_or, slice_get}
use Rattle.std.proofs.lemmas.Bool.{and_parts}
use Rattle.dt_nest.specs.Visits.{Item, visits_of}
use Rattle.dt_nest.specs.Unit as own
use Rattle.dt_argument.specs.Frames.{grown}
use Rattle.dt_argument.proofs.OperationRuns.{and_then}
use Rattle.dt_plan.specs.declared.kind.Kind.TheVariants as kind
use Rattle.dt_plan.specs.declared.parts.Part.{Part}
use Rattle.dt_plan.specs.declared.touches.Buffer.{Buffer}
use Rattle.dt_plan.specs.declared.touches.Buffer.TheVariants.{Home}
use Rattle.dt_plan.specs.Layouts.{Layout}
use Rattle.dt_plan.specs.Operations.{op_on}
use Rattle.dt_plan.specs.Footprints.{buffer_by}
use Rattle.dt_events.specs.Conflicts.{is_same_buffer}
use Rattle.dt_events.specs.State.{Cell, Word, Sign, State, is_word_of, number_at, overwritten, added_to, with_buffer, without_buffer, own_of, with_own}
use Rattle.dt_events.specs.Units.{of_unit, are_present, copied, folded, item_can, item_next}
use Rattle.dt_events.proofs.Cells.{same_cell, same_cell_true}
use Rattle.dt_events.proofs.ListRuns.{steps_run, op_run, run_all, run_same, each_run}
use Rattle.dt_events.proofs.BlockMoves.{Alloc, Free, Copy, Fold, put, grow, copy_word, fold_word, run_op}

-- Cells --------------------------------------------------------------------------------------------------------------------

-- one of one word is that word
same_as_word : (n : ℕ) (b : Buffer) (w : ℕ) (c : Cell) → is_word_of n b (w ∷ []) c ≡ same_cell (Word n b w) c
same_as_word n b w (Sign m d) = refl
same_as_word n b w (Word m d v) = go (nat_eq n m) (is_same_buffer b d) (nat_eq w v)
  where
    go : (x y z : Bool) → ((x && y) && (z || false)) ≡ (x && (y && z))
    go true true true = refl
    go true true false = refl
    go true false z = refl
    go false y z = refl

-- a word that is present and is overwritten has the number
put_is : (n : ℕ) (b : Buffer) (w v : ℕ) (s : State) → is_some (s (Word n b w)) ≡ true → (c : Cell) → overwritten n b (w ∷ []) v s c ≡ put (Word n b w) v s c
put_is n b w v s h c = ap (λ t. if t then option_map (λ x. v) (s c) else s c) (same_as_word n b w c) ∙ go (same_cell (Word n b w) c) (λ e. ap (λ x. is_some (s x)) (sym (same_cell_true (Word n b w) c e)) ∙ h)
  where
    here : (x : Option ℕ) → is_some x ≡ true → option_map (λ y. v) x ≡ Some v
    here None e = cc
    here (Some y) e = refl

    go : (t : Bool) → (t ≡ true → is_some (s c) ≡ true) → (if t then option_map (λ x. v) (s c) else s c) ≡ (if t then Some v else s c)
    go true e = here (s c) (e refl)
    go false e = refl

-- a word that is added to has grown
grow_is : (n : ℕ) (b : Buffer) (w d : ℕ) (s : State) (c : Cell) → added_to n b (w ∷ []) d s c ≡ grow (Word n b w) d s c
grow_is n b w d s c = ap (λ t. if t then grown d (s c) else s c) (same_as_word n b w c)

-- what is the same where a test passes
if_alike : (t : Bool) (x y : State) → (t ≡ true → x ≡ y) → (if t then Some x else None) ≡ (if t then Some y else None)
if_alike true x y h = ap Some (h refl)
if_alike false x y h = refl

-- one item of a task of statement k on node n
abbrev pub item_step : Layout → ℕ → ℕ → Part → Item → State → Option State
item_step l k n p item s = if own.can_do l.stored p.sched item (own_of l k n s) then Some (with_own l k n (own.unit_of l.stored p.sched item (own_of l k n s)) s) else None

-- Kinds --------------------------------------------------------------------------------------------------------------------

module _ (l : Layout) (k n : ℕ) (path : List ℕ) (t other : ℕ) (words : List ℕ) (units : ℕ) where
  -- one unit alone
  one_step : (b : Bool) (x : State) → and_then (if b then Some x else None) (λ s. Some s) ≡ (if b then Some x else None)
  one_step true x = refl
  one_step false x = refl

  -- a test the other way round
  turned : (b : Bool) (x : State) → and_then (if not b then Some x else None) (λ s. Some s) ≡ (if b then None else Some x)
  turned true x = refl
  turned false x = refl

  -- a zero finds its home and clears it
  pub zero_is : (s : State) → op_run l (op_on kind.Zero k n path t other words units) s ≡ (if is_some (s (Sign n (Home t))) then Some (overwritten n (Home t) words 0 s) else None)
  zero_is s = one_step (is_some (s (Sign n (Home t)))) (overwritten n (Home t) words 0 s)

  -- an alloc opens a buffer that is absent
  pub alloc_is : (s : State) → op_run l (op_on kind.Alloc k n path t other words units) s ≡ run_op (Alloc n (buffer_by l k t) words) s
  alloc_is s = turned (is_some (s (Sign n (buffer_by l k t)))) (with_buffer n (buffer_by l k t) words s)

  -- a free closes one that is present
  pub free_is : (s : State) → op_run l (op_on kind.Free k n path t other words units) s ≡ run_op (Free n (buffer_by l k t)) s
  free_is s = one_step (is_some (s (Sign n (buffer_by l k t)))) (without_buffer n (buffer_by l k t) s)

  -- one word of a copy
  copy_step : Option ℕ → State → Option State
  copy_step x s = if are_present other (Home t) n (buffer_by l k t) x s then Some (copied other (Home t) n (buffer_by l k t) x s) else None

  copy_step_is : (w : ℕ) (s : State) → copy_step (Some w) s ≡ copy_word other (Home t) n (buffer_by l k t) w s
  unfolding copy_step
  copy_step_is w s =
      if_alike (is_some (s (Word other (Home t) w)) && is_some (s (Word n (buffer_by l k t) w))) (overwritten n (buffer_by l k t) (w ∷ []) (number_at s (Word other (Home t) w)) s)
      (put (Word n (buffer_by l k t) w) (number_at s (Word other (Home t) w)) s)
      (λ h i c. put_is n (buffer_by l k t) w (number_at s (Word other (Home t) w)) s (and_parts (is_some (s (Word other (Home t) w))) (is_some (s (Word n (buffer_by l k t) w))) h).1 c i)

  -- a copy copies word by word
  pub copy_is : (s : State) → op_run l (op_on kind.Copy k n path t other words units) s ≡ run_op (Copy other (Home t) n (buffer_by l k t) words) s
  unfolding copy_step
  copy_is s = each_run copy_step words s ∙ run_same (λ w. copy_step (Some w)) (copy_word other (Home t) n (buffer_by l k t)) copy_step_is words s

  -- one word of a fold
  fold_step : Option ℕ → State → Option State
  fold_step x s = if are_present n (buffer_by l k t) other (Home t) x s then Some (folded n (buffer_by l k t) other (Home t) x s) else None

  fold_step_is : (w : ℕ) (s : State) → fold_step (Some w) s ≡ fold_word n (buffer_by l k t) other (Home t) w s
  unfolding fold_step
  fold_step_is w s =
      if_alike (is_some (s (Word n (buffer_by l k t) w)) && is_some (s (Word other (Home t) w))) (added_to other (Home t) (w ∷ []) (number_at s (Word n (buffer_by l k t) w)) s)
      (grow (Word other (Home t) w) (number_at s (Word n (buffer_by l k t) w)) s)
      (λ h i c. grow_is other (Home t) w (number_at s (Word n (buffer_by l k t) w)) s c i)

  -- a fold folds word by word
  pub fold_is : (s : State) → op_run l (op_on kind.Fold k n path t other words units) s ≡ run_op (Fold n (buffer_by l k t) other (Home t) words) s
  unfolding fold_step
  fold_is s = each_run fold_step words s ∙ run_same (λ w. fold_step (Some w)) (fold_word n (buffer_by l k t) other (Home t)) fold_step_is words s

  -- a task does its visits
  pub task_is : (p : Part) → slice_get l.parts k ≡ Some p → (s : State) → op_run l (op_on kind.Task k n path t other words units) s ≡ run_all (item_step l k n p) (visits_of l.stored p.sched path) s
  task_is p here s = go (slice_get l.parts k) here
    where
      step : Part → Option Item → State → Option State
      step q x u = if item_can l (op_on kind.Task k n path t other words units) (Some q) x u then Some (item_next l (op_on kind.Task k n path t other words units) (Some q) x u) else None

      go : (q : Option Part) → q ≡ Some p
          → steps_run (λ i u. if item_can l (op_on kind.Task k n path t other words units) q (of_unit (unwrap_or (option_map (λ (x : Part). visits_of l.stored x.sched path) q) []) i) u
          then Some (item_next l (op_on kind.Task k n path t other words units) q (of_unit (unwrap_or (option_map (λ (x : Part). visits_of l.stored x.sched path) q) []) i) u) else None)
          0 (length (unwrap_or (option_map (λ (x : Part). visits_of l.stored x.sched path) q) [])) s ≡ run_all (item_step l k n p) (visits_of l.stored p.sched path) s
      go None e = cc
      go (Some r) e = let f : r ≡ p = cc in each_run (step r) (visits_of l.stored r.sched path) s ∙ ap (λ (x : Part). run_all (item_step l k n x) (visits_of l.stored x.sched path) s) f
