-- The units of a task are defined where its node holds what is needed.
use Rattle.std.proofs.Common.{◌≡◌, ℕ, ◌+◌, ◌-◌, ◌%◌, ◌^◌, ◌<◌, ◌≤◌, Bool, true, false, ◌&&◌, List, [], ◌∷◌, ◌++◌, length, map, Option, None, Some, is_some, refl, sym, ◌∙◌, subst, arith}
use Rattle.std.specs.Prelude.{if◌then◌else◌, nat_eq, nat_lt, slice_get, slice_set, option_map, drop}
use Rattle.std.specs.Option.{option_and_then}
use Rattle.std.specs.List.{AllByRecursion, flat_map, list_all}
use Rattle.std.proofs.lemmas.Bool.{ltb-true, ltb-false, and_from}
use Rattle.dt_base.specs.Rows.{row_major}
use Rattle.dt_base.proofs.Rows.{row_major-below}
use Rattle.dt_model.specs.Positions.{StoredTensor, place_in, tensor_at}
use Rattle.dt_runs.specs.Sets.{contains}
use Rattle.dt_nest.specs.declared.loops.Walk.{Walk}
use Rattle.dt_nest.specs.declared.parts.Work.{Work}
use Rattle.dt_nest.proofs.Each.{all_append, all_flat, all_both}
use Rattle.dt_nest.specs.Tree.{Tree, Loop, Pre, Leaf, is_kernel_leaf, read_accesses}
use Rattle.dt_nest.specs.Schedule.{Schedule}
use Rattle.dt_nest.specs.World.{world_of}
use Rattle.dt_nest.specs.Lawful.{IsNamed}
use Rattle.dt_nest.specs.Visits.{Scope, at_root, entered, in_producer, LeafNode, Item, IsReset, IsVisit, Tests, tests_of, no_slots, with_reset, values_on, lane_visit, valid_values, substituted_visits, tree_visits, visits_of, environments, needed_of, leaf_node}
use Rattle.dt_nest.specs.Effects.{left_at}
use Rattle.dt_nest.specs.Unit.{Cell, Word, Sign, State, word_of, is_held, are_held, added_by, written_by, grown_at, cleared_at, can_do, unit_of}
use Rattle.dt_bounds.specs.NeededPaths.{IsNeededAt, AccessesNeeded, LeftNeeded}
use Rattle.dt_bounds.specs.TaskUnits.{HoldsNeeded, all_can, UnitsAreDefined, UnitsKeepHeld, TasksAreDefined}
use Rattle.dt_bounds.proofs.PathAccesses.{accesses_needed, left_needed}

-- a fact of each element makes each pass a test
list_all_from : {X : Type 0} (P : X → Type 0) (test : X → Bool) → ((x : X) → P x → test x ≡ true) → (xs : List X) → AllByRecursion P xs → list_all test xs ≡ true
list_all_from P test f [] h = refl
list_all_from P test f (x ∷ xs) h = and_from (test x) (list_all test xs) (f x h.0) (list_all_from P test f xs h.1)

-- Resets ----------------------------------------------------------------------------------------------------------------

-- a reset is of one of the first n workspaces
abbrev pub ResetBelow : ℕ → Item → Type 0
ResetBelow n (IsReset work) = work < n
ResetBelow n (IsVisit visit) = Unit {0}

module _ (t : Tests) (s : Schedule) where
  abbrev Resets : List Item → Type 0
  Resets items = AllByRecursion (ResetBelow (length s.works)) items

  lane_resets : (leaf : LeafNode) (scope : Scope) (slots : List ℕ) (v n : ℕ) (valid : List ℕ) → Resets (lane_visit leaf scope slots v n valid)
  lane_resets leaf scope slots v n [] = tt
  lane_resets leaf scope slots v n (x ∷ valid) = (tt, tt)

  substituted_resets : (walk : Option Walk) (v n : ℕ) (body : Tree) (scope : Scope) (slots : List ℕ) → Resets (substituted_visits t walk v n body scope slots)
  substituted_resets walk v n (Loop u m more inner) scope slots = tt
  substituted_resets walk v n (Pre work more p q) scope slots = tt
  substituted_resets walk v n (Leaf lhs terms guards kernel) scope slots =
      lane_resets (record { lhs = lhs; terms = terms; guards = guards; kernel = kernel }) scope slots v n (valid_values t walk v n (leaf_node lhs terms guards kernel) scope.pairs slots)

  with_resets : (work : ℕ) (items : List Item) → work < length s.works → Resets items → Resets (with_reset work items)
  with_resets work [] l h = tt
  with_resets work (i ∷ items) l h = (l, h)

  any_value : (xs : List ℕ) → AllByRecursion (λ i. Unit {0}) xs
  any_value [] = tt
  any_value (x ∷ xs) = (tt, any_value xs)

  tree_resets : (tree : Tree) (scope : Scope) (slots path : List ℕ) → IsNamed s tree → Resets (tree_visits t tree scope slots path)
  tree_resets (Loop v n walk body) scope slots path h =
      go (is_kernel_leaf body)
      (all_flat (λ i. Unit {0}) (ResetBelow (length s.works)) (λ i. if t.takes walk v scope.pairs (slice_set slots v i) then tree_visits t body (entered scope v) (slice_set slots v i) (drop 1 path) else [])
      (λ i z. taken (t.takes walk v scope.pairs (slice_set slots v i)) i (tree_resets body (entered scope v) (slice_set slots v i) (drop 1 path) h.3)) (values_on path n) (any_value (values_on path n)))
    where
      taken : (b : Bool) (i : ℕ) → Resets (tree_visits t body (entered scope v) (slice_set slots v i) (drop 1 path)) → Resets (if b then tree_visits t body (entered scope v) (slice_set slots v i) (drop 1 path) else [])
      taken true i h = h
      taken false i h = tt

      go : (b : Bool) → Resets (flat_map (λ i. if t.takes walk v scope.pairs (slice_set slots v i) then tree_visits t body (entered scope v) (slice_set slots v i) (drop 1 path) else []) (values_on path n))
          → Resets (if b then substituted_visits t walk v n body scope slots else flat_map (λ i. if t.takes walk v scope.pairs (slice_set slots v i) then tree_visits t body (entered scope v) (slice_set slots v i) (drop 1 path) else []) (values_on path n))
      go true l = substituted_resets walk v n body scope slots
      go false l = l
  tree_resets (Pre work more p q) scope slots path h =
      with_resets work (tree_visits t p (in_producer scope more) slots [] ++ tree_visits t q scope slots []) h.0
      (all_append (ResetBelow (length s.works)) (tree_visits t p (in_producer scope more) slots []) (tree_visits t q scope slots []) (tree_resets p (in_producer scope more) slots [] h.2) (tree_resets q scope slots [] h.3))
  tree_resets (Leaf lhs terms guards kernel) scope slots path h = go (t.holds (leaf_node lhs terms guards kernel) scope.pairs slots)
    where
      go : (b : Bool) → Resets (if b then IsVisit (record { leaf = record { lhs = lhs; terms = terms; guards = guards; kernel = kernel }; around = scope.around; pairs = scope.pairs; slots = slots; lanes = None }) ∷ [] else [])
      go true = (tt, tt)
      go false = tt

-- the resets under a path are of the schedule's workspaces
pub path_resets : (stored : List StoredTensor) (s : Schedule) (p : List ℕ) → IsNamed s s.nest → AllByRecursion (ResetBelow (length s.works)) (visits_of stored s p)
unfolding visits_of
path_resets stored s p h = tree_resets (tests_of (world_of stored s) s.derived) s s.nest at_root (no_slots s) p h

-- Units -----------------------------------------------------------------------------------------------------------------

module _ (stored : List StoredTensor) (s : Schedule) (p : List ℕ) (state : State) (holds : HoldsNeeded stored s p state) where
  -- a word is held where it is needed, or stands in a workspace
  word_held : (t : ℕ) (c : List ℕ) → ((w : ℕ) → place_in (tensor_at stored t) c ≡ Some w → contains (needed_of stored s t p) w ≡ true) → is_held state t (word_of stored s t c) ≡ true
  word_held t c need = go (nat_lt t (length s.tensors)) (ltb-true t (length s.tensors)) (ltb-false t (length s.tensors))
    where
      tensor : t < length s.tensors → (o : Option ℕ) → place_in (tensor_at stored t) c ≡ o → is_held state t o ≡ true
      tensor l None e = refl
      tensor l (Some w) e = holds.words t w l (need w e)

      inside : (u : ℕ) → t ≡ length s.tensors + u → (x : Work) → slice_get s.works u ≡ Some x → (r : Option ℕ) → row_major x.extents c ≡ r → is_held state t r ≡ true
      inside u i x e None f = refl
      inside u i x e (Some k) f = subst (λ (n : ℕ). is_some (state (Word n k)) ≡ true) (sym i) (holds.works u k x e (row_major-below x.extents c k f))

      work : length s.tensors ≤ t → (o : Option Work) → slice_get s.works (t - length s.tensors) ≡ o → is_held state t (option_and_then (λ (x : Work). row_major x.extents c) o) ≡ true
      work l None e = refl
      work l (Some x) e = inside (t - length s.tensors) (omega (arith, l)) x e (row_major x.extents c) refl

      go : (b : Bool) → (b ≡ true → t < length s.tensors) → (b ≡ false → length s.tensors ≤ t)
          → is_held state t (if b then place_in (tensor_at stored t) c else option_and_then (λ (x : Work). row_major x.extents c) (slice_get s.works (t - length s.tensors))) ≡ true
      go true l m = tensor (l refl) (place_in (tensor_at stored t) c) refl
      go false l m = work (m refl) (slice_get s.works (t - length s.tensors)) refl

  -- the unit of an item is defined
  item_defined : (item : Item) → AccessesNeeded stored s p item → LeftNeeded stored s p item × ResetBelow (length s.works) item → can_do stored s item state ≡ true
  unfolding can_do
  item_defined (IsReset work) a b = holds.signs work b.1
  item_defined (IsVisit visit) a b =
      and_from (is_held state visit.leaf.lhs.tensor (written_by stored s visit)) (list_all (λ val. are_held stored s state val (read_accesses visit.leaf.terms)) (environments (world_of stored s) s.derived visit))
      (word_held visit.leaf.lhs.tensor (left_at (world_of stored s) s.derived visit) b.0)
      (list_all_from (λ val. AllByRecursion (IsNeededAt stored s p val) (visit.leaf.lhs ∷ read_accesses visit.leaf.terms)) (λ val. are_held stored s state val (read_accesses visit.leaf.terms))
      (λ val h. list_all_from (IsNeededAt stored s p val) (λ a. is_held state a.tensor (word_of stored s a.tensor (map val a.vars))) (λ a k. word_held a.tensor (map val a.vars) k) (read_accesses visit.leaf.terms) h.1)
      (environments (world_of stored s) s.derived visit) a)

-- the units of a task are defined where its node holds what is needed
pub units_are_defined : UnitsAreDefined
units_are_defined stored s p state lawful holds =
    all_both (AccessesNeeded stored s p) (λ item. LeftNeeded stored s p item × ResetBelow (length s.works) item) (λ item. can_do stored s item state ≡ true) (item_defined stored s p state holds) (visits_of stored s p)
    (accesses_needed stored s p)
    (all_both (LeftNeeded stored s p) (ResetBelow (length s.works)) (λ item. LeftNeeded stored s p item × ResetBelow (length s.works) item) (λ item a b. (a, b)) (visits_of stored s p) (left_needed stored s p lawful) (path_resets stored s p lawful.named))

mapped : (f : ℕ → ℕ) (o : Option ℕ) → is_some (option_map f o) ≡ is_some o
mapped f None = refl
mapped f (Some x) = refl

grown_there : (state : State) (t d : ℕ) (o : Option ℕ) (cell : Cell) → is_some (grown_at state t o d cell) ≡ is_some (state cell)
grown_there state t d None cell = refl
grown_there state t d (Some k) (Sign u) = refl
grown_there state t d (Some k) (Word u j) = go (nat_eq u t && nat_eq j k)
  where
    go : (b : Bool) → is_some (if b then option_map (λ x. (x + d) % 2 ^ 64) (state (Word u j)) else state (Word u j)) ≡ is_some (state (Word u j))
    go true = mapped (λ x. (x + d) % 2 ^ 64) (state (Word u j))
    go false = refl

cleared_there : (state : State) (t : ℕ) (cell : Cell) → is_some (cleared_at state t cell) ≡ is_some (state cell)
cleared_there state t (Sign u) = refl
cleared_there state t (Word u j) = go (nat_eq u t)
  where
    go : (b : Bool) → is_some (if b then option_map (λ x. 0) (state (Word u j)) else state (Word u j)) ≡ is_some (state (Word u j))
    go true = mapped (λ x. 0) (state (Word u j))
    go false = refl

-- a unit leaves present what is present, and makes nothing present
pub unit_there : (stored : List StoredTensor) (s : Schedule) (item : Item) (state : State) (cell : Cell) → is_some (unit_of stored s item state cell) ≡ is_some (state cell)
unfolding unit_of
unit_there stored s (IsReset work) state cell = cleared_there state (length s.tensors + work) cell
unit_there stored s (IsVisit visit) state cell = grown_there state visit.leaf.lhs.tensor (added_by stored s state visit) (written_by stored s visit) cell

-- after any unit the node still holds what is needed
pub units_keep_held : UnitsKeepHeld
units_keep_held stored s p item state holds = record {
  words = λ t w l c. unit_there stored s item state (Word t w) ∙ holds.words t w l c;
  works = λ u k x e l. unit_there stored s item state (Word (length s.tensors + u) k) ∙ holds.works u k x e l;
  signs = λ u l. unit_there stored s item state (Sign (length s.tensors + u)) ∙ holds.signs u l;
}

items_run : (stored : List StoredTensor) (s : Schedule) (p : List ℕ) (items : List Item) (state : State) → HoldsNeeded stored s p state
    → AllByRecursion (AccessesNeeded stored s p) items → AllByRecursion (λ item. LeftNeeded stored s p item × ResetBelow (length s.works) item) items → all_can stored s items state ≡ true
items_run stored s p [] state holds a b = refl
items_run stored s p (item ∷ items) state holds a b =
    and_from (can_do stored s item state) (all_can stored s items (unit_of stored s item state)) (item_defined stored s p state holds item a.0 b.0)
    (items_run stored s p items (unit_of stored s item state) (units_keep_held stored s p item state holds) a.1 b.1)

-- the units of a task are defined, one after another
pub tasks_are_defined : TasksAreDefined
tasks_are_defined stored s p state lawful holds =
    items_run stored s p (visits_of stored s p) state holds (accesses_needed stored s p)
    (all_both (LeftNeeded stored s p) (ResetBelow (length s.works)) (λ item. LeftNeeded stored s p item × ResetBelow (length s.works) item) (λ item a b. (a, b)) (visits_of stored s p) (left_needed stored s p lawful) (path_resets stored s p lawful.named))
