-- What the units of a task leave as it was, and what they add.
use Rattle.std.proofs.Common.{◌≡◌, ◌≢◌, ◌⊎◌, inl, inr, ℕ, ◌+◌, ◌%◌, ◌^◌, ◌<◌, ◌≤◌, Bool, true, false, ◌&&◌, List, [], ◌∷◌, ◌++◌, length, Option, None, Some, refl, ap, sym, ◌∙◌, subst, arith}
use Rattle.std.specs.Prelude.{if◌then◌else◌, nat_eq, nat_lt, slice_set, option_map, drop}
use Rattle.std.specs.List.{AllByRecursion, flat_map}
use Rattle.std.proofs.lemmas.Bool.{eqb-true, lt-ltb, ne_eqb}
use Rattle.dt_model.specs.Positions.{StoredTensor, place_in, tensor_at}
use Rattle.dt_runs.specs.Sets.{contains}
use Rattle.dt_nest.specs.declared.loops.Walk.{Walk}
use Rattle.dt_nest.proofs.Each.{all_append, all_flat, all_map}
use Rattle.dt_nest.specs.Tree.{Tree, Loop, Pre, Leaf, is_kernel_leaf}
use Rattle.dt_nest.specs.Schedule.{Schedule}
use Rattle.dt_nest.specs.World.{world_of}
use Rattle.dt_nest.specs.Lawful.{IsLawful}
use Rattle.dt_nest.specs.Outputs.{output_of, WritesWorks}
use Rattle.dt_nest.specs.Visits.{Scope, at_root, entered, in_producer, LeafNode, Item, IsReset, IsVisit, Tests, tests_of, no_slots, with_reset, values_on, lane_visit, valid_values, substituted_visits, tree_visits, visits_of, needed_of, leaf_node}
use Rattle.dt_nest.specs.Effects.{left_at}
use Rattle.dt_nest.specs.Unit.{Word, State, added_by, written_by, grown_at, cleared_at, unit_of}
use Rattle.dt_bounds.specs.NeededPaths.{LeftNeeded}
use Rattle.dt_bounds.specs.TaskUnits.{units_after, LeavesOthers, TasksLeaveOthers, TasksAddTheSum}
use Rattle.dt_nest.proofs.RootApart.{output_below}
use Rattle.dt_bounds.proofs.PathAccesses.{left_needed}
use Rattle.dt_nest.proofs.PathSums.{paths_add}
use Rattle.dt_bounds.proofs.PathUnitSums.{units_follow_effects}

-- an item writes this tensor, or what is none of the first n
abbrev pub WritesOnly : ℕ → ℕ → Item → Type 0
WritesOnly n t (IsReset work) = Unit {0}
WritesOnly n t (IsVisit visit) = (visit.leaf.lhs.tensor ≡ t) ⊎ (n ≤ visit.leaf.lhs.tensor)

-- where that tensor is none of the first n either
writes_past : (n t u : ℕ) → n ≤ t → (item : Item) → WritesOnly n t item → WritesOnly n u item
writes_past n t u l (IsReset work) h = tt
writes_past n t u l (IsVisit visit) (inl e) = inr (omega (arith, l, e))
writes_past n t u l (IsVisit visit) (inr m) = inr m

module _ (t : Tests) (n : ℕ) where
  lane_writes : (leaf : LeafNode) (scope : Scope) (slots : List ℕ) (v m : ℕ) (valid : List ℕ) → AllByRecursion (WritesOnly n leaf.lhs.tensor) (lane_visit leaf scope slots v m valid)
  lane_writes leaf scope slots v m [] = tt
  lane_writes leaf scope slots v m (x ∷ valid) = (inl refl, tt)

  substituted_writes : (walk : Option Walk) (v m : ℕ) (body : Tree) (scope : Scope) (slots : List ℕ) → AllByRecursion (WritesOnly n (output_of body)) (substituted_visits t walk v m body scope slots)
  substituted_writes walk v m (Loop u k more inner) scope slots = tt
  substituted_writes walk v m (Pre work more p q) scope slots = tt
  substituted_writes walk v m (Leaf lhs terms guards kernel) scope slots =
      lane_writes (record { lhs = lhs; terms = terms; guards = guards; kernel = kernel }) scope slots v m (valid_values t walk v m (leaf_node lhs terms guards kernel) scope.pairs slots)

  reset_writes : (work u : ℕ) (items : List Item) → AllByRecursion (WritesOnly n u) items → AllByRecursion (WritesOnly n u) (with_reset work items)
  reset_writes work u [] h = tt
  reset_writes work u (i ∷ items) h = (tt, h)

  any_value : (xs : List ℕ) → AllByRecursion (λ i. Unit {0}) xs
  any_value [] = tt
  any_value (x ∷ xs) = (tt, any_value xs)

  -- the visits of a tree write its output, or workspaces
  tree_writes : (tree : Tree) (scope : Scope) (slots path : List ℕ) → WritesWorks n tree → AllByRecursion (WritesOnly n (output_of tree)) (tree_visits t tree scope slots path)
  tree_writes (Loop v m walk body) scope slots path h =
      go (is_kernel_leaf body)
      (all_flat (λ i. Unit {0}) (WritesOnly n (output_of body)) (λ i. if t.takes walk v scope.pairs (slice_set slots v i) then tree_visits t body (entered scope v) (slice_set slots v i) (drop 1 path) else [])
      (λ i z. taken (t.takes walk v scope.pairs (slice_set slots v i)) i (tree_writes body (entered scope v) (slice_set slots v i) (drop 1 path) h)) (values_on path m) (any_value (values_on path m)))
    where
      taken : (b : Bool) (i : ℕ) → AllByRecursion (WritesOnly n (output_of body)) (tree_visits t body (entered scope v) (slice_set slots v i) (drop 1 path))
          → AllByRecursion (WritesOnly n (output_of body)) (if b then tree_visits t body (entered scope v) (slice_set slots v i) (drop 1 path) else [])
      taken true i h = h
      taken false i h = tt

      go : (b : Bool) → AllByRecursion (WritesOnly n (output_of body)) (flat_map (λ i. if t.takes walk v scope.pairs (slice_set slots v i) then tree_visits t body (entered scope v) (slice_set slots v i) (drop 1 path) else []) (values_on path m))
          → AllByRecursion (WritesOnly n (output_of body)) (if b then substituted_visits t walk v m body scope slots else flat_map (λ i. if t.takes walk v scope.pairs (slice_set slots v i) then tree_visits t body (entered scope v) (slice_set slots v i) (drop 1 path) else []) (values_on path m))
      go true l = substituted_writes walk v m body scope slots
      go false l = l
  tree_writes (Pre work more p q) scope slots path h =
      reset_writes work (output_of q) (tree_visits t p (in_producer scope more) slots [] ++ tree_visits t q scope slots [])
      (all_append (WritesOnly n (output_of q)) (tree_visits t p (in_producer scope more) slots []) (tree_visits t q scope slots [])
      (all_map (WritesOnly n (output_of p)) (WritesOnly n (output_of q)) (λ item k. let e = h.0 in writes_past n (output_of p) (output_of q) (omega (arith, e)) item k) (tree_visits t p (in_producer scope more) slots []) (tree_writes p (in_producer scope more) slots [] h.1))
      (tree_writes q scope slots [] h.2))
  tree_writes (Leaf lhs terms guards kernel) scope slots path h = go (t.holds (leaf_node lhs terms guards kernel) scope.pairs slots)
    where
      go : (b : Bool) → AllByRecursion (WritesOnly n lhs.tensor) (if b then IsVisit (record { leaf = record { lhs = lhs; terms = terms; guards = guards; kernel = kernel }; around = scope.around; pairs = scope.pairs; slots = slots; lanes = None }) ∷ [] else [])
      go true = (inl refl, tt)
      go false = tt

-- the visits of a lawful schedule under a path write the left tensor, or workspaces
pub path_writes : (stored : List StoredTensor) (s : Schedule) (p : List ℕ) → IsLawful s → AllByRecursion (WritesOnly (length s.tensors) (output_of s.nest)) (visits_of stored s p)
unfolding visits_of
path_writes stored s p lawful = tree_writes (tests_of (world_of stored s) s.derived) (length s.tensors) s.nest at_root (no_slots s) p lawful.works.written

module _ (stored : List StoredTensor) (s : Schedule) (p : List ℕ) (below : output_of s.nest < length s.tensors) where
  leaves_none : (state : State) → LeavesOthers stored s p state state
  leaves_none state = record { signs = λ t. refl; others = λ t k l n. refl; unneeded = λ k e. refl }

  -- a word that grows
  grown_leaves : (state : State) (t d : ℕ) (o : Option ℕ) → (t ≡ output_of s.nest) ⊎ (length s.tensors ≤ t) → ((w : ℕ) → t ≡ output_of s.nest → o ≡ Some w → contains (needed_of stored s (output_of s.nest) p) w ≡ true)
      → LeavesOthers stored s p state (grown_at state t o d)
  grown_leaves state t d None w need = leaves_none state
  grown_leaves state t d (Some j) w need = record {
    signs = λ u. refl;
    others = λ u k l n. other (nat_eq u t) u k (ne_eqb u t (λ e. apart u l n w e));
    unneeded = λ k e. here k e (nat_eq (output_of s.nest) t) (eqb-true (output_of s.nest) t) (nat_eq k j) (eqb-true k j);
  }
    where
      apart : (u : ℕ) → u < length s.tensors → u ≢ output_of s.nest → (t ≡ output_of s.nest) ⊎ (length s.tensors ≤ t) → u ≡ t → ⊥
      apart u l n (inl i) e = n (e ∙ i)
      apart u l n (inr m) e = absurd (omega (arith, l, m, e))

      other : (b : Bool) (u k : ℕ) → b ≡ false → (if b && nat_eq k j then option_map (λ z. (z + d) % 2 ^ 64) (state (Word u k)) else state (Word u k)) ≡ state (Word u k)
      other true u k e = absurd (cc)
      other false u k e = refl

      here : (k : ℕ) → contains (needed_of stored s (output_of s.nest) p) k ≡ false → (a : Bool) → (a ≡ true → output_of s.nest ≡ t) → (b : Bool) → (b ≡ true → k ≡ j)
          → (if a && b then option_map (λ z. (z + d) % 2 ^ 64) (state (Word (output_of s.nest) k)) else state (Word (output_of s.nest) k)) ≡ state (Word (output_of s.nest) k)
      here k e false f b g = refl
      here k e true f false g = refl
      here k e true f true g = let z : contains (needed_of stored s (output_of s.nest) p) k ≡ true = need k (sym (f refl)) (ap Some (sym (g refl))) in absurd (cc)

  cleared_leaves : (state : State) (work : ℕ) → LeavesOthers stored s p state (cleared_at state (length s.tensors + work))
  cleared_leaves state work = record {
    signs = λ u. refl;
    others = λ u k l n. other (nat_eq u (length s.tensors + work)) u k (ne_eqb u (length s.tensors + work) (λ e. absurd (omega (arith, l, e))));
    unneeded = λ k e. other (nat_eq (output_of s.nest) (length s.tensors + work)) (output_of s.nest) k (ne_eqb (output_of s.nest) (length s.tensors + work) (λ i. absurd (omega (arith, below, i))));
  }
    where
      other : (b : Bool) (u k : ℕ) → b ≡ false → (if b then option_map (λ z. 0) (state (Word u k)) else state (Word u k)) ≡ state (Word u k)
      other true u k e = absurd (cc)
      other false u k e = refl

  item_leaves : (item : Item) (state : State) → LeftNeeded stored s p item → WritesOnly (length s.tensors) (output_of s.nest) item → LeavesOthers stored s p state (unit_of stored s item state)
  unfolding unit_of
  item_leaves (IsReset work) state h w = cleared_leaves state work
  item_leaves (IsVisit visit) state h w =
      grown_leaves state visit.leaf.lhs.tensor (added_by stored s state visit) (written_by stored s visit) w
      (λ j e f. subst (λ (t : ℕ). contains (needed_of stored s t p) j ≡ true) e (h j (place (nat_lt visit.leaf.lhs.tensor (length s.tensors)) (lt-ltb visit.leaf.lhs.tensor (length s.tensors) (subst (λ (t : ℕ). t < length s.tensors) (sym e) below)) _ j f)))
    where
      place : (b : Bool) → b ≡ true → (o : Option ℕ) (j : ℕ) → (if b then place_in (tensor_at stored visit.leaf.lhs.tensor) (left_at (world_of stored s) s.derived visit) else o) ≡ Some j
          → place_in (tensor_at stored visit.leaf.lhs.tensor) (left_at (world_of stored s) s.derived visit) ≡ Some j
      place true e o j f = f
      place false e o j f = absurd (cc)

  items_leave : (items : List Item) (state : State) → AllByRecursion (LeftNeeded stored s p) items → AllByRecursion (WritesOnly (length s.tensors) (output_of s.nest)) items → LeavesOthers stored s p state (units_after stored s items state)
  items_leave [] state h w = leaves_none state
  items_leave (item ∷ items) state h w =
      let a = item_leaves item state h.0 w.0 in
      let b = items_leave items (unit_of stored s item state) h.1 w.1 in
      record {
        signs = λ t. b.signs t ∙ a.signs t;
        others = λ t k l n. b.others t k l n ∙ a.others t k l n;
        unneeded = λ k e. b.unneeded k e ∙ a.unneeded k e;
      }

-- what the units of a task leave as it was
pub tasks_leave_others : TasksLeaveOthers
tasks_leave_others stored s p state lawful =
    items_leave stored s p (output_below (length s.tensors) s.nest [] lawful.works.stand) (visits_of stored s p) state (left_needed stored s p lawful) (path_writes stored s p lawful)

-- what they add
pub tasks_add_the_sum : TasksAddTheSum
tasks_add_the_sum s stored p state x lawful unread h left carries c k e n l =
    (units_follow_effects stored s p state x left carries).held (output_of s.nest) c k e (λ m. n) ∙ ap Some ((paths_add s stored p x lawful unread h).exact c l)
