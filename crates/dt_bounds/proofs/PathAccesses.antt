-- What the visits under a path access is needed under it.
use Rattle.std.proofs.Common.{◌≡◌, ℕ, ◌<◌, Bool, true, false, ◌||◌, ◌&&◌, List, [], ◌∷◌, ◌++◌, length, map, Option, None, Some, refl, ap, sym, ◌∙◌, subst}
use Rattle.std.specs.Prelude.{if◌then◌else◌, nat_eq, nat_lt, slice_index, slice_set, drop}
use Rattle.std.specs.List.{AllByRecursion, flat_map, list_any}
use Rattle.std.specs.Str.{bytes_eq}
use Rattle.std.proofs.Math.Path.{fun_ext}
use Rattle.std.proofs.Math.ListN.{length-set}
use Rattle.std.proofs.lemmas.Bool.{eqb-true, eq-eqb, lt-ltb, and_from, or_left, or_right}
use Rattle.std.proofs.lemmas.List.{length-replicate}
use Rattle.std.proofs.lemmas.List.Quantifiers.{position-Some}
use Rattle.std.proofs.lemmas.Slice.Eq.{bytes_eq-Decides}
use Rattle.dt_model.specs.Positions.{StoredTensor, coords_at, place_in, tensor_at}
use Rattle.dt_model.specs.declared.stmt.Access.{Access}
use Rattle.dt_base.proofs.Firsts.{bytes_eq-same}
use Rattle.dt_runs.specs.Sets.{contains}
use Rattle.dt_nest.specs.declared.loops.Walk.{Walk}
use Rattle.dt_nest.specs.declared.loops.Kernel.TheVariants.{Plain, Dot, Dot3}
use Rattle.dt_nest.specs.declared.derivations.Derived.{Derived}
use Rattle.dt_nest.proofs.Each.{all_both, all_append, all_flat, all_map}
use Rattle.dt_nest.specs.Tree.{Tree, Loop, Pre, Leaf, is_kernel_leaf, read_accesses}
use Rattle.dt_nest.specs.Schedule.{Schedule}
use Rattle.dt_nest.specs.Meaning.{World, Env, bind, renamed, guards_hold, takes, under}
use Rattle.dt_nest.specs.World.{world_of}
use Rattle.dt_nest.specs.Lawful.{Loops, also, Follows, AllFollow, IsSubstituted, HaveKernels, IsLawful}
use Rattle.dt_nest.specs.Search.{HaveSlots}
use Rattle.dt_nest.specs.Visits.{Scope, at_root, entered, in_producer, LeafNode, LeafVisit, Item, IsReset, IsVisit, value_in, tests_of, no_slots, with_reset, values_on, lane_visit, valid_values, substituted_visits, tree_visits, visits_of, environments, is_accessed, touches, needed_of, leaf_node}
use Rattle.dt_nest.specs.Effects.{left_at}
use Rattle.dt_nest.proofs.Agree.{known_agree, map_agree}
use Rattle.dt_nest.proofs.Names.{renamed-append}
use Rattle.dt_nest.proofs.OwnSlots.{have_slots}
use Rattle.dt_nest.proofs.Additions.{set_env}
use Rattle.dt_bounds.specs.NeededPaths.{IsNeededAt, AccessesNeeded, LeftNeeded, AccessesAreNeeded, LeftIsNeeded}
use Rattle.dt_bounds.proofs.PathNeeds.{contains-needed}

-- a test that an element passes is passed by some element
abbrev pub IsFound : {X : Type 0} → List X → X → Type 0
IsFound {X} xs y = (test : X → Bool) → test y ≡ true → list_any test xs ≡ true

-- each element of a list is found
pub each_found : {X : Type 0} (xs : List X) → AllByRecursion (IsFound xs) xs
each_found [] = tt
each_found (x ∷ xs) = ((λ test e. or_left (test x) (list_any test xs) e), all_map (IsFound xs) (IsFound (x ∷ xs)) (λ y h test e. or_right (test x) (list_any test xs) (h test e)) xs (each_found xs))

-- a place has the coordinates that it was sought by
pub place_has : (t : StoredTensor) (c : List ℕ) (w : ℕ) → place_in t c ≡ Some w → (w < length t.coords) × (coords_at t w ≡ c)
place_has t c w e = let parts = position-Some (λ d. bytes_eq d c) t.coords w [] e in (parts.0, (bytes_eq-Decides (coords_at t w) c).0 parts.1)

module _ (stored : List StoredTensor) (s : Schedule) (p : List ℕ) where
  -- a position that an item touches is needed
  touched_needed : (item : Item) → IsFound (visits_of stored s p) item → (t w : ℕ) → w < length (tensor_at stored t).coords
      → touches (world_of stored s) s.derived t (coords_at (tensor_at stored t) w) item ≡ true → contains (needed_of stored s t p) w ≡ true
  touched_needed item f t w l e =
      contains-needed stored s t p w
      ∙ and_from (nat_lt w (length (tensor_at stored t).coords)) (list_any (touches (world_of stored s) s.derived t (coords_at (tensor_at stored t) w)) (visits_of stored s p))
      (lt-ltb w (length (tensor_at stored t).coords) l) (f (touches (world_of stored s) s.derived t (coords_at (tensor_at stored t) w)) e)

  module _ (visit : LeafVisit) (f : IsFound (visits_of stored s p) (IsVisit visit)) where
    access_needed : (val : Env) → IsFound (environments (world_of stored s) s.derived visit) val → (a : Access) → IsFound (visit.leaf.lhs ∷ read_accesses visit.leaf.terms) a → IsNeededAt stored s p val a
    access_needed val g a k w e =
        let place = place_has (tensor_at stored a.tensor) (map val a.vars) w e in
        touched_needed (IsVisit visit) f a.tensor w place.0
        (g (λ val. is_accessed a.tensor (coords_at (tensor_at stored a.tensor) w) val (visit.leaf.lhs ∷ read_accesses visit.leaf.terms))
        (k (λ b. nat_eq b.tensor a.tensor && bytes_eq (map val b.vars) (coords_at (tensor_at stored a.tensor) w))
        (and_from (nat_eq a.tensor a.tensor) (bytes_eq (map val a.vars) (coords_at (tensor_at stored a.tensor) w)) (eq-eqb a.tensor a.tensor refl)
        (ap (λ (c : List ℕ). bytes_eq (map val a.vars) c) place.1 ∙ bytes_eq-same (map val a.vars)))))

    visit_needed : AccessesNeeded stored s p (IsVisit visit)
    visit_needed =
        all_map (IsFound (environments (world_of stored s) s.derived visit)) (λ val. AllByRecursion (IsNeededAt stored s p val) (visit.leaf.lhs ∷ read_accesses visit.leaf.terms))
        (λ val g. all_map (IsFound (visit.leaf.lhs ∷ read_accesses visit.leaf.terms)) (IsNeededAt stored s p val) (access_needed val g) (visit.leaf.lhs ∷ read_accesses visit.leaf.terms) (each_found (visit.leaf.lhs ∷ read_accesses visit.leaf.terms)))
        (environments (world_of stored s) s.derived visit) (each_found (environments (world_of stored s) s.derived visit))

  item_needed : (item : Item) → IsFound (visits_of stored s p) item → AccessesNeeded stored s p item
  item_needed (IsReset work) f = tt
  item_needed (IsVisit visit) f = visit_needed visit f

-- what the visits under a path access is needed under it
pub accesses_needed : AccessesAreNeeded
accesses_needed stored s p = all_map (IsFound (visits_of stored s p)) (AccessesNeeded stored s p) (item_needed stored s p) (visits_of stored s p) (each_found (visits_of stored s p))

-- The left side ---------------------------------------------------------------------------------------------------------

module _ (w : World) (ds : List Derived) where
  -- an item touches where it adds
  abbrev pub LeftTouched : Item → Type 0
  LeftTouched (IsReset work) = Unit {0}
  LeftTouched (IsVisit visit) = touches w ds visit.leaf.lhs.tensor (left_at w ds visit) (IsVisit visit) ≡ true

  -- an access of its own tensor at its own coordinates, the first of some accesses, in the first of some environments
  first_touched : (lhs : Access) (reads : List Access) (val : Env) (vals : List Env) (c : List ℕ) → map val lhs.vars ≡ c → list_any (λ val. is_accessed lhs.tensor c val (lhs ∷ reads)) (val ∷ vals) ≡ true
  first_touched lhs reads val vals c e =
      or_left (is_accessed lhs.tensor c val (lhs ∷ reads)) (list_any (λ val. is_accessed lhs.tensor c val (lhs ∷ reads)) vals)
      (or_left (nat_eq lhs.tensor lhs.tensor && bytes_eq (map val lhs.vars) c) (is_accessed lhs.tensor c val reads)
      (and_from (nat_eq lhs.tensor lhs.tensor) (bytes_eq (map val lhs.vars) c) (eq-eqb lhs.tensor lhs.tensor refl) (ap (bytes_eq (map val lhs.vars)) (sym e) ∙ bytes_eq-same (map val lhs.vars))))

  lane_touched : (leaf : LeafNode) (around : Loops) (scope : Scope) (slots : List ℕ) (v n : ℕ) (valid : List ℕ) → v < length slots → around v ≡ false
      → AllByRecursion (λ u. Follows ds around (renamed scope.pairs) (renamed scope.pairs u)) leaf.lhs.vars → AllByRecursion LeftTouched (lane_visit leaf scope slots v n valid)
  lane_touched leaf around scope slots v n [] room a f = tt
  lane_touched leaf around scope slots v n (x ∷ valid) room a f = (
    first_touched leaf.lhs (read_accesses leaf.terms) (value_in w ds scope.pairs (slice_set slots v x)) (map (value_in w ds scope.pairs) (map (λ y. slice_set slots v y) valid)) (map (value_in w ds scope.pairs slots) leaf.lhs.vars)
        (sym (map_agree (λ u. Follows ds around (renamed scope.pairs) (renamed scope.pairs u)) (value_in w ds scope.pairs slots) (value_in w ds scope.pairs (slice_set slots v x))
        (λ u k. known_agree w ds around (renamed scope.pairs) (slice_index slots) (slice_index (slice_set slots v x)) (λ k t. apart k t ∙ sym (ap (λ (e : Env). e k) (set_env slots v x room))) (renamed scope.pairs u) k) leaf.lhs.vars f)),
    tt,
  )
    where
      apart : (u : ℕ) → around u ≡ true → slice_index slots u ≡ bind (slice_index slots) v x u
      apart u t = go (nat_eq u v) (eqb-true u v)
        where
          go : (b : Bool) → (b ≡ true → u ≡ v) → slice_index slots u ≡ (if b then x else slice_index slots u)
          go true e = let f : around u ≡ false = ap around (e refl) ∙ a in absurd (cc)
          go false e = refl

  kernel_touched : (walk : Option Walk) (v n : ℕ) (body : Tree) (around : Loops) (scope : Scope) (slots : List ℕ) → is_kernel_leaf body ≡ true → v < length slots → around v ≡ false → IsSubstituted ds body around (renamed scope.pairs)
      → AllByRecursion LeftTouched (substituted_visits (tests_of w ds) walk v n body scope slots)
  kernel_touched walk v n (Loop u m more inner) around scope slots k l a i = tt
  kernel_touched walk v n (Pre work more p q) around scope slots k l a i = tt
  kernel_touched walk v n (Leaf lhs terms guards Plain) around scope slots k l a i = absurd (cc)
  kernel_touched walk v n (Leaf lhs terms guards Dot) around scope slots k l a i =
      lane_touched (record { lhs = lhs; terms = terms; guards = guards; kernel = Dot }) around scope slots v n (valid_values (tests_of w ds) walk v n (leaf_node lhs terms guards Dot) scope.pairs slots) l a i.1
  kernel_touched walk v n (Leaf lhs terms guards Dot3) around scope slots k l a i =
      lane_touched (record { lhs = lhs; terms = terms; guards = guards; kernel = Dot3 }) around scope slots v n (valid_values (tests_of w ds) walk v n (leaf_node lhs terms guards Dot3) scope.pairs slots) l a i.1

  reset_touched : (work : ℕ) (items : List Item) → AllByRecursion LeftTouched items → AllByRecursion LeftTouched (with_reset work items)
  reset_touched work [] h = tt
  reset_touched work (i ∷ items) h = (tt, h)

  any_value : (xs : List ℕ) → AllByRecursion (λ i. Unit {0}) xs
  any_value [] = tt
  any_value (x ∷ xs) = (tt, any_value xs)

  -- the visits of a tree under a path touch where they add
  pub left_touched : (tree : Tree) (around : Loops) (scope : Scope) (slots path : List ℕ) → HaveSlots tree (length slots) → AllFollow ds tree around (renamed scope.pairs) → HaveKernels ds tree around (renamed scope.pairs)
      → AllByRecursion LeftTouched (tree_visits (tests_of w ds) tree scope slots path)
  left_touched (Loop v n walk body) around scope slots path room a k =
      go (is_kernel_leaf body) (λ e. kernel_touched walk v n body around scope slots e room.0 a.0 k.0)
      (all_flat (λ i. Unit {0}) LeftTouched (λ i. if takes w walk v (renamed scope.pairs) (value_in w ds scope.pairs (slice_set slots v i)) then tree_visits (tests_of w ds) body (entered scope v) (slice_set slots v i) (drop 1 path) else [])
      (λ i z. taken (takes w walk v (renamed scope.pairs) (value_in w ds scope.pairs (slice_set slots v i))) i (left_touched body (also around v) (entered scope v) (slice_set slots v i) (drop 1 path) (subst (HaveSlots body) (sym (length-set slots v i)) room.2) a.3 k.1))
      (values_on path n) (any_value (values_on path n)))
    where
      taken : (b : Bool) (i : ℕ) → AllByRecursion LeftTouched (tree_visits (tests_of w ds) body (entered scope v) (slice_set slots v i) (drop 1 path))
          → AllByRecursion LeftTouched (if b then tree_visits (tests_of w ds) body (entered scope v) (slice_set slots v i) (drop 1 path) else [])
      taken true i h = h
      taken false i h = tt

      go : (b : Bool) → (b ≡ true → AllByRecursion LeftTouched (substituted_visits (tests_of w ds) walk v n body scope slots))
          → AllByRecursion LeftTouched (flat_map (λ i. if takes w walk v (renamed scope.pairs) (value_in w ds scope.pairs (slice_set slots v i)) then tree_visits (tests_of w ds) body (entered scope v) (slice_set slots v i) (drop 1 path) else []) (values_on path n))
          → AllByRecursion LeftTouched (if b then substituted_visits (tests_of w ds) walk v n body scope slots
          else flat_map (λ i. if takes w walk v (renamed scope.pairs) (value_in w ds scope.pairs (slice_set slots v i)) then tree_visits (tests_of w ds) body (entered scope v) (slice_set slots v i) (drop 1 path) else []) (values_on path n))
      go true f l = f refl
      go false f l = l
  left_touched (Pre work more p q) around scope slots path room a k =
      let e : renamed (scope.pairs ++ more) ≡ under more (renamed scope.pairs) = fun_ext (renamed-append scope.pairs more) in
      reset_touched work (tree_visits (tests_of w ds) p (in_producer scope more) slots [] ++ tree_visits (tests_of w ds) q scope slots [])
      (all_append LeftTouched (tree_visits (tests_of w ds) p (in_producer scope more) slots []) (tree_visits (tests_of w ds) q scope slots [])
      (left_touched p around (in_producer scope more) slots [] room.0 (subst (AllFollow ds p around) (sym e) a.1) (subst (HaveKernels ds p around) (sym e) k.2))
      (left_touched q around scope slots [] room.1 a.2 k.3))
  left_touched (Leaf lhs terms guards kernel) around scope slots path room a k = go (guards_hold w (value_in w ds scope.pairs slots) guards)
    where
      go : (b : Bool) → AllByRecursion LeftTouched (if b then IsVisit (record { leaf = record { lhs = lhs; terms = terms; guards = guards; kernel = kernel }; around = scope.around; pairs = scope.pairs; slots = slots; lanes = None }) ∷ [] else [])
      go true = (first_touched lhs (read_accesses terms) (value_in w ds scope.pairs slots) [] (map (value_in w ds scope.pairs slots) lhs.vars) refl, tt)
      go false = tt

-- the visits of a lawful schedule under a path touch where they add
pub path_left_touched : (stored : List StoredTensor) (s : Schedule) (p : List ℕ) → IsLawful s → AllByRecursion (LeftTouched (world_of stored s) s.derived) (visits_of stored s p)
unfolding visits_of
path_left_touched stored s p lawful =
    left_touched (world_of stored s) s.derived s.nest (λ u. false) at_root (no_slots s) p (subst (HaveSlots s.nest) (sym (length-replicate {A = ℕ} (length s.names) 0)) (have_slots s lawful)) lawful.follows lawful.kernels.1

-- the position where a visit adds is needed
pub left_needed : LeftIsNeeded
left_needed stored s p lawful =
    all_both (IsFound (visits_of stored s p)) (LeftTouched (world_of stored s) s.derived) (LeftNeeded stored s p) one (visits_of stored s p) (each_found (visits_of stored s p)) (path_left_touched stored s p lawful)
  where
    one : (item : Item) → IsFound (visits_of stored s p) item → LeftTouched (world_of stored s) s.derived item → LeftNeeded stored s p item
    one (IsReset work) f h = tt
    one (IsVisit visit) f h = λ w e.
        let place = place_has (tensor_at stored visit.leaf.lhs.tensor) (left_at (world_of stored s) s.derived visit) w e in
        touched_needed stored s p (IsVisit visit) f visit.leaf.lhs.tensor w place.0
        (subst (λ (c : List ℕ). touches (world_of stored s) s.derived visit.leaf.lhs.tensor c (IsVisit visit) ≡ true) (sym place.1) h)
