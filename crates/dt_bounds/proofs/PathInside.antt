-- There is a word wherever a visit under a path adds.
use Rattle.std.proofs.Common.{◌≡◌, ◌⊎◌, inl, inr, ℕ, zero, suc, ◌+◌, ◌-◌, ◌*◌, ◌<◌, ◌≤◌, Bool, true, false, List, [], ◌∷◌, ◌++◌, length, map, filter, Option, None, Some, is_some, refl, ap, sym, ◌∙◌, subst, arith}
use Rattle.std.specs.Prelude.{if◌then◌else◌, nat_eq, nat_lt, slice_index, slice_set, slice_get, option_map, drop}
use Rattle.std.specs.Option.{option_and_then}
use Rattle.std.specs.List.{AllByRecursion, flat_map, range_with_len}
use Rattle.std.proofs.Math.Path.{fun_ext}
use Rattle.std.proofs.Math.ListN.{length-set}
use Rattle.std.proofs.lemmas.Bool.{eqb-true, lt-ltb, ltb-true, ltb-false, le-ltb, and_parts}
use Rattle.std.proofs.lemmas.List.{length-replicate}
use Rattle.dt_base.specs.Rows.{product, row_major}
use Rattle.dt_model.specs.Positions.{StoredTensor, place_in, tensor_at}
use Rattle.dt_model.specs.declared.stmt.Access.{Access}
use Rattle.dt_nest.specs.declared.loops.Walk.{Walk}
use Rattle.dt_nest.specs.declared.loops.Kernel.TheVariants.{Plain, Dot, Dot3}
use Rattle.dt_nest.specs.declared.derivations.Derived.{Derived}
use Rattle.dt_nest.specs.declared.parts.Work.{Work}
use Rattle.dt_nest.proofs.Each.{all_append, all_flat, all_map, below_all, all_both}
use Rattle.dt_nest.specs.Tree.{Tree, Loop, Pre, Leaf, is_kernel_leaf, read_accesses, accesses_of}
use Rattle.dt_nest.specs.Schedule.{Schedule}
use Rattle.dt_nest.specs.Meaning.{World, Env, bind, renamed, guards_hold, takes, under}
use Rattle.dt_nest.specs.World.{world_of, FitsAccess}
use Rattle.dt_nest.specs.Lawful.{Loops, also, Follows, AllFollow, IsSubstituted, HaveKernels, IsNamed, AccessBelow, WorkAccess}
use Rattle.dt_nest.proofs.Inside.{StaysInside, stays_inside}
use Rattle.dt_nest.specs.Search.{HaveSlots}
use Rattle.dt_nest.specs.Visits.{Scope, at_root, entered, in_producer, LeafNode, Item, IsReset, IsVisit, value_in, tests_of, no_slots, with_reset, values_on, is_valid, lane_visit, valid_values, substituted_visits, tree_visits, visits_of, IsPathIn, leaf_node}
use Rattle.dt_nest.specs.Effects.{left_at}
use Rattle.dt_nest.proofs.Agree.{known_agree, map_agree}
use Rattle.dt_nest.specs.Outputs.{output_of}
use Rattle.dt_nest.specs.Unit.{word_of, written_by}
use Rattle.dt_nest.proofs.Names.{renamed-append}
use Rattle.dt_nest.proofs.OwnSlots.{have_slots, zero_at}
use Rattle.dt_nest.proofs.Additions.{set_env}
use Rattle.dt_bounds.specs.TaskUnits.{HasLeft, StoresAll, VisitsHaveLeft}
use Rattle.dt_bounds.proofs.PathTasks.{WritesOnly, path_writes}
use Rattle.dt_base.proofs.Ranges.{range_with_len-below}
use Rattle.dt_nest.proofs.NextSearches.{path_rest}

mapped : (f : ℕ → ℕ) (o : Option ℕ) → is_some o ≡ true → is_some (option_map f o) ≡ true
mapped f None e = e
mapped f (Some x) e = refl

-- values below their extents have a row-major number
row_some : (extents : List ℕ) (val : Env) (vars : List ℕ) → AllByRecursion (λ u. val u < slice_index extents u) vars → is_some (row_major (map (λ v. slice_index extents v) vars) (map val vars)) ≡ true
row_some extents val [] h = refl
row_some extents val (u ∷ vars) h = go (nat_lt (val u) (slice_index extents u)) (lt-ltb (val u) (slice_index extents u) h.0) (row_some extents val vars h.1)
  where
    go : (b : Bool) → b ≡ true → is_some (row_major (map (λ v. slice_index extents v) vars) (map val vars)) ≡ true → is_some (if b then option_map (λ k. val u * product (map (λ v. slice_index extents v) vars) + k) (row_major (map (λ v. slice_index extents v) vars) (map val vars)) else None) ≡ true
    go true e rest = mapped (λ k. val u * product (map (λ v. slice_index extents v) vars) + k) (row_major (map (λ v. slice_index extents v) vars) (map val vars)) rest
    go false e rest = absurd (cc)

-- the values that a path lets a loop take are below its extent
values_below : (v n : ℕ) (walk : Option Walk) (body : Tree) (path : List ℕ) → IsPathIn (Loop v n walk body) path → AllByRecursion (λ i. i < n) (values_on path n)
values_below v n walk body [] h = subst (AllByRecursion (λ i. i < n)) (sym (range_with_len-below n)) (below_all n)
values_below v n walk body (x ∷ path) h = (h.0, tt)

-- what passes a test and had a fact, with both
passing : (P : ℕ → Type 0) (test : ℕ → Bool) (xs : List ℕ) → AllByRecursion P xs → AllByRecursion (λ x. P x × (test x ≡ true)) (filter test xs)
passing P test [] h = tt
passing P test (x ∷ xs) h = go (test x) refl (passing P test xs h.1)
  where
    go : (b : Bool) → test x ≡ b → AllByRecursion (λ x. P x × (test x ≡ true)) (filter test xs) → AllByRecursion (λ x. P x × (test x ≡ true)) (if b then x ∷ filter test xs else filter test xs)
    go true e r = ((h.0, e), r)
    go false e r = r

module _ (s : Schedule) (w : World) (extent_is : w.extent ≡ slice_index s.extents) (ds : List Derived) (Q : Access → Type 0) where
  -- the left side of a visit has the fact, and its index is within the extents of its variables
  abbrev LeftInside : Item → Type 0
  LeftInside (IsReset work) = Unit {0}
  LeftInside (IsVisit visit) = Q visit.leaf.lhs × (is_some (row_major (map (λ v. slice_index s.extents v) visit.leaf.lhs.vars) (left_at w ds visit)) ≡ true)

  -- the variables of a left side are below their extents
  vars_below : (val : Env) (vars : List ℕ) (P : ℕ → Type 0) → ((u : ℕ) → P u → val u < w.extent u) → AllByRecursion P vars → AllByRecursion (λ u. val u < slice_index s.extents u) vars
  vars_below val vars P f h = all_map P (λ u. val u < slice_index s.extents u) (λ u k. subst (λ (e : ℕ → ℕ). val u < e u) extent_is (f u k)) vars h

  lane_inside : (walk : Option Walk) (v n : ℕ) (lhs : Access) (leaf : LeafNode) (around : Loops) (scope : Scope) (slots : List ℕ) → leaf.lhs ≡ lhs → v < length slots → around v ≡ false
      → AllByRecursion (λ u. Follows ds around (renamed scope.pairs) (renamed scope.pairs u)) lhs.vars → AllByRecursion (λ u. Follows ds (also around v) (renamed scope.pairs) (renamed scope.pairs u)) lhs.vars
      → ((i : ℕ) → i < n → guards_hold w (value_in w ds scope.pairs (slice_set slots v i)) leaf.guards ≡ true → (u : ℕ) → Follows ds (also around v) (renamed scope.pairs) (renamed scope.pairs u) → value_in w ds scope.pairs (slice_set slots v i) u < w.extent u)
      → Q lhs → (valid : List ℕ) → AllByRecursion (λ x. (x < n) × (is_valid (tests_of w ds) walk v leaf scope.pairs slots x ≡ true)) valid → AllByRecursion LeftInside (lane_visit leaf scope slots v n valid)
  lane_inside walk v n lhs leaf around scope slots le room a f g inside q [] h = tt
  lane_inside walk v n lhs leaf around scope slots le room a f g inside q (x ∷ valid) h = (
    (
      subst Q (sym le) q,
      subst (λ (l : Access). is_some (row_major (map (λ v. slice_index s.extents v) l.vars) (map (value_in w ds scope.pairs slots) l.vars)) ≡ true) (sym le)
          (subst (λ (c : List ℕ). is_some (row_major (map (λ v. slice_index s.extents v) lhs.vars) c) ≡ true) (sym same)
          (row_some s.extents (value_in w ds scope.pairs (slice_set slots v x)) lhs.vars
          (vars_below (value_in w ds scope.pairs (slice_set slots v x)) lhs.vars (λ u. Follows ds (also around v) (renamed scope.pairs) (renamed scope.pairs u))
          (inside x h.0.0 (and_parts (takes w walk v (renamed scope.pairs) (value_in w ds scope.pairs (slice_set slots v x))) (guards_hold w (value_in w ds scope.pairs (slice_set slots v x)) leaf.guards) h.0.1).1) g))),
    ),
    tt,
  )
    where
      apart : (u : ℕ) → around u ≡ true → slice_index slots u ≡ bind (slice_index slots) v x u
      apart u t = go (nat_eq u v) (eqb-true u v)
        where
          go : (b : Bool) → (b ≡ true → u ≡ v) → slice_index slots u ≡ (if b then x else slice_index slots u)
          go true e = let f : around u ≡ false = ap around (e refl) ∙ a in absurd (cc)
          go false e = refl

      same : map (value_in w ds scope.pairs slots) lhs.vars ≡ map (value_in w ds scope.pairs (slice_set slots v x)) lhs.vars
      same = map_agree (λ u. Follows ds around (renamed scope.pairs) (renamed scope.pairs u)) (value_in w ds scope.pairs slots) (value_in w ds scope.pairs (slice_set slots v x))
          (λ u k. known_agree w ds around (renamed scope.pairs) (slice_index slots) (slice_index (slice_set slots v x)) (λ k t. apart k t ∙ sym (ap (λ (e : Env). e k) (set_env slots v x room))) (renamed scope.pairs u) k) lhs.vars f

  moved_inside : (tree : Tree) (around : Loops) (scope : Scope) (slots : List ℕ) (v i : ℕ) → v < length slots → StaysInside w ds tree around (renamed scope.pairs) (bind (slice_index slots) v i) → StaysInside w ds tree around (renamed scope.pairs) (slice_index (slice_set slots v i))
  moved_inside tree around scope slots v i l h = subst (StaysInside w ds tree around (renamed scope.pairs)) (sym (set_env slots v i l)) h

  kernel_inside : (walk : Option Walk) (v n : ℕ) (body : Tree) (around : Loops) (scope : Scope) (slots : List ℕ) → is_kernel_leaf body ≡ true → v < length slots → around v ≡ false → IsSubstituted ds body around (renamed scope.pairs)
      → AllFollow ds body (also around v) (renamed scope.pairs) → ((i : ℕ) → i < n → StaysInside w ds body (also around v) (renamed scope.pairs) (bind (slice_index slots) v i)) → AllByRecursion Q (accesses_of body)
      → AllByRecursion LeftInside (substituted_visits (tests_of w ds) walk v n body scope slots)
  kernel_inside walk v n (Loop u m more inner) around scope slots k l a i f h q = tt
  kernel_inside walk v n (Pre work more p r) around scope slots k l a i f h q = tt
  kernel_inside walk v n (Leaf lhs terms guards Plain) around scope slots k l a i f h q = absurd (cc)
  kernel_inside walk v n (Leaf lhs terms guards Dot) around scope slots k l a i f h q =
      lane_inside walk v n lhs (record { lhs = lhs; terms = terms; guards = guards; kernel = Dot }) around scope slots refl l a i.1 f.0.0
      (λ j m. moved_inside (Leaf lhs terms guards Dot) (also around v) scope slots v j l (h j m)) q.0 (valid_values (tests_of w ds) walk v n (leaf_node lhs terms guards Dot) scope.pairs slots)
      (passing (λ x. x < n) (is_valid (tests_of w ds) walk v (leaf_node lhs terms guards Dot) scope.pairs slots) (range_with_len 0 n) (subst (AllByRecursion (λ i. i < n)) (sym (range_with_len-below n)) (below_all n)))
  kernel_inside walk v n (Leaf lhs terms guards Dot3) around scope slots k l a i f h q =
      lane_inside walk v n lhs (record { lhs = lhs; terms = terms; guards = guards; kernel = Dot3 }) around scope slots refl l a i.1 f.0.0
      (λ j m. moved_inside (Leaf lhs terms guards Dot3) (also around v) scope slots v j l (h j m)) q.0 (valid_values (tests_of w ds) walk v n (leaf_node lhs terms guards Dot3) scope.pairs slots)
      (passing (λ x. x < n) (is_valid (tests_of w ds) walk v (leaf_node lhs terms guards Dot3) scope.pairs slots) (range_with_len 0 n) (subst (AllByRecursion (λ i. i < n)) (sym (range_with_len-below n)) (below_all n)))

  reset_inside : (work : ℕ) (items : List Item) → AllByRecursion LeftInside items → AllByRecursion LeftInside (with_reset work items)
  reset_inside work [] h = tt
  reset_inside work (i ∷ items) h = (tt, h)

  all_front : (xs ys : List Access) → AllByRecursion Q (xs ++ ys) → AllByRecursion Q xs × AllByRecursion Q ys
  all_front [] ys h = (tt, h)
  all_front (a ∷ xs) ys h = let r = all_front xs ys h.1 in ((h.0, r.0), r.1)

  tree_left : (tree : Tree) (around : Loops) (scope : Scope) (slots path : List ℕ) → IsPathIn tree path → HaveSlots tree (length slots) → AllFollow ds tree around (renamed scope.pairs) → HaveKernels ds tree around (renamed scope.pairs)
      → StaysInside w ds tree around (renamed scope.pairs) (slice_index slots) → AllByRecursion Q (accesses_of tree) → AllByRecursion LeftInside (tree_visits (tests_of w ds) tree scope slots path)
  tree_left (Loop v n walk body) around scope slots path h room a k inside q =
      go (is_kernel_leaf body) (λ e. kernel_inside walk v n body around scope slots e room.0 a.0 k.0 a.3 inside q)
      (all_flat (λ i. i < n) LeftInside (λ i. if takes w walk v (renamed scope.pairs) (value_in w ds scope.pairs (slice_set slots v i)) then tree_visits (tests_of w ds) body (entered scope v) (slice_set slots v i) (drop 1 path) else [])
      (λ i l. taken (takes w walk v (renamed scope.pairs) (value_in w ds scope.pairs (slice_set slots v i))) i
      (tree_left body (also around v) (entered scope v) (slice_set slots v i) (drop 1 path) (path_rest v n walk body path h) (subst (HaveSlots body) (sym (length-set slots v i)) room.2) a.3 k.1 (moved_inside body (also around v) (entered scope v) slots v i room.0 (inside i l)) q))
      (values_on path n) (values_below v n walk body path h))
    where
      taken : (b : Bool) (i : ℕ) → AllByRecursion LeftInside (tree_visits (tests_of w ds) body (entered scope v) (slice_set slots v i) (drop 1 path))
          → AllByRecursion LeftInside (if b then tree_visits (tests_of w ds) body (entered scope v) (slice_set slots v i) (drop 1 path) else [])
      taken true i h = h
      taken false i h = tt

      go : (b : Bool) → (b ≡ true → AllByRecursion LeftInside (substituted_visits (tests_of w ds) walk v n body scope slots))
          → AllByRecursion LeftInside (flat_map (λ i. if takes w walk v (renamed scope.pairs) (value_in w ds scope.pairs (slice_set slots v i)) then tree_visits (tests_of w ds) body (entered scope v) (slice_set slots v i) (drop 1 path) else []) (values_on path n))
          → AllByRecursion LeftInside (if b then substituted_visits (tests_of w ds) walk v n body scope slots
          else flat_map (λ i. if takes w walk v (renamed scope.pairs) (value_in w ds scope.pairs (slice_set slots v i)) then tree_visits (tests_of w ds) body (entered scope v) (slice_set slots v i) (drop 1 path) else []) (values_on path n))
      go true f l = f refl
      go false f l = l
  tree_left (Pre work more p r) around scope slots path h room a k inside q =
      let e : renamed (scope.pairs ++ more) ≡ under more (renamed scope.pairs) = fun_ext (renamed-append scope.pairs more) in
      let parts = all_front (accesses_of p) (accesses_of r) q in
      reset_inside work (tree_visits (tests_of w ds) p (in_producer scope more) slots [] ++ tree_visits (tests_of w ds) r scope slots [])
      (all_append LeftInside (tree_visits (tests_of w ds) p (in_producer scope more) slots []) (tree_visits (tests_of w ds) r scope slots [])
      (tree_left p around (in_producer scope more) slots [] tt room.0 (subst (AllFollow ds p around) (sym e) a.1) (subst (HaveKernels ds p around) (sym e) k.2)
      (subst (λ (name : Env). StaysInside w ds p around name (slice_index slots)) (sym e) inside.0) parts.0)
      (tree_left r around scope slots [] tt room.1 a.2 k.3 inside.1 parts.1))
  tree_left (Leaf lhs terms guards kernel) around scope slots path h room a k inside q = go (guards_hold w (value_in w ds scope.pairs slots) guards) refl
    where
      go : (b : Bool) → guards_hold w (value_in w ds scope.pairs slots) guards ≡ b
          → AllByRecursion LeftInside (if b then IsVisit (record { leaf = record { lhs = lhs; terms = terms; guards = guards; kernel = kernel }; around = scope.around; pairs = scope.pairs; slots = slots; lanes = None }) ∷ [] else [])
      go true e = ((q.0, row_some s.extents (value_in w ds scope.pairs slots) lhs.vars (vars_below (value_in w ds scope.pairs slots) lhs.vars (λ u. Follows ds around (renamed scope.pairs) (renamed scope.pairs u)) (inside e) a.0.0)), tt)
      go false e = tt

-- what is known of an access in the schedule
abbrev Known : List StoredTensor → Schedule → Access → Type 0
Known stored s a = FitsAccess stored s a.tensor a.vars × WorkAccess s a × (a.tensor < length s.tensors + length s.works)

-- the accesses of a named tree are of tensors and workspaces
named_accesses : (s : Schedule) (tree : Tree) → IsNamed s tree → AllByRecursion (λ a. a.tensor < length s.tensors + length s.works) (accesses_of tree)
named_accesses s (Loop v n walk body) h = named_accesses s body h.3
named_accesses s (Pre work pairs p q) h = all_append (λ a. a.tensor < length s.tensors + length s.works) (accesses_of p) (accesses_of q) (named_accesses s p h.2) (named_accesses s q h.3)
named_accesses s (Leaf lhs terms guards kernel) h =
    all_map (AccessBelow (length s.names) (length s.tensors + length s.works)) (λ a. a.tensor < length s.tensors + length s.works) (λ a k. k.0) (lhs ∷ read_accesses terms) h.0

work_there : (works : List Work) (u : ℕ) → u < length works → (x : Work) × (slice_get works u ≡ Some x)
work_there [] u l = absurd (omega (arith, l))
work_there (x ∷ works) zero l = (x, refl)
work_there (x ∷ works) (suc u) l = work_there works u (omega (arith, l))

-- an index within the extents of a tensor that stores all has a position
place_there : (t : StoredTensor) (c : List ℕ) → StoresAll t → is_some (row_major t.extents c) ≡ true → is_some (place_in t c) ≡ true
place_there t c h i = go (place_in t c) (h c)
  where
    go : (o : Option ℕ) → (o ≡ None → row_major t.extents c ≡ None) → is_some o ≡ true
    go (Some k) f = refl
    go None f = let z : false ≡ true = sym (ap (λ (r : Option ℕ). is_some r) (f refl)) ∙ i in absurd (cc)

-- there is a word wherever a visit under a path adds
pub visits_have_left : VisitsHaveLeft
unfolding visits_of
visits_have_left s stored tensors p lawful fits h dense =
    all_both (LeftInside s (world_of stored s) refl s.derived (Known stored s)) (WritesOnly (length s.tensors) (output_of s.nest)) (HasLeft stored s) one (visits_of stored s p)
    (tree_left s (world_of stored s) refl s.derived (Known stored s) s.nest (λ u. false) at_root (no_slots s) p h (subst (HaveSlots s.nest) (sym (length-replicate {A = ℕ} (length s.names) 0)) (have_slots s lawful)) lawful.follows lawful.kernels.1
    (subst (StaysInside (world_of stored s) s.derived s.nest (λ u. false) (λ u. u)) (sym (fun_ext (λ u. zero_at (length s.names) u))) (stays_inside s stored tensors lawful fits))
    (all_both (λ a. FitsAccess stored s a.tensor a.vars) (λ a. WorkAccess s a × (a.tensor < length s.tensors + length s.works)) (Known stored s) (λ a f k. (f, k.0, k.1)) (accesses_of s.nest) fits.accesses
    (all_both (WorkAccess s) (λ a. a.tensor < length s.tensors + length s.works) (λ a. WorkAccess s a × (a.tensor < length s.tensors + length s.works)) (λ a f k. (f, k)) (accesses_of s.nest) lawful.works.accesses (named_accesses s s.nest lawful.named))))
    (path_writes stored s p lawful)
  where
    tensor : (a : Access) (c : List ℕ) → Known stored s a → a.tensor ≡ output_of s.nest → a.tensor < length s.tensors → is_some (row_major (map (λ v. slice_index s.extents v) a.vars) c) ≡ true → is_some (word_of stored s a.tensor c) ≡ true
    tensor a c k e l i = go (nat_lt a.tensor (length s.tensors)) (lt-ltb a.tensor (length s.tensors) l)
        (place_there (tensor_at stored a.tensor) c (subst (λ (t : ℕ). StoresAll (tensor_at stored t)) (sym e) dense) (subst (λ (ns : List ℕ). is_some (row_major ns c) ≡ true) (sym (k.0 l)) i))
      where
        go : (b : Bool) → b ≡ true → is_some (place_in (tensor_at stored a.tensor) c) ≡ true → is_some (if b then place_in (tensor_at stored a.tensor) c else option_and_then (λ (x : Work). row_major x.extents c) (slice_get s.works (a.tensor - length s.tensors))) ≡ true
        go true f d = d
        go false f d = absurd (cc)

    work : (a : Access) (c : List ℕ) → Known stored s a → length s.tensors ≤ a.tensor → is_some (row_major (map (λ v. slice_index s.extents v) a.vars) c) ≡ true → is_some (word_of stored s a.tensor c) ≡ true
    work a c k l i =
        let small = k.2 in
        let x = work_there s.works (a.tensor - length s.tensors) (omega (arith, l, small)) in
        go (nat_lt a.tensor (length s.tensors)) (le-ltb a.tensor (length s.tensors) l) (slice_get s.works (a.tensor - length s.tensors)) x.0 x.1
        (subst (λ (ns : List ℕ). is_some (row_major ns c) ≡ true) (sym (k.1 (a.tensor - length s.tensors) x.0 (omega (arith, l)) x.1)) i)
      where
        go : (b : Bool) → b ≡ false → (o : Option Work) (x : Work) → o ≡ Some x → is_some (row_major x.extents c) ≡ true → is_some (if b then place_in (tensor_at stored a.tensor) c else option_and_then (λ (x : Work). row_major x.extents c) o) ≡ true
        go true f o x e d = absurd (cc)
        go false f o x e d = subst (λ (o : Option Work). is_some (option_and_then (λ (x : Work). row_major x.extents c) o) ≡ true) (sym e) d

    one : (item : Item) → LeftInside s (world_of stored s) refl s.derived (Known stored s) item → WritesOnly (length s.tensors) (output_of s.nest) item → HasLeft stored s item
    one (IsReset u) a b = tt
    one (IsVisit visit) a b = go b (nat_lt visit.leaf.lhs.tensor (length s.tensors)) (ltb-true visit.leaf.lhs.tensor (length s.tensors)) (ltb-false visit.leaf.lhs.tensor (length s.tensors))
      where
        go : (visit.leaf.lhs.tensor ≡ output_of s.nest) ⊎ (length s.tensors ≤ visit.leaf.lhs.tensor) → (b : Bool) → (b ≡ true → visit.leaf.lhs.tensor < length s.tensors) → (b ≡ false → length s.tensors ≤ visit.leaf.lhs.tensor)
            → is_some (written_by stored s visit) ≡ true
        go (inl e) true f g = tensor visit.leaf.lhs (left_at (world_of stored s) s.derived visit) a.0 e (f refl) a.1
        go (inl e) false f g = work visit.leaf.lhs (left_at (world_of stored s) s.derived visit) a.0 (g refl) a.1
        go (inr l) b f g = work visit.leaf.lhs (left_at (world_of stored s) s.derived visit) a.0 l a.1
