-- Visits under tests that fail as soon as a variable is outside are the schedule's visits.
use Rattle.std.proofs.Common.{◌≡◌, ◌⊎◌, inl, inr, ℕ, ◌<◌, ◌≤◌, Bool, true, false, ◌&&◌, ◌||◌, List, [], ◌∷◌, ◌++◌, length, map, drop, filter, replicate, ◌-◌, Option, Some, None, refl, sym, ap, ◌∙◌, subst, arith}
use Rattle.std.specs.Prelude.{if◌then◌else◌, MatchBool, IsSome, nat_eq, nat_lt, nat_le, slice_index, slice_set}
use Rattle.std.specs.List.{AllByRecursion, flat_map, list_all, range_with_len}
use Rattle.std.proofs.Math.Path.{fun_ext}
use Rattle.std.proofs.lemmas.Bool.{eqb-true, eq-eqb, lt-ltb, or_right}
use Rattle.std.proofs.lemmas.List.{get_or-set_other, length-map}
use Rattle.dt_model.specs.Shape.{are_extents, is_extent}
use Rattle.dt_base.specs.Rows.{product}
use Rattle.dt_base.proofs.Filters.{filter-never}
use Rattle.dt_model.specs.declared.shape.Shape.{Shape}
use Rattle.dt_model.specs.Positions.{StoredTensor, IsStored, tensor_at}
use Rattle.dt_nest.specs.declared.loops.Walk.{Walk}
use Rattle.dt_nest.specs.declared.loops.Pair.{Pair}
use Rattle.dt_nest.specs.declared.derivations.Derived.{Derived}
use Rattle.dt_nest.specs.Tree.{Tree, Loop, Pre, Leaf, is_kernel_leaf}
use Rattle.dt_nest.specs.Schedule.{Schedule}
use Rattle.dt_nest.specs.Meaning.{Env, known, renamed, under, guards_hold, take_through}
use Rattle.dt_nest.specs.World.{world_of}
use Rattle.dt_nest.proofs.LawfulFit.{FitsWalk, FitsWalks, walks_fit}
use Rattle.dt_nest.specs.FitsStored.{FitsStored}
use Rattle.dt_nest.specs.Lawful.{WalkBelow, IsNamed, sources, is_replaced, AreOrdered, AreLoops, Loops, also, Follows, take_before, WalkFollows, AllFollow, AreGuarded, HaveGuards, IsLawful}
use Rattle.dt_nest.proofs.Inside.{guard_holds, renamed_extents}
use Rattle.dt_nest.proofs.Each.{all_get}
use Rattle.dt_nest.specs.Visits.{Scope, at_root, entered, in_producer, Item, IsVisit, value_in, tests_of, with_reset, values_on, lane_visit, is_valid, substituted_visits, tree_visits, no_slots, visits_of, leaf_node}
use Rattle.dt_nest.specs.Values.{inside_in, with_first, all_inside, stored_inside, guard_inside, is_below, inside_tests}
use Rattle.dt_nest.proofs.Names.{renamed-append}
use Rattle.dt_nest.proofs.Known.{Outside, inside_known, inside_none, split_guarded}
use Rattle.dt_nest.proofs.Agree.{known_agree, follows_more}
use Rattle.dt_nest.proofs.Agreement.{follows_under}

flat_none : (f : ℕ → List Item) (xs : List ℕ) → ((x : ℕ) → f x ≡ []) → flat_map f xs ≡ []
flat_none f [] h = refl
flat_none f (x ∷ xs) h = ap (λ (l : List Item). l ++ flat_map f xs) (h x) ∙ flat_none f xs h

and_false : (b c : Bool) → c ≡ false → (b && c) ≡ false
and_false true c e = e
and_false false c e = refl

module _ (stored : List StoredTensor) (s : Schedule) (each : (t : ℕ) → t < length s.tensors → IsStored (tensor_at stored t)) (ds : List Derived) (ordered : AreOrdered ds) where
  -- the loops around were not replaced
  abbrev ArePlain : Loops → Type 0
  ArePlain around = (u : ℕ) → around u ≡ true → is_replaced ds u ≡ false

  abbrev Keeps : List Pair → Type 0
  Keeps pairs = (u : ℕ) → slice_index s.extents (renamed pairs u) ≡ slice_index s.extents u

  abbrev Out : Loops → List Pair → List ℕ → Type 0
  Out around pairs slots = Outside (world_of stored s) ds around (renamed pairs) (slice_index slots)

  more_plain : (around : Loops) (v : ℕ) → ArePlain around → is_replaced ds v ≡ false → ArePlain (also around v)
  more_plain around v a r u k = go (nat_eq u v) (eqb-true u v) k
    where
      go : (b : Bool) → (b ≡ true → u ≡ v) → (b || around u) ≡ true → is_replaced ds u ≡ false
      go true e k = ap (is_replaced ds) (e refl) ∙ r
      go false e k = a u k

  -- a variable that is outside stays so below a loop
  pub deeper : (around : Loops) (pairs : List Pair) (slots : List ℕ) (v i : ℕ) → around v ≡ false → Out around pairs slots → Out (also around v) pairs (slice_set slots v i)
  deeper around pairs slots v i f o =
      let same : known (world_of stored s) ds (renamed pairs) (slice_index slots) o.var ≡ known (world_of stored s) ds (renamed pairs) (slice_index (slice_set slots v i)) o.var =
      known_agree (world_of stored s) ds around (renamed pairs) (slice_index slots) (slice_index (slice_set slots v i)) (λ u a. sym (get_or-set_other slots v u i 0 (apart u a))) o.var o.follows in
      record {
        var = o.var;
        split = o.split;
        follows = follows_more ds around (also around v) (renamed pairs) (λ u a. or_right (nat_eq u v) (around u) a) o.var o.follows;
        past = subst (λ (n : ℕ). slice_index s.extents o.var ≤ n) same o.past;
      }
    where
      apart : (u : ℕ) → around u ≡ true → u ≡ v → ⊥
      apart u a e = let b : around v ≡ true = ap around (sym e) ∙ a in cc

  below_pre : (around : Loops) (pairs more : List Pair) (slots : List ℕ) → ArePlain around → ((u : ℕ) → Follows ds around (renamed pairs) u → renamed more u ≡ u) → Out around pairs slots → Out around (pairs ++ more) slots
  below_pre around pairs more slots a h o =
      let r = follows_under (world_of stored s) more around (renamed pairs) (slice_index slots) ds ordered a h o.var o.follows in
      subst (λ (name : Env). Outside (world_of stored s) ds around name (slice_index slots)) (sym (fun_ext (renamed-append pairs more)))
      (record { var = o.var; split = o.split; follows = r.0; past = subst (λ (n : ℕ). slice_index s.extents o.var ≤ n) (sym r.1) o.past })

  -- where a variable is outside no leaf's guards hold
  pub leaf_fails : (guards : List ℕ) (around : Loops) (pairs : List Pair) (slots : List ℕ) → Keeps pairs → AreGuarded ds guards around (renamed pairs) → Out around pairs slots → guards_hold (world_of stored s) (value_in (world_of stored s) ds pairs slots) guards ≡ false
  leaf_fails guards around pairs slots keep g o = go (guards_hold (world_of stored s) (value_in (world_of stored s) ds pairs slots) guards) refl
    where
      go : (b : Bool) → guards_hold (world_of stored s) (value_in (world_of stored s) ds pairs slots) guards ≡ b → guards_hold (world_of stored s) (value_in (world_of stored s) ds pairs slots) guards ≡ false
      go false e = e
      go true e =
          let l = guard_holds stored s each ds (renamed pairs) (slice_index slots) guards keep e o.var (split_guarded ds guards around (renamed pairs) g o.var o.split o.follows) in
          absurd (omega (arith, l, o.past))

  no_lanes : (walk : Option Walk) (v n : ℕ) (body : Tree) (around : Loops) (scope : Scope) (slots : List ℕ) → around v ≡ false → Keeps scope.pairs → HaveGuards ds body (also around v) (renamed scope.pairs) → Out around scope.pairs slots
      → substituted_visits (tests_of (world_of stored s) ds) walk v n body scope slots ≡ []
  no_lanes walk v n (Loop u m more inner) around scope slots f keep g o = refl
  no_lanes walk v n (Pre work more p q) around scope slots f keep g o = refl
  no_lanes walk v n (Leaf lhs terms guards kernel) around scope slots f keep g o =
      ap (lane_visit (record { lhs = lhs; terms = terms; guards = guards; kernel = kernel }) scope slots v n)
      (filter-never (is_valid (tests_of (world_of stored s) ds) walk v (leaf_node lhs terms guards kernel) scope.pairs slots) (range_with_len 0 n)
      (λ x. and_false ((tests_of (world_of stored s) ds).takes walk v scope.pairs (slice_set slots v x)) (guards_hold (world_of stored s) (value_in (world_of stored s) ds scope.pairs (slice_set slots v x)) guards) (leaf_fails guards (also around v) scope.pairs (slice_set slots v x) keep g (deeper around scope.pairs slots v x f o))))

  -- where a variable is outside there is no visit
  no_visits : (tree : Tree) (around : Loops) (scope : Scope) (slots path : List ℕ) → IsNamed s tree → AllFollow ds tree around (renamed scope.pairs) → HaveGuards ds tree around (renamed scope.pairs) → AreLoops ds tree → ArePlain around → Keeps scope.pairs → Out around scope.pairs slots
      → tree_visits (tests_of (world_of stored s) ds) tree scope slots path ≡ []
  no_visits (Loop v n walk body) around scope slots path named a g loops plain keep o =
      go (is_kernel_leaf body) (no_lanes walk v n body around scope slots a.0 keep g o)
      (λ i. no_visits body (also around v) (entered scope v) (slice_set slots v i) (drop 1 path) named.3 a.3 g loops.1 (more_plain around v plain loops.0) keep (deeper around scope.pairs slots v i a.0 o))
    where
      none : (t : Bool) (l : List Item) → l ≡ [] → (if t then l else []) ≡ []
      none true l e = e
      none false l e = refl

      go : (b : Bool) → substituted_visits (tests_of (world_of stored s) ds) walk v n body scope slots ≡ [] → ((i : ℕ) → tree_visits (tests_of (world_of stored s) ds) body (entered scope v) (slice_set slots v i) (drop 1 path) ≡ [])
          → (if b then substituted_visits (tests_of (world_of stored s) ds) walk v n body scope slots
          else flat_map (λ i. if (tests_of (world_of stored s) ds).takes walk v scope.pairs (slice_set slots v i) then tree_visits (tests_of (world_of stored s) ds) body (entered scope v) (slice_set slots v i) (drop 1 path) else []) (values_on path n)) ≡ []
      go true k h = k
      go false k h = flat_none (λ i. if (tests_of (world_of stored s) ds).takes walk v scope.pairs (slice_set slots v i) then tree_visits (tests_of (world_of stored s) ds) body (entered scope v) (slice_set slots v i) (drop 1 path) else []) (values_on path n)
          (λ i. none ((tests_of (world_of stored s) ds).takes walk v scope.pairs (slice_set slots v i)) (tree_visits (tests_of (world_of stored s) ds) body (entered scope v) (slice_set slots v i) (drop 1 path)) (h i))
  no_visits (Pre work more p q) around scope slots path named a g loops plain keep o =
      let e : renamed (scope.pairs ++ more) ≡ under more (renamed scope.pairs) = fun_ext (renamed-append scope.pairs more) in
      let first = no_visits p around (in_producer scope more) slots [] named.2 (subst (AllFollow ds p around) (sym e) a.1) (subst (HaveGuards ds p around) (sym e) g.0) loops.0 plain
      (λ u. ap (slice_index s.extents) (renamed-append scope.pairs more u) ∙ renamed_extents s more named.1 (renamed scope.pairs u) ∙ keep u) (below_pre around scope.pairs more slots plain a.0 o) in
      let second = no_visits q around scope slots [] named.3 a.2 g.1 loops.1 plain keep o in
      ap (λ (l : List Item). with_reset work (l ++ tree_visits (tests_of (world_of stored s) ds) q scope slots [])) first ∙ ap (with_reset work) second
  no_visits (Leaf lhs terms guards kernel) around scope slots path named a g loops plain keep o =
      ap (λ (b : Bool). if b then IsVisit (record { leaf = record { lhs = lhs; terms = terms; guards = guards; kernel = kernel }; around = scope.around; pairs = scope.pairs; slots = slots; lanes = None }) ∷ [] else []) (leaf_fails guards around scope.pairs slots keep g o)

  holds_split : (guards : List ℕ) (around : Loops) (pairs : List Pair) (slots : List ℕ) → AllByRecursion (λ u. Follows ds around (renamed pairs) (renamed pairs u)) guards
      → (list_all (guard_inside (world_of stored s) (inside_in (world_of stored s) ds pairs slots)) guards ≡ guards_hold (world_of stored s) (value_in (world_of stored s) ds pairs slots) guards)
      ⊎ ((list_all (guard_inside (world_of stored s) (inside_in (world_of stored s) ds pairs slots)) guards ≡ false) × Out around pairs slots)
  holds_split [] around pairs slots f = inl refl
  holds_split (g ∷ guards) around pairs slots f = go (inside_in (world_of stored s) ds pairs slots g) refl (holds_split guards around pairs slots f.1)
    where
      go : (o : Option ℕ) → inside_in (world_of stored s) ds pairs slots g ≡ o
          → (list_all (guard_inside (world_of stored s) (inside_in (world_of stored s) ds pairs slots)) guards ≡ guards_hold (world_of stored s) (value_in (world_of stored s) ds pairs slots) guards)
          ⊎ ((list_all (guard_inside (world_of stored s) (inside_in (world_of stored s) ds pairs slots)) guards ≡ false) × Out around pairs slots)
          → (list_all (guard_inside (world_of stored s) (inside_in (world_of stored s) ds pairs slots)) (g ∷ guards) ≡ guards_hold (world_of stored s) (value_in (world_of stored s) ds pairs slots) (g ∷ guards))
          ⊎ ((list_all (guard_inside (world_of stored s) (inside_in (world_of stored s) ds pairs slots)) (g ∷ guards) ≡ false) × Out around pairs slots)
      go None e r = inr (
        ap (λ (o : Option ℕ). is_below (slice_index s.extents g) o && list_all (guard_inside (world_of stored s) (inside_in (world_of stored s) ds pairs slots)) guards) e,
        inside_none (world_of stored s) ds around (renamed pairs) (slice_index slots) ordered (renamed pairs g) f.0 e,
      )
      go (Some x) e (inr r) = inr (and_false (guard_inside (world_of stored s) (inside_in (world_of stored s) ds pairs slots) g) (list_all (guard_inside (world_of stored s) (inside_in (world_of stored s) ds pairs slots)) guards) r.0, r.1)
      go (Some x) e (inl r) =
          let v : value_in (world_of stored s) ds pairs slots g ≡ x = inside_known (world_of stored s) ds (renamed pairs) (slice_index slots) (renamed pairs g) x e in
          inl (
          ap (λ (o : Option ℕ). is_below (slice_index s.extents g) o && list_all (guard_inside (world_of stored s) (inside_in (world_of stored s) ds pairs slots)) guards) e
          ∙ ap (λ (b : Bool). nat_lt x (slice_index s.extents g) && b) r
          ∙ ap (λ (n : ℕ). nat_lt n (slice_index s.extents g) && guards_hold (world_of stored s) (value_in (world_of stored s) ds pairs slots) guards) (sym v))

  -- guards hold inside exactly where they hold
  holds_same : (guards : List ℕ) (around : Loops) (pairs : List Pair) (slots : List ℕ) → Keeps pairs → AllByRecursion (λ u. Follows ds around (renamed pairs) (renamed pairs u)) guards → AreGuarded ds guards around (renamed pairs)
      → list_all (guard_inside (world_of stored s) (inside_in (world_of stored s) ds pairs slots)) guards ≡ guards_hold (world_of stored s) (value_in (world_of stored s) ds pairs slots) guards
  holds_same guards around pairs slots keep f g = go (holds_split guards around pairs slots f)
    where
      go : (list_all (guard_inside (world_of stored s) (inside_in (world_of stored s) ds pairs slots)) guards ≡ guards_hold (world_of stored s) (value_in (world_of stored s) ds pairs slots) guards)
          ⊎ ((list_all (guard_inside (world_of stored s) (inside_in (world_of stored s) ds pairs slots)) guards ≡ false) × Out around pairs slots)
          → list_all (guard_inside (world_of stored s) (inside_in (world_of stored s) ds pairs slots)) guards ≡ guards_hold (world_of stored s) (value_in (world_of stored s) ds pairs slots) guards
      go (inl r) = r
      go (inr r) = r.0 ∙ sym (leaf_fails guards around pairs slots keep g r.1)

  all_split : (us : List ℕ) (around : Loops) (pairs : List Pair) (slots : List ℕ) → AllByRecursion (λ u. Follows ds around (renamed pairs) (renamed pairs u)) us
      → (all_inside (inside_in (world_of stored s) ds pairs slots) us ≡ Some (map (value_in (world_of stored s) ds pairs slots) us))
      ⊎ ((all_inside (inside_in (world_of stored s) ds pairs slots) us ≡ None) × Out around pairs slots)
  all_split [] around pairs slots f = inl refl
  all_split (u ∷ us) around pairs slots f = go (inside_in (world_of stored s) ds pairs slots u) refl (all_split us around pairs slots f.1)
    where
      go : (o : Option ℕ) → inside_in (world_of stored s) ds pairs slots u ≡ o
          → (all_inside (inside_in (world_of stored s) ds pairs slots) us ≡ Some (map (value_in (world_of stored s) ds pairs slots) us)) ⊎ ((all_inside (inside_in (world_of stored s) ds pairs slots) us ≡ None) × Out around pairs slots)
          → (all_inside (inside_in (world_of stored s) ds pairs slots) (u ∷ us) ≡ Some (map (value_in (world_of stored s) ds pairs slots) (u ∷ us))) ⊎ ((all_inside (inside_in (world_of stored s) ds pairs slots) (u ∷ us) ≡ None) × Out around pairs slots)
      go None e r = inr (
        ap (λ (o : Option ℕ). with_first o (all_inside (inside_in (world_of stored s) ds pairs slots) us)) e,
        inside_none (world_of stored s) ds around (renamed pairs) (slice_index slots) ordered (renamed pairs u) f.0 e,
      )
      go (Some x) e (inr r) = inr (ap (λ (o : Option ℕ). with_first o (all_inside (inside_in (world_of stored s) ds pairs slots) us)) e ∙ ap (with_first (Some x)) r.0, r.1)
      go (Some x) e (inl r) =
          let v : value_in (world_of stored s) ds pairs slots u ≡ x = inside_known (world_of stored s) ds (renamed pairs) (slice_index slots) (renamed pairs u) x e in
          inl (
          ap (λ (o : Option ℕ). with_first o (all_inside (inside_in (world_of stored s) ds pairs slots) us)) e ∙ ap (with_first (Some x)) r
          ∙ ap (λ (n : ℕ). Some (n ∷ map (value_in (world_of stored s) ds pairs slots) us)) (sym v))

  follows_loop : (es : List Derived) (around : Loops) (name : Env) (v : ℕ) → is_replaced es v ≡ false → around v ≡ true → Follows es around name v
  follows_loop [] around name v r a = a
  follows_loop (d ∷ es) around name v r a = go (nat_eq v d.var) r (λ r. follows_loop es around name v r a)
    where
      go : (b : Bool) → (b || is_replaced es v) ≡ false → (is_replaced es v ≡ false → Follows es around name v) → MatchBool b (AllByRecursion (λ u. Follows es around name (name u)) (sources d.how)) (Follows es around name v)
      go true r k = absurd (cc)
      go false r k = k r

  -- the variables of a walked access up to its loop follow from the loops down to it
  prefix_follows : (vars : List ℕ) (v : ℕ) (around : Loops) (name : Env) → is_replaced ds v ≡ false → AllByRecursion (λ u. Follows ds around name (name u)) (take_before (λ u. nat_eq (name u) v) vars)
      → AllByRecursion (λ u. Follows ds (also around v) name (name u)) (take_through (λ u. nat_eq (name u) v) vars)
  prefix_follows [] v around name r f = tt
  prefix_follows (x ∷ vars) v around name r f = go (nat_eq (name x) v) (eqb-true (name x) v) f (λ f. prefix_follows vars v around name r f)
    where
      loop : Follows ds (also around v) name v
      loop = follows_loop ds (also around v) name v r (ap (λ (b : Bool). b || around v) (eq-eqb v v refl))

      go : (b : Bool) → (b ≡ true → name x ≡ v) → AllByRecursion (λ u. Follows ds around name (name u)) (if b then [] else x ∷ take_before (λ u. nat_eq (name u) v) vars)
          → (AllByRecursion (λ u. Follows ds around name (name u)) (take_before (λ u. nat_eq (name u) v) vars) → AllByRecursion (λ u. Follows ds (also around v) name (name u)) (take_through (λ u. nat_eq (name u) v) vars))
          → Follows ds (also around v) name (name x) × AllByRecursion (λ u. Follows ds (also around v) name (name u)) (if b then [] else take_through (λ u. nat_eq (name u) v) vars)
      go true e f k = (subst (Follows ds (also around v) name) (sym (e refl)) loop, tt)
      go false e f k = (follows_more ds around (also around v) name (λ u a. or_right (nat_eq u v) (around u) a) (name x) f.0, k f.1)

  and_left : (a b : Bool) → (a && b) ≡ true → a ≡ true
  and_left true b e = refl
  and_left false b e = e

  few_extents : (t : StoredTensor) → IsStored t → nat_le (length t.extents) 4 ≡ true
  few_extents t h = and_left (nat_le (length t.extents) 4) (list_all is_extent t.extents) (and_left (nat_le (length t.extents) 4 && list_all is_extent t.extents) (nat_le (product t.extents) 16777216) (go (are_extents t.extents) h.shape))
    where
      go : (b : Bool) → IsSome {T = Shape} (if b then Some (record { order = length t.extents; extents = t.extents ++ replicate (4 - length t.extents) 1 }) else None) → b ≡ true
      go true k = refl
      go false k = absurd (cc)

  takes_split : (walk : Option Walk) (v : ℕ) (around : Loops) (pairs : List Pair) (slots : List ℕ) → WalkBelow (length s.names) (length s.tensors) walk → FitsWalk stored s walk → WalkFollows ds walk v around (renamed pairs) → is_replaced ds v ≡ false
      → ((inside_tests (world_of stored s) ds).takes walk v pairs slots ≡ (tests_of (world_of stored s) ds).takes walk v pairs slots)
      ⊎ (((inside_tests (world_of stored s) ds).takes walk v pairs slots ≡ false) × Out (also around v) pairs slots)
  takes_split None v around pairs slots b f w r = inl refl
  takes_split (Some k) v around pairs slots b f w r =
      go (all_split (take_through (λ u. nat_eq (renamed pairs u) v) k.vars) (also around v) pairs slots (prefix_follows k.vars v around (renamed pairs) r w.1))
    where
      few : nat_le (length k.vars) 4 ≡ true
      few =
          let n : length (tensor_at stored k.tensor).extents ≡ length k.vars = ap length (f b.0) ∙ length-map k.vars (λ (v : ℕ). slice_index s.extents v) in
          ap (λ (m : ℕ). nat_le m 4) (sym n) ∙ few_extents (tensor_at stored k.tensor) (each k.tensor b.0)

      go : (all_inside (inside_in (world_of stored s) ds pairs slots) (take_through (λ u. nat_eq (renamed pairs u) v) k.vars) ≡ Some (map (value_in (world_of stored s) ds pairs slots) (take_through (λ u. nat_eq (renamed pairs u) v) k.vars)))
          ⊎ ((all_inside (inside_in (world_of stored s) ds pairs slots) (take_through (λ u. nat_eq (renamed pairs u) v) k.vars) ≡ None) × Out (also around v) pairs slots)
          → ((inside_tests (world_of stored s) ds).takes (Some k) v pairs slots ≡ (tests_of (world_of stored s) ds).takes (Some k) v pairs slots)
          ⊎ (((inside_tests (world_of stored s) ds).takes (Some k) v pairs slots ≡ false) × Out (also around v) pairs slots)
      go (inl e) = inl (
          ap (λ (t : Bool). t && nat_le (length k.vars) 4 && stored_inside (world_of stored s) k.tensor (all_inside (inside_in (world_of stored s) ds pairs slots) (take_through (λ u. nat_eq (renamed pairs u) v) k.vars))) (lt-ltb k.tensor (length s.tensors) b.0)
          ∙ ap (λ (t : Bool). true && t && stored_inside (world_of stored s) k.tensor (all_inside (inside_in (world_of stored s) ds pairs slots) (take_through (λ u. nat_eq (renamed pairs u) v) k.vars))) few
          ∙ ap (stored_inside (world_of stored s) k.tensor) e)
      go (inr e) = inr (
        and_false (nat_lt k.tensor (length s.tensors) && nat_le (length k.vars) 4) (stored_inside (world_of stored s) k.tensor (all_inside (inside_in (world_of stored s) ds pairs slots) (take_through (λ u. nat_eq (renamed pairs u) v) k.vars))) (ap (stored_inside (world_of stored s) k.tensor) e.0),
        e.1,
      )

  lanes_same : (walk : Option Walk) (v n : ℕ) (body : Tree) (around : Loops) (scope : Scope) (slots : List ℕ) → is_replaced ds v ≡ false → WalkBelow (length s.names) (length s.tensors) walk → FitsWalk stored s walk → WalkFollows ds walk v around (renamed scope.pairs) → Keeps scope.pairs
      → AllFollow ds body (also around v) (renamed scope.pairs) → HaveGuards ds body (also around v) (renamed scope.pairs)
      → substituted_visits (inside_tests (world_of stored s) ds) walk v n body scope slots ≡ substituted_visits (tests_of (world_of stored s) ds) walk v n body scope slots
  lanes_same walk v n (Loop u m more inner) around scope slots r b f w keep a g = refl
  lanes_same walk v n (Pre work more p q) around scope slots r b f w keep a g = refl
  lanes_same walk v n (Leaf lhs terms guards kernel) around scope slots r b f w keep a g =
      ap (λ (p : ℕ → Bool). lane_visit (record { lhs = lhs; terms = terms; guards = guards; kernel = kernel }) scope slots v n (filter p (range_with_len 0 n)))
      (fun_ext (λ x. go x (takes_split walk v around scope.pairs (slice_set slots v x) b f w r) (holds_same guards (also around v) scope.pairs (slice_set slots v x) keep a.1 g)))
    where
      go : (x : ℕ) → ((inside_tests (world_of stored s) ds).takes walk v scope.pairs (slice_set slots v x) ≡ (tests_of (world_of stored s) ds).takes walk v scope.pairs (slice_set slots v x))
          ⊎ (((inside_tests (world_of stored s) ds).takes walk v scope.pairs (slice_set slots v x) ≡ false) × Out (also around v) scope.pairs (slice_set slots v x))
          → (inside_tests (world_of stored s) ds).holds (leaf_node lhs terms guards kernel) scope.pairs (slice_set slots v x) ≡ (tests_of (world_of stored s) ds).holds (leaf_node lhs terms guards kernel) scope.pairs (slice_set slots v x)
          → is_valid (inside_tests (world_of stored s) ds) walk v (leaf_node lhs terms guards kernel) scope.pairs slots x ≡ is_valid (tests_of (world_of stored s) ds) walk v (leaf_node lhs terms guards kernel) scope.pairs slots x
      go x (inl e) h = ap (λ (t : Bool). t && (inside_tests (world_of stored s) ds).holds (leaf_node lhs terms guards kernel) scope.pairs (slice_set slots v x)) e ∙ ap (λ (t : Bool). (tests_of (world_of stored s) ds).takes walk v scope.pairs (slice_set slots v x) && t) h
      go x (inr e) h =
          ap (λ (t : Bool). t && (inside_tests (world_of stored s) ds).holds (leaf_node lhs terms guards kernel) scope.pairs (slice_set slots v x)) e.0
          ∙ sym (and_false ((tests_of (world_of stored s) ds).takes walk v scope.pairs (slice_set slots v x)) ((tests_of (world_of stored s) ds).holds (leaf_node lhs terms guards kernel) scope.pairs (slice_set slots v x)) (leaf_fails guards (also around v) scope.pairs (slice_set slots v x) keep g e.1))

  -- the visits under both tests are the same
  pub same_visits : (tree : Tree) (around : Loops) (scope : Scope) (slots path : List ℕ) → IsNamed s tree → FitsWalks stored s tree → AllFollow ds tree around (renamed scope.pairs) → HaveGuards ds tree around (renamed scope.pairs) → AreLoops ds tree → ArePlain around → Keeps scope.pairs
      → tree_visits (inside_tests (world_of stored s) ds) tree scope slots path ≡ tree_visits (tests_of (world_of stored s) ds) tree scope slots path
  same_visits (Loop v n walk body) around scope slots path named fits a g loops plain keep =
      go (is_kernel_leaf body) (lanes_same walk v n body around scope slots loops.0 named.2 fits.0 a.2 keep a.3 g)
      (λ i. value i (takes_split walk v around scope.pairs (slice_set slots v i) named.2 fits.0 a.2 loops.0) (same_visits body (also around v) (entered scope v) (slice_set slots v i) (drop 1 path) named.3 fits.1 a.3 g loops.1 (more_plain around v plain loops.0) keep))
    where
      nothing : (b : Bool) (l : List Item) → l ≡ [] → (if b then l else []) ≡ []
      nothing true l e = e
      nothing false l e = refl

      value : (i : ℕ) → ((inside_tests (world_of stored s) ds).takes walk v scope.pairs (slice_set slots v i) ≡ (tests_of (world_of stored s) ds).takes walk v scope.pairs (slice_set slots v i))
          ⊎ (((inside_tests (world_of stored s) ds).takes walk v scope.pairs (slice_set slots v i) ≡ false) × Out (also around v) scope.pairs (slice_set slots v i))
          → tree_visits (inside_tests (world_of stored s) ds) body (entered scope v) (slice_set slots v i) (drop 1 path) ≡ tree_visits (tests_of (world_of stored s) ds) body (entered scope v) (slice_set slots v i) (drop 1 path)
          → (if (inside_tests (world_of stored s) ds).takes walk v scope.pairs (slice_set slots v i) then tree_visits (inside_tests (world_of stored s) ds) body (entered scope v) (slice_set slots v i) (drop 1 path) else [])
          ≡ (if (tests_of (world_of stored s) ds).takes walk v scope.pairs (slice_set slots v i) then tree_visits (tests_of (world_of stored s) ds) body (entered scope v) (slice_set slots v i) (drop 1 path) else [])
      value i (inl e) h =
          ap (λ (t : Bool). if t then tree_visits (inside_tests (world_of stored s) ds) body (entered scope v) (slice_set slots v i) (drop 1 path) else []) e
          ∙ ap (λ (l : List Item). if (tests_of (world_of stored s) ds).takes walk v scope.pairs (slice_set slots v i) then l else []) h
      value i (inr e) h =
          ap (λ (t : Bool). if t then tree_visits (inside_tests (world_of stored s) ds) body (entered scope v) (slice_set slots v i) (drop 1 path) else []) e.0
          ∙ sym (nothing ((tests_of (world_of stored s) ds).takes walk v scope.pairs (slice_set slots v i)) (tree_visits (tests_of (world_of stored s) ds) body (entered scope v) (slice_set slots v i) (drop 1 path))
          (no_visits body (also around v) (entered scope v) (slice_set slots v i) (drop 1 path) named.3 a.3 g loops.1 (more_plain around v plain loops.0) keep e.1))

      go : (b : Bool) → substituted_visits (inside_tests (world_of stored s) ds) walk v n body scope slots ≡ substituted_visits (tests_of (world_of stored s) ds) walk v n body scope slots
          → ((i : ℕ) → (if (inside_tests (world_of stored s) ds).takes walk v scope.pairs (slice_set slots v i) then tree_visits (inside_tests (world_of stored s) ds) body (entered scope v) (slice_set slots v i) (drop 1 path) else [])
          ≡ (if (tests_of (world_of stored s) ds).takes walk v scope.pairs (slice_set slots v i) then tree_visits (tests_of (world_of stored s) ds) body (entered scope v) (slice_set slots v i) (drop 1 path) else []))
          → (if b then substituted_visits (inside_tests (world_of stored s) ds) walk v n body scope slots
          else flat_map (λ i. if (inside_tests (world_of stored s) ds).takes walk v scope.pairs (slice_set slots v i) then tree_visits (inside_tests (world_of stored s) ds) body (entered scope v) (slice_set slots v i) (drop 1 path) else []) (values_on path n))
          ≡ (if b then substituted_visits (tests_of (world_of stored s) ds) walk v n body scope slots
          else flat_map (λ i. if (tests_of (world_of stored s) ds).takes walk v scope.pairs (slice_set slots v i) then tree_visits (tests_of (world_of stored s) ds) body (entered scope v) (slice_set slots v i) (drop 1 path) else []) (values_on path n))
      go true k h = k
      go false k h = ap (λ (f : ℕ → List Item). flat_map f (values_on path n)) (fun_ext h)
  same_visits (Pre work more p q) around scope slots path named fits a g loops plain keep =
      let e : renamed (scope.pairs ++ more) ≡ under more (renamed scope.pairs) = fun_ext (renamed-append scope.pairs more) in
      let first = same_visits p around (in_producer scope more) slots [] named.2 fits.0 (subst (AllFollow ds p around) (sym e) a.1) (subst (HaveGuards ds p around) (sym e) g.0) loops.0 plain
      (λ u. ap (slice_index s.extents) (renamed-append scope.pairs more u) ∙ renamed_extents s more named.1 (renamed scope.pairs u) ∙ keep u) in
      let second = same_visits q around scope slots [] named.3 fits.1 a.2 g.1 loops.1 plain keep in
      ap (λ (l : List Item). with_reset work (l ++ tree_visits (inside_tests (world_of stored s) ds) q scope slots [])) first
      ∙ ap (λ (l : List Item). with_reset work (tree_visits (tests_of (world_of stored s) ds) p (in_producer scope more) slots [] ++ l)) second
  same_visits (Leaf lhs terms guards kernel) around scope slots path named fits a g loops plain keep =
      ap (λ (b : Bool). if b then IsVisit (record { leaf = record { lhs = lhs; terms = terms; guards = guards; kernel = kernel }; around = scope.around; pairs = scope.pairs; slots = slots; lanes = None }) ∷ [] else []) (holds_same guards around scope.pairs slots keep a.1 g)

-- each tensor of a schedule stores what its levels ask for
pub stored_each : (stored : List StoredTensor) (s : Schedule) → FitsStored stored s → (t : ℕ) → t < length s.tensors → IsStored (tensor_at stored t)
stored_each stored s f t k = all_get IsStored stored t (record { extents = []; compressed = []; coords = [] }) f.levels (omega (arith, k, f.count))

-- A lawful schedule's visits are those under the tests that fail as soon as a variable is outside, for all tensors that fit.
pub visits_inside : (s : Schedule) (stored : List StoredTensor) (path : List ℕ) → IsLawful s → FitsStored stored s
    → tree_visits (inside_tests (world_of stored s) s.derived) s.nest at_root (no_slots s) path ≡ visits_of stored s path
unfolding visits_of
visits_inside s stored path l f =
    same_visits stored s (stored_each stored s f) s.derived l.ordered
    s.nest (λ u. false) at_root (no_slots s) path l.named (walks_fit stored s s.nest f.accesses l.walks) l.follows l.guards l.loops (λ u a. absurd (cc)) (λ u. refl)
