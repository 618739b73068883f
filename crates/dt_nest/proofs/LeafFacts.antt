-- What is known at a leaf of a lawful schedule.
use Rattle.std.proofs.Common.{◌≡◌, ℕ, zero, suc, ◌+◌, ◌-◌, ◌<◌, ◌≤◌, Bool, true, false, ◌&&◌, ◌||◌, List, [], ◌∷◌, ◌++◌, append_assoc, length, filter, Option, Some, None, unwrap_or, refl, sym, ap, ◌∙◌, subst, arith}
use Rattle.std.specs.Prelude.{if◌then◌else◌, MatchBool, nat_eq, nat_lt, slice_index, slice_set}
use Rattle.std.specs.List.{AllByRecursion, list_all, range_with_len}
use Rattle.std.proofs.Math.Path.{fun_ext}
use Rattle.std.proofs.lemmas.Bool.{eqb-true, eq-eqb, ltb-true, ltb-false, or_right}
use Rattle.std.proofs.Math.ListN.{length-set}
use Rattle.std.proofs.lemmas.List.{get_or-set_other, get_or-set_same, get_or_past}
use Rattle.dt_model.specs.Positions.{StoredTensor, IsStored, tensor_at}
use Rattle.dt_nest.specs.declared.loops.Pair.{Pair}
use Rattle.dt_nest.specs.declared.loops.Kernel.TheVariants.{Plain, Dot, Dot3}
use Rattle.dt_nest.specs.declared.derivations.Derived.{Derived}
use Rattle.dt_nest.specs.declared.branches.Substituted.{Substituted}
use Rattle.dt_nest.specs.Tree.{Tree, Loop, Pre, Leaf, leaf_count, is_kernel_leaf, read_accesses}
use Rattle.dt_nest.specs.Schedule.{Schedule}
use Rattle.dt_nest.specs.Meaning.{World, renamed, under, guards_hold}
use Rattle.dt_nest.specs.World.{world_of}
use Rattle.dt_nest.proofs.LawfulFit.{FitsCoordinate}
use Rattle.dt_nest.specs.Lawful.{is_replaced, AreLoops, IsNamed, AreNamed, AreOrdered, Loops, also, Follows, AllFollow, AreGuarded, HaveGuards, IsSubstituted, HaveKernels}
use Rattle.dt_nest.proofs.Inside.{guard_holds, renamed_extents, variables_below}
use Rattle.dt_nest.specs.Values.{inside_in, guard_inside, is_below, inside_tests}
use Rattle.dt_nest.specs.Visits.{LeafNode, Lanes, Tests, value_in, is_valid, valid_values, leaf_node}
use Rattle.dt_nest.specs.Search.{AreZero, IsAt, node_of, pairs_at}
use Rattle.dt_nest.proofs.Each.{all_filter}
use Rattle.dt_nest.specs.Branch.{leaf_at, node_at, leaf_tree, loops_at, substituted_at, valid_at, lanes_at}
use Rattle.dt_nest.specs.Run.{among, with_lane, is_among, AreAscending, GuardsHold}
use Rattle.dt_nest.proofs.Names.{renamed-append}
use Rattle.dt_nest.proofs.Agree.{known_agree, follows_more, follows_loop}
use Rattle.dt_nest.proofs.Agreement.{follows_under}
use Rattle.dt_nest.proofs.Known.{Outside, inside_known, inside_none}
use Rattle.dt_nest.proofs.Searches.{any_found}
use Rattle.dt_nest.proofs.Pruned.{deeper, leaf_fails}

-- The leaf itself and the substituted loop ----------------------------------------------------------------------------

-- the leaf is the tree with its parts
pub leaf-node : (tree : Tree) (leaf : ℕ) → leaf_at tree leaf ≡ leaf_tree (node_at tree leaf)
leaf-node (Loop v n walk body) leaf = leaf-node body leaf
leaf-node (Pre work more p q) leaf = go (nat_lt leaf (leaf_count p)) (leaf-node p leaf) (leaf-node q (leaf - leaf_count p))
  where
    go : (b : Bool) → leaf_at p leaf ≡ leaf_tree (node_at p leaf) → leaf_at q (leaf - leaf_count p) ≡ leaf_tree (node_at q (leaf - leaf_count p))
        → (if b then leaf_at p leaf else leaf_at q (leaf - leaf_count p)) ≡ leaf_tree (if b then node_at p leaf else node_at q (leaf - leaf_count p))
    go true a r = a
    go false a r = r
leaf-node (Leaf lhs terms guards kernel) leaf = refl

filter_same : (p q : ℕ → Bool) (xs : List ℕ) → AllByRecursion (λ x. p x ≡ q x) xs → filter p xs ≡ filter q xs
filter_same p q [] h = refl
filter_same p q (x ∷ xs) h = ap (λ (b : Bool). if b then x ∷ filter p xs else filter p xs) h.0 ∙ ap (λ (l : List ℕ). if q x then x ∷ l else l) (filter_same p q xs h.1)

-- a number of a list is among those that pass a test, if it passes
among_filter : (p : ℕ → Bool) (x : ℕ) (xs : List ℕ) → is_among x xs ≡ true → is_among x (filter p xs) ≡ p x
among_filter p x [] h = absurd (cc)
among_filter p x (y ∷ xs) h = go (nat_eq x y) (p y) refl refl (eqb-true x y) h (among_filter p x xs) (none p x xs)
  where
    none : (p : ℕ → Bool) (x : ℕ) (xs : List ℕ) → p x ≡ false → is_among x (filter p xs) ≡ false
    none p x [] e = refl
    none p x (y ∷ xs) e = kept (p y) (nat_eq x y) refl refl (eqb-true x y) (none p x xs e)
      where
        kept : (b c : Bool) → p y ≡ b → nat_eq x y ≡ c → (nat_eq x y ≡ true → x ≡ y) → is_among x (filter p xs) ≡ false → is_among x (if b then y ∷ filter p xs else filter p xs) ≡ false
        kept false c i j k r = r
        kept true true i j k r = let f : p x ≡ true = ap p (k j) ∙ i in absurd (cc)
        kept true false i j k r = ap (λ (d : Bool). d || is_among x (filter p xs)) j ∙ r

    go : (b c : Bool) → nat_eq x y ≡ b → p y ≡ c → (nat_eq x y ≡ true → x ≡ y) → (b || is_among x xs) ≡ true → (is_among x xs ≡ true → is_among x (filter p xs) ≡ p x) → (p x ≡ false → is_among x (filter p xs) ≡ false)
        → is_among x (if c then y ∷ filter p xs else filter p xs) ≡ p x
    go true true i j k h r m = ap (λ (d : Bool). d || is_among x (filter p xs)) i ∙ sym (ap p (k i) ∙ j)
    go true false i j k h r m = let f : p x ≡ false = ap p (k i) ∙ j in m f ∙ sym f
    go false true i j k h r m = ap (λ (d : Bool). d || is_among x (filter p xs)) i ∙ r h
    go false false i j k h r m = r h

all_among : (P : ℕ → Type 0) (x : ℕ) (xs : List ℕ) → AllByRecursion P xs → is_among x xs ≡ true → P x
all_among P x [] a h = absurd (cc)
all_among P x (y ∷ xs) a h = go (nat_eq x y) (eqb-true x y) h (λ h. all_among P x xs a.1 h)
  where
    go : (b : Bool) → (b ≡ true → x ≡ y) → (b || is_among x xs) ≡ true → (is_among x xs ≡ true → P x) → P x
    go true e h r = subst P (sym (e refl)) a.0
    go false e h r = r h

all_in : (xs : List ℕ) → AllByRecursion (λ x. is_among x xs ≡ true) xs
all_in [] = tt
all_in (x ∷ xs) = (ap (λ (b : Bool). b || is_among x xs) (eq-eqb x x refl), later xs (all_in xs))
  where
    or_right : (b c : Bool) → c ≡ true → (b || c) ≡ true
    or_right true c e = refl
    or_right false c e = e

    later : (ys : List ℕ) → AllByRecursion (λ y. is_among y xs ≡ true) ys → AllByRecursion (λ y. is_among y (x ∷ xs) ≡ true) ys
    later [] h = tt
    later (y ∷ ys) h = (or_right (nat_eq y x) (is_among y xs) h.0, later ys h.1)

all_mapped : (P Q : ℕ → Type 0) (xs : List ℕ) → ((x : ℕ) → P x → Q x) → AllByRecursion P xs → AllByRecursion Q xs
all_mapped P Q [] f h = tt
all_mapped P Q (x ∷ xs) f h = (f x h.0, all_mapped P Q xs f h.1)

ascending : (p : ℕ → Bool) (xs : List ℕ) → filter p xs ≡ filter (λ x. is_among x (filter p xs)) xs
ascending p xs = filter_same p (λ x. is_among x (filter p xs)) xs (all_mapped (λ x. is_among x xs ≡ true) (λ x. p x ≡ is_among x (filter p xs)) xs (λ x h. sym (among_filter p x xs h)) (all_in xs))

-- a substituted loop at a visit, as the tree has it
abbrev pub LaneIs : Option Lanes → Option Substituted → (ℕ → Bool) → Type 0
LaneIs None None valid = Unit {0}
LaneIs None (Some loop) valid = ⊥
LaneIs (Some lanes) None valid = ⊥
LaneIs (Some lanes) (Some loop) valid =
    (loop.var ≡ lanes.var) × (loop.extent ≡ lanes.extent) × AreAscending (Some lanes) × ((x : ℕ) → x < lanes.extent → valid x ≡ is_among x lanes.valid)

pub lane_is : (t : Tests) (tree : Tree) (pairs : List Pair) (slots : List ℕ) (leaf : ℕ) → LaneIs (lanes_at t tree pairs slots leaf) (substituted_at tree leaf) (valid_at t tree pairs slots leaf)
lane_is t (Loop v n walk body) pairs slots leaf = go (is_kernel_leaf body) (lane_is t body pairs slots leaf)
  where
    go : (b : Bool) → LaneIs (lanes_at t body pairs slots leaf) (substituted_at body leaf) (valid_at t body pairs slots leaf)
        → LaneIs (if b then Some (record { var = v; extent = n; valid = valid_values t walk v n (node_of body) pairs slots }) else lanes_at t body pairs slots leaf)
        (if b then Some (record { var = v; extent = n }) else substituted_at body leaf)
        (λ x. if b then is_valid t walk v (node_of body) pairs slots x else valid_at t body pairs slots leaf x)
    go true r = (
      refl,
      refl,
      ascending (is_valid t walk v (node_of body) pairs slots) (range_with_len 0 n),
      (λ x l. sym (among_filter (is_valid t walk v (node_of body) pairs slots) x (range_with_len 0 n) (any_found (λ y. nat_eq x y) x n l (eq-eqb x x refl)))),
    )
    go false r = r
lane_is t (Pre work more p q) pairs slots leaf = go (nat_lt leaf (leaf_count p)) (lane_is t p (pairs ++ more) slots leaf) (lane_is t q pairs slots (leaf - leaf_count p))
  where
    go : (b : Bool) → LaneIs (lanes_at t p (pairs ++ more) slots leaf) (substituted_at p leaf) (valid_at t p (pairs ++ more) slots leaf)
        → LaneIs (lanes_at t q pairs slots (leaf - leaf_count p)) (substituted_at q (leaf - leaf_count p)) (valid_at t q pairs slots (leaf - leaf_count p))
        → LaneIs (if b then lanes_at t p (pairs ++ more) slots leaf else lanes_at t q pairs slots (leaf - leaf_count p))
        (if b then substituted_at p leaf else substituted_at q (leaf - leaf_count p))
        (λ x. if b then valid_at t p (pairs ++ more) slots leaf x else valid_at t q pairs slots (leaf - leaf_count p) x)
    go true a r = a
    go false a r = r
lane_is t (Leaf lhs terms guards kernel) pairs slots leaf = tt

-- What variables follow from -----------------------------------------------------------------------------------------

-- the substituted loop is none of those around it
abbrev pub IsApart : Option Lanes → Loops → Type 0
IsApart None around = Unit {0}
IsApart (Some lanes) around = around lanes.var ≡ false

-- a substituted loop has the extent that is kept for its name, and its valid values are below it
abbrev pub IsLaneOf : Schedule → Option Lanes → Type 0
IsLaneOf s None = Unit {0}
IsLaneOf s (Some lanes) = AllByRecursion (λ x. x < slice_index s.extents lanes.var) lanes.valid

-- a substituted loop itself has a value, where it has one
abbrev pub LaneFollows : List Derived → Loops → List Pair → Option Lanes → Type 0
LaneFollows ds around pairs None = Unit {0}
LaneFollows ds around pairs (Some lanes) = Follows ds (also around lanes.var) (renamed pairs) (renamed pairs lanes.var)

-- What holds at a leaf, of the loops around it and its renamings.
pub record LeafFacts (s : Schedule) (ds : List Derived) (slots : List ℕ) (around : Loops) (pairs : List Pair) (leaf : LeafNode) (lanes : Option Lanes) : Type 0 where
  pub inside : (u : ℕ) → around u ≡ true → slice_index slots u < slice_index s.extents u
  pub lane : IsLaneOf s lanes
  pub guards : AreGuarded ds leaf.guards (with_lane lanes around) (renamed pairs)
  pub keeps : (u : ℕ) → slice_index s.extents (renamed pairs u) ≡ slice_index s.extents u
  pub apart : IsApart lanes around
  pub left : AllByRecursion (λ u. Follows ds around (renamed pairs) (renamed pairs u)) leaf.lhs.vars
  pub reads : AllByRecursion (λ a. AllByRecursion (λ u. Follows ds (with_lane lanes around) (renamed pairs) (renamed pairs u)) a.vars) (read_accesses leaf.terms)
  pub loops : (u : ℕ) → around u ≡ true → Follows ds around (renamed pairs) (renamed pairs u)
  pub tested : AllByRecursion (λ u. Follows ds (with_lane lanes around) (renamed pairs) (renamed pairs u)) leaf.guards
  pub swept : LaneFollows ds around pairs lanes

append_none : (l : List Pair) → l ≡ l ++ []
append_none [] = refl
append_none (x ∷ l) = ap (λ (m : List Pair). x ∷ m) (append_none l)

range_below : (a n m : ℕ) → a + n ≤ m → AllByRecursion (λ x. x < m) (range_with_len a n)
range_below a zero m l = tt
range_below a (suc n) m l = (omega arith, range_below (a + 1) n m (omega arith))

-- The loops around: none was replaced, and each has a value.
pub record AreAround (ds : List Derived) (around : Loops) (pairs : List Pair) : Type 0 where
  pub plain : (u : ℕ) → around u ≡ true → is_replaced ds u ≡ false
  pub follow : (u : ℕ) → around u ≡ true → Follows ds around (renamed pairs) (renamed pairs u)

module _ (s : Schedule) (ds : List Derived) (ordered : AreOrdered ds) (t : Tests) where
  own_follows : (v : ℕ) (around : Loops) (pairs : List Pair) → renamed pairs v ≡ v → is_replaced ds v ≡ false → Follows ds (also around v) (renamed pairs) (renamed pairs v)
  own_follows v around pairs e r = subst (Follows ds (also around v) (renamed pairs)) (sym e) (follows_loop ds (also around v) (renamed pairs) v r (ap (λ (b : Bool). b || around v) (eq-eqb v v refl)))

  -- one more loop around
  more_around : (v : ℕ) (around : Loops) (pairs : List Pair) → renamed pairs v ≡ v → is_replaced ds v ≡ false → AreAround ds around pairs → AreAround ds (also around v) pairs
  more_around v around pairs e r h = record {
    plain = λ u k. plain u (nat_eq u v) (eqb-true u v) k;
    follow = λ u k. follow u (nat_eq u v) (eqb-true u v) k;
  }
    where
      plain : (u : ℕ) (b : Bool) → (b ≡ true → u ≡ v) → (b || around u) ≡ true → is_replaced ds u ≡ false
      plain u true i k = ap (is_replaced ds) (i refl) ∙ r
      plain u false i k = h.plain u k

      follow : (u : ℕ) (b : Bool) → (b ≡ true → u ≡ v) → (b || around u) ≡ true → Follows ds (also around v) (renamed pairs) (renamed pairs u)
      follow u true i k = subst (λ (x : ℕ). Follows ds (also around v) (renamed pairs) (renamed pairs x)) (sym (i refl)) (own_follows v around pairs e r)
      follow u false i k = follows_more ds around (also around v) (renamed pairs) (λ w m. or_right (nat_eq w v) (around w) m) (renamed pairs u) (h.follow u k)

  -- the loops around a producer keep their names there
  around_under : (around : Loops) (pairs more : List Pair) → ((u : ℕ) → Follows ds around (renamed pairs) u → renamed more u ≡ u) → AreAround ds around pairs → AreAround ds around (pairs ++ more)
  around_under around pairs more n h = record { plain = h.plain; follow = follow }
    where
      any_world : World
      any_world = record { coord = λ a b c. 0; stored = λ a c. true; extent = λ v. 0; tensors = 0 }

      follow : (u : ℕ) → around u ≡ true → Follows ds around (renamed (pairs ++ more)) (renamed (pairs ++ more) u)
      follow u k =
          let f = h.follow u k in
          let under_same : renamed (pairs ++ more) ≡ under more (renamed pairs) = fun_ext (renamed-append pairs more) in
          let moved = (follows_under (any_world) more around (renamed pairs) (λ w. 0) ds ordered h.plain n (renamed pairs u) f).0 in
          subst (λ (name : ℕ → ℕ). Follows ds around name (renamed (pairs ++ more) u)) (sym under_same)
          (subst (Follows ds around (under more (renamed pairs))) (sym (n (renamed pairs u) f) ∙ sym (renamed-append pairs more u)) moved)

  kernel_facts : (v n : ℕ) (valid : List ℕ) (body : Tree) (outer : List ℕ) (pairs : List Pair) (slots : List ℕ) (leaf : ℕ) → is_kernel_leaf body ≡ true → AreAround ds (among outer) pairs → renamed pairs v ≡ v → is_replaced ds v ≡ false → among outer v ≡ false
      → ((u : ℕ) → among outer u ≡ true → slice_index slots u < slice_index s.extents u) → AllByRecursion (λ x. x < slice_index s.extents v) valid
      → AllFollow ds body (also (among outer) v) (renamed pairs) → HaveGuards ds body (also (among outer) v) (renamed pairs) → IsSubstituted ds body (among outer) (renamed pairs)
      → ((u : ℕ) → slice_index s.extents (renamed pairs u) ≡ slice_index s.extents u)
      → LeafFacts s ds slots (among outer) (pairs ++ pairs_at body leaf) (node_at body leaf) (Some (record { var = v; extent = n; valid = valid }))
  kernel_facts v n valid (Loop u m more inner) outer pairs slots leaf k o e r f h b a g i keep = absurd (cc)
  kernel_facts v n valid (Pre work more p q) outer pairs slots leaf k o e r f h b a g i keep = absurd (cc)
  kernel_facts v n valid (Leaf lhs terms guards Plain) outer pairs slots leaf k o e r f h b a g i keep = absurd (cc)
  kernel_facts v n valid (Leaf lhs terms guards Dot) outer pairs slots leaf k o e r f h b a g i keep =
      subst (λ (l : List Pair). LeafFacts s ds slots (among outer) l (record { lhs = lhs; terms = terms; guards = guards; kernel = Dot }) (Some (record { var = v; extent = n; valid = valid }))) (append_none pairs)
      (record { inside = h; lane = b; guards = g; keeps = keep; apart = f; left = i.1; reads = a.0.1; loops = o.follow; tested = a.1; swept = own_follows v (among outer) pairs e r })
  kernel_facts v n valid (Leaf lhs terms guards Dot3) outer pairs slots leaf k o e r f h b a g i keep =
      subst (λ (l : List Pair). LeafFacts s ds slots (among outer) l (record { lhs = lhs; terms = terms; guards = guards; kernel = Dot3 }) (Some (record { var = v; extent = n; valid = valid }))) (append_none pairs)
      (record { inside = h; lane = b; guards = g; keeps = keep; apart = f; left = i.1; reads = a.0.1; loops = o.follow; tested = a.1; swept = own_follows v (among outer) pairs e r })

  one_more : (v n : ℕ) (outer slots : List ℕ) → ((u : ℕ) → among outer u ≡ true → slice_index slots u < slice_index s.extents u) → slice_index s.extents v ≡ n → slice_index slots v < n
      → (u : ℕ) → among (v ∷ outer) u ≡ true → slice_index slots u < slice_index s.extents u
  one_more v n outer slots h e l u k = go (nat_eq u v) (eqb-true u v) k
    where
      go : (b : Bool) → (b ≡ true → u ≡ v) → (b || among outer u) ≡ true → slice_index slots u < slice_index s.extents u
      go true i k = let p = ap (slice_index slots) (i refl) in let q = ap (slice_index s.extents) (i refl) in omega (arith, p, q, e, l)
      go false i k = h u k

  pub leaf_facts : (tree : Tree) (outer : List ℕ) (pairs : List Pair) (slots : List ℕ) (leaf : ℕ) → IsAt tree slots leaf → ((u : ℕ) → among outer u ≡ true → slice_index slots u < slice_index s.extents u)
      → IsNamed s tree → AllFollow ds tree (among outer) (renamed pairs) → HaveGuards ds tree (among outer) (renamed pairs) → HaveKernels ds tree (among outer) (renamed pairs)
      → ((u : ℕ) → slice_index s.extents (renamed pairs u) ≡ slice_index s.extents u) → AreLoops ds tree → AreAround ds (among outer) pairs
      → LeafFacts s ds slots (among (loops_at tree outer leaf)) (pairs ++ pairs_at tree leaf) (node_at tree leaf) (lanes_at t tree pairs slots leaf)
  leaf_facts (Loop v n walk body) outer pairs slots leaf at h named a g k keep loops o =
      go (is_kernel_leaf body) at.0 (λ e. kernel_facts v n (valid_values t walk v n (node_of body) pairs slots) body outer pairs slots leaf e o a.1 loops.0 a.0 h below_extent a.3 g k.0 keep)
      (λ l. leaf_facts body (v ∷ outer) pairs slots leaf at.1 (one_more v n outer slots h named.1 l) named.3 a.3 g k.1 keep loops.1 (more_around v (among outer) pairs a.1 loops.0 o))
    where
      below_extent : AllByRecursion (λ x. x < slice_index s.extents v) (valid_values t walk v n (node_of body) pairs slots)
      below_extent =
          let m : 0 + n ≤ slice_index s.extents v = omega (arith, named.1) in
          all_filter (λ x. x < slice_index s.extents v) (is_valid t walk v (node_of body) pairs slots) (range_with_len 0 n) (range_below 0 n (slice_index s.extents v) m)

      go : (b : Bool) → MatchBool b (slice_index slots v ≡ 0) (slice_index slots v < n)
          → (b ≡ true → LeafFacts s ds slots (among outer) (pairs ++ pairs_at body leaf) (node_at body leaf) (Some (record { var = v; extent = n; valid = valid_values t walk v n (node_of body) pairs slots })))
          → (slice_index slots v < n → LeafFacts s ds slots (among (loops_at body (v ∷ outer) leaf)) (pairs ++ pairs_at body leaf) (node_at body leaf) (lanes_at t body pairs slots leaf))
          → LeafFacts s ds slots (among (if b then outer else loops_at body (v ∷ outer) leaf)) (pairs ++ pairs_at body leaf) (node_at body leaf)
          (if b then Some (record { var = v; extent = n; valid = valid_values t walk v n (node_of body) pairs slots }) else lanes_at t body pairs slots leaf)
      go true l f r = f refl
      go false l f r = r l
  leaf_facts (Pre work more p q) outer pairs slots leaf at h named a g k keep loops o =
      let e : renamed (pairs ++ more) ≡ under more (renamed pairs) = fun_ext (renamed-append pairs more) in
      go (nat_lt leaf (leaf_count p)) at
      (λ l. subst (λ (l : List Pair). LeafFacts s ds slots (among (loops_at p outer leaf)) l (node_at p leaf) (lanes_at t p (pairs ++ more) slots leaf)) (append_assoc pairs more (pairs_at p leaf))
      (leaf_facts p outer (pairs ++ more) slots leaf l h named.2 (subst (AllFollow ds p (among outer)) (sym e) a.1) (subst (HaveGuards ds p (among outer)) (sym e) g.0) (subst (HaveKernels ds p (among outer)) (sym e) k.2)
      (λ u. ap (slice_index s.extents) (renamed-append pairs more u) ∙ renamed_extents s more named.1 (renamed pairs u) ∙ keep u) loops.0 (around_under (among outer) pairs more a.0 o)))
      (λ l. leaf_facts q outer pairs slots (leaf - leaf_count p) l h named.3 a.2 g.1 k.3 keep loops.1 o)
    where
      go : (b : Bool) → MatchBool b (IsAt p slots leaf × AreZero q slots) (AreZero p slots × IsAt q slots (leaf - leaf_count p))
          → (IsAt p slots leaf → LeafFacts s ds slots (among (loops_at p outer leaf)) (pairs ++ (more ++ pairs_at p leaf)) (node_at p leaf) (lanes_at t p (pairs ++ more) slots leaf))
          → (IsAt q slots (leaf - leaf_count p) → LeafFacts s ds slots (among (loops_at q outer (leaf - leaf_count p))) (pairs ++ pairs_at q (leaf - leaf_count p)) (node_at q (leaf - leaf_count p)) (lanes_at t q pairs slots (leaf - leaf_count p)))
          → LeafFacts s ds slots (among (if b then loops_at p outer leaf else loops_at q outer (leaf - leaf_count p))) (pairs ++ (if b then more ++ pairs_at p leaf else pairs_at q (leaf - leaf_count p)))
          (if b then node_at p leaf else node_at q (leaf - leaf_count p)) (if b then lanes_at t p (pairs ++ more) slots leaf else lanes_at t q pairs slots (leaf - leaf_count p))
      go true l a r = a l.0
      go false l a r = r l.1
  leaf_facts (Leaf lhs terms guards kernel) outer pairs slots leaf at h named a g k keep loops o =
      subst (λ (l : List Pair). LeafFacts s ds slots (among outer) l (record { lhs = lhs; terms = terms; guards = guards; kernel = kernel }) None) (append_none pairs)
      (record { inside = h; lane = tt; guards = g; keeps = keep; apart = tt; left = a.0.0; reads = a.0.1; loops = o.follow; tested = a.1; swept = tt })

-- Values at a visit --------------------------------------------------------------------------------------------------

module _ (w : World) (ds : List Derived) (pairs : List Pair) (slots : List ℕ) where
  -- guards that hold inside hold
  pub holds_true : (guards : List ℕ) → list_all (guard_inside w (inside_in w ds pairs slots)) guards ≡ true → guards_hold w (value_in w ds pairs slots) guards ≡ true
  holds_true [] e = refl
  holds_true (g ∷ guards) e = go (inside_in w ds pairs slots g) refl e (λ h. holds_true guards h)
    where
      both : (a b : Bool) → (a && b) ≡ true → (a ≡ true) × (b ≡ true)
      both true b e = (refl, e)
      both false b e = absurd (cc)

      go : (o : Option ℕ) → inside_in w ds pairs slots g ≡ o → (is_below (w.extent g) o && list_all (guard_inside w (inside_in w ds pairs slots)) guards) ≡ true → (list_all (guard_inside w (inside_in w ds pairs slots)) guards ≡ true → guards_hold w (value_in w ds pairs slots) guards ≡ true)
          → guards_hold w (value_in w ds pairs slots) (g ∷ guards) ≡ true
      go None i e r = absurd (cc)
      go (Some x) i e r =
          let v : value_in w ds pairs slots g ≡ x = inside_known w ds (renamed pairs) (slice_index slots) (renamed pairs g) x i in
          let h = both (nat_lt x (w.extent g)) (list_all (guard_inside w (inside_in w ds pairs slots)) guards) e in
          ap (λ (n : ℕ). nat_lt n (w.extent g) && guards_hold w (value_in w ds pairs slots) guards) v ∙ ap (λ (b : Bool). b && guards_hold w (value_in w ds pairs slots) guards) h.0 ∙ r h.1

module _ (stored : List StoredTensor) (s : Schedule) (each : (t : ℕ) → t < length s.tensors → IsStored (tensor_at stored t)) (ds : List Derived) (ordered : AreOrdered ds) (pairs : List Pair) (slots : List ℕ) where
  abbrev Out : Loops → List ℕ → Type 0
  Out around values = Outside (world_of stored s) ds around (renamed pairs) (slice_index values)

  -- where guards hold no variable is outside
  none_outside : (guards : List ℕ) (around : Loops) (values : List ℕ) → AreGuarded ds guards around (renamed pairs) → ((u : ℕ) → slice_index s.extents (renamed pairs u) ≡ slice_index s.extents u)
      → list_all (guard_inside (world_of stored s) (inside_in (world_of stored s) ds pairs values)) guards ≡ true → Out around values → ⊥
  none_outside guards around values g keep h o =
      let a = holds_true (world_of stored s) ds pairs values guards h in
      let b = leaf_fails stored s each ds ordered guards around pairs values keep g o in
      cc

  value_or_out : (around : Loops) (values : List ℕ) (u : ℕ) (o : Option ℕ) → Follows ds around (renamed pairs) (renamed pairs u) → o ≡ inside_in (world_of stored s) ds pairs values u → (Out around values → ⊥)
      → unwrap_or o 0 ≡ value_in (world_of stored s) ds pairs values u
  value_or_out around values u None f e n = absurd (n (inside_none (world_of stored s) ds around (renamed pairs) (slice_index values) ordered (renamed pairs u) f (sym e)))
  value_or_out around values u (Some x) f e n = sym (inside_known (world_of stored s) ds (renamed pairs) (slice_index values) (renamed pairs u) x (sym e))

  module _ (around : Loops) (leaf : LeafNode) where
    -- a variable's value at a visit
    pub value_there : (lanes : Option Lanes) → LeafFacts s ds slots around pairs leaf lanes → GuardsHold (inside_tests (world_of stored s) ds) leaf pairs slots lanes → (u : ℕ) (o : Option ℕ)
        → Follows ds around (renamed pairs) (renamed pairs u) → o ≡ inside_in (world_of stored s) ds pairs slots u → unwrap_or o 0 ≡ value_in (world_of stored s) ds pairs slots u
    value_there None f h u o k e = value_or_out around slots u o k e (none_outside leaf.guards around slots f.guards f.keeps h)
    value_there (Some lanes) f h u o k e = value_or_out around slots u o k e (λ out. go lanes.valid h.0 h.1 out)
      where
        go : (valid : List ℕ) → 0 < length valid → AllByRecursion (λ x. (inside_tests (world_of stored s) ds).holds leaf pairs (slice_set slots lanes.var x) ≡ true) valid → Out around slots → ⊥
        go [] l a out = absurd (omega arith)
        go (x ∷ valid) l a out =
            none_outside leaf.guards (also around lanes.var) (slice_set slots lanes.var x) f.guards f.keeps a.0 (deeper stored s each ds ordered around pairs slots lanes.var x f.apart out)

    -- and with a valid value of the substituted loop
    pub lane_value_there : (lanes : Lanes) → LeafFacts s ds slots around pairs leaf (Some lanes) → GuardsHold (inside_tests (world_of stored s) ds) leaf pairs slots (Some lanes) → (x : ℕ) → is_among x lanes.valid ≡ true → (u : ℕ) (o : Option ℕ)
        → Follows ds (also around lanes.var) (renamed pairs) (renamed pairs u) → o ≡ inside_in (world_of stored s) ds pairs (slice_set slots lanes.var x) u
        → unwrap_or o 0 ≡ value_in (world_of stored s) ds pairs (slice_set slots lanes.var x) u
    lane_value_there lanes f h x m u o k e =
        value_or_out (also around lanes.var) (slice_set slots lanes.var x) u o k e
        (none_outside leaf.guards (also around lanes.var) (slice_set slots lanes.var x) f.guards f.keeps (all_among (λ y. (inside_tests (world_of stored s) ds).holds leaf pairs (slice_set slots lanes.var y) ≡ true) x lanes.valid h.1 m))

  module _ (named : AreNamed s ds) (fits : AllByRecursion (λ d. FitsCoordinate stored s d.var d.how) ds) (around : Loops) (leaf : LeafNode) where
    -- what follows from loops that are below their extents is below its own, where guards hold
    value_below : (more : Loops) (values : List ℕ) → ((u : ℕ) → more u ≡ true → slice_index values u < slice_index s.extents u) → AreGuarded ds leaf.guards more (renamed pairs) → ((u : ℕ) → slice_index s.extents (renamed pairs u) ≡ slice_index s.extents u)
        → (inside_tests (world_of stored s) ds).holds leaf pairs values ≡ true → (u : ℕ) → Follows ds more (renamed pairs) (renamed pairs u) → value_in (world_of stored s) ds pairs values u < slice_index s.extents u
    value_below more values inside g keep h u f =
        let e = holds_true (world_of stored s) ds pairs values leaf.guards h in
        subst (λ (n : ℕ). value_in (world_of stored s) ds pairs values u < n) (keep u)
        (variables_below stored s each leaf.guards more (renamed pairs) (slice_index values) inside keep ds named fits ordered g
        (λ v a r. guard_holds stored s each ds (renamed pairs) (slice_index values) leaf.guards keep e v a) (renamed pairs u) f)

    lane_inside : (v x : ℕ) → ((u : ℕ) → around u ≡ true → slice_index slots u < slice_index s.extents u) → x < slice_index s.extents v → (u : ℕ) → also around v u ≡ true → slice_index (slice_set slots v x) u < slice_index s.extents u
    lane_inside v x inside l u k = go (nat_eq u v) refl (eqb-true u v) k
      where
        set_below : (n : ℕ) → x < n → slice_index (slice_set slots v x) v < n
        set_below n l = within (nat_lt v (length slots)) (ltb-true v (length slots)) (ltb-false v (length slots))
          where
            within : (b : Bool) → (b ≡ true → v < length slots) → (b ≡ false → length slots ≤ v) → slice_index (slice_set slots v x) v < n
            within true i j = subst (λ (k : ℕ). k < n) (sym (get_or-set_same slots v x 0 (i refl))) l
            within false i j = let p : length (slice_set slots v x) ≤ v = omega (arith, length-set slots v x, j refl) in let q = get_or_past (slice_set slots v x) v 0 p in omega (arith, q, l)

        go : (b : Bool) → nat_eq u v ≡ b → (nat_eq u v ≡ true → u ≡ v) → (b || around u) ≡ true → slice_index (slice_set slots v x) u < slice_index s.extents u
        go true e i k = subst (λ (w : ℕ). slice_index (slice_set slots v x) w < slice_index s.extents w) (sym (i e)) (set_below (slice_index s.extents v) l)
        go false e i k = subst (λ (m : ℕ). m < slice_index s.extents u) (sym (get_or-set_other slots v u x 0 (λ p. let t : nat_eq u v ≡ true = eq-eqb u v p in absurd (cc)))) (inside u k)

    -- a variable's value at a visit is below its extent
    pub below_there : (lanes : Option Lanes) → LeafFacts s ds slots around pairs leaf lanes → GuardsHold (inside_tests (world_of stored s) ds) leaf pairs slots lanes → (u : ℕ) → Follows ds around (renamed pairs) (renamed pairs u) → value_in (world_of stored s) ds pairs slots u < slice_index s.extents u
    below_there None f h u k = value_below around slots f.inside f.guards f.keeps h u k
    below_there (Some lanes) f h u k = go lanes.valid h.0 h.1 f.lane
      where
        other : (x v : ℕ) → around v ≡ true → slice_index (slice_set slots lanes.var x) v ≡ slice_index slots v
        other x v a = get_or-set_other slots lanes.var v x 0 (λ e. let b : around lanes.var ≡ true = ap around (sym e) ∙ a in let c = f.apart in absurd (cc))

        go : (valid : List ℕ) → 0 < length valid → AllByRecursion (λ x. (inside_tests (world_of stored s) ds).holds leaf pairs (slice_set slots lanes.var x) ≡ true) valid → AllByRecursion (λ x. x < slice_index s.extents lanes.var) valid → value_in (world_of stored s) ds pairs slots u < slice_index s.extents u
        go [] l a b = absurd (omega arith)
        go (x ∷ valid) l a b =
            subst (λ (n : ℕ). n < slice_index s.extents u) (known_agree (world_of stored s) ds around (renamed pairs) (slice_index (slice_set slots lanes.var x)) (slice_index slots) (other x) (renamed pairs u) k)
            (value_below (also around lanes.var) (slice_set slots lanes.var x) (lane_inside lanes.var x f.inside b.0) f.guards f.keeps a.0 u (follows_more ds around (also around lanes.var) (renamed pairs) (λ v a. or_right (nat_eq v lanes.var) (around v) a) (renamed pairs u) k))

    -- and with a valid value of the substituted loop
    pub lane_below_there : (lanes : Lanes) → LeafFacts s ds slots around pairs leaf (Some lanes) → GuardsHold (inside_tests (world_of stored s) ds) leaf pairs slots (Some lanes) → (x : ℕ) → is_among x lanes.valid ≡ true → (u : ℕ)
        → Follows ds (also around lanes.var) (renamed pairs) (renamed pairs u) → value_in (world_of stored s) ds pairs (slice_set slots lanes.var x) u < slice_index s.extents u
    lane_below_there lanes f h x m u k =
        value_below (also around lanes.var) (slice_set slots lanes.var x) (lane_inside lanes.var x f.inside (all_among (λ y. y < slice_index s.extents lanes.var) x lanes.valid f.lane m)) f.guards f.keeps
        (all_among (λ y. (inside_tests (world_of stored s) ds).holds leaf pairs (slice_set slots lanes.var y) ≡ true) x lanes.valid h.1 m) u k
