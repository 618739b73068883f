-- What the search for the next visit is given and gives.
use Rattle.std.proofs.Common.{◌≡◌, ℕ, suc, ◌+◌, ◌-◌, ◌<◌, ◌^◌, Bool, true, false, List, [], ◌∷◌, ◌++◌, length, drop, Option, Some, None, refl, sym, ap, ◌∙◌, subst, arith}
use Rattle.std.specs.Prelude.{if◌then◌else◌, nat_lt, slice_index, slice_set}
use Rattle.dt_nest.specs.declared.loops.Walk.{Walk}
use Rattle.dt_nest.specs.declared.loops.Pair.{Pair}
use Rattle.dt_nest.specs.declared.search.Stand.{Stand}
use Rattle.dt_nest.specs.Tree.{Tree, Loop, Pre, Leaf, size_of, leaf_count, is_kernel_leaf}
use Rattle.dt_nest.specs.Visits.{scoped, Tests, IsPathIn}
use Rattle.dt_nest.specs.Search.{HaveSlots, AreZero, works_at, IsAt, end_on, Finds, FindsFrom, Steps}
use Rattle.dt_nest.proofs.Slots.{zero_kept}
use Rattle.dt_nest.proofs.Moves.{first_stood, second_stood, steps_first, steps_over, steps_over_none, steps_second, steps_second_none}
use Rattle.dt_nest.proofs.LoopMoves.{stood_loop, loop_steps, loop_over, loop_ends, over_slots, lanes_over}
use Rattle.dt_nest.proofs.Searches.{steps_at}

-- a path below its first loop
pub path_rest : (v n : ℕ) (walk : Option Walk) (body : Tree) (path : List ℕ) → IsPathIn (Loop v n walk body) path → IsPathIn body (drop 1 path)
path_rest v n walk body [] l = tt
path_rest v n walk body (x ∷ path) l = l.2

-- there are fewer workspaces around a leaf than leaves
pub works_few : (tree : Tree) (leaf : ℕ) → length (works_at tree leaf) < leaf_count tree
works_few (Loop v n walk body) leaf = works_few body leaf
works_few (Pre work more p q) leaf = go (nat_lt leaf (leaf_count p)) (works_few p leaf) (works_few q (leaf - leaf_count p))
  where
    go : (b : Bool) → length (works_at p leaf) < leaf_count p → length (works_at q (leaf - leaf_count p)) < leaf_count q → suc (length (if b then works_at p leaf else works_at q (leaf - leaf_count p))) < leaf_count p + leaf_count q
    go true h k = omega arith
    go false h k = omega arith
works_few (Leaf lhs terms guards kernel) leaf = omega arith

module _ (t : Tests) (tree : Tree) (walk : Option Walk) (v n : ℕ) (body given : Tree) (pairs : List Pair) (path rest old : List ℕ) (leaf0 : ℕ) (e : tree ≡ Loop v n walk body) (same : given ≡ body) (r : rest ≡ drop 1 path)
    (k : is_kernel_leaf given ≡ false) (room : HaveSlots tree (length old)) (a : IsAt tree old leaf0) where
  kernel : is_kernel_leaf body ≡ false
  kernel = ap is_kernel_leaf (sym same) ∙ k

  own_room : HaveSlots (Loop v n walk body) (length old)
  own_room = subst (λ (x : Tree). HaveSlots x (length old)) e room

  own_stand : IsAt (Loop v n walk body) old leaf0
  own_stand = subst (λ (x : Tree). IsAt x old leaf0) e a

  own_steps : (found : Option Stand) (new : List ℕ) → Steps t given pairs rest leaf0 old new found → Steps t body pairs (drop 1 path) leaf0 old new found
  own_steps found new f = subst (λ (x : Tree). Steps t x pairs (drop 1 path) leaf0 old new found) same (subst (λ (l : List ℕ). Steps t given pairs l leaf0 old new found) r f)

  pub body_room : HaveSlots given (length old)
  body_room = subst (λ (x : Tree). HaveSlots x (length old)) (sym same) own_room.2

  pub body_stand : IsAt given old leaf0
  body_stand = subst (λ (x : Tree). IsAt x old leaf0) (sym same) own_stand.1

  pub slot_below : slice_index old v < n
  slot_below = (stood_loop walk v n body old leaf0 kernel own_stand).0

  pub body_path : IsPathIn tree path → IsPathIn given rest
  body_path p = subst (λ (x : Tree). IsPathIn x rest) (sym same) (subst (IsPathIn body) (sym r) (path_rest v n walk body path (subst (λ (x : Tree). IsPathIn x path) e p)))

  pub loop_next : (new : List ℕ) (at : Stand) → Steps t given pairs rest leaf0 old new (Some at) → Steps t tree pairs path leaf0 old new (Some at)
  loop_next new at f = steps_at t tree (Loop v n walk body) pairs path leaf0 old new (Some at) e (loop_steps t walk v n body pairs path old new leaf0 at kernel own_room.1 own_stand (own_steps (Some at) new f))

  pub over_zero : (mid : List ℕ) → Steps t given pairs rest leaf0 old mid None → AreZero (Loop v n walk given) (slice_set mid v 0)
  over_zero mid f = subst (λ (x : Tree). AreZero (Loop v n walk x) (slice_set mid v 0)) (sym same) (over_slots walk v n body t pairs (drop 1 path) old mid leaf0 own_room (own_steps None mid f))

  own_from : (again : Tree) (from to : ℕ) (base new : List ℕ) (found : Option ℕ) → again ≡ body → FindsFrom t walk v again pairs rest from to base new found → FindsFrom t walk v body pairs (drop 1 path) from to base new found
  own_from again from to base new found s g = subst (λ (x : Tree). FindsFrom t walk v x pairs (drop 1 path) from to base new found) s (subst (λ (l : List ℕ). FindsFrom t walk v again pairs l from to base new found) r g)

  pub loop_next_over : (again : Tree) (mid new : List ℕ) (to leaf : ℕ) (at : Stand) → again ≡ body → to ≡ end_on path n (slice_index old v) → at.leaf ≡ leaf → at.past ≡ 0
      → Steps t given pairs rest leaf0 old mid None → FindsFrom t walk v again pairs rest (slice_index old v + 1) to (slice_set mid v 0) new (Some leaf) → Steps t tree pairs path leaf0 old new (Some at)
  loop_next_over again mid new to leaf at s stop l p f g =
      steps_at t tree (Loop v n walk body) pairs path leaf0 old new (Some at) e
      (loop_over t walk v n body pairs path old mid new leaf0 leaf to at kernel own_stand (own_steps None mid f) stop l p (own_from again (slice_index old v + 1) to (slice_set mid v 0) new (Some leaf) s g))

  pub loop_next_none : (again : Tree) (mid new : List ℕ) (to : ℕ) → again ≡ body → to ≡ end_on path n (slice_index old v)
      → Steps t given pairs rest leaf0 old mid None → FindsFrom t walk v again pairs rest (slice_index old v + 1) to (slice_set mid v 0) new None → Steps t tree pairs path leaf0 old new None
  loop_next_none again mid new to s stop f g =
      steps_at t tree (Loop v n walk body) pairs path leaf0 old new None e
      (loop_ends t walk v n body pairs path old mid new leaf0 to kernel (own_steps None mid f) stop (own_from again (slice_index old v + 1) to (slice_set mid v 0) new None s g))

module _ (t : Tests) (tree : Tree) (work : ℕ) (more found : List Pair) (p q first second : Tree) (pairs : List Pair) (path old : List ℕ) (leaf0 : ℕ) (e : tree ≡ Pre work more p q) (m : found ≡ more) (a : first ≡ p) (b : second ≡ q)
    (room : HaveSlots tree (length old)) (stands : IsAt tree old leaf0) where
  node_room : HaveSlots (Pre work more p q) (length old)
  node_room = subst (λ (x : Tree). HaveSlots x (length old)) e room

  node_stand : IsAt (Pre work more p q) old leaf0
  node_stand = subst (λ (x : Tree). IsAt x old leaf0) e stands

  first_is : (mid : List ℕ) (at : Option Stand) → Steps t first (pairs ++ found) [] leaf0 old mid at → Steps t p (pairs ++ more) [] leaf0 old mid at
  first_is mid at f = subst (λ (l : List Pair). Steps t p (pairs ++ l) [] leaf0 old mid at) m (subst (λ (x : Tree). Steps t x (pairs ++ found) [] leaf0 old mid at) a f)

  pub producer_stand : leaf0 < leaf_count p → IsAt first old leaf0
  producer_stand lt = subst (λ (x : Tree). IsAt x old leaf0) (sym a) (first_stood t work more p q (scoped pairs []) path leaf0 lt old node_stand).0

  pub consumer_stand : (at0 : ℕ) → leaf_count p + at0 ≡ leaf0 → IsAt second old at0
  consumer_stand at0 s = subst (λ (x : Tree). IsAt x old at0) (sym b) (second_stood t work more p q (scoped pairs []) path leaf0 at0 s old node_stand).1

  pub consumer_zero : (mid : List ℕ) → leaf0 < leaf_count p → Steps t first (pairs ++ found) [] leaf0 old mid None → AreZero second mid
  consumer_zero mid lt f =
      subst (λ (x : Tree). AreZero x mid) (sym b) (subst (AreZero q) (sym (first_is mid None f).goes.1) (zero_kept q p old node_room.3 (first_stood t work more p q (scoped pairs []) path leaf0 lt old node_stand).1))

  pub pre_first_next : (new : List ℕ) (at to : Stand) → leaf0 < leaf_count p → to.leaf ≡ at.leaf → to.past ≡ at.past + 1 → Steps t first (pairs ++ found) [] leaf0 old new (Some at) → Steps t tree pairs path leaf0 old new (Some to)
  pre_first_next new at to lt s o f =
      steps_at t tree (Pre work more p q) pairs path leaf0 old new (Some to) e (steps_first t work more p q pairs path (length old) node_room old new leaf0 at to lt s o node_stand (first_is new (Some at) f))

  pub pre_over : (mid new : List ℕ) (at : ℕ) (to : Stand) → leaf0 < leaf_count p → leaf_count p + at ≡ to.leaf → to.past ≡ 1 → Steps t first (pairs ++ found) [] leaf0 old mid None → Finds t second pairs [] mid new (Some at) → Steps t tree pairs path leaf0 old new (Some to)
  pre_over mid new at to lt s o f g =
      steps_at t tree (Pre work more p q) pairs path leaf0 old new (Some to) e (steps_over t work more p q pairs path (length old) node_room old mid new leaf0 at to lt s o refl node_stand (first_is mid None f) (subst (λ (x : Tree). Finds t x pairs [] mid new (Some at)) b g))

  pub pre_over_none : (mid new : List ℕ) → leaf0 < leaf_count p → Steps t first (pairs ++ found) [] leaf0 old mid None → Finds t second pairs [] mid new None → Steps t tree pairs path leaf0 old new None
  pre_over_none mid new lt f g =
      steps_at t tree (Pre work more p q) pairs path leaf0 old new None e (steps_over_none t work more p q pairs path (length old) node_room old mid new leaf0 lt node_stand (first_is mid None f) (subst (λ (x : Tree). Finds t x pairs [] mid new None) b g))

  pub pre_second_next : (new : List ℕ) (at0 : ℕ) (at to : Stand) → leaf_count p + at0 ≡ leaf0 → leaf_count p + at.leaf ≡ to.leaf → to.past ≡ at.past + 1 → Steps t second pairs [] at0 old new (Some at) → Steps t tree pairs path leaf0 old new (Some to)
  pre_second_next new at0 at to s l o f =
      steps_at t tree (Pre work more p q) pairs path leaf0 old new (Some to) e (steps_second t work more p q pairs path (length old) node_room old new leaf0 at0 at to s l o node_stand (subst (λ (x : Tree). Steps t x pairs [] at0 old new (Some at)) b f))

  pub pre_second_none : (new : List ℕ) (at0 : ℕ) → leaf_count p + at0 ≡ leaf0 → Steps t second pairs [] at0 old new None → Steps t tree pairs path leaf0 old new None
  pre_second_none new at0 s f =
      steps_at t tree (Pre work more p q) pairs path leaf0 old new None e (steps_second_none t work more p q pairs path (length old) node_room old new leaf0 at0 s node_stand (subst (λ (x : Tree). Steps t x pairs [] at0 old new None) b f))

-- one more workspace that was reset fits its type
pub past_fits : (t : Tests) (tree : Tree) (pairs : List Pair) (path : List ℕ) (leaf : ℕ) (old new : List ℕ) (at : Stand) → leaf_count tree < 2 ^ 32 → Steps t tree pairs path leaf old new (Some at) → at.past + 1 < 2 ^ 32
past_fits t tree pairs path leaf old new at few f = omega (arith, (f.goes.0 []).resets, works_few tree at.leaf, few)

-- at a substituted loop nothing comes after
pub lanes_end : (t : Tests) (tree : Tree) (walk : Option Walk) (v n : ℕ) (body given : Tree) (pairs : List Pair) (path old : List ℕ) (leaf0 : ℕ) → tree ≡ Loop v n walk body → given ≡ body → is_kernel_leaf given ≡ true → IsAt tree old leaf0 → Steps t tree pairs path leaf0 old old None
lanes_end t tree walk v n body given pairs path old leaf0 e same k a =
    steps_at t tree (Loop v n walk body) pairs path leaf0 old old None e (lanes_over t walk v n body pairs path old leaf0 (ap is_kernel_leaf (sym same) ∙ k) (subst (λ (x : Tree). IsAt x old leaf0) e a))

-- the parts of a tree have fewer nodes
pub body_smaller : (tree : Tree) (walk : Option Walk) (v n : ℕ) (body given : Tree) (size : ℕ) → tree ≡ Loop v n walk body → given ≡ body → size_of tree ≡ size → size_of given < size
body_smaller tree walk v n body given size e same s = omega (arith, ap size_of e, ap size_of same, s)

pub producer_smaller : (tree : Tree) (work : ℕ) (more : List Pair) (p q given : Tree) (size : ℕ) → tree ≡ Pre work more p q → given ≡ p → size_of tree ≡ size → size_of given < size
producer_smaller tree work more p q given size e same s = omega (arith, ap size_of e, ap size_of same, s)

pub consumer_smaller : (tree : Tree) (work : ℕ) (more : List Pair) (p q given : Tree) (size : ℕ) → tree ≡ Pre work more p q → given ≡ q → size_of tree ≡ size → size_of given < size
consumer_smaller tree work more p q given size e same s = omega (arith, ap size_of e, ap size_of same, s)
