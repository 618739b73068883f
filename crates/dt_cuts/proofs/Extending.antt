-- A schedule that gets more names keeps what was named, and more derivations keep their order.
use Rattle.std.proofs.Common.{◌≡◌, ℕ, ◌+◌, ◌*◌, ◌<◌, ◌≤◌, true, false, List, [], ◌∷◌, ◌++◌, length, map, Option, Some, None, refl, sym, ap, ◌∙◌, subst, arith}
use Rattle.std.specs.Prelude.{nat_eq, slice_index, slice_get}
use Rattle.std.specs.List.{AllByRecursion}
use Rattle.std.proofs.lemmas.Bool.{eq-eqb, ne_eqb}
use Rattle.dt_model.specs.declared.stmt.Access.{Access}
use Rattle.dt_nest.specs.declared.loops.Walk.{Walk}
use Rattle.dt_nest.specs.declared.loops.Pair.{Pair}
use Rattle.dt_nest.specs.declared.derivations.Derive.{Derive}
use Rattle.dt_nest.specs.declared.derivations.Derive.TheVariants.{Split, Quotient, Rest, Rotate, Pos}
use Rattle.dt_nest.specs.declared.derivations.Derived.{Derived}
use Rattle.dt_nest.specs.declared.parts.Work.{Work}
use Rattle.dt_nest.proofs.Each.{all_map, all_append}
use Rattle.dt_nest.specs.Tree.{Tree, Loop, Pre, Leaf, read_accesses}
use Rattle.dt_nest.specs.Schedule.{Schedule}
use Rattle.dt_cuts.specs.Place.{guarded}
use Rattle.dt_nest.specs.Lawful.{ArePairs, WalkBelow, AccessBelow, IsNamed, sources, is_replaced, IsPast, AreOrdered, IsBounded, AreNamed, WorkAccess}
use Rattle.dt_nest.proofs.Truth.{all_and, any_none}

-- the schedule t has the names, tensors and workspaces of s, and more; what s names keeps its extent
pub record Extends (s t : Schedule) : Type 0 where
  pub names : length s.names ≤ length t.names
  pub extents : (u : ℕ) → u < length s.names → slice_index t.extents u ≡ slice_index s.extents u
  pub tensors : length t.tensors ≡ length s.tensors
  pub works : length s.works ≤ length t.works

module _ (s t : Schedule) (e : Extends s t) where
  pub pairs_more : (pairs : List Pair) → ArePairs s pairs → ArePairs t pairs
  pairs_more [] h = tt
  pairs_more (p ∷ ps) h = (
    (omega (arith, h.0.0, e.names), omega (arith, h.0.1, e.names), e.extents p.to h.0.1 ∙ h.0.2 ∙ sym (e.extents p.from h.0.0)),
    pairs_more ps h.1,
  )

  pub vars_more : (us : List ℕ) → AllByRecursion (λ u. u < length s.names) us → AllByRecursion (λ u. u < length t.names) us
  vars_more us h = all_map (λ u. u < length s.names) (λ u. u < length t.names) (λ u l. omega (arith, l, e.names)) us h

  walk_more : (walk : Option Walk) → WalkBelow (length s.names) (length s.tensors) walk → WalkBelow (length t.names) (length t.tensors) walk
  walk_more None h = tt
  walk_more (Some k) h = (omega (arith, h.0, e.tensors), vars_more k.vars h.1)

  pub accesses_more : (xs : List Access) → AllByRecursion (AccessBelow (length s.names) (length s.tensors + length s.works)) xs → AllByRecursion (AccessBelow (length t.names) (length t.tensors + length t.works)) xs
  accesses_more xs h =
      all_map (AccessBelow (length s.names) (length s.tensors + length s.works)) (AccessBelow (length t.names) (length t.tensors + length t.works))
      (λ x b. (omega (arith, b.0, e.tensors, e.works), b.1, vars_more x.vars b.2)) xs h

  -- what a tree names
  pub named_more : (tree : Tree) → IsNamed s tree → IsNamed t tree
  named_more (Loop v n walk body) m = (omega (arith, m.0, e.names), e.extents v m.0 ∙ m.1, walk_more walk m.2, named_more body m.3)
  named_more (Pre work pairs p q) m = (omega (arith, m.0, e.works), pairs_more pairs m.1, named_more p m.2, named_more q m.3)
  named_more (Leaf lhs terms guards kernel) m = (accesses_more (lhs ∷ read_accesses terms) m.0, vars_more guards m.1)

  bounded_more : (v : ℕ) (how : Derive) → v < length s.names → AllByRecursion (λ u. u < length s.names) (sources how) → IsBounded s v how → IsBounded t v how
  bounded_more v (Split outer inner factor) l h b = tt
  bounded_more v (Quotient fused by) l h b =
      subst (λ (n : ℕ). n ≤ slice_index t.extents v * by) (sym (e.extents fused h.0)) (subst (λ (n : ℕ). slice_index s.extents fused ≤ n * by) (sym (e.extents v l)) b)
  bounded_more v (Rest fused by) l h b = (
    (λ p. b.0 (subst (λ (n : ℕ). 0 < n) (e.extents fused h.0) p)),
    subst (λ (n : ℕ). by ≤ n) (sym (e.extents v l)) b.1,
  )
  bounded_more v (Rotate base by extent) l h b = (
    subst (λ (n : ℕ). n ≤ extent) (sym (e.extents base h.0)) b.0,
    subst (λ (n : ℕ). extent ≤ n) (sym (e.extents v l)) b.1,
  )
  bounded_more v (Pos tensor level base) l h b = omega (arith, b, e.tensors)

  -- what derivations name
  pub derived_more : (ds : List Derived) → AreNamed s ds → AreNamed t ds
  derived_more [] h = tt
  derived_more (d ∷ ds) h = ((omega (arith, h.0.0, e.names), vars_more (sources d.how) h.0.1, bounded_more d.var d.how h.0.0 h.0.1 h.0.2), derived_more ds h.1)

  extents_more : (us : List ℕ) → AllByRecursion (λ u. u < length s.names) us → map (λ u. slice_index t.extents u) us ≡ map (λ u. slice_index s.extents u) us
  extents_more [] h = refl
  extents_more (u ∷ us) h = let a = e.extents u h.0 in let b = extents_more us h.1 in cc

  -- accesses of workspaces
  pub work_access_more : t.works ≡ s.works → (xs : List Access) → AllByRecursion (AccessBelow (length s.names) (length s.tensors + length s.works)) xs → AllByRecursion (WorkAccess s) xs → AllByRecursion (WorkAccess t) xs
  work_access_more same xs b h =
      all_map (λ x. AccessBelow (length s.names) (length s.tensors + length s.works) x × WorkAccess s x) (WorkAccess t)
      (λ x p w work at found. p.1 w work (at ∙ ap (λ (n : ℕ). n + w) e.tensors) (ap (λ (l : List Work). slice_get l w) (sym same) ∙ found) ∙ sym (extents_more x.vars p.0.2))
      xs (all_and (AccessBelow (length s.names) (length s.tensors + length s.works)) (WorkAccess s) xs b h)

-- more guards
pub named_guarded : (s : Schedule) (gs : List ℕ) → AllByRecursion (λ g. g < length s.names) gs → (tree : Tree) → IsNamed s tree → IsNamed s (guarded gs tree)
named_guarded s gs h (Loop v n walk body) m = (m.0, m.1, m.2, named_guarded s gs h body m.3)
named_guarded s gs h (Pre work pairs p q) m = (m.0, m.1, named_guarded s gs h p m.2, named_guarded s gs h q m.3)
named_guarded s gs h (Leaf lhs terms guards kernel) m = (m.0, all_append (λ g. g < length s.names) guards gs m.1 h)

-- Order ---------------------------------------------------------------------------------------------------------------

-- a fact of each of one list with each of another
pub all_swap : {X Y : Type 0} (P : X → Y → Type 0) (xs : List X) (ys : List Y) → AllByRecursion (λ y. AllByRecursion (λ x. P x y) xs) ys → AllByRecursion (λ x. AllByRecursion (P x) ys) xs
all_swap P [] ys h = tt
all_swap P (x ∷ xs) ys h = (
  all_map (λ y. P x y × AllByRecursion (λ x. P x y) xs) (P x) (λ y p. p.0) ys h,
  all_swap P xs ys (all_map (λ y. P x y × AllByRecursion (λ x. P x y) xs) (λ y. AllByRecursion (λ x. P x y) xs) (λ y p. p.1) ys h),
)

-- what was replaced is past derivations that neither replace nor name it
pub past_append : (ds new : List Derived) → AllByRecursion (λ d. (is_replaced ds d.var ≡ false) × AllByRecursion (λ u. is_replaced ds u ≡ false) (sources d.how)) new → AllByRecursion (λ (d : Derived). IsPast d.var new) ds
past_append ds new h =
    all_swap (λ (d e : Derived). (nat_eq d.var e.var ≡ false) × AllByRecursion (λ u. nat_eq u d.var ≡ false) (sources e.how)) ds new
    (all_map (λ (e : Derived). (is_replaced ds e.var ≡ false) × AllByRecursion (λ u. is_replaced ds u ≡ false) (sources e.how))
    (λ e. AllByRecursion (λ (d : Derived). (nat_eq d.var e.var ≡ false) × AllByRecursion (λ u. nat_eq u d.var ≡ false) (sources e.how)) ds)
    (λ e p. all_and (λ (d : Derived). nat_eq d.var e.var ≡ false) (λ d. AllByRecursion (λ u. nat_eq u d.var ≡ false) (sources e.how)) ds
    (all_map (λ (d : Derived). nat_eq e.var d.var ≡ false) (λ d. nat_eq d.var e.var ≡ false)
    (λ d f. ne_eqb d.var e.var (λ q. let t : nat_eq e.var d.var ≡ true = eq-eqb e.var d.var (sym q) in absurd (cc))) ds (any_none (λ (d : Derived). nat_eq e.var d.var) ds p.0))
    (all_swap (λ (d : Derived) u. nat_eq u d.var ≡ false) ds (sources e.how)
    (all_map (λ u. is_replaced ds u ≡ false) (λ u. AllByRecursion (λ (d : Derived). nat_eq u d.var ≡ false) ds) (λ u f. any_none (λ (d : Derived). nat_eq u d.var) ds f) (sources e.how) p.1)))
    new h)

pub ordered_append : (ds new : List Derived) → AreOrdered ds → AreOrdered new → AllByRecursion (λ (d : Derived). IsPast d.var new) ds → AreOrdered (ds ++ new)
ordered_append [] new o n p = n
ordered_append (d ∷ ds) new o n p = (
  o.0,
  all_append (λ (e : Derived). (nat_eq d.var e.var ≡ false) × AllByRecursion (λ u. nat_eq u d.var ≡ false) (sources e.how)) ds new o.1 p.0,
  ordered_append ds new o.2 n p.1,
)
