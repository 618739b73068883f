-- A distribute without a cause keeps the schedule lawful; any keeps the sum.
use Rattle.std.proofs.Common.{◌≡◌, ℕ, suc, ◌-◌, ◌≤◌, Bool, true, false, List, [], ◌∷◌, Some, None, length, take, refl, sym, ap, ◌∙◌, subst, arith, inr, ◌<◌}
use Rattle.std.specs.Prelude.{MatchBool, if◌then◌else◌, map, nat_eq, slice_index}
use Rattle.std.specs.List.{AllByRecursion, list_any}
use Rattle.std.proofs.lemmas.Bool.{eqb-true, eq-eqb, or_parts}
use Rattle.dt_model.specs.declared.cause.Cause.TheVariants as cause
use Rattle.dt_nest.specs.declared.parts.Moved.{Moved}
use Rattle.dt_nest.proofs.Each.{all_map}
use Rattle.dt_nest.specs.Tree.{Tree, Loop, Pre, Leaf, loop_count}
use Rattle.dt_nest.specs.Schedule.{Schedule}
use Rattle.dt_nest.specs.Commands.{Keeps}
use Rattle.dt_nest.proofs.Marked.{marked_lawful, marked_sum, marked_accesses, marked_fits}
use Rattle.dt_nest.specs.Lawful.{IsPlain, AreDistributed, IsCommunicate, IsNamed, IsLawful}
use Rattle.dt_nest.specs.Grid.{outer_extents}
use Rattle.dt_nest.specs.Questions.{is_fixed, misplaced}
use Rattle.dt_rewrite.specs.declared.distributes.Distribute.{Distribute}
use Rattle.dt_rewrite.specs.Distributes.{front_of, distribute_tests, wrong_extent, distribute_cause, distribute_effect, distribute_rule}
use Rattle.dt_cuts.proofs.Passing.{all_pass, test_holds, none_with, nothing_made}
use Rattle.dt_nest.specs.PartNames.{name_of}
use Rattle.dt_cuts.proofs.Stands.{ArePlain, all_plain}
use Rattle.dt_nest.proofs.Truth.{all_and}

-- The named loops are the outermost, in order, and neither walked nor substituted, and at none but the last is a tensor
-- communicated.
pub record CanDistribute (c : Distribute) (s : Schedule) : Type 0 where
  pub outermost : misplaced c.vars s.nest ≡ None
  pub uncommunicated : AllByRecursion (λ v. list_any (λ m. nat_eq m.at v) s.moved ≡ false) (front_of c.vars)
  pub unfixed : AllByRecursion (λ v. is_fixed v s.nest ≡ false) c.vars

-- that holds where there is no cause against a distribute
pub can_distribute : (c : Distribute) (s : Schedule) → distribute_cause c s ≡ None → CanDistribute c s
can_distribute c s e =
    let tests = all_pass (distribute_tests c s) e in
    record {
      outermost = nothing_made _ (misplaced c.vars s.nest) tests.1.1.1.0;
      uncommunicated = none_with _ _ (front_of c.vars) tests.1.1.1.1.1.0;
      unfixed = none_with _ _ c.vars tests.1.1.1.1.1.1.0;
    }

-- loops that are the outermost, neither walked nor substituted, may be distributed
pub distributed_outermost : (vs : List ℕ) (tree : Tree) → misplaced vs tree ≡ None → AllByRecursion (λ v. ArePlain v tree) vs → AreDistributed (length vs) tree
distributed_outermost [] tree e p = tt
distributed_outermost (v ∷ vs) (Loop u n walk body) e p =
    go (nat_eq u v) refl e (λ e. distributed_outermost vs body e (all_map (λ v. ArePlain v (Loop u n walk body)) (λ v. ArePlain v body) (λ v a. a.1) vs p.1))
  where
    go : (b : Bool) → nat_eq u v ≡ b → (if b then misplaced vs body else Some v) ≡ None → (misplaced vs body ≡ None → AreDistributed (length vs) body) → IsPlain walk body × AreDistributed (length vs) body
    go true q e r = (p.0.0 q, r e)
    go false q e r = absurd (cc)
distributed_outermost (v ∷ vs) (Pre work pairs producer consumer) e p = absurd (cc)
distributed_outermost (v ∷ vs) (Leaf lhs terms guards kernel) e p = absurd (cc)

-- a communicate loop stays one where fewer loops are distributed
pub communicate_fewer : (k j v : ℕ) (tree : Tree) → j ≤ k → IsCommunicate k v tree → IsCommunicate j v tree
communicate_fewer k j v (Loop u n walk body) l h = go (nat_eq u v) h (communicate_fewer (k - 1) (j - 1) v body (omega arith))
  where
    go : (b : Bool) → MatchBool b ((k ≤ 1) × IsPlain walk body) (IsCommunicate (k - 1) v body) → (IsCommunicate (k - 1) v body → IsCommunicate (j - 1) v body)
        → MatchBool b ((j ≤ 1) × IsPlain walk body) (IsCommunicate (j - 1) v body)
    go true h r = (omega (arith, h.0), h.1)
    go false h r = r h
communicate_fewer k j v (Pre work pairs producer consumer) l h = absurd h
communicate_fewer k j v (Leaf lhs terms guards kernel) l h = absurd h

-- all but the last of two and more begin with the first
front_more : (u w : ℕ) (ws : List ℕ) → front_of (u ∷ w ∷ ws) ≡ u ∷ front_of (w ∷ ws)
front_more u w ws = let e : length (u ∷ w ∷ ws) - 1 ≡ suc (length (w ∷ ws) - 1) = omega arith in ap (λ (k : ℕ). take k (u ∷ w ∷ ws)) e

-- a communicate loop stays one where the outermost loops are distributed, if it is none of these but the last
pub communicate_distributed : (vs : List ℕ) (v : ℕ) (tree : Tree) → misplaced vs tree ≡ None → AllByRecursion (λ u. nat_eq v u ≡ false) (front_of vs) → IsCommunicate 0 v tree → IsCommunicate (length vs) v tree
communicate_distributed [] v tree e a h = h
communicate_distributed (u ∷ []) v (Loop x n walk body) e a h = go (nat_eq x v) h
  where
    go : (b : Bool) → MatchBool b ((0 ≤ 1) × IsPlain walk body) (IsCommunicate 0 v body) → MatchBool b ((1 ≤ 1) × IsPlain walk body) (IsCommunicate 0 v body)
    go true h = (omega arith, h.1)
    go false h = h
communicate_distributed (u ∷ w ∷ ws) v (Loop x n walk body) e all h =
    go (nat_eq x u) refl (nat_eq x v) refl e h (λ e h. communicate_distributed (w ∷ ws) v body e a.1 h)
  where
    a : AllByRecursion (λ (z : ℕ). nat_eq v z ≡ false) (u ∷ front_of (w ∷ ws))
    a = subst (λ (l : List ℕ). AllByRecursion (λ (z : ℕ). nat_eq v z ≡ false) l) (front_more u w ws) all

    go : (b : Bool) → nat_eq x u ≡ b → (d : Bool) → nat_eq x v ≡ d → (if b then misplaced (w ∷ ws) body else Some u) ≡ None
        → MatchBool d ((0 ≤ 1) × IsPlain walk body) (IsCommunicate 0 v body)
        → (misplaced (w ∷ ws) body ≡ None → IsCommunicate 0 v body → IsCommunicate (length (w ∷ ws)) v body)
        → MatchBool d ((length (u ∷ w ∷ ws) ≤ 1) × IsPlain walk body) (IsCommunicate (length (u ∷ w ∷ ws) - 1) v body)
    go false p d q e h r = absurd (cc)
    go true p true q e h r = absurd (let z = eq-eqb v u (sym (eqb-true x v q) ∙ eqb-true x u p) in let f = a.0 in cc)
    go true p false q e h r = let m : length (w ∷ ws) ≡ length (u ∷ w ∷ ws) - 1 = omega arith in subst (λ (k : ℕ). IsCommunicate k v body) m (r e h)
communicate_distributed (u ∷ vs) v (Pre work pairs producer consumer) e a h = absurd h
communicate_distributed (u ∷ vs) v (Leaf lhs terms guards kernel) e a h = absurd h

-- where nothing is communicated at these loops, none is the loop of a communicated tensor
pub none_communicated : (moved : List Moved) (vs : List ℕ) → AllByRecursion (λ v. list_any (λ (m : Moved). nat_eq m.at v) moved ≡ false) vs → AllByRecursion (λ (m : Moved). AllByRecursion (λ v. nat_eq m.at v ≡ false) vs) moved
none_communicated [] vs h = tt
none_communicated (m ∷ moved) vs h = (
  all_map _ (λ v. nat_eq m.at v ≡ false) (λ v e. (or_parts (nat_eq m.at v) (list_any (λ (m : Moved). nat_eq m.at v) moved) e).0) vs h,
  none_communicated moved vs (all_map _ (λ v. list_any (λ (m : Moved). nat_eq m.at v) moved ≡ false) (λ v e. (or_parts (nat_eq m.at v) (list_any (λ (m : Moved). nat_eq m.at v) moved) e).1) vs h),
)

-- A distribute without a cause keeps the schedule lawful.
pub distribute_lawful : (c : Distribute) (s : Schedule) → IsLawful s → distribute_cause c s ≡ None → IsLawful (distribute_effect c s)
distribute_lawful c s l e =
    marked_lawful (length c.vars) s.moved s l (distributed_outermost c.vars s.nest k.outermost (all_plain s.nest l.differ c.vars k.unfixed)) (record {
      loops = all_map _ (λ (m : Moved). IsCommunicate (length c.vars) m.at s.nest)
          (λ m h. communicate_distributed c.vars m.at s.nest k.outermost h.1 (communicate_fewer s.distributed 0 m.at s.nest (omega arith) h.0))
          s.moved (all_and _ _ s.moved l.communicated.loops (none_communicated s.moved (front_of c.vars) k.uncommunicated));
      accessed = l.communicated.accessed;
      once = l.communicated.once;
    })
  where
    k : CanDistribute c s
    k = can_distribute c s e

-- the outermost loops have the extents that are kept for their names
outer_named : (s : Schedule) (vs : List ℕ) (tree : Tree) → misplaced vs tree ≡ None → IsNamed s tree → outer_extents (length vs) tree ≡ map (λ v. slice_index s.extents v) vs
outer_named s [] tree e m = refl
outer_named s (v ∷ vs) (Loop u n walk body) e m = go (nat_eq u v) (eqb-true u v) e (λ e. outer_named s vs body e m.3)
  where
    go : (b : Bool) → (b ≡ true → u ≡ v) → (if b then misplaced vs body else Some v) ≡ None → (misplaced vs body ≡ None → outer_extents (length vs) body ≡ map (λ v. slice_index s.extents v) vs)
        → n ∷ outer_extents (length vs) body ≡ slice_index s.extents v ∷ map (λ v. slice_index s.extents v) vs
    go true q e r = let a : n ≡ slice_index s.extents v = sym m.1 ∙ ap (slice_index s.extents) (q refl) in let b = r e in cc
    go false q e r = absurd (cc)
outer_named s (v ∷ vs) (Pre work pairs p q) e m = absurd (cc)
outer_named s (v ∷ vs) (Leaf lhs terms guards kernel) e m = absurd (cc)

-- loops of which none has a wrong extent have those of the machine
right_extents : (s : Schedule) (vs dims : List ℕ) → length vs ≡ length dims → wrong_extent s vs dims ≡ None → map (λ v. slice_index s.extents v) vs ≡ dims
right_extents s [] [] l e = refl
right_extents s [] (n ∷ ns) l e = absurd (omega (arith, l))
right_extents s (v ∷ vs) [] l e = absurd (omega (arith, l))
right_extents s (v ∷ vs) (n ∷ ns) l e = go (nat_eq (slice_index s.extents v) n) (eqb-true (slice_index s.extents v) n) e (λ e. right_extents s vs ns (omega (arith, l)) e)
  where
    go : (b : Bool) → (b ≡ true → slice_index s.extents v ≡ n) → (if b then wrong_extent s vs ns else Some (cause.WrongExtent (name_of s v) (slice_index s.extents v) n)) ≡ None
        → (wrong_extent s vs ns ≡ None → map (λ v. slice_index s.extents v) vs ≡ ns) → slice_index s.extents v ∷ map (λ v. slice_index s.extents v) vs ≡ n ∷ ns
    go true q e r = let a = q refl in let b = r e in cc
    go false q e r = absurd (cc)

-- the loops of a distribute are those of its machine
distribute_grid : (c : Distribute) (s : Schedule) → IsLawful s → distribute_cause c s ≡ None → outer_extents (length c.vars) s.nest ≡ c.grid
distribute_grid c s l e =
    let tests = all_pass (distribute_tests c s) e in
    outer_named s c.vars s.nest (can_distribute c s e).outermost l.named
    ∙ right_extents s c.vars c.grid (eqb-true (length c.vars) (length c.grid) (test_holds (nat_eq (length c.vars) (length c.grid)) cause.WrongCount tests.1.0)) tests.1.1.1.1.0

-- A distribute without a cause keeps what a command owes.
pub distribute_keeps : (c : Distribute) (s : Schedule) → IsLawful s → AllByRecursion (λ v. v < length s.names) c.vars → distribute_cause c s ≡ None → Keeps (distribute_rule c) s
distribute_keeps c s law known ok = record {
  lawful = λ few. distribute_lawful c s law ok;
  sum = marked_sum (length c.vars) s.moved s;
  accesses = marked_accesses (length c.vars) s.moved s;
  fit = λ stored suits f. marked_fits (length c.vars) s.moved s stored f;
  grid = λ dims serves g. inr (distribute_grid c s law ok ∙ serves);
}

-- the outermost loops of a tree are no more than its loops
outermost_few : (vs : List ℕ) (tree : Tree) → misplaced vs tree ≡ None → length vs ≤ loop_count tree
outermost_few [] tree e = omega arith
outermost_few (v ∷ vs) (Loop u n walk body) e = go (nat_eq u v) e (λ e. outermost_few vs body e)
  where
    go : (b : Bool) → (if b then misplaced vs body else Some v) ≡ None → (misplaced vs body ≡ None → length vs ≤ loop_count body) → length (v ∷ vs) ≤ loop_count (Loop u n walk body)
    go true e r = let l = r e in omega (arith, l)
    go false e r = absurd (cc)
outermost_few (v ∷ vs) (Pre work pairs producer consumer) e = absurd (cc)
outermost_few (v ∷ vs) (Leaf lhs terms guards kernel) e = absurd (cc)

-- a distribute without a cause names few loops
pub distribute_few : (c : Distribute) (s : Schedule) → IsLawful s → distribute_cause c s ≡ None → length c.vars ≤ 16
distribute_few c s l e = let f = outermost_few c.vars s.nest (can_distribute c s e).outermost in omega (arith, f, l.few)
