-- The values of the loops down to a communicate loop are paths.
use Rattle.std.proofs.Common.{◌≡◌, ◌⊎◌, inl, inr, ℕ, zero, suc, ◌-◌, ◌<◌, ◌≤◌, Bool, true, false, List, [], ◌∷◌, length, map, Option, None, Some, refl, ap, subst, arith}
use Rattle.std.specs.Prelude.{if◌then◌else◌, MatchBool, nat_eq, fold, max, option_map, unwrap_or}
use Rattle.std.specs.List.{AllByRecursion, find, last_or}
use Rattle.std.proofs.lemmas.Bool.{eq-eqb, cases_lt}
use Rattle.std.specs.Option.{option_or}
use Rattle.dt_base.specs.Ranges.{below, assignments}
use Rattle.dt_nest.specs.declared.parts.Moved.{Moved}
use Rattle.dt_nest.proofs.Each.{all_flat, all_made, below_all}
use Rattle.dt_nest.specs.Tree.{Tree, Loop, Pre, Leaf, is_kernel_leaf}
use Rattle.dt_nest.specs.Questions.{loops_to}
use Rattle.dt_nest.specs.Schedule.{Schedule}
use Rattle.dt_nest.specs.Lawful.{IsPlain, AreDistributed, IsCommunicate, IsLawful}
use Rattle.dt_nest.specs.Visits.{IsPathIn}
use Rattle.dt_nest.specs.Grid.{outer_extents}
use Rattle.dt_nest.specs.Paths.{HasLoops, depth_of, tensors_in, task_depth}
use Rattle.dt_nest.specs.CommunicateLoops.{distributed_loops, named_loop}
use Rattle.dt_nest.specs.PathLaws.{AssignmentsArePaths, TaskHasLoops}

-- what stands at a communicate loop or around it is no kernel leaf
no_leaf : (k v : ℕ) (tree : Tree) → IsCommunicate k v tree → is_kernel_leaf tree ≡ false
no_leaf k v (Loop u n walk body) h = refl
no_leaf k v (Pre work more p q) h = refl
no_leaf k v (Leaf lhs terms guards kernel) h = absurd h

-- the loops down to a communicate loop
moved_loops : (k v : ℕ) (tree : Tree) → IsCommunicate k v tree → HasLoops (suc (length (loops_to v tree))) tree
moved_loops k v (Loop u n walk body) h = go (nat_eq u v) h (λ c. (no_leaf (k - 1) v body c, moved_loops (k - 1) v body c))
  where
    go : (b : Bool) → MatchBool b ((k ≤ 1) × IsPlain walk body) (IsCommunicate (k - 1) v body) → (IsCommunicate (k - 1) v body → (is_kernel_leaf body ≡ false) × HasLoops (suc (length (loops_to v body))) body)
        → HasLoops (suc (length (if b then [] else u ∷ loops_to v body))) (Loop u n walk body)
    go true c r = (c.1.1, tt)
    go false c r = r c
moved_loops k v (Pre work more p q) h = absurd h
moved_loops k v (Leaf lhs terms guards kernel) h = absurd h

-- the distributed loops
pub distributed_has : (k : ℕ) (tree : Tree) → AreDistributed k tree → HasLoops k tree
distributed_has zero tree h = tt
distributed_has (suc k) (Loop v n walk body) h = (h.0.1, distributed_has k body h.1)
distributed_has (suc k) (Pre work more p q) h = absurd h
distributed_has (suc k) (Leaf lhs terms guards kernel) h = absurd h

-- fewer of the loops
pub fewer_loops : (j k : ℕ) (tree : Tree) → j ≤ k → HasLoops k tree → HasLoops j tree
fewer_loops zero k tree l h = tt
fewer_loops (suc j) zero tree l h = absurd (omega (arith, l))
fewer_loops (suc j) (suc k) (Loop v n walk body) l h = (h.0, fewer_loops j k body (omega (arith, l)) h.1)
fewer_loops (suc j) (suc k) (Pre work more p q) l h = absurd h
fewer_loops (suc j) (suc k) (Leaf lhs terms guards kernel) l h = absurd h

-- the last of some numbers, or the one before them
last_cases : (u v : ℕ) (vs : List ℕ) → last_or (Some u) vs ≡ Some v → (u ≡ v) ⊎ (last_or None vs ≡ Some v)
last_cases u v [] e = inl (same u v e)
  where
    same : (a b : ℕ) → Some a ≡ Some b → a ≡ b
    same a b e = ap (λ (o : Option ℕ). unwrap_or o 0) e
last_cases u v (x ∷ vs) e = inr e

-- the innermost distributed loop stands among the first k
last_depth : (k v : ℕ) (tree : Tree) → last_or None (distributed_loops k tree) ≡ Some v → suc (length (loops_to v tree)) ≤ k
last_depth zero v tree e = absurd (cc)
last_depth (suc k) v (Loop u n walk body) e = go (nat_eq u v) (ne_eqb_false u v) (last_cases u v (distributed_loops k body) e) (λ i. last_depth k v body i)
  where
    ne_eqb_false : (u v : ℕ) → nat_eq u v ≡ false → u ≡ v → ⊥
    ne_eqb_false u v f e = let t : nat_eq u v ≡ true = eq-eqb u v e in absurd (cc)

    go : (b : Bool) → (b ≡ false → u ≡ v → ⊥) → (u ≡ v) ⊎ (last_or None (distributed_loops k body) ≡ Some v) → (last_or None (distributed_loops k body) ≡ Some v → suc (length (loops_to v body)) ≤ k)
        → suc (length (if b then [] else u ∷ loops_to v body)) ≤ suc k
    go true n c r = omega arith
    go false n (inl i) r = absurd (n refl i)
    go false n (inr i) r = let l = r i in omega (arith, l)
last_depth (suc k) v (Pre work more p q) e = absurd (cc)
last_depth (suc k) v (Leaf lhs terms guards kernel) e = absurd (cc)

-- a fact of the loop that a command named
pub named_has : (P : ℕ → Type 0) (t v : ℕ) (moved : List Moved) → AllByRecursion (λ (m : Moved). P m.at) moved → named_loop moved t ≡ Some v → P v
named_has P t v [] h e = absurd (cc)
named_has P t v (m ∷ moved) h e = go (nat_eq m.tensor t) e (λ i. named_has P t v moved h.1 i)
  where
    go : (b : Bool) → option_map (λ (m : Moved). m.at) (if b then Some m else find (λ m. nat_eq m.tensor t) moved) ≡ Some v → (named_loop moved t ≡ Some v → P v) → P v
    go true i r = subst P (ap (λ (o : Option ℕ). unwrap_or o 0) i) h.0
    go false i r = r i

-- the loops down to the one at which a tensor is moved
pub depth_loops : (s : Schedule) (t : ℕ) → IsLawful s → HasLoops (depth_of s t) s.nest
depth_loops s t lawful = go (named_loop s.moved t) refl (last_or None (distributed_loops s.distributed s.nest)) refl
  where
    go : (o : Option ℕ) → named_loop s.moved t ≡ o → (r : Option ℕ) → last_or None (distributed_loops s.distributed s.nest) ≡ r
        → HasLoops (unwrap_or (option_map (λ v. suc (length (loops_to v s.nest))) (option_or o r)) 0) s.nest
    go (Some v) e r f = moved_loops s.distributed v s.nest (named_has (λ v. IsCommunicate s.distributed v s.nest) t v s.moved lawful.communicated.loops e)
    go None e (Some v) f = fewer_loops (suc (length (loops_to v s.nest))) s.distributed s.nest (last_depth s.distributed v s.nest f) (distributed_has s.distributed s.nest lawful.distributed)
    go None e None f = tt

-- a fact of two numbers is one of the greater
max_has : (P : ℕ → Type 0) (a b : ℕ) → P a → P b → P (max a b)
max_has P a b p q = go (cases_lt a b)
  where
    go : (a < b) ⊎ (b ≤ a) → P (max a b)
    go (inl l) = let e : b ≡ max a b = omega (arith, l) in subst P e q
    go (inr l) = let e : a ≡ max a b = omega (arith, l) in subst P e p

-- and so of the greatest
fold_has : (P : ℕ → Type 0) (f : ℕ → ℕ) → ((t : ℕ) → P (f t)) → (acc : ℕ) (ts : List ℕ) → P acc → P (fold max acc (map f ts))
fold_has P f h acc [] p = p
fold_has P f h acc (t ∷ ts) p = fold_has P f h (max acc (f t)) ts (max_has P acc (f t) p (h t))

-- so many loops stand outermost and are not substituted
pub task_loops : TaskHasLoops
task_loops s k lawful l =
    fewer_loops k (task_depth s) s.nest l (fold_has (λ d. HasLoops d s.nest) (depth_of s) (λ t. depth_loops s t lawful) 0 (tensors_in s) tt)

-- values of loops that are not substituted are paths
pub assigned_paths : (k : ℕ) (tree : Tree) → HasLoops k tree → AllByRecursion (IsPathIn tree) (assignments (outer_extents k tree))
assigned_paths zero tree h = (tt, tt)
assigned_paths (suc k) (Loop v n walk body) h =
    all_flat (λ i. i < n) (IsPathIn (Loop v n walk body)) (λ i. map (λ a. i ∷ a) (assignments (outer_extents k body)))
    (λ i l. all_made (IsPathIn body) (IsPathIn (Loop v n walk body)) (λ a. i ∷ a) (λ a p. (l, h.0, p)) (assignments (outer_extents k body)) (assigned_paths k body h.1))
    (below n) (below_all n)
assigned_paths (suc k) (Pre work more p q) h = absurd h
assigned_paths (suc k) (Leaf lhs terms guards kernel) h = absurd h

-- the values of the loops down to a communicate loop are paths
pub are_paths : AssignmentsArePaths
are_paths s k lawful l = assigned_paths k s.nest (task_loops s k lawful l)
