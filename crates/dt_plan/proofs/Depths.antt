-- Tensors are moved at the distributed loops or inside them, and outside the task.
use Rattle.std.proofs.Common.{◌≡◌, ◌⊎◌, inl, inr, ℕ, zero, suc, ◌+◌, ◌-◌, ◌≤◌, Bool, true, false, List, [], ◌∷◌, length, map, Option, None, Some, refl, ap, ◌∙◌, subst, arith}
use Rattle.std.specs.Prelude.{if◌then◌else◌, MatchBool, nat_eq, fold, max, option_map, unwrap_or}
use Rattle.std.specs.List.{AllByRecursion, find, last_or, list_any}
use Rattle.std.specs.Option.{option_or}
use Rattle.std.proofs.lemmas.Bool.{eq-eqb, or_left, or_right}
use Rattle.std.proofs.lemmas.List.Folds.{list_any-append}
use Rattle.dt_base.specs.Ranges.{below}
use Rattle.dt_nest.specs.declared.parts.Moved.{Moved}
use Rattle.dt_nest.specs.Tree.{Tree, Loop, Pre, Leaf, times, accesses_of, read_accesses}
use Rattle.dt_nest.specs.Questions.{loops_to, accesses_tensor}
use Rattle.dt_nest.specs.Schedule.{Schedule}
use Rattle.dt_nest.specs.Lawful.{IsPlain, AreDistributed, IsCommunicate, IsLawful}
use Rattle.dt_nest.specs.Paths.{HasLoops, depth_of, tensors_in, task_depth}
use Rattle.dt_nest.specs.CommunicateLoops.{distributed_loops, named_loop}
use Rattle.dt_nest.specs.Outputs.{output_of}
use Rattle.dt_nest.proofs.RootApart.{output_below}
use Rattle.dt_nest.proofs.PathDepths.{distributed_has, named_has, task_loops}
use Rattle.dt_plan.proofs.Ascending.{all_in, filter_in}
use Rattle.dt_plan.proofs.BracketsMembers.{in_below}

-- a communicate loop is no distributed loop but the last
named_least : (k v : ℕ) (tree : Tree) → IsCommunicate k v tree → k ≤ suc (length (loops_to v tree))
named_least k v (Loop u n walk body) h = go (nat_eq u v) h (λ c. named_least (k - 1) v body c)
  where
    go : (b : Bool) → MatchBool b ((k ≤ 1) × IsPlain walk body) (IsCommunicate (k - 1) v body) → (IsCommunicate (k - 1) v body → k - 1 ≤ suc (length (loops_to v body)))
        → k ≤ suc (length (if b then [] else u ∷ loops_to v body))
    go true c r = c.0
    go false c r = let l = r c in omega (arith, l)
named_least k v (Pre work more p q) h = absurd h
named_least k v (Leaf lhs terms guards kernel) h = absurd h

some_is : (u v : ℕ) → Some u ≡ Some v → u ≡ v
some_is u v e = ap (λ (o : Option ℕ). unwrap_or o 0) e

-- the innermost of the first loops is in the tree
last_times : (k v : ℕ) (tree : Tree) (o : Option ℕ) → HasLoops (suc k) tree → last_or o (distributed_loops (suc k) tree) ≡ Some v → 1 ≤ times v tree
last_times zero v (Loop u n walk body) o h e = go (nat_eq u v) (eq-eqb u v (some_is u v e))
  where
    go : (b : Bool) → b ≡ true → 1 ≤ (if b then 1 else 0) + times v body
    go true t = omega arith
    go false t = absurd (cc)
last_times (suc k) v (Loop u n walk body) o h e = go (nat_eq u v) (last_times k v body (Some u) h.1 e)
  where
    go : (b : Bool) → 1 ≤ times v body → 1 ≤ (if b then 1 else 0) + times v body
    go true l = omega (arith, l)
    go false l = omega (arith, l)
last_times zero v (Pre work more p q) o h e = absurd h
last_times zero v (Leaf lhs terms guards kernel) o h e = absurd h
last_times (suc k) v (Pre work more p q) o h e = absurd h
last_times (suc k) v (Leaf lhs terms guards kernel) o h e = absurd h

-- and it is as deep as there are
last_least : (k v : ℕ) (tree : Tree) (o : Option ℕ) → HasLoops k tree → times v tree ≤ 1 → last_or o (distributed_loops k tree) ≡ Some v → k ≤ suc (length (loops_to v tree))
last_least zero v tree o h t e = omega arith
last_least (suc k) v (Loop u n walk body) o h t e = go (nat_eq u v) t (λ m. last_least k v body (Some u) h.1 m e) (inside k h.1 e)
  where
    inside : (k : ℕ) → HasLoops k body → last_or (Some u) (distributed_loops k body) ≡ Some v → (k ≡ 0) ⊎ (1 ≤ times v body)
    inside zero h e = inl refl
    inside (suc k) h e = inr (last_times k v body (Some u) h e)

    go : (b : Bool) → (if b then 1 else 0) + times v body ≤ 1 → (times v body ≤ 1 → k ≤ suc (length (loops_to v body))) → (k ≡ 0) ⊎ (1 ≤ times v body)
        → suc k ≤ suc (length (if b then [] else u ∷ loops_to v body))
    go true t r (inl z) = omega (arith, z)
    go true t r (inr l) = absurd (omega (arith, l, t))
    go false t r c = let m = r (omega (arith, t)) in omega (arith, m)
last_least (suc k) v (Pre work more p q) o h t e = absurd h
last_least (suc k) v (Leaf lhs terms guards kernel) o h t e = absurd h

-- where a loop is distributed there is an innermost one
some_last : (k : ℕ) (tree : Tree) (o : Option ℕ) → HasLoops (suc k) tree → last_or o (distributed_loops (suc k) tree) ≡ None → ⊥
some_last zero (Loop u n walk body) o h e = absurd (cc)
some_last (suc k) (Loop u n walk body) o h e = some_last k body (Some u) h.1 e
some_last zero (Pre work more p q) o h e = absurd h
some_last zero (Leaf lhs terms guards kernel) o h e = absurd h
some_last (suc k) (Pre work more p q) o h e = absurd h
some_last (suc k) (Leaf lhs terms guards kernel) o h e = absurd h

module _ (s : Schedule) (lawful : IsLawful s) where
  pub distributed_loops_are : HasLoops s.distributed s.nest
  distributed_loops_are = distributed_has s.distributed s.nest lawful.distributed

  -- no tensor is moved outside the distributed loops
  pub depth_least : (t : ℕ) → s.distributed ≤ depth_of s t
  depth_least t = go (named_loop s.moved t) refl (last_or None (distributed_loops s.distributed s.nest)) refl
    where
      none : (k : ℕ) → HasLoops k s.nest → last_or None (distributed_loops k s.nest) ≡ None → k ≤ 0
      none zero h e = omega arith
      none (suc k) h e = absurd (some_last k s.nest None h e)

      go : (o : Option ℕ) → named_loop s.moved t ≡ o → (r : Option ℕ) → last_or None (distributed_loops s.distributed s.nest) ≡ r
          → s.distributed ≤ unwrap_or (option_map (λ v. suc (length (loops_to v s.nest))) (option_or o r)) 0
      go (Some v) e r f = named_least s.distributed v s.nest (named_has (λ v. IsCommunicate s.distributed v s.nest) t v s.moved lawful.communicated.loops e)
      go None e (Some v) f = last_least s.distributed v s.nest None distributed_loops_are (lawful.differ v) f
      go None e None f = none s.distributed distributed_loops_are f

-- the greatest of some numbers is as great as each
greatest_from : (f : ℕ → ℕ) (acc : ℕ) (ts : List ℕ) → acc ≤ fold max acc (map f ts)
greatest_from f acc [] = omega arith
greatest_from f acc (t ∷ ts) = let l = greatest_from f (max acc (f t)) ts in omega (arith, l)

greatest_all : (f : ℕ → ℕ) (acc : ℕ) (ts : List ℕ) → AllByRecursion (λ t. f t ≤ fold max acc (map f ts)) ts
greatest_all f acc [] = tt
greatest_all f acc (t ∷ ts) = ((let l = greatest_from f (max acc (f t)) ts in omega (arith, l)), greatest_all f (max acc (f t)) ts)

-- no tensor is moved inside the task
pub depths_below : (s : Schedule) → AllByRecursion (λ t. depth_of s t ≤ task_depth s) (tensors_in s)
depths_below s = greatest_all (depth_of s) 0 (tensors_in s)

-- the left tensor is accessed
left_accessed : (tree : Tree) → list_any (λ a. nat_eq a.tensor (output_of tree)) (accesses_of tree) ≡ true
left_accessed (Loop v n walk body) = left_accessed body
left_accessed (Pre work more p q) =
    list_any-append (λ a. nat_eq a.tensor (output_of q)) (accesses_of p) (accesses_of q)
    ∙ or_right (list_any (λ a. nat_eq a.tensor (output_of q)) (accesses_of p)) (list_any (λ a. nat_eq a.tensor (output_of q)) (accesses_of q)) (left_accessed q)
left_accessed (Leaf lhs terms guards kernel) = or_left (nat_eq lhs.tensor lhs.tensor) (list_any (λ a. nat_eq a.tensor lhs.tensor) (read_accesses terms)) (eq-eqb lhs.tensor lhs.tensor refl)

module _ (s : Schedule) (lawful : IsLawful s) where
  -- the task is no further out than the distributed loops
  pub deepest_is : task_depth s ≡ s.distributed + (task_depth s - s.distributed)
  deepest_is =
      let left = filter_in (accesses_tensor s.nest) (output_of s.nest) (below (length s.tensors)) (in_below (output_of s.nest) (length s.tensors) (output_below (length s.tensors) s.nest [] lawful.works.stand)) (left_accessed s.nest) in
      let most = all_in (λ t. depth_of s t ≤ task_depth s) (output_of s.nest) (tensors_in s) (depths_below s) left in
      let least = depth_least s lawful (output_of s.nest) in
      omega (arith, most, least)

  -- the loops down to the task are the outermost ones
  pub inner_loops : HasLoops (s.distributed + (task_depth s - s.distributed)) s.nest
  inner_loops = subst (λ k. HasLoops k s.nest) deepest_is (task_loops s (task_depth s) lawful (omega arith))
