-- The brackets of a statement have the operations that are named, and no others.
use Rattle.std.proofs.Common.{◌≡◌, ℕ, zero, suc, ◌+◌, ◌-◌, ◌<◌, ◌≤◌, Bool, true, false, List, [], ◌∷◌, ◌++◌, refl, sym, ap, subst, arith, map, length, ◌⊎◌, inl, inr}
use Rattle.std.specs.Prelude.{if◌then◌else◌, nat_eq}
use Rattle.std.specs.List.{flat_map}
use Rattle.std.proofs.lemmas.Bool.{eqb-true, eq-eqb, cases_lt}
use Rattle.dt_base.specs.Ranges.{below}
use Rattle.dt_nest.proofs.Each.{below_all}
use Rattle.dt_plan.specs.Listed.{IsIn}
use Rattle.dt_plan.proofs.Ascending.{all_in, in_append, in_left, in_right, in_flat, flat_in, in_map, map_in, in_filter, filter_in}
use Rattle.dt_plan.specs.Brackets.{Outline, pieces_on, moves_on, named_ops, moved_here, copies_on, folds_on, opened, closed, block, paths_on, has_some, busy_nodes, works_of, works_on, node_ops, brackets, paths_from, visited}
use Rattle.dt_plan.proofs.Outlines.{IsOutline, paths_are}
use Rattle.dt_plan.proofs.BracketsAscend.{paths_long}

-- each number below n is among them
pub in_below : (i n : ℕ) → i < n → IsIn i (below n)
in_below i zero l = absurd (omega arith)
in_below i (suc n) l = go (cases_lt i n) (λ k. in_below i n k)
  where
    go : (i < n) ⊎ (n ≤ i) → (i < n → IsIn i (below n)) → IsIn i (below n ++ (n ∷ []))
    go (inl k) f = in_left i (below n) (n ∷ []) (f k)
    go (inr k) f = let e : i ≡ n = omega (arith, k, l) in in_right i (below n) (n ∷ []) (inl e)

module _ {A I : Type 0} (m : Outline A I) where
  -- a longer path below a path
  pub paths_join : (j : ℕ) (p r : List ℕ) (k n : ℕ) (q : List ℕ) → n ≡ j + k → IsIn r (paths_from m j p) → IsIn q (paths_from m k r) → IsIn q (paths_from m n p)
  paths_join zero p r k n q e (inl h) g = let l : k ≡ n = omega (arith, e) in subst (λ v. IsIn q (paths_from m v p)) l (subst (λ v. IsIn q (paths_from m k v)) h g)
  paths_join zero p r k n q e (inr h) g = absurd h
  paths_join (suc j) p r k zero q e h g = absurd (omega (arith, e))
  paths_join (suc j) p r k (suc n) q e h g =
      let s = in_flat (λ i. paths_from m j (p ++ (i ∷ []))) r (m.values p) h in
      flat_in (λ i. paths_from m n (p ++ (i ∷ []))) q s.0 (m.values p) s.1 (paths_join j (p ++ (s.0 ∷ [])) r k n q (omega (arith, e)) s.2 g)

  -- a path is below a shorter one
  pub paths_cut : (j : ℕ) (p : List ℕ) (k n : ℕ) (q : List ℕ) → n ≡ j + k → IsIn q (paths_from m n p) → (r : List ℕ) × IsIn r (paths_from m j p) × IsIn q (paths_from m k r)
  paths_cut zero p k n q e h = (p, inl refl, (let l : n ≡ k = omega (arith, e) in subst (λ v. IsIn q (paths_from m v p)) l h))
  paths_cut (suc j) p k zero q e h = absurd (omega (arith, e))
  paths_cut (suc j) p k (suc n) q e h =
      let s = in_flat (λ i. paths_from m n (p ++ (i ∷ []))) q (m.values p) h in
      let c = paths_cut j (p ++ (s.0 ∷ [])) k n q (omega (arith, e)) s.2 in
      (c.0, flat_in (λ i. paths_from m j (p ++ (i ∷ []))) c.0 s.0 (m.values p) s.1 c.1, c.2)

  -- what is opened or closed on a path below p is in the block of p
  pub in_block : (k d : ℕ) (p q : List ℕ) (o : A) → k ≤ d → IsIn q (paths_from m k p) → IsIn o (opened m q) ⊎ IsIn o (closed m q) → IsIn o (block m d p)
  in_block zero zero p q o l (inl e) (inl h) = in_left o (opened m p) (m.task p ∷ closed m p) (subst (λ v. IsIn o (opened m v)) e h)
  in_block zero zero p q o l (inl e) (inr h) = in_right o (opened m p) (m.task p ∷ closed m p) (inr (subst (λ v. IsIn o (closed m v)) e h))
  in_block zero (suc d) p q o l (inl e) (inl h) = in_left o (opened m p) (flat_map (λ i. block m d (p ++ (i ∷ []))) (m.values p) ++ closed m p) (subst (λ v. IsIn o (opened m v)) e h)
  in_block zero (suc d) p q o l (inl e) (inr h) =
      in_right o (opened m p) (flat_map (λ i. block m d (p ++ (i ∷ []))) (m.values p) ++ closed m p)
      (in_right o (flat_map (λ i. block m d (p ++ (i ∷ []))) (m.values p)) (closed m p) (subst (λ v. IsIn o (closed m v)) e h))
  in_block zero d p q o l (inr e) h = absurd e
  in_block (suc k) zero p q o l g h = absurd (omega (arith, l))
  in_block (suc k) (suc d) p q o l g h =
      let s = in_flat (λ i. paths_from m k (p ++ (i ∷ []))) q (m.values p) g in
      in_right o (opened m p) (flat_map (λ i. block m d (p ++ (i ∷ []))) (m.values p) ++ closed m p)
      (in_left o (flat_map (λ i. block m d (p ++ (i ∷ []))) (m.values p)) (closed m p)
      (flat_in (λ i. block m d (p ++ (i ∷ []))) o s.0 (m.values p) s.1 (in_block k d (p ++ (s.0 ∷ [])) q o (omega (arith, l)) s.2 h)))

  -- so does the task of a deepest path
  pub task_in_block : (d : ℕ) (p q : List ℕ) → IsIn q (paths_from m d p) → IsIn (m.task q) (block m d p)
  task_in_block zero p q (inl e) = in_right (m.task q) (opened m p) (m.task p ∷ closed m p) (inl (ap m.task e))
  task_in_block zero p q (inr h) = absurd h
  task_in_block (suc d) p q h =
      let s = in_flat (λ i. paths_from m d (p ++ (i ∷ []))) q (m.values p) h in
      in_right (m.task q) (opened m p) (flat_map (λ i. block m d (p ++ (i ∷ []))) (m.values p) ++ closed m p)
      (in_left (m.task q) (flat_map (λ i. block m d (p ++ (i ∷ []))) (m.values p)) (closed m p)
      (flat_in (λ i. block m d (p ++ (i ∷ []))) (m.task q) s.0 (m.values p) s.1 (task_in_block d (p ++ (s.0 ∷ [])) q s.2)))

  -- where an operation of a block comes from: a path at which it is opened or closed, or a deepest path whose task it is
  abbrev pub FromBlock : ℕ → List ℕ → A → Type 0
  FromBlock d p o = ((k : ℕ) × (q : List ℕ) × (k ≤ d) × IsIn q (paths_from m k p) × (IsIn o (opened m q) ⊎ IsIn o (closed m q))) ⊎ ((q : List ℕ) × IsIn q (paths_from m d p) × (o ≡ m.task q))

  -- and nothing else is there
  pub block_from : (d : ℕ) (p : List ℕ) (o : A) → IsIn o (block m d p) → FromBlock d p o
  block_from zero p o h = go (in_append o (opened m p) (m.task p ∷ closed m p) h)
    where
      go : IsIn o (opened m p) ⊎ ((o ≡ m.task p) ⊎ IsIn o (closed m p)) → FromBlock zero p o
      go (inl a) = inl (0, p, omega arith, inl refl, inl a)
      go (inr (inl e)) = inr (p, inl refl, e)
      go (inr (inr a)) = inl (0, p, omega arith, inl refl, inr a)
  block_from (suc d) p o h = go (in_append o (opened m p) (inside ++ closed m p) h) (λ i g. block_from d (p ++ (i ∷ [])) o g)
    where
      inside : List A
      inside = flat_map (λ i. block m d (p ++ (i ∷ []))) (m.values p)

      deeper : (i : ℕ) → IsIn i (m.values p) → FromBlock d (p ++ (i ∷ [])) o → FromBlock (suc d) p o
      deeper i v (inl a) = inl (suc a.0, a.1, (let l = a.2 in omega (arith, l)), flat_in (λ i. paths_from m a.0 (p ++ (i ∷ []))) a.1 i (m.values p) v a.3, a.4)
      deeper i v (inr a) = inr (a.0, flat_in (λ i. paths_from m d (p ++ (i ∷ []))) a.0 i (m.values p) v a.1, a.2)

      middle : IsIn o inside ⊎ IsIn o (closed m p) → ((i : ℕ) → IsIn o (block m d (p ++ (i ∷ []))) → FromBlock d (p ++ (i ∷ [])) o) → FromBlock (suc d) p o
      middle (inl a) f = let s = in_flat (λ i. block m d (p ++ (i ∷ []))) o (m.values p) a in deeper s.0 s.1 (f s.0 s.2)
      middle (inr a) f = inl (0, p, omega arith, inl refl, inr a)

      go : IsIn o (opened m p) ⊎ IsIn o (inside ++ closed m p) → ((i : ℕ) → IsIn o (block m d (p ++ (i ∷ []))) → FromBlock d (p ++ (i ∷ [])) o) → FromBlock (suc d) p o
      go (inl a) f = inl (0, p, omega arith, inl refl, inl a)
      go (inr a) f = middle (in_append o inside (closed m p) a) f

  -- a move of a tensor on a path of its depth is opened or closed there
  pub move_here : (t : ℕ) (q : List ℕ) (o : A) → IsIn t m.tensors → m.depth t ≡ length q → IsIn o (moves_on m t q) → IsIn o (opened m q) ⊎ IsIn o (closed m q)
  move_here t q o h e g = go g
    where
      here : IsIn t (moved_here m q)
      here = filter_in (λ t. nat_eq (m.depth t) (length q)) t m.tensors h (eq-eqb (m.depth t) (length q) e)

      piece : (b : Bool) → nat_eq t m.output ≡ b → IsIn o (if b then map (m.fold t q) (m.shares t q) else map (m.copy t q) (m.pieces t q)) → IsIn o (opened m q) ⊎ IsIn o (closed m q)
      piece true f a = inr (in_left o (flat_map (folds_on m q) (moved_here m q)) (map (λ t. m.free t q) (moved_here m q))
          (flat_in (folds_on m q) o t (moved_here m q) here (subst (λ (v : Bool). IsIn o (if v then map (m.fold t q) (m.shares t q) else [])) (sym f) a)))
      piece false f a = inl (in_right o (map (λ t. m.alloc t q) (moved_here m q)) (flat_map (copies_on m q) (moved_here m q))
          (flat_in (copies_on m q) o t (moved_here m q) here (subst (λ (v : Bool). IsIn o (if v then [] else map (m.copy t q) (m.pieces t q))) (sym f) a)))

      rest : IsIn o (pieces_on m t q) ⊎ ((o ≡ m.free t q) ⊎ ⊥) → IsIn o (opened m q) ⊎ IsIn o (closed m q)
      rest (inl a) = piece (nat_eq t m.output) refl a
      rest (inr (inl a)) = inr (in_right o (flat_map (folds_on m q) (moved_here m q)) (map (λ t. m.free t q) (moved_here m q)) (subst (λ v. IsIn v (map (λ t. m.free t q) (moved_here m q))) (sym a) (map_in (λ t. m.free t q) t (moved_here m q) here)))
      rest (inr (inr a)) = absurd a

      go : IsIn o (moves_on m t q) → IsIn o (opened m q) ⊎ IsIn o (closed m q)
      go (inl a) = inl (in_left o (map (λ t. m.alloc t q) (moved_here m q)) (flat_map (copies_on m q) (moved_here m q)) (subst (λ v. IsIn v (map (λ t. m.alloc t q) (moved_here m q))) (sym a) (map_in (λ t. m.alloc t q) t (moved_here m q) here)))
      go (inr a) = rest (in_append o (pieces_on m t q) (m.free t q ∷ []) a)

  -- what is opened or closed on a path is a move of a tensor whose depth it has
  pub here_move : (q : List ℕ) (o : A) → IsIn o (opened m q) ⊎ IsIn o (closed m q) → (t : ℕ) × IsIn t m.tensors × (m.depth t ≡ length q) × IsIn o (moves_on m t q)
  here_move q o h = side h
    where
      found : (t : ℕ) → IsIn t (moved_here m q) → IsIn o (moves_on m t q) → (t : ℕ) × IsIn t m.tensors × (m.depth t ≡ length q) × IsIn o (moves_on m t q)
      found t a g = let f = in_filter (λ t. nat_eq (m.depth t) (length q)) t m.tensors a in (t, f.0, eqb-true (m.depth t) (length q) f.1, g)

      copied : (t : ℕ) (b : Bool) → IsIn o (if b then [] else map (m.copy t q) (m.pieces t q)) → IsIn o (if b then map (m.fold t q) (m.shares t q) else map (m.copy t q) (m.pieces t q))
      copied t true a = absurd a
      copied t false a = a

      folded : (t : ℕ) (b : Bool) → IsIn o (if b then map (m.fold t q) (m.shares t q) else []) → IsIn o (if b then map (m.fold t q) (m.shares t q) else map (m.copy t q) (m.pieces t q))
      folded t true a = a
      folded t false a = absurd a

      before : IsIn o (map (λ t. m.alloc t q) (moved_here m q)) ⊎ IsIn o (flat_map (copies_on m q) (moved_here m q)) → (t : ℕ) × IsIn t m.tensors × (m.depth t ≡ length q) × IsIn o (moves_on m t q)
      before (inl a) = let s = in_map (λ t. m.alloc t q) o (moved_here m q) a in found s.0 s.1 (inl s.2)
      before (inr a) = let s = in_flat (copies_on m q) o (moved_here m q) a in found s.0 s.1 (inr (in_left o (pieces_on m s.0 q) (m.free s.0 q ∷ []) (copied s.0 (nat_eq s.0 m.output) s.2)))

      after : IsIn o (flat_map (folds_on m q) (moved_here m q)) ⊎ IsIn o (map (λ t. m.free t q) (moved_here m q)) → (t : ℕ) × IsIn t m.tensors × (m.depth t ≡ length q) × IsIn o (moves_on m t q)
      after (inl a) = let s = in_flat (folds_on m q) o (moved_here m q) a in found s.0 s.1 (inr (in_left o (pieces_on m s.0 q) (m.free s.0 q ∷ []) (folded s.0 (nat_eq s.0 m.output) s.2)))
      after (inr a) = let s = in_map (λ t. m.free t q) o (moved_here m q) a in found s.0 s.1 (inr (in_right o (pieces_on m s.0 q) (m.free s.0 q ∷ []) (inl s.2)))

      side : IsIn o (opened m q) ⊎ IsIn o (closed m q) → (t : ℕ) × IsIn t m.tensors × (m.depth t ≡ length q) × IsIn o (moves_on m t q)
      side (inl a) = before (in_append o (map (λ t. m.alloc t q) (moved_here m q)) (flat_map (copies_on m q) (moved_here m q)) a)
      side (inr a) = after (in_append o (flat_map (folds_on m q) (moved_here m q)) (map (λ t. m.free t q) (moved_here m q)) a)

module _ {A I : Type 0} (key : A → List ℕ) (at : I → ℕ) (m : Outline A I) (k : IsOutline key at m) where
  -- a path is one below the root, and there is a visit
  in_paths : (j : ℕ) (q : List ℕ) → j ≤ m.distributed + m.inner → IsIn q (m.paths j) → (visited m ≡ true) × IsIn q (paths_from m j [])
  in_paths j q l h = go (visited m) (subst (λ ps. IsIn q ps) (paths_are key at m k j l) h)
    where
      go : (v : Bool) → IsIn q (if v then paths_from m j [] else []) → (v ≡ true) × IsIn q (paths_from m j [])
      go true h = (refl, h)
      go false h = absurd h

  -- and each of these is a path
  paths_in : (j : ℕ) (q : List ℕ) → j ≤ m.distributed + m.inner → visited m ≡ true → IsIn q (paths_from m j []) → IsIn q (m.paths j)
  paths_in j q l v h = subst (λ ps. IsIn q ps) (sym (paths_are key at m k j l)) (subst (λ (b : Bool). IsIn q (if b then paths_from m j [] else [])) (sym v) h)

  abbrev zeros : List A
  zeros = flat_map m.zeros (below m.nodes)

  abbrev moves : List A
  moves = flat_map (λ t. flat_map (moves_on m t) (m.paths (m.depth t))) m.tensors

  abbrev works : List A
  works = flat_map (works_of m) m.works

  abbrev tasks : List A
  tasks = map m.task (m.paths (m.distributed + m.inner))

  abbrev blocks : ℕ → List A
  blocks n = flat_map (block m m.inner) (paths_on m n)

  abbrev closing : ℕ → List A
  closing n = map (m.work_free n) (works_on m n)

  -- what is on a node is in the brackets
  node_in : (n : ℕ) (o : A) → n < m.nodes → IsIn o (node_ops m n) → IsIn o (brackets m)
  node_in n o l h = in_right o zeros (flat_map (node_ops m) (below m.nodes)) (flat_in (node_ops m) o n (below m.nodes) (in_below n m.nodes l) h)

  -- what is in the block of a path of the distributed loops is in the brackets
  block_in : (r : List ℕ) (o : A) → IsIn r (m.paths m.distributed) → IsIn o (block m m.inner r) → IsIn o (brackets m)
  block_in r o h g =
      node_in (m.node r) o (k.node_below r)
      (in_right o (map (m.work_alloc (m.node r)) (works_on m (m.node r))) (blocks (m.node r) ++ closing (m.node r))
      (in_left o (blocks (m.node r)) (closing (m.node r))
      (flat_in (block m m.inner) o r (paths_on m (m.node r)) (filter_in (λ p. nat_eq (m.node p) (m.node r)) r (m.paths m.distributed) h (eq-eqb (m.node r) (m.node r) refl)) g)))

  -- the workspaces of a node with a task are those of the statement
  work_on : (n w : ℕ) → IsIn n (busy_nodes m) → IsIn w m.works → (n < m.nodes) × IsIn w (works_on m n)
  work_on n w h g =
      let f = in_filter (λ n. has_some (paths_on m n)) n (below m.nodes) h in
      (all_in (λ n. n < m.nodes) n (below m.nodes) (below_all m.nodes) f.0, subst (λ (b : Bool). IsIn w (if b then m.works else [])) (sym f.1) g)

  on_work : (n w : ℕ) → IsIn n (below m.nodes) → IsIn w (works_on m n) → IsIn n (busy_nodes m) × IsIn w m.works
  on_work n w h g = go (has_some (paths_on m n)) refl g
    where
      go : (b : Bool) → has_some (paths_on m n) ≡ b → IsIn w (if b then m.works else []) → IsIn n (busy_nodes m) × IsIn w m.works
      go true e g = (filter_in (λ n. has_some (paths_on m n)) n (below m.nodes) h e, g)
      go false e g = absurd g

  -- Each named operation is in the brackets.
  pub named_in_brackets : (o : A) → IsIn o (named_ops m) → IsIn o (brackets m)
  named_in_brackets o h = first (in_append o zeros ((moves ++ works) ++ tasks) (subst (λ d. IsIn o (zeros ++ ((moves ++ works) ++ map m.task (m.paths d)))) k.deepest h))
    where
      moved : (t : ℕ) → IsIn t m.tensors → (q : List ℕ) → IsIn q (m.paths (m.depth t)) → IsIn o (moves_on m t q) → IsIn o (brackets m)
      moved t a q b c =
          let l = all_in (λ t. (m.distributed ≤ m.depth t) × (m.depth t ≤ m.distributed + m.inner)) t m.tensors k.deep a in
          let l0 = l.0 in
          let l1 = l.1 in
          let v = in_paths (m.depth t) q l1 b in
          let r = paths_cut m m.distributed [] (m.depth t - m.distributed) (m.depth t) q (omega (arith, l0)) v.1 in
          block_in r.0 o (paths_in m.distributed r.0 (omega arith) v.0 r.1)
          (in_block m (m.depth t - m.distributed) m.inner r.0 q o (omega (arith, l0, l1)) r.2 (move_here m t q o a (let e = paths_long m (m.depth t) [] q v.1 in omega (arith, e)) c))

      working : (w : ℕ) → IsIn w m.works → IsIn o (map (λ n. m.work_alloc n w) (busy_nodes m)) ⊎ IsIn o (map (λ n. m.work_free n w) (busy_nodes m)) → IsIn o (brackets m)
      working w a (inl b) =
          let n = in_map (λ n. m.work_alloc n w) o (busy_nodes m) b in
          let f = work_on n.0 w n.1 a in
          node_in n.0 o f.0 (in_left o (map (m.work_alloc n.0) (works_on m n.0)) (blocks n.0 ++ closing n.0) (subst (λ v. IsIn v (map (m.work_alloc n.0) (works_on m n.0))) (sym n.2) (map_in (m.work_alloc n.0) w (works_on m n.0) f.1)))
      working w a (inr b) =
          let n = in_map (λ n. m.work_free n w) o (busy_nodes m) b in
          let f = work_on n.0 w n.1 a in
          node_in n.0 o f.0
          (in_right o (map (m.work_alloc n.0) (works_on m n.0)) (blocks n.0 ++ closing n.0)
          (in_right o (blocks n.0) (closing n.0) (subst (λ v. IsIn v (closing n.0)) (sym n.2) (map_in (m.work_free n.0) w (works_on m n.0) f.1))))

      third : IsIn o moves ⊎ IsIn o works → IsIn o (brackets m)
      third (inl a) =
          let s = in_flat (λ t. flat_map (moves_on m t) (m.paths (m.depth t))) o m.tensors a in
          let q = in_flat (moves_on m s.0) o (m.paths (m.depth s.0)) s.2 in
          moved s.0 s.1 q.0 q.1 q.2
      third (inr a) =
          let s = in_flat (works_of m) o m.works a in
          working s.0 s.1 (in_append o (map (λ n. m.work_alloc n s.0) (busy_nodes m)) (map (λ n. m.work_free n s.0) (busy_nodes m)) s.2)

      second : IsIn o (moves ++ works) ⊎ IsIn o tasks → IsIn o (brackets m)
      second (inl a) = third (in_append o moves works a)
      second (inr a) =
          let q = in_map m.task o (m.paths (m.distributed + m.inner)) a in
          let v = in_paths (m.distributed + m.inner) q.0 (omega arith) q.1 in
          let r = paths_cut m m.distributed [] m.inner (m.distributed + m.inner) q.0 refl v.1 in
          block_in r.0 o (paths_in m.distributed r.0 (omega arith) v.0 r.1) (subst (λ v. IsIn v (block m m.inner r.0)) (sym q.2) (task_in_block m m.inner r.0 q.0 r.2))

      first : IsIn o zeros ⊎ IsIn o ((moves ++ works) ++ tasks) → IsIn o (brackets m)
      first (inl a) = in_left o zeros (flat_map (node_ops m) (below m.nodes)) a
      first (inr a) = second (in_append o (moves ++ works) tasks a)

  -- Each operation in the brackets is named.
  pub brackets_in_named : (o : A) → IsIn o (brackets m) → IsIn o (named_ops m)
  brackets_in_named o h =
      subst (λ d. IsIn o (zeros ++ ((moves ++ works) ++ map m.task (m.paths d)))) (sym k.deepest) (first (in_append o zeros (flat_map (node_ops m) (below m.nodes)) h))
    where
      inside : (r : List ℕ) → IsIn r (m.paths m.distributed) → FromBlock m m.inner r o → IsIn o ((moves ++ works) ++ tasks)
      inside r g (inl a) =
          let s = here_move m a.1 o a.4 in
          let v = in_paths m.distributed r (omega arith) g in
          let q = paths_join m m.distributed [] r a.0 (m.distributed + a.0) a.1 refl v.1 a.3 in
          let e : m.distributed + a.0 ≡ m.depth s.0 = (let d = s.2 in let l = paths_long m (m.distributed + a.0) [] a.1 q in omega (arith, d, l)) in
          in_left o (moves ++ works) tasks
          (in_left o moves works
          (flat_in (λ t. flat_map (moves_on m t) (m.paths (m.depth t))) o s.0 m.tensors s.1
          (flat_in (moves_on m s.0) o a.1 (m.paths (m.depth s.0)) (subst (λ d. IsIn a.1 (m.paths d)) e (paths_in (m.distributed + a.0) a.1 (let l = a.2 in omega (arith, l)) v.0 q)) s.3)))
      inside r g (inr a) =
          let v = in_paths m.distributed r (omega arith) g in
          let q = paths_join m m.distributed [] r m.inner (m.distributed + m.inner) a.0 refl v.1 a.1 in
          in_right o (moves ++ works) tasks (subst (λ d. IsIn d tasks) (sym a.2) (map_in m.task a.0 (m.paths (m.distributed + m.inner)) (paths_in (m.distributed + m.inner) a.0 (omega arith) v.0 q)))

      -- an operation of a workspace
      working : (w : ℕ) → IsIn w m.works → IsIn o (works_of m w) → IsIn o ((moves ++ works) ++ tasks)
      working w a b = in_left o (moves ++ works) tasks (in_right o moves works (flat_in (works_of m) o w m.works a b))

      rest : (n : ℕ) → IsIn n (below m.nodes) → IsIn o (blocks n) ⊎ IsIn o (closing n) → IsIn o ((moves ++ works) ++ tasks)
      rest n l (inl a) =
          let r = in_flat (block m m.inner) o (paths_on m n) a in
          let g = in_filter (λ p. nat_eq (m.node p) n) r.0 (m.paths m.distributed) r.1 in
          inside r.0 g.0 (block_from m m.inner r.0 o r.2)
      rest n l (inr a) =
          let w = in_map (m.work_free n) o (works_on m n) a in
          let f = on_work n w.0 l w.1 in
          working w.0 f.1
          (in_right o (map (λ n. m.work_alloc n w.0) (busy_nodes m)) (map (λ n. m.work_free n w.0) (busy_nodes m))
          (subst (λ v. IsIn v (map (λ n. m.work_free n w.0) (busy_nodes m))) (sym w.2) (map_in (λ n. m.work_free n w.0) n (busy_nodes m) f.0)))

      node : (n : ℕ) → IsIn n (below m.nodes) → IsIn o (map (m.work_alloc n) (works_on m n)) ⊎ IsIn o (blocks n ++ closing n) → IsIn o ((moves ++ works) ++ tasks)
      node n l (inl a) =
          let w = in_map (m.work_alloc n) o (works_on m n) a in
          let f = on_work n w.0 l w.1 in
          working w.0 f.1
          (in_left o (map (λ n. m.work_alloc n w.0) (busy_nodes m)) (map (λ n. m.work_free n w.0) (busy_nodes m))
          (subst (λ v. IsIn v (map (λ n. m.work_alloc n w.0) (busy_nodes m))) (sym w.2) (map_in (λ n. m.work_alloc n w.0) n (busy_nodes m) f.0)))
      node n l (inr a) = rest n l (in_append o (blocks n) (closing n) a)

      first : IsIn o zeros ⊎ IsIn o (flat_map (node_ops m) (below m.nodes)) → IsIn o (zeros ++ ((moves ++ works) ++ tasks))
      first (inl a) = in_left o zeros ((moves ++ works) ++ tasks) a
      first (inr a) =
          let s = in_flat (node_ops m) o (below m.nodes) a in
          in_right o zeros ((moves ++ works) ++ tasks) (node s.0 s.1 (in_append o (map (m.work_alloc s.0) (works_on m s.0)) (blocks s.0 ++ closing s.0) s.2))
