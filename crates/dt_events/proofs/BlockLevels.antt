-- One level of blocks: the tensors that are moved there are opened before all that is deeper, and closed after it.
use Rattle.std.proofs.Common.{◌≡◌, ◌≢◌, ℕ, suc, ◌+◌, ◌%◌, ◌^◌, ◌<◌, ◌≤◌, Bool, true, false, not, List, [], ◌∷◌, ◌++◌, map, Option, Some, None, is_some, refl, sym, ap, ap₂, ◌∙◌, subst, ⊎_elim, eqb-true, eq-eqb, arith, if◌then◌else◌}
use Rattle.std.specs.Prelude.{nat_eq, nat_lt}
use Rattle.std.specs.List.{flat_map, list_any}
use Rattle.std.proofs.lemmas.Bool.{cases_Bool, cases_lt, and_parts, lt-ltb, le-ltb}
use Rattle.dt_runs.specs.Sets.{contains}
use Rattle.dt_copy.specs.declared.piece_list.Piece.{Piece}
use Rattle.dt_argument.proofs.Shapes.{if_true, if_false}
use Rattle.dt_argument.specs.Frames.{grown}
use Rattle.dt_plan.specs.declared.touches.Buffer.TheVariants.{Home, Scratch, Work}
use Rattle.dt_events.specs.State.{Cell, Sign, Word, State, is_of}
use Rattle.dt_events.proofs.BlockFolds.{folds_hit}
use Rattle.dt_events.proofs.BlockLists.{not_true, both_ways, has_filter, filter_has, apart_filter, filter_none, filter_one, any_found, any_in, none_any, any_turned, any_gives}
use Rattle.dt_events.proofs.BlockMoves.{Move, run_op, run_ops}
use Rattle.dt_events.proofs.BlockPlans.{Blocks, scratch, moved, rights, lefts, alloc_on, free_on, copies_on, folds_on, opened, closed, scratch_target, home_target, target, amount_at, grow_all, grown_by, AreSmall, IsReady, IsPlanned, IsServed, AreApart}
use Rattle.dt_events.proofs.BlockRuns.{fill, grown_like, grown_twice, grown_none, grown_there, grown_small}
use Rattle.dt_events.proofs.BlockSteps.{in_scratch, same_scratch, opened_cell, copied_cell, word_copied, piece_copied, tensor_copied, CanFold, shares_folded, allocs_run, copies_run, folds_run, frees_run}
use Rattle.dt_events.proofs.Cells.{same_cell_true, same_cell_refl, word_is_of, sign_is_of}
use Rattle.dt_events.proofs.ListRuns.{chain, run_flat}
use Rattle.dt_argument.proofs.OperationRuns.{and_then}

opened_small : (b : Blocks) (path : List ℕ) (c : Cell) (v : ℕ) → opened_cell b path c ≡ Some v → v < 2 ^ 64
opened_small b path (Sign n c) v h = let e : 0 ≡ v = cc in omega (arith, e)
opened_small b path (Word n (Home t) w) v h = cc
opened_small b path (Word n (Scratch k t) w) v h = go (contains (b.need t path) w) h
  where
    go : (x : Bool) → (if x then Some 0 else None) ≡ Some v → v < 2 ^ 64
    go true e = let f : 0 ≡ v = cc in omega (arith, f)
    go false e = cc
opened_small b path (Word n (Work k t) w) v h = cc

copied_small : (b : Blocks) (path : List ℕ) → IsPlanned b → (c : Cell) (v : ℕ) → copied_cell b path c ≡ Some v → v < 2 ^ 64
copied_small b path plan (Sign n c) v h = cc
copied_small b path plan (Word n (Home t) w) v h = cc
copied_small b path plan (Word n (Scratch k t) w) v h = let e : b.number t w ≡ v = cc in let l = plan.numbers t w in subst (λ (x : ℕ). x < 2 ^ 64) e l
copied_small b path plan (Word n (Work k t) w) v h = cc

if_small : (t : Bool) (x y : Option ℕ) → ((v : ℕ) → x ≡ Some v → v < 2 ^ 64) → ((v : ℕ) → y ≡ Some v → v < 2 ^ 64) → (v : ℕ) → (if t then x else y) ≡ Some v → v < 2 ^ 64
if_small true x y f g v h = f v h
if_small false x y f g v h = g v h

module _ (b : Blocks) (j : ℕ) (path : List ℕ) (plan : IsPlanned b) (served : IsServed b path) where
  -- the tensors that are moved at this depth
  abbrev pub here : List ℕ
  here = moved b j

  -- a cell of one of their scratches
  abbrev pub in_here : Cell → Bool
  in_here c = list_any (λ t. in_scratch b path t c) here

  -- a cell that a copy of theirs writes
  abbrev pub copied_here : Cell → Bool
  copied_here c = list_any (λ t. tensor_copied b path t c) (rights b here)

  -- the state after the allocs, and after the copies
  abbrev pub allotted : State → State
  allotted s = fill (opened_cell b path) in_here s

  -- and after the copies
  abbrev pub supplied : State → State
  supplied s = fill (copied_cell b path) copied_here (allotted s)

  here_apart : AreApart here
  here_apart = apart_filter (λ t. nat_eq (b.depth t) j) b.tensors plan.apart

  from_here : (t : ℕ) → contains here t ≡ true → (contains b.tensors t ≡ true) × (b.depth t ≡ j)
  from_here t h = let p = has_filter (λ u. nat_eq (b.depth u) j) b.tensors t h in (p.0, eqb-true (b.depth t) j p.1)

  to_here : (t : ℕ) → contains b.tensors t ≡ true → b.depth t ≡ j → contains here t ≡ true
  to_here t h e = filter_has (λ u. nat_eq (b.depth u) j) b.tensors t h (eq-eqb (b.depth t) j e)

  right_test : (t : ℕ) → not (nat_eq t b.out) ≡ true → t ≢ b.out
  right_test t h e = both_ways (not (nat_eq t b.out)) h (ap not (eq-eqb t b.out e))

  test_right : (t : ℕ) → t ≢ b.out → not (nat_eq t b.out) ≡ true
  test_right t h = ap not (not_true (nat_eq t b.out) (λ e. h (eqb-true t b.out e)))

  from_right : (t : ℕ) → contains (rights b here) t ≡ true → (contains here t ≡ true) × (t ≢ b.out)
  from_right t h = let p = has_filter (λ u. not (nat_eq u b.out)) here t h in (p.0, right_test t p.1)

  to_right : (t : ℕ) → contains here t ≡ true → t ≢ b.out → contains (rights b here) t ≡ true
  to_right t h d = filter_has (λ u. not (nat_eq u b.out)) here t h (test_right t d)

  -- a home is no scratch
  home_apart : (m t w : ℕ) → in_here (Word m (Home t) w) ≡ false
  home_apart m t w = none_any (λ u. in_scratch b path u (Word m (Home t) w)) here (λ u. not_true (in_scratch b path u (Word m (Home t) w)) (λ e. let p = and_parts (nat_eq b.node m) false e in cc))

  -- a scratch of another depth is none of these
  depth_apart : (t : ℕ) (c : Cell) → b.depth t ≢ j → in_scratch b path t c ≡ true → in_here c ≡ false
  depth_apart t c d h =
      not_true (in_here c) (λ e.
      let p = any_found (λ u. in_scratch b path u c) here e in
      let same : p.0 ≡ t = same_scratch b path p.0 t c p.2 h in
      d (ap b.depth (sym same) ∙ (from_here p.0 p.1).1))

  -- a cell that is copied to is in the scratch of that tensor
  copied_in : (t : ℕ) (c : Cell) → tensor_copied b path t c ≡ true → in_scratch b path t c ≡ true
  copied_in t c h =
      any_gives (λ p. piece_copied b path t p c) (in_scratch b path t c ≡ true) (b.pieces t path)
      (λ p e. any_gives (λ w. word_copied b path t w c) (in_scratch b path t c ≡ true) p.words
      (λ w f. subst (λ (x : Cell). in_scratch b path t x ≡ true) (same_cell_true (Word b.node (scratch b t) w) c f) (word_is_of b.node (scratch b t) w))
      e)
      h

  copied_found : (c : Cell) → copied_here c ≡ true → (t : ℕ) × (contains (rights b here) t ≡ true) × (in_scratch b path t c ≡ true)
  copied_found c h = let p = any_found (λ t. tensor_copied b path t c) (rights b here) h in (p.0, p.1, copied_in p.0 c p.2)

  -- elsewhere nothing changes
  outside : (s : State) (c : Cell) → in_here c ≡ false → supplied s c ≡ s c
  outside s c h =
      if_false (copied_here c) (copied_cell b path c) (allotted s c)
      (not_true (copied_here c) (λ e.
      let p = copied_found c e in
      both_ways (in_here c) (any_in (λ t. in_scratch b path t c) here p.0 (from_right p.0 p.1).0 p.2) h))
      ∙ if_false (in_here c) (opened_cell b path c) (s c) h

  word_here : (t w : ℕ) → contains here t ≡ true → in_here (Word b.node (scratch b t) w) ≡ true
  word_here t w h = any_in (λ u. in_scratch b path u (Word b.node (scratch b t) w)) here t h (word_is_of b.node (scratch b t) w)

  allotted_zero : (s : State) (t w : ℕ) → contains here t ≡ true → contains (b.need t path) w ≡ true → allotted s (Word b.node (scratch b t) w) ≡ Some 0
  allotted_zero s t w h k =
      if_true (in_here (Word b.node (scratch b t) w)) (opened_cell b path (Word b.node (scratch b t) w)) (s (Word b.node (scratch b t) w)) (word_here t w h)
      ∙ if_true (contains (b.need t path) w) (Some 0) None k

  -- a list of allocs and copies
  pub opened_run : (s : State) → IsReady b j path s → run_ops (opened b j path) s ≡ Some (supplied s)
  opened_run s r =
      chain run_op (map (alloc_on b path) here) (flat_map (copies_on b path) (rights b here)) s (allotted s) (Some (supplied s))
      (allocs_run b path here here_apart s (λ t h. let p = from_here t h in r.absent t (Sign b.node (scratch b t)) p.0 (omega (arith, p.1)) (sign_is_of b.node (scratch b t))))
      (copies_run b path (rights b here)
      (λ t h. let p = from_right t h in served.copied t (from_here t p.0).0 p.1)
      (allotted s)
      (record {
        homes = λ t m w h k.
            let p = from_right t h in
            if_false (in_here (Word m (Home t) w)) (opened_cell b path (Word m (Home t) w)) (s (Word m (Home t) w)) (home_apart m t w)
            ∙ r.homes t m w (from_here t p.0).0 p.1 k;
        there = λ t w h k. ap (is_some {T = ℕ}) (allotted_zero s t w (from_right t h).0 k);
      }))

  -- the copied words
  supplied_right : (s : State) (t w : ℕ) → contains (rights b here) t ≡ true → contains (b.need t path) w ≡ true → supplied s (Word b.node (scratch b t) w) ≡ Some (b.number t w)
  supplied_right s t w h k =
      let p = from_right t h in
      let c : Cell = Word b.node (scratch b t) w in
      if_true (copied_here c) (copied_cell b path c) (allotted s c)
      (any_in (λ u. tensor_copied b path u c) (rights b here) t h
      (any_turned (λ (q : Piece). contains q.words w) (λ q. piece_copied b path t q c) (b.pieces t path)
      (λ q e. any_in (λ v. word_copied b path t v c) q.words w e (same_cell_refl c))
      (served.covered t w (from_here t p.0).0 p.1 k)))

  -- the left tensor's words are 0
  supplied_left : (s : State) (w : ℕ) → contains here b.out ≡ true → contains (b.need b.out path) w ≡ true → supplied s (Word b.node (scratch b b.out) w) ≡ Some 0
  supplied_left s w h k =
      let c : Cell = Word b.node (scratch b b.out) w in
      if_false (copied_here c) (copied_cell b path c) (allotted s c)
      (not_true (copied_here c) (λ e. let p = copied_found c e in (from_right p.0 p.1).1 (same_scratch b path p.0 b.out c p.2 (word_is_of b.node (scratch b b.out) w))))
      ∙ allotted_zero s b.out w h k

  supplied_sign : (s : State) (t : ℕ) → contains here t ≡ true → is_some (supplied s (Sign b.node (scratch b t))) ≡ true
  supplied_sign s t h =
      let c : Cell = Sign b.node (scratch b t) in
      ap (is_some {T = ℕ})
      (if_false (copied_here c) (copied_cell b path c) (allotted s c)
      (none_any (λ u. tensor_copied b path u c) (rights b here) (λ u. none_any (λ p. piece_copied b path u p c) (b.pieces u path) (λ p. none_any (λ w. word_copied b path u w c) p.words (λ w. refl))))
      ∙ if_true (in_here c) (Some 0) (s c) (any_in (λ u. in_scratch b path u c) here t h (sign_is_of b.node (scratch b t))))

  supplied_small : (s : State) → AreSmall s → AreSmall (supplied s)
  supplied_small s h c v e =
      if_small (copied_here c) (copied_cell b path c) (allotted s c) (copied_small b path plan c)
      (λ u f. if_small (in_here c) (opened_cell b path c) (s c) (opened_small b path c) (h c) u f)
      v e

  -- then the tensors of this depth are open too
  pub ready_inside : (s : State) → IsReady b j path s → IsReady b (suc j) path (supplied s)
  ready_inside s r = record {
    right = λ t w at d l k.
        ⊎_elim
        (λ (e : b.depth t < j). outside s (Word b.node (scratch b t) w) (depth_apart t (Word b.node (scratch b t) w) (λ q. (let z : ⊥ = absurd (omega (arith, e, q)) in z)) (word_is_of b.node (scratch b t) w)) ∙ r.right t w at d e k)
        (λ (e : j ≤ b.depth t). supplied_right s t w (to_right t (to_here t at (omega (arith, e, l))) d) k)
        (cases_lt (b.depth t) j);
    left = λ w l k.
        ⊎_elim
        (λ (e : b.depth b.out < j). ap (is_some {T = ℕ}) (outside s (Word b.node (scratch b b.out) w) (depth_apart b.out (Word b.node (scratch b b.out) w) (λ q. (let z : ⊥ = absurd (omega (arith, e, q)) in z)) (word_is_of b.node (scratch b b.out) w))) ∙ r.left w e k)
        (λ (e : j ≤ b.depth b.out). ap (is_some {T = ℕ}) (supplied_left s w (to_here b.out plan.written (omega (arith, e, l))) k))
        (cases_lt (b.depth b.out) j);
    absent = λ t c at l k. outside s c (depth_apart t c (λ q. (let z : ⊥ = absurd (omega (arith, l, q)) in z)) k) ∙ r.absent t c at (omega (arith, l)) k;
    homes = λ t m w at d k. outside s (Word m (Home t) w) (home_apart m t w) ∙ r.homes t m w at d k;
    left_homes = λ m w k. ap (is_some {T = ℕ}) (outside s (Word m (Home b.out) w) (home_apart m b.out w)) ∙ r.left_homes m w k;
    small = supplied_small s r.small;
  }

  abbrev amounts : ℕ → ℕ
  amounts = b.amount path

  -- after the folds, which let cells grow by these amounts, the frees leave the state with what has grown
  finish : (s : State) → IsReady b j path s → (g : Cell → ℕ)
      → run_ops (flat_map (folds_on b path) (lefts b here)) (grown_by b (suc j) amounts (supplied s)) ≡ Some (grow_all g (grown_by b (suc j) amounts (supplied s)))
      → ((c : Cell) → in_here c ≡ false → (amount_at amounts (target b (suc j) c) + g c) % 2 ^ 64 ≡ amount_at amounts (target b j c) % 2 ^ 64)
      → run_ops (closed b j path) (grown_by b (suc j) amounts (supplied s)) ≡ Some (grown_by b j amounts s)
  finish s r g folds same =
      chain run_op (flat_map (folds_on b path) (lefts b here)) (map (free_on b) here) (grown_by b (suc j) amounts (supplied s)) (grow_all g (grown_by b (suc j) amounts (supplied s))) (Some (grown_by b j amounts s))
      folds
      (frees_run b path here here_apart (grow_all g (grown_by b (suc j) amounts (supplied s)))
      (λ t h.
      let c : Cell = Sign b.node (scratch b t) in
      grown_there (g c) (grown_by b (suc j) amounts (supplied s) c) ∙ grown_there (amount_at amounts (target b (suc j) c)) (supplied s c) ∙ supplied_sign s t h)
      ∙ ap Some (λ i c. cell c i))
    where
      cell : (c : Cell) → fill (λ x. None) in_here (grow_all g (grown_by b (suc j) amounts (supplied s))) c ≡ grown_by b j amounts s c
      cell c =
          ⊎_elim
          (λ (e : in_here c ≡ true).
          let p = any_found (λ t. in_scratch b path t c) here e in
          let q = from_here p.0 p.1 in
          if_true (in_here c) None (grow_all g (grown_by b (suc j) amounts (supplied s)) c) e
          ∙ ap (grown (amount_at amounts (target b j c))) (sym (r.absent p.0 c q.0 (omega (arith, q.1)) p.2)))
          (λ (e : in_here c ≡ false).
          if_false (in_here c) None (grow_all g (grown_by b (suc j) amounts (supplied s)) c) e
          ∙ ap (λ x. grown (g c) (grown (amount_at amounts (target b (suc j) c)) x)) (outside s c e)
          ∙ grown_twice (amount_at amounts (target b (suc j) c)) (g c) (s c)
          ∙ grown_like (amount_at amounts (target b (suc j) c) + g c) (amount_at amounts (target b j c)) (s c) (same c e))
          (cases_Bool (in_here c))

  lt_same : b.depth b.out ≢ j → nat_lt (b.depth b.out) (suc j) ≡ nat_lt (b.depth b.out) j
  lt_same d =
      ⊎_elim
      (λ (e : b.depth b.out < j). lt-ltb (b.depth b.out) (suc j) (omega (arith, e)) ∙ sym (lt-ltb (b.depth b.out) j e))
      (λ (e : j ≤ b.depth b.out). le-ltb (b.depth b.out) (suc j) (omega (arith, e, d)) ∙ sym (le-ltb (b.depth b.out) j e))
      (cases_lt (b.depth b.out) j)

  -- where the left tensor is not moved at this depth
  close_others : b.depth b.out ≢ j → (s : State) → IsReady b j path s → run_ops (closed b j path) (grown_by b (suc j) amounts (supplied s)) ≡ Some (grown_by b j amounts s)
  close_others d s r =
      let none : lefts b here ≡ [] = filter_none b.out here (not_true (contains here b.out) (λ e. d (from_here b.out e).1)) in
      finish s r (λ c. 0)
      (ap (λ l. run_ops (flat_map (folds_on b path) l) (grown_by b (suc j) amounts (supplied s))) none
      ∙ ap Some (λ i c. sym (grown_none 0 (grown_by b (suc j) amounts (supplied s) c) (λ v h. grown_small (amount_at amounts (target b (suc j) c)) (supplied s c) v h) refl) i))
      (λ c e.
      let same : target b (suc j) c ≡ target b j c = ap (λ x. if x then scratch_target b c else home_target b c) (lt_same d) in
      ap (λ (n : ℕ). n % 2 ^ 64) ((let h : amount_at amounts (target b (suc j) c) + 0 ≡ amount_at amounts (target b (suc j) c) = omega arith in h) ∙ ap (amount_at amounts) same))

  -- a cell outside the left tensor's scratch
  not_target : (c : Cell) → in_scratch b path b.out c ≡ false → scratch_target b c ≡ None
  not_target (Sign n c) h = refl
  not_target (Word n c w) h = if_false (is_of b.node (scratch b b.out) (Word n c w)) (Some w) None h

  -- where it is, and is folded into the homes
  close_left : b.depth b.out ≡ j → (s : State) → IsReady b j path s → run_ops (closed b j path) (grown_by b (suc j) amounts (supplied s)) ≡ Some (grown_by b j amounts s)
  close_left d s r =
      let at : contains here b.out ≡ true = to_here b.out plan.written d in
      let one : lefts b here ≡ b.out ∷ [] = filter_one b.out here here_apart at in
      let inside : nat_lt (b.depth b.out) (suc j) ≡ true = lt-ltb (b.depth b.out) (suc j) (omega (arith, d)) in
      let outer : nat_lt (b.depth b.out) j ≡ false = le-ltb (b.depth b.out) j (omega (arith, d)) in
      let a : ℕ → ℕ = λ w. (0 + amounts w) % 2 ^ 64 in
      let can : CanFold b path a (grown_by b (suc j) amounts (supplied s)) =
      record {
        from = λ w k.
            let c : Cell = Word b.node (scratch b b.out) w in
            ap₂ (λ x y. grown (amount_at amounts x) y)
            (if_true (nat_lt (b.depth b.out) (suc j)) (scratch_target b c) (home_target b c) inside ∙ if_true (is_of b.node (scratch b b.out) c) (Some w) None (word_is_of b.node (scratch b b.out) w))
            (supplied_left s w at k);
        there = λ m w k.
            let c : Cell = Word m (Home b.out) w in
            grown_there (amount_at amounts (target b (suc j) c)) (supplied s c) ∙ ap (is_some {T = ℕ}) (outside s c (home_apart m b.out w)) ∙ r.left_homes m w k;
        small = λ c v e. grown_small (amount_at amounts (target b (suc j) c)) (supplied s c) v e;
      } in
      finish s r (shares_folded b path a)
      (ap (λ l. run_ops (flat_map (folds_on b path) l) (grown_by b (suc j) amounts (supplied s))) one
      ∙ run_flat run_op (folds_on b path) (b.out ∷ []) (grown_by b (suc j) amounts (supplied s))
      ∙ ap (λ o. and_then o (λ u. Some u)) (folds_run b path a served.folded (grown_by b (suc j) amounts (supplied s)) can))
      (λ c e.
      let away : in_scratch b path b.out c ≡ false = not_true (in_scratch b path b.out c) (λ f. both_ways (in_here c) (any_in (λ t. in_scratch b path t c) here b.out at f) e) in
      let no : target b (suc j) c ≡ None = if_true (nat_lt (b.depth b.out) (suc j)) (scratch_target b c) (home_target b c) inside ∙ not_target c away in
      let yes : target b j c ≡ home_target b c = if_false (nat_lt (b.depth b.out) j) (scratch_target b c) (home_target b c) outer in
      ap (λ x. (amount_at amounts x + shares_folded b path a c) % 2 ^ 64) no
      ∙ (let h : (0 + shares_folded b path a c) % 2 ^ 64 ≡ shares_folded b path a c % 2 ^ 64 = omega arith in h)
      ∙ folds_hit b path served a (λ w. (let h : (0 + b.amount path w) % 2 ^ 64 % 2 ^ 64 ≡ b.amount path w % 2 ^ 64 = omega arith in h)) c
      ∙ ap (λ x. amount_at amounts x % 2 ^ 64) (sym yes))

  -- a list of folds and frees
  pub closed_run : (s : State) → IsReady b j path s → run_ops (closed b j path) (grown_by b (suc j) amounts (supplied s)) ≡ Some (grown_by b j amounts s)
  closed_run s r =
      ⊎_elim
      (λ (e : nat_eq (b.depth b.out) j ≡ true). close_left (eqb-true (b.depth b.out) j e) s r)
      (λ (e : nat_eq (b.depth b.out) j ≡ false). close_others (λ q. both_ways (nat_eq (b.depth b.out) j) (eq-eqb (b.depth b.out) j q) e) s r)
      (cases_Bool (nat_eq (b.depth b.out) j))

  -- what is opened and closed around something that adds the path's amounts
  pub level_adds : (inner : List Move) → ((s : State) → IsReady b (suc j) path s → run_ops inner s ≡ Some (grown_by b (suc j) amounts s))
      → (s : State) → IsReady b j path s → run_ops (opened b j path ++ inner ++ closed b j path) s ≡ Some (grown_by b j amounts s)
  level_adds inner f s r =
      chain run_op (opened b j path ++ inner) (closed b j path) s (grown_by b (suc j) amounts (supplied s)) (Some (grown_by b j amounts s))
      (chain run_op (opened b j path) inner s (supplied s) (Some (grown_by b (suc j) amounts (supplied s))) (opened_run s r) (f (supplied s) (ready_inside s r)))
      (closed_run s r)
