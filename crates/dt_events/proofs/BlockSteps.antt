-- Lists of allocs, of copies, of folds and of frees.
use Rattle.std.proofs.Common.{◌≡◌, ℕ, ◌%◌, ◌^◌, ◌<◌, Bool, true, false, List, [], ◌∷◌, map, Option, Some, None, is_some, refl, sym, ap, ◌∙◌, subst, if◌then◌else◌}
use Rattle.std.specs.Prelude.{nat_eq, sum_by}
use Rattle.std.specs.List.{AllByRecursion, flat_map, list_any}
use Rattle.std.proofs.lemmas.Bool.{and_parts, and_from}
use Rattle.dt_runs.specs.Sets.{contains}
use Rattle.dt_copy.specs.declared.piece_list.Piece.{Piece}
use Rattle.dt_argument.proofs.Shapes.{if_true, if_false}
use Rattle.dt_argument.specs.Frames.{grown}
use Rattle.dt_plan.specs.declared.touches.Buffer.TheVariants.{Home, Scratch, Work}
use Rattle.dt_events.specs.Conflicts.{is_same_buffer}
use Rattle.dt_events.specs.State.{Cell, Sign, Word, State, is_of, opened_at, with_buffer, without_buffer}
use Rattle.dt_events.proofs.BlockLists.{not_true, both_ways, none_any, all_has, sum_zero}
use Rattle.dt_events.proofs.BlockMoves.{grow, number, put, both_held, copy_word, fold_word, run_op, run_ops}
use Rattle.dt_events.proofs.BlockPlans.{Blocks, scratch, alloc_on, free_on, copy_on, fold_on, copies_on, folds_on, grow_all, AreSmall, AreApart}
use Rattle.dt_events.proofs.BlockRuns.{fill, Pairwise, all_each, all_turned, pairwise_each, fills_all, grows_all, grown_none, grown_there, grown_small}
use Rattle.dt_events.proofs.Cells.{same_cell, same_buffer_true, same_cell_true, sign_is_of}
use Rattle.dt_events.proofs.ListRuns.{run_map, run_flat}

scratch_same : (j k t u : ℕ) → Scratch j t ≡ Scratch k u → t ≡ u
scratch_same j k t u e = cc

some_true : (x : Option ℕ) (v : ℕ) → x ≡ Some v → is_some x ≡ true
some_true x v e = ap (is_some {T = ℕ}) e

module _ (b : Blocks) (path : List ℕ) where
  -- whether a cell is one of a tensor's scratch
  abbrev pub in_scratch : ℕ → Cell → Bool
  in_scratch t c = is_of b.node (scratch b t) c

  -- a cell is in the scratch of one tensor only
  pub same_scratch : (t u : ℕ) (c : Cell) → in_scratch t c ≡ true → in_scratch u c ≡ true → t ≡ u
  same_scratch t u (Sign n c) h k =
      let p = and_parts (nat_eq b.node n) (is_same_buffer (scratch b t) c) h in
      let q = and_parts (nat_eq b.node n) (is_same_buffer (scratch b u) c) k in
      scratch_same b.stmt b.stmt t u (same_buffer_true (scratch b t) c p.1 ∙ sym (same_buffer_true (scratch b u) c q.1))
  same_scratch t u (Word n c w) h k =
      let p = and_parts (nat_eq b.node n) (is_same_buffer (scratch b t) c) h in
      let q = and_parts (nat_eq b.node n) (is_same_buffer (scratch b u) c) k in
      scratch_same b.stmt b.stmt t u (same_buffer_true (scratch b t) c p.1 ∙ sym (same_buffer_true (scratch b u) c q.1))

  other_sign : (t u : ℕ) (ts : List ℕ) → contains ts t ≡ false → contains ts u ≡ true → in_scratch t (Sign b.node (scratch b u)) ≡ false
  other_sign t u ts h k =
      not_true (in_scratch t (Sign b.node (scratch b u))) (λ e.
      let f : t ≡ u = same_scratch t u (Sign b.node (scratch b u)) e (sign_is_of b.node (scratch b u)) in
      both_ways (contains ts t) (subst (λ (x : ℕ). contains ts x ≡ true) (sym f) k) h)

  -- what opening leaves in a cell of a scratch
  abbrev pub opened_cell : Cell → Option ℕ
  opened_cell (Sign n c) = Some 0
  opened_cell (Word n (Home t) w) = None
  opened_cell (Word n (Scratch k t) w) = if contains (b.need t path) w then Some 0 else None
  opened_cell (Word n (Work k t) w) = None

  fresh_cell : (t : ℕ) (c : Cell) → in_scratch t c ≡ true → opened_at (b.need t path) c ≡ opened_cell c
  fresh_cell t (Sign n c) h = refl
  fresh_cell t (Word n (Home u) w) h = let p = and_parts (nat_eq b.node n) false h in cc
  fresh_cell t (Word n (Scratch k u) w) h =
      let p = and_parts (nat_eq b.node n) (is_same_buffer (scratch b t) (Scratch k u)) h in
      ap (λ x. if contains (b.need x path) w then Some 0 else None) (scratch_same b.stmt k t u (same_buffer_true (scratch b t) (Scratch k u) p.1))
  fresh_cell t (Word n (Work k u) w) h = let p = and_parts (nat_eq b.node n) false h in cc

  if_same : (t : Bool) (x y z : Option ℕ) → (t ≡ true → x ≡ y) → (if t then x else z) ≡ (if t then y else z)
  if_same true x y z h = h refl
  if_same false x y z h = refl

  alloc_one : (t : ℕ) (s : State) → s (Sign b.node (scratch b t)) ≡ None → run_op (alloc_on b path t) s ≡ Some (fill opened_cell (in_scratch t) s)
  alloc_one t s h =
      if_false (is_some (s (Sign b.node (scratch b t)))) None (Some (with_buffer b.node (scratch b t) (b.need t path) s)) (ap (is_some {T = ℕ}) h)
      ∙ ap Some (λ i c. if_same (in_scratch t c) (opened_at (b.need t path) c) (opened_cell c) (s c) (fresh_cell t c) i)

  allocs_apart : (ts : List ℕ) → AreApart ts → Pairwise (λ x y. (s : State) → s (Sign b.node (scratch b y)) ≡ None → fill opened_cell (in_scratch x) s (Sign b.node (scratch b y)) ≡ None) ts
  allocs_apart [] a = tt
  allocs_apart (t ∷ ts) a = (
    all_has (λ y. (s : State) → s (Sign b.node (scratch b y)) ≡ None → fill opened_cell (in_scratch t) s (Sign b.node (scratch b y)) ≡ None) ts
        (λ y h s e. if_false (in_scratch t (Sign b.node (scratch b y))) (opened_cell (Sign b.node (scratch b y))) (s (Sign b.node (scratch b y))) (other_sign t y ts a.0 h) ∙ e),
    allocs_apart ts a.1,
  )

  -- a list of allocs opens each scratch with its needed words, all 0
  pub allocs_run : (ts : List ℕ) → AreApart ts → (s : State) → ((t : ℕ) → contains ts t ≡ true → s (Sign b.node (scratch b t)) ≡ None)
      → run_ops (map (alloc_on b path) ts) s ≡ Some (fill opened_cell (λ c. list_any (λ t. in_scratch t c) ts) s)
  allocs_run ts a s h =
      run_map run_op (alloc_on b path) ts s
      ∙ fills_all opened_cell (λ t. run_op (alloc_on b path t)) in_scratch (λ t u. u (Sign b.node (scratch b t)) ≡ None) ts (allocs_apart ts a)
      (all_each (λ t. (u : State) → u (Sign b.node (scratch b t)) ≡ None → run_op (alloc_on b path t) u ≡ Some (fill opened_cell (in_scratch t) u)) alloc_one ts)
      s (all_has (λ t. s (Sign b.node (scratch b t)) ≡ None) ts h)

  free_one : (t : ℕ) (s : State) → is_some (s (Sign b.node (scratch b t))) ≡ true → run_op (free_on b t) s ≡ Some (fill (λ c. None) (in_scratch t) s)
  free_one t s h = if_true (is_some (s (Sign b.node (scratch b t)))) (Some (without_buffer b.node (scratch b t) s)) None h

  frees_apart : (ts : List ℕ) → AreApart ts → Pairwise (λ x y. (s : State) → is_some (s (Sign b.node (scratch b y))) ≡ true → is_some (fill (λ c. None) (in_scratch x) s (Sign b.node (scratch b y))) ≡ true) ts
  frees_apart [] a = tt
  frees_apart (t ∷ ts) a = (
    all_has (λ y. (s : State) → is_some (s (Sign b.node (scratch b y))) ≡ true → is_some (fill (λ c. None) (in_scratch t) s (Sign b.node (scratch b y))) ≡ true) ts
        (λ y h s e. ap (is_some {T = ℕ}) (if_false (in_scratch t (Sign b.node (scratch b y))) None (s (Sign b.node (scratch b y))) (other_sign t y ts a.0 h)) ∙ e),
    frees_apart ts a.1,
  )

  -- a list of frees leaves each scratch absent
  pub frees_run : (ts : List ℕ) → AreApart ts → (s : State) → ((t : ℕ) → contains ts t ≡ true → is_some (s (Sign b.node (scratch b t))) ≡ true)
      → run_ops (map (free_on b) ts) s ≡ Some (fill (λ c. None) (λ c. list_any (λ t. in_scratch t c) ts) s)
  frees_run ts a s h =
      run_map run_op (free_on b) ts s
      ∙ fills_all (λ c. None) (λ t. run_op (free_on b t)) in_scratch (λ t u. is_some (u (Sign b.node (scratch b t))) ≡ true) ts (frees_apart ts a)
      (all_each (λ t. (u : State) → is_some (u (Sign b.node (scratch b t))) ≡ true → run_op (free_on b t) u ≡ Some (fill (λ c. None) (in_scratch t) u)) free_one ts)
      s (all_has (λ t. is_some (s (Sign b.node (scratch b t))) ≡ true) ts h)

  -- what a copy leaves in a cell
  abbrev pub copied_cell : Cell → Option ℕ
  copied_cell (Sign n c) = None
  copied_cell (Word n (Home t) w) = None
  copied_cell (Word n (Scratch k t) w) = Some (b.number t w)
  copied_cell (Word n (Work k t) w) = None

  -- the cells that copies of a tensor write
  abbrev pub word_copied : ℕ → ℕ → Cell → Bool
  word_copied t w c = same_cell (Word b.node (scratch b t) w) c

  -- by a piece
  abbrev pub piece_copied : ℕ → Piece → Cell → Bool
  piece_copied t p c = list_any (λ w. word_copied t w c) p.words

  -- by all pieces of the tensor
  abbrev pub tensor_copied : ℕ → Cell → Bool
  tensor_copied t c = list_any (λ p. piece_copied t p c) (b.pieces t path)

  -- what copies stand on: homes have the numbers, and the needed words of these tensors are there
  pub record CanCopy (ts : List ℕ) (s : State) : Type 0 where
    pub homes : (t m w : ℕ) → contains ts t ≡ true → contains (b.home t m) w ≡ true → s (Word m (Home t) w) ≡ Some (b.number t w)
    pub there : (t w : ℕ) → contains ts t ≡ true → contains (b.need t path) w ≡ true → is_some (s (Word b.node (scratch b t) w)) ≡ true

  not_home : (t w m u v : ℕ) → word_copied t w (Word m (Home u) v) ≡ false
  not_home t w m u v = not_true (word_copied t w (Word m (Home u) v)) (λ e. let p = and_parts (nat_eq b.node m) false e in cc)

  either_some : (t : Bool) (v : ℕ) (x : Option ℕ) → is_some x ≡ true → is_some (if t then Some v else x) ≡ true
  either_some true v x h = refl
  either_some false v x h = h

  copy_stays : (ts : List ℕ) (d : Cell → Bool) → ((m u v : ℕ) → d (Word m (Home u) v) ≡ false) → (s : State) → CanCopy ts s → CanCopy ts (fill copied_cell d s)
  copy_stays ts d only s h = record {
    homes = λ t m w e f. if_false (d (Word m (Home t) w)) (copied_cell (Word m (Home t) w)) (s (Word m (Home t) w)) (only m t w) ∙ h.homes t m w e f;
    there = λ t w e f. either_some (d (Word b.node (scratch b t) w)) (b.number t w) (s (Word b.node (scratch b t) w)) (h.there t w e f);
  }

  put_cell : (t w : ℕ) (s : State) (c : Cell) → put (Word b.node (scratch b t) w) (b.number t w) s c ≡ fill copied_cell (word_copied t w) s c
  put_cell t w s c =
      if_same (word_copied t w c) (Some (b.number t w)) (copied_cell c) (s c) (λ e. ap copied_cell (same_cell_true (Word b.node (scratch b t) w) c e))

  word_copies : (ts : List ℕ) (t m w : ℕ) → contains ts t ≡ true → contains (b.need t path) w ≡ true → contains (b.home t m) w ≡ true → (s : State) → CanCopy ts s
      → copy_word m (Home t) b.node (scratch b t) w s ≡ Some (fill copied_cell (word_copied t w) s)
  word_copies ts t m w at needed kept s h =
      let from : s (Word m (Home t) w) ≡ Some (b.number t w) = h.homes t m w at kept in
      if_true (both_held (Word m (Home t) w) (Word b.node (scratch b t) w) s) (Some (put (Word b.node (scratch b t) w) (number (s (Word m (Home t) w))) s)) None
      (and_from _ _ (some_true (s (Word m (Home t) w)) (b.number t w) from) (h.there t w at needed))
      ∙ ap (λ x. Some (put (Word b.node (scratch b t) w) (number x) s)) from
      ∙ ap Some (λ i c. put_cell t w s c i)

  -- a piece has needed words that its node is home to
  abbrev pub IsPiece : ℕ → Piece → Type 0
  IsPiece t p = (w : ℕ) → contains p.words w ≡ true → (contains (b.need t path) w ≡ true) × (contains (b.home t p.node) w ≡ true)

  piece_copies : (ts : List ℕ) (t : ℕ) → contains ts t ≡ true → (p : Piece) → IsPiece t p → (s : State) → CanCopy ts s → run_op (copy_on b t p) s ≡ Some (fill copied_cell (piece_copied t p) s)
  piece_copies ts t at p k s h =
      fills_all copied_cell (copy_word p.node (Home t) b.node (scratch b t)) (word_copied t) (λ w u. CanCopy ts u) p.words
      (pairwise_each (λ x y. (u : State) → CanCopy ts u → CanCopy ts (fill copied_cell (word_copied t x) u)) (λ x y u g. copy_stays ts (word_copied t x) (λ m v z. not_home t x m v z) u g) p.words)
      (all_has (λ w. (u : State) → CanCopy ts u → copy_word p.node (Home t) b.node (scratch b t) w u ≡ Some (fill copied_cell (word_copied t w) u)) p.words (λ w e u g. word_copies ts t p.node w at (k w e).0 (k w e).1 u g))
      s (all_each (λ w. CanCopy ts s) (λ w. h) p.words)

  pieces_stay : (ts : List ℕ) (t : ℕ) (p : Piece) (s : State) → CanCopy ts s → CanCopy ts (fill copied_cell (piece_copied t p) s)
  pieces_stay ts t p s h = copy_stays ts (piece_copied t p) (λ m u v. none_any (λ w. word_copied t w (Word m (Home u) v)) p.words (λ w. not_home t w m u v)) s h

  tensor_copies : (ts : List ℕ) (t : ℕ) → contains ts t ≡ true → AllByRecursion (IsPiece t) (b.pieces t path) → (s : State) → CanCopy ts s → run_ops (copies_on b path t) s ≡ Some (fill copied_cell (tensor_copied t) s)
  tensor_copies ts t at k s h =
      run_map run_op (copy_on b t) (b.pieces t path) s
      ∙ fills_all copied_cell (λ p. run_op (copy_on b t p)) (piece_copied t) (λ p u. CanCopy ts u) (b.pieces t path)
      (pairwise_each (λ x y. (u : State) → CanCopy ts u → CanCopy ts (fill copied_cell (piece_copied t x) u)) (λ x y u g. pieces_stay ts t x u g) (b.pieces t path))
      (all_turned (IsPiece t) (λ p. (u : State) → CanCopy ts u → run_op (copy_on b t p) u ≡ Some (fill copied_cell (piece_copied t p) u)) (b.pieces t path) (λ p f u g. piece_copies ts t at p f u g) k)
      s (all_each (λ p. CanCopy ts s) (λ p. h) (b.pieces t path))

  tensors_stay : (ts : List ℕ) (t : ℕ) (s : State) → CanCopy ts s → CanCopy ts (fill copied_cell (tensor_copied t) s)
  tensors_stay ts t s h =
      copy_stays ts (tensor_copied t)
      (λ m u v. none_any (λ p. piece_copied t p (Word m (Home u) v)) (b.pieces t path) (λ p. none_any (λ w. word_copied t w (Word m (Home u) v)) p.words (λ w. not_home t w m u v)))
      s h

  -- a list of copies leaves the tensors' numbers in the words of their pieces
  pub copies_run : (ts : List ℕ) → ((t : ℕ) → contains ts t ≡ true → AllByRecursion (IsPiece t) (b.pieces t path)) → (s : State) → CanCopy ts s
      → run_ops (flat_map (copies_on b path) ts) s ≡ Some (fill copied_cell (λ c. list_any (λ t. tensor_copied t c) ts) s)
  copies_run ts k s h =
      run_flat run_op (copies_on b path) ts s
      ∙ fills_all copied_cell (λ t. run_ops (copies_on b path t)) tensor_copied (λ t u. CanCopy ts u) ts
      (pairwise_each (λ x y. (u : State) → CanCopy ts u → CanCopy ts (fill copied_cell (tensor_copied x) u)) (λ x y u g. tensors_stay ts x u g) ts)
      (all_has (λ t. (u : State) → CanCopy ts u → run_ops (copies_on b path t) u ≡ Some (fill copied_cell (tensor_copied t) u)) ts (λ t e u g. tensor_copies ts t e (k t e) u g))
      s (all_each (λ t. CanCopy ts s) (λ t. h) ts)

  -- what folds stand on: the scratch has these numbers, and the homes are there
  pub record CanFold (a : ℕ → ℕ) (s : State) : Type 0 where
    pub from : (w : ℕ) → contains (b.need b.out path) w ≡ true → s (Word b.node (scratch b b.out) w) ≡ Some (a w)
    pub there : (m w : ℕ) → contains (b.home b.out m) w ≡ true → is_some (s (Word m (Home b.out) w)) ≡ true
    pub small : AreSmall s

  -- how much a cell grows by one word, and by one piece
  abbrev pub word_folded : (ℕ → ℕ) → ℕ → ℕ → Cell → ℕ
  word_folded a m w c = if same_cell (Word m (Home b.out) w) c then a w else 0

  -- by one piece
  abbrev pub piece_folded : (ℕ → ℕ) → Piece → Cell → ℕ
  piece_folded a p c = sum_by (λ w. word_folded a p.node w c) p.words

  -- by all shares of the path
  abbrev pub shares_folded : (ℕ → ℕ) → Cell → ℕ
  shares_folded a c = sum_by (λ p. piece_folded a p c) (b.shares path)

  not_scratch : (a : ℕ → ℕ) (m w n k t v : ℕ) → word_folded a m w (Word n (Scratch k t) v) ≡ 0
  not_scratch a m w n k t v =
      if_false (same_cell (Word m (Home b.out) w) (Word n (Scratch k t) v)) (a w) 0
      (not_true (same_cell (Word m (Home b.out) w) (Word n (Scratch k t) v)) (λ e. let p = and_parts (nat_eq m n) false e in cc))

  fold_stays : (a : ℕ → ℕ) (g : Cell → ℕ) → ((n k t v : ℕ) → g (Word n (Scratch k t) v) ≡ 0) → (s : State) → CanFold a s → CanFold a (grow_all g s)
  fold_stays a g only s h = record {
    from = λ w e. grown_none (g (Word b.node (scratch b b.out) w)) (s (Word b.node (scratch b b.out) w)) (h.small (Word b.node (scratch b b.out) w)) (ap (λ (n : ℕ). n % 2 ^ 64) (only b.node b.stmt b.out w)) ∙ h.from w e;
    there = λ m w e. grown_there (g (Word m (Home b.out) w)) (s (Word m (Home b.out) w)) ∙ h.there m w e;
    small = λ c v e. grown_small (g c) (s c) v e;
  }

  grow_cell : (t : Bool) (n : ℕ) (x : Option ℕ) → ((v : ℕ) → x ≡ Some v → v < 2 ^ 64) → (if t then grown n x else x) ≡ grown (if t then n else 0) x
  grow_cell true n x h = refl
  grow_cell false n x h = sym (grown_none 0 x h refl)

  word_folds : (a : ℕ → ℕ) (m w : ℕ) → contains (b.need b.out path) w ≡ true → contains (b.home b.out m) w ≡ true → (s : State) → CanFold a s
      → fold_word b.node (scratch b b.out) m (Home b.out) w s ≡ Some (grow_all (word_folded a m w) s)
  word_folds a m w needed kept s h =
      let from : s (Word b.node (scratch b b.out) w) ≡ Some (a w) = h.from w needed in
      if_true (both_held (Word b.node (scratch b b.out) w) (Word m (Home b.out) w) s) (Some (grow (Word m (Home b.out) w) (number (s (Word b.node (scratch b b.out) w))) s)) None
      (and_from _ _ (some_true (s (Word b.node (scratch b b.out) w)) (a w) from) (h.there m w kept))
      ∙ ap (λ x. Some (grow (Word m (Home b.out) w) (number x) s)) from
      ∙ ap Some (λ i c. grow_cell (same_cell (Word m (Home b.out) w) c) (a w) (s c) (h.small c) i)

  piece_folds : (a : ℕ → ℕ) (p : Piece) → IsPiece b.out p → (s : State) → CanFold a s → run_op (fold_on b b.out p) s ≡ Some (grow_all (piece_folded a p) s)
  piece_folds a p k s h =
      grows_all (fold_word b.node (scratch b b.out) p.node (Home b.out)) (word_folded a p.node) (CanFold a) p.words
      (λ u g. g.small)
      (λ w u g. fold_stays a (word_folded a p.node w) (λ n j t v. not_scratch a p.node w n j t v) u g)
      (all_has (λ w. (u : State) → CanFold a u → fold_word b.node (scratch b b.out) p.node (Home b.out) w u ≡ Some (grow_all (word_folded a p.node w) u)) p.words (λ w e u g. word_folds a p.node w (k w e).0 (k w e).1 u g))
      s h

  -- a list of folds lets each home's word grow by the scratch's number, as often as a share has the word
  pub folds_run : (a : ℕ → ℕ) → AllByRecursion (IsPiece b.out) (b.shares path) → (s : State) → CanFold a s → run_ops (folds_on b path b.out) s ≡ Some (grow_all (shares_folded a) s)
  folds_run a k s h =
      run_map run_op (fold_on b b.out) (b.shares path) s
      ∙ grows_all (λ p. run_op (fold_on b b.out p)) (piece_folded a) (CanFold a) (b.shares path)
      (λ u g. g.small)
      (λ p u g. fold_stays a (piece_folded a p) (λ n j t v. sum_zero (λ w. word_folded a p.node w (Word n (Scratch j t) v)) p.words (λ w. not_scratch a p.node w n j t v)) u g)
      (all_turned (IsPiece b.out) (λ p. (u : State) → CanFold a u → run_op (fold_on b b.out p) u ≡ Some (grow_all (piece_folded a p) u)) (b.shares path) (λ p f u g. piece_folds a p f u g) k)
      s h
