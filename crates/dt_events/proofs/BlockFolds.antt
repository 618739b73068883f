-- How much the folds of a path let each cell grow.
use Rattle.std.proofs.Common.{◌≡◌, ◌≢◌, ◌⊎◌, ℕ, ◌+◌, ◌*◌, ◌%◌, ◌^◌, true, false, ◌&&◌, List, [], ◌∷◌, Some, None, refl, sym, ap, ap₂, ◌∙◌, subst, ⊎_elim, inl, inr, eqb-true, eq-eqb, arith, if◌then◌else◌}
use Rattle.std.specs.Prelude.{nat_eq, sum_by}
use Rattle.std.proofs.Math.Nat.{add-mul}
use Rattle.std.proofs.lemmas.Bool.{cases_Bool, and_parts, and_from}
use Rattle.std.proofs.lemmas.List.Sums.{sum_by-cons}
use Rattle.dt_runs.specs.Sets.{contains}
use Rattle.dt_copy.specs.declared.piece_list.Piece.{Piece}
use Rattle.dt_argument.proofs.Shapes.{if_true, if_false}
use Rattle.dt_plan.specs.declared.touches.Buffer.TheVariants.{Home, Scratch, Work}
use Rattle.dt_events.specs.Conflicts.{is_same_buffer}
use Rattle.dt_events.specs.State.{Cell, Sign, Word}
use Rattle.dt_events.proofs.BlockLists.{not_true, both_ways, sum_zero}
use Rattle.dt_events.proofs.BlockPlans.{Blocks, home_target, amount_at, count, times, IsServed}
use Rattle.dt_events.proofs.BlockSteps.{word_folded, piece_folded, shares_folded}
use Rattle.dt_events.proofs.Cells.{same_cell, same_cell_true, same_cell_refl, same_buffer_true}

-- a cell is a word of some home of the left tensor, or it is not
pub home_or_other : (b : Blocks) (c : Cell) → ((m : ℕ) × (w : ℕ) × (c ≡ Word m (Home b.out) w)) ⊎ ((m w : ℕ) → Word m (Home b.out) w ≢ c)
home_or_other b (Sign n c) = inr (λ m w e. cc)
home_or_other b (Word n (Home t) w) =
    ⊎_elim
    (λ (e : nat_eq t b.out ≡ true). inl (n, w, ap (λ x. Word n (Home x) w) (eqb-true t b.out e)))
    (λ (e : nat_eq t b.out ≡ false). inr (λ m v q. let f : b.out ≡ t = cc in both_ways (nat_eq t b.out) (eq-eqb t b.out (sym f)) e))
    (cases_Bool (nat_eq t b.out))
home_or_other b (Word n (Scratch k t) w) = inr (λ m v e. cc)
home_or_other b (Word n (Work k t) w) = inr (λ m v e. cc)

module _ (b : Blocks) (path : List ℕ) (a : ℕ → ℕ) where
  word_home : (q v m w : ℕ) → q ≡ m → word_folded b path a q v (Word m (Home b.out) w) ≡ (if nat_eq v w then 1 else 0) * a w
  word_home q v m w e =
      ⊎_elim
      (λ (f : nat_eq v w ≡ true).
      let g : v ≡ w = eqb-true v w f in
      let d : Word q (Home b.out) v ≡ Word m (Home b.out) w = ap₂ (λ x y. Word x (Home b.out) y) e g in
      let one : (if nat_eq v w then 1 else 0) ≡ 1 = if_true (nat_eq v w) 1 0 f in
      let val : a v ≡ a w = ap a g in
      if_true (same_cell (Word q (Home b.out) v) (Word m (Home b.out) w)) (a v) 0 (subst (λ (x : Cell). same_cell (Word q (Home b.out) v) x ≡ true) d (same_cell_refl (Word q (Home b.out) v)))
      ∙ val ∙ (let h : a w ≡ 1 * a w = omega arith in h) ∙ ap (λ n. n * a w) (sym one))
      (λ (f : nat_eq v w ≡ false).
      let none : (if nat_eq v w then 1 else 0) ≡ 0 = if_false (nat_eq v w) 1 0 f in
      if_false (same_cell (Word q (Home b.out) v) (Word m (Home b.out) w)) (a v) 0
      (not_true (same_cell (Word q (Home b.out) v) (Word m (Home b.out) w)) (λ k. let d : Word q (Home b.out) v ≡ Word m (Home b.out) w = same_cell_true _ _ k in let g : v ≡ w = cc in both_ways (nat_eq v w) (eq-eqb v w g) f))
      ∙ (let h : 0 ≡ 0 * a w = omega arith in h) ∙ ap (λ n. n * a w) (sym none))
      (cases_Bool (nat_eq v w))

  words_home : (q m w : ℕ) → q ≡ m → (vs : List ℕ) → sum_by (λ v. word_folded b path a q v (Word m (Home b.out) w)) vs ≡ count w vs * a w
  words_home q m w e [] = let h : 0 ≡ 0 * a w = omega arith in h
  words_home q m w e (v ∷ vs) =
      sum_by-cons (λ u. word_folded b path a q u (Word m (Home b.out) w)) v vs
      ∙ ap₂ ◌+◌ (word_home q v m w e) (words_home q m w e vs)
      ∙ sym (add-mul (if nat_eq v w then 1 else 0) (count w vs) (a w))

  words_away : (q m w : ℕ) → q ≢ m → (vs : List ℕ) → sum_by (λ v. word_folded b path a q v (Word m (Home b.out) w)) vs ≡ 0
  words_away q m w d vs =
      sum_zero (λ v. word_folded b path a q v (Word m (Home b.out) w)) vs
      (λ v. if_false (same_cell (Word q (Home b.out) v) (Word m (Home b.out) w)) (a v) 0
      (not_true (same_cell (Word q (Home b.out) v) (Word m (Home b.out) w)) (λ k. let e : Word q (Home b.out) v ≡ Word m (Home b.out) w = same_cell_true _ _ k in let f : q ≡ m = cc in d f)))

  piece_home : (p : Piece) (m w : ℕ) → piece_folded b path a p (Word m (Home b.out) w) ≡ (if nat_eq p.node m then count w p.words else 0) * a w
  piece_home p m w =
      ⊎_elim
      (λ (e : nat_eq p.node m ≡ true). words_home p.node m w (eqb-true p.node m e) p.words ∙ ap (λ n. n * a w) (sym (if_true (nat_eq p.node m) (count w p.words) 0 e)))
      (λ (e : nat_eq p.node m ≡ false).
      words_away p.node m w (λ f. both_ways (nat_eq p.node m) (eq-eqb p.node m f) e) p.words
      ∙ (let h : 0 ≡ 0 * a w = omega arith in h) ∙ ap (λ n. n * a w) (sym (if_false (nat_eq p.node m) (count w p.words) 0 e)))
      (cases_Bool (nat_eq p.node m))

  pieces_home : (ps : List Piece) (m w : ℕ) → sum_by (λ p. piece_folded b path a p (Word m (Home b.out) w)) ps ≡ times ps m w * a w
  pieces_home [] m w = let h : 0 ≡ 0 * a w = omega arith in h
  pieces_home (p ∷ ps) m w =
      sum_by-cons (λ x. piece_folded b path a x (Word m (Home b.out) w)) p ps
      ∙ ap₂ ◌+◌ (piece_home p m w) (pieces_home ps m w)
      ∙ sym (add-mul (if nat_eq p.node m then count w p.words else 0) (times ps m w) (a w))

  -- a word of a home grows as often as the shares have it
  pub shares_home : (m w : ℕ) → shares_folded b path a (Word m (Home b.out) w) ≡ times (b.shares path) m w * a w
  shares_home m w = pieces_home (b.shares path) m w

  -- nothing else grows
  pub shares_other : (c : Cell) → ((m w : ℕ) → Word m (Home b.out) w ≢ c) → shares_folded b path a c ≡ 0
  shares_other c h =
      sum_zero (λ p. piece_folded b path a p c) (b.shares path)
      (λ p. sum_zero (λ w. word_folded b path a p.node w c) p.words
      (λ w. if_false (same_cell (Word p.node (Home b.out) w) c) (a w) 0 (not_true (same_cell (Word p.node (Home b.out) w) c) (λ k. h p.node w (same_cell_true _ _ k)))))

-- the targets at cells
pub target_home : (b : Blocks) (m w : ℕ) → contains (b.home b.out m) w ≡ true → home_target b (Word m (Home b.out) w) ≡ Some w
target_home b m w h = if_true (is_same_buffer (Home b.out) (Home b.out) && contains (b.home b.out m) w) (Some w) None (and_from _ _ (eq-eqb b.out b.out refl) h)

-- a word that a home has not
pub target_absent : (b : Blocks) (m w : ℕ) → contains (b.home b.out m) w ≡ false → home_target b (Word m (Home b.out) w) ≡ None
target_absent b m w h =
    if_false (is_same_buffer (Home b.out) (Home b.out) && contains (b.home b.out m) w) (Some w) None
    (not_true (is_same_buffer (Home b.out) (Home b.out) && contains (b.home b.out m) w) (λ e. both_ways (contains (b.home b.out m) w) (and_parts _ _ e).1 h))

-- a cell of no home of the left tensor
pub target_other : (b : Blocks) (c : Cell) → ((m w : ℕ) → Word m (Home b.out) w ≢ c) → home_target b c ≡ None
target_other b (Sign n c) h = refl
target_other b (Word n c w) h =
    if_false (is_same_buffer (Home b.out) c && contains (b.home b.out n) w) (Some w) None
    (not_true (is_same_buffer (Home b.out) c && contains (b.home b.out n) w) (λ e. h n w (ap (λ x. Word n x w) (same_buffer_true (Home b.out) c (and_parts _ _ e).0))))

-- the folds let each home's word grow by the path's amount
pub folds_hit : (b : Blocks) (path : List ℕ) → IsServed b path → (a : ℕ → ℕ) → ((w : ℕ) → a w % 2 ^ 64 ≡ b.amount path w % 2 ^ 64) → (c : Cell)
    → shares_folded b path a c % 2 ^ 64 ≡ amount_at (b.amount path) (home_target b c) % 2 ^ 64
folds_hit b path served a like c =
    ⊎_elim
    (λ (p : (m : ℕ) × (w : ℕ) × (c ≡ Word m (Home b.out) w)).
    let m = p.0 in
    let w = p.1 in
    let P : Cell → Type 0 = λ x. shares_folded b path a x % 2 ^ 64 ≡ amount_at (b.amount path) (home_target b x) % 2 ^ 64 in
    subst P (sym p.2) (at_home m w))
    (λ (h : (m w : ℕ) → Word m (Home b.out) w ≢ c).
    ap (λ (n : ℕ). n % 2 ^ 64) (shares_other b path a c h ∙ ap (amount_at (b.amount path)) (sym (target_other b c h))))
    (home_or_other b c)
  where
    at_home : (m w : ℕ) → shares_folded b path a (Word m (Home b.out) w) % 2 ^ 64 ≡ amount_at (b.amount path) (home_target b (Word m (Home b.out) w)) % 2 ^ 64
    at_home m w =
        ⊎_elim
        (λ (kept : contains (b.home b.out m) w ≡ true).
        let hit : amount_at (b.amount path) (home_target b (Word m (Home b.out) w)) ≡ b.amount path w = ap (amount_at (b.amount path)) (target_home b m w kept) in
        ⊎_elim
        (λ (needed : contains (b.need b.out path) w ≡ true).
        let one : times (b.shares path) m w ≡ 1 = served.once m w ∙ if_true (contains (b.need b.out path) w && contains (b.home b.out m) w) 1 0 (and_from _ _ needed kept) in
        let grows : shares_folded b path a (Word m (Home b.out) w) ≡ a w = shares_home b path a m w ∙ ap (λ n. n * a w) one ∙ (let h : 1 * a w ≡ a w = omega arith in h) in
        ap (λ (n : ℕ). n % 2 ^ 64) grows ∙ like w ∙ ap (λ (n : ℕ). n % 2 ^ 64) (sym hit))
        (λ (needed : contains (b.need b.out path) w ≡ false).
        let none : times (b.shares path) m w ≡ 0 = served.once m w ∙ if_false (contains (b.need b.out path) w && contains (b.home b.out m) w) 1 0 (not_true _ (λ e. both_ways (contains (b.need b.out path) w) (and_parts _ _ e).0 needed)) in
        let grows : shares_folded b path a (Word m (Home b.out) w) ≡ 0 = shares_home b path a m w ∙ ap (λ n. n * a w) none ∙ (let h : 0 * a w ≡ 0 = omega arith in h) in
        ap (λ (n : ℕ). n % 2 ^ 64) grows ∙ sym (served.unneeded w needed) ∙ ap (λ (n : ℕ). n % 2 ^ 64) (sym hit))
        (cases_Bool (contains (b.need b.out path) w)))
        (λ (kept : contains (b.home b.out m) w ≡ false).
        let none : times (b.shares path) m w ≡ 0 = served.once m w ∙ if_false (contains (b.need b.out path) w && contains (b.home b.out m) w) 1 0 (not_true _ (λ e. both_ways (contains (b.home b.out m) w) (and_parts _ _ e).1 kept)) in
        let grows : shares_folded b path a (Word m (Home b.out) w) ≡ 0 = shares_home b path a m w ∙ ap (λ n. n * a w) none ∙ (let h : 0 * a w ≡ 0 = omega arith in h) in
        ap (λ (n : ℕ). n % 2 ^ 64) (grows ∙ ap (amount_at (b.amount path)) (sym (target_absent b m w kept))))
        (cases_Bool (contains (b.home b.out m) w))
