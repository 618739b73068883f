-- The zeros of a statement.
use Rattle.std.proofs.Common.{◌≡◌, ◌≢◌, ℕ, ◌<◌, ◌≤◌, Bool, true, false, ◌&&◌, List, [], ◌∷◌, length, Option, Some, None, is_some, refl, sym, ap, ◌∙◌, subst, ⊎_elim, eqb-true, eq-eqb, if◌then◌else◌}
use Rattle.std.specs.Prelude.{nat_eq, nat_lt, option_map, slice_index_or}
use Rattle.std.specs.List.{flat_map, list_any}
use Rattle.std.proofs.lemmas.Bool.{and_from, cases_Bool, cases_lt, lt-ltb}
use Rattle.std.proofs.lemmas.List.{get_or_past}
use Rattle.dt_base.specs.Ranges.{below}
use Rattle.dt_runs.specs.Sets.{contains}
use Rattle.dt_runs.proofs.BelowSets.{contains-below}
use Rattle.dt_model.specs.Positions.{coords_at, tensor_at}
use Rattle.dt_nest.specs.Meaning.{Entries}
use Rattle.dt_nest.specs.Outputs.{output_of}
use Rattle.dt_nest.proofs.Each.{all_map, below_all}
use Rattle.dt_copy.specs.Sources.{home_at}
use Rattle.dt_argument.proofs.OperationRuns.{and_then}
use Rattle.dt_argument.proofs.Shapes.{if_true, if_false}
use Rattle.dt_place.specs.Machines.{nodes_of}
use Rattle.dt_plan.specs.declared.ops.Op.{Op}
use Rattle.dt_plan.specs.declared.parts.Part.{Part}
use Rattle.dt_plan.specs.declared.touches.Buffer.{Buffer}
use Rattle.dt_plan.specs.declared.touches.Buffer.TheVariants.{Home, Scratch, Work}
use Rattle.dt_plan.specs.Layouts.{Layout, homes_at}
use Rattle.dt_plan.specs.Operations.{zero_on, zeros_on}
use Rattle.dt_events.specs.State.{Cell, Word, Sign, State, is_word_of, overwritten}
use Rattle.dt_events.specs.Jobs.{state_of}
use Rattle.dt_events.specs.Placed.{IsPlaced}
use Rattle.dt_events.proofs.Cells.{is_word, word_is_one}
use Rattle.dt_events.proofs.BlockLists.{not_true, both_ways, any_found, any_in, none_any}
use Rattle.dt_events.proofs.BlockRuns.{fill, fills_all, pairwise_each}
use Rattle.dt_events.proofs.ListRuns.{run_all, run_flat, op_run}
use Rattle.dt_events.proofs.OperationMoves.{zero_is}

-- the numbers before a part adds: its left tensor has 0, unless the part adds to what there is
abbrev pub numbers_before : Part → Entries → Entries
numbers_before p x t c = if nat_eq t (output_of p.sched.nest) then if p.adds then x t c else 0 else x t c

-- the numbers of other tensors stay
pub before_others : (p : Part) (x : Entries) (t : ℕ) (c : List ℕ) → t ≢ output_of p.sched.nest → numbers_before p x t c ≡ x t c
before_others p x t c d = if_false (nat_eq t (output_of p.sched.nest)) (if p.adds then x t c else 0) (x t c) (not_true (nat_eq t (output_of p.sched.nest)) (λ e. d (eqb-true t (output_of p.sched.nest) e)))

module _ (l : Layout) (k : ℕ) (p : Part) (x : Entries) (placed : IsPlaced l) (inside : output_of p.sched.nest < length l.stored) where
  -- the left tensor
  abbrev out : ℕ
  out = output_of p.sched.nest

  -- its home on a node
  abbrev home : ℕ → List ℕ
  home n = home_at (homes_at l out) n

  -- the cells that the zero of a node clears
  abbrev cleared : ℕ → Cell → Bool
  cleared n c = is_word_of n (Home out) (home n) c

  -- what a zero finds: its home with all words
  record CanZero (n : ℕ) (s : State) : Type 0 where
    sign : is_some (s (Sign n (Home out))) ≡ true
    words : (w : ℕ) → contains (home n) w ≡ true → is_some (s (Word n (Home out) w)) ≡ true

  either_some : (t : Bool) (y : Option ℕ) → is_some y ≡ true → is_some (if t then Some 0 else y) ≡ true
  either_some true y h = refl
  either_some false y h = h

  zero_stays : (m n : ℕ) (s : State) → CanZero n s → CanZero n (fill (λ c. Some 0) (cleared m) s)
  zero_stays m n s h = record {
    sign = h.sign;
    words = λ w e. either_some (cleared m (Word n (Home out) w)) (s (Word n (Home out) w)) (h.words w e);
  }

  -- a home that is cleared has 0 in each word
  cleared_is : (n : ℕ) (s : State) → CanZero n s → (c : Cell) → overwritten n (Home out) (home n) 0 s c ≡ fill (λ d. Some 0) (cleared n) s c
  cleared_is n s h c = go (cleared n c) (λ e. let q = is_word n (Home out) (home n) c e in ap (λ d. is_some (s d)) q.is ∙ h.words q.word q.among)
    where
      here : (y : Option ℕ) → is_some y ≡ true → option_map {U = ℕ} (λ z. 0) y ≡ Some 0
      here None e = cc
      here (Some v) e = refl

      go : (t : Bool) → (t ≡ true → is_some (s c) ≡ true) → (if t then option_map {U = ℕ} (λ z. 0) (s c) else s c) ≡ (if t then Some 0 else s c)
      go true e = here (s c) (e refl)
      go false e = refl

  -- the zero of a node, if its home has words
  one_zero : p.adds ≡ false → (n : ℕ) (s : State) → CanZero n s → run_all (op_run l) (zeros_on l k p n) s ≡ Some (fill (λ c. Some 0) (cleared n) s)
  one_zero adds n s h =
      ap (λ (b : Bool). run_all (op_run l) (if b then [] else zero_on k out n (home n)) s) adds
      ∙ go (home n) refl
    where
      nothing : (ws : List ℕ) → ws ≡ home n → ws ≡ [] → Some s ≡ Some (fill (λ c. Some 0) (cleared n) s)
      nothing ws e f = ap Some (λ i c. sym (if_false (cleared n c) (Some 0) (s c) (not_true (cleared n c) (λ g. let q = is_word n (Home out) (home n) c g in let z : contains [] q.word ≡ true = ap (λ vs. contains vs q.word) (sym f ∙ e) ∙ q.among in cc))) i)

      go : (ws : List ℕ) → ws ≡ home n → run_all (op_run l) (zero_on k out n ws) s ≡ Some (fill (λ c. Some 0) (cleared n) s)
      go [] e = nothing [] e refl
      go (w ∷ ws) e =
          ap (λ o. and_then o (λ u. Some u))
          (zero_is l k n [] out n (w ∷ ws) 1 s
          ∙ if_true (is_some (s (Sign n (Home out)))) (Some (overwritten n (Home out) (w ∷ ws) 0 s)) None h.sign
          ∙ ap (λ vs. Some (overwritten n (Home out) vs 0 s)) e
          ∙ ap Some (λ i c. cleared_is n s h c i))

  -- the cells that all zeros clear
  abbrev all_cleared : Cell → Bool
  all_cleared c = list_any (λ n. cleared n c) (below (nodes_of l.machine))

  -- the homes are there
  state_can : (n : ℕ) → n < nodes_of l.machine → CanZero n (state_of l x)
  state_can n h = record {
    sign = ap is_some (if_true (nat_lt out (length l.stored) && nat_lt n (nodes_of l.machine)) (Some 0) none (and_from (nat_lt out (length l.stored)) (nat_lt n (nodes_of l.machine)) (lt-ltb out (length l.stored) inside) (lt-ltb n (nodes_of l.machine) h)));
    words = λ w e. ap is_some (if_true (contains (home n) w) (Some (x out (coords_at (tensor_at l.stored out) w))) none e);
  }
    where
      none : Option ℕ
      none = None

  zeros_fill : p.adds ≡ false → run_all (op_run l) (flat_map (zeros_on l k p) (below (nodes_of l.machine))) (state_of l x) ≡ Some (fill (λ c. Some 0) all_cleared (state_of l x))
  zeros_fill adds =
      run_flat (op_run l) (zeros_on l k p) (below (nodes_of l.machine)) (state_of l x)
      ∙ fills_all (λ c. Some 0) (λ n. run_all (op_run l) (zeros_on l k p n)) cleared CanZero (below (nodes_of l.machine))
      (pairwise_each (λ m n. (s : State) → CanZero n s → CanZero n (fill (λ c. Some 0) (cleared m) s)) zero_stays (below (nodes_of l.machine)))
      (all_map (λ n. n < nodes_of l.machine) (λ n. (s : State) → CanZero n s → run_all (op_run l) (zeros_on l k p n) s ≡ Some (fill (λ c. Some 0) (cleared n) s)) (λ n h s can. one_zero adds n s can) (below (nodes_of l.machine)) (below_all (nodes_of l.machine)))
      (state_of l x) (all_map (λ n. n < nodes_of l.machine) (λ n. CanZero n (state_of l x)) state_can (below (nodes_of l.machine)) (below_all (nodes_of l.machine)))

  -- a node whose home has a word is one of the nodes
  home_exists : (n w : ℕ) → contains (home n) w ≡ true → n < nodes_of l.machine
  home_exists n w h =
      ⊎_elim
      (λ (e : n < nodes_of l.machine). e)
      (λ (e : nodes_of l.machine ≤ n). let far : length (homes_at l out) ≤ n = subst (λ (m : ℕ). m ≤ n) (sym (placed.nodes out inside)) e in let z : contains [] w ≡ true = ap (λ ws. contains ws w) (sym (past (homes_at l out) n far)) ∙ h in absurd (cc))
      (cases_lt n (nodes_of l.machine))
    where
      past : (xs : List (List ℕ)) (i : ℕ) → length xs ≤ i → slice_index_or xs i [] ≡ []
      past xs i h = get_or_past xs i [] h

  zeroed_cell : p.adds ≡ false → (c : Cell) → fill (λ d. Some 0) all_cleared (state_of l x) c ≡ state_of l (numbers_before p x) c
  zeroed_cell adds (Sign n b) = if_false (all_cleared (Sign n b)) (Some 0) (state_of l x (Sign n b)) (none_any (λ m. cleared m (Sign n b)) (below (nodes_of l.machine)) (λ m. refl)) ∙ same b
    where
      same : (b : Buffer) → state_of l x (Sign n b) ≡ state_of l (numbers_before p x) (Sign n b)
      same (Home t) = refl
      same (Scratch j t) = refl
      same (Work j u) = refl
  zeroed_cell adds (Word n (Scratch j t) w) = if_false (all_cleared (Word n (Scratch j t) w)) (Some 0) None (none_any (λ m. cleared m (Word n (Scratch j t) w)) (below (nodes_of l.machine)) (λ m. not_true (cleared m (Word n (Scratch j t) w)) (λ e. let q = is_word m (Home out) (home m) (Word n (Scratch j t) w) e in let z = q.is in cc)))
  zeroed_cell adds (Word n (Work j u) w) = if_false (all_cleared (Word n (Work j u) w)) (Some 0) None (none_any (λ m. cleared m (Word n (Work j u) w)) (below (nodes_of l.machine)) (λ m. not_true (cleared m (Word n (Work j u) w)) (λ e. let q = is_word m (Home out) (home m) (Word n (Work j u) w) e in let z = q.is in cc)))
  zeroed_cell adds (Word n (Home t) w) =
      ⊎_elim
      (λ (e : nat_eq t out ≡ true). subst (λ (u : ℕ). fill (λ d. Some 0) all_cleared (state_of l x) (Word n (Home u) w) ≡ state_of l (numbers_before p x) (Word n (Home u) w)) (sym (eqb-true t out e)) left)
      (λ (e : nat_eq t out ≡ false).
      let d : t ≢ out = λ f. both_ways (nat_eq t out) (eq-eqb t out f) e in
      if_false (all_cleared (Word n (Home t) w)) (Some 0) (state_of l x (Word n (Home t) w))
      (none_any (λ m. cleared m (Word n (Home t) w)) (below (nodes_of l.machine)) (λ m. not_true (cleared m (Word n (Home t) w)) (λ f. d (home_same m t (is_word m (Home out) (home m) (Word n (Home t) w) f).word (is_word m (Home out) (home m) (Word n (Home t) w) f).is))))
      ∙ ap (λ (v : ℕ). if contains (home_at (homes_at l t) n) w then Some v else None) (sym (before_others p x t (coords_at (tensor_at l.stored t) w) d)))
      (cases_Bool (nat_eq t out))
    where
      home_same : (m t v : ℕ) → Word n (Home t) w ≡ Word m (Home out) v → t ≡ out
      home_same m t v e = cc

      zero_before : (c : List ℕ) → numbers_before p x out c ≡ 0
      zero_before c = if_true (nat_eq out out) (if p.adds then x out c else 0) (x out c) (eq-eqb out out refl) ∙ if_false p.adds (x out c) 0 adds

      left : fill (λ d. Some 0) all_cleared (state_of l x) (Word n (Home out) w) ≡ state_of l (numbers_before p x) (Word n (Home out) w)
      left =
          ⊎_elim
          (λ (h : contains (home n) w ≡ true).
          if_true (all_cleared (Word n (Home out) w)) (Some 0) (state_of l x (Word n (Home out) w))
          (any_in (λ m. cleared m (Word n (Home out) w)) (below (nodes_of l.machine)) n (contains-below (nodes_of l.machine) n ∙ lt-ltb n (nodes_of l.machine) (home_exists n w h)) (word_is_one n (Home out) (home n) w h))
          ∙ ap Some (sym (zero_before (coords_at (tensor_at l.stored out) w)))
          ∙ sym (if_true (contains (home n) w) (Some (numbers_before p x out (coords_at (tensor_at l.stored out) w))) None h))
          (λ (h : contains (home n) w ≡ false).
          if_false (all_cleared (Word n (Home out) w)) (Some 0) (state_of l x (Word n (Home out) w))
          (not_true (all_cleared (Word n (Home out) w)) (λ e.
          let q = any_found (λ m. cleared m (Word n (Home out) w)) (below (nodes_of l.machine)) e in
          let r = is_word q.0 (Home out) (home q.0) (Word n (Home out) w) q.2 in
          both_ways (contains (home n) w) (subst (λ (m : ℕ). contains (home m) w ≡ true) (sym (node_same q.0 r.word r.is)) (subst (λ (v : ℕ). contains (home q.0) v ≡ true) (sym (word_same q.0 r.word r.is)) r.among)) h))
          ∙ if_false (contains (home n) w) (Some (x out (coords_at (tensor_at l.stored out) w))) None h
          ∙ sym (if_false (contains (home n) w) (Some (numbers_before p x out (coords_at (tensor_at l.stored out) w))) None h))
          (cases_Bool (contains (home n) w))
        where
          node_same : (m v : ℕ) → Word n (Home out) w ≡ Word m (Home out) v → n ≡ m
          node_same m v e = cc

          word_same : (m v : ℕ) → Word n (Home out) w ≡ Word m (Home out) v → w ≡ v
          word_same m v e = cc

  -- a statement that adds has no zeros
  unchanged : p.adds ≡ true → (c : Cell) → state_of l x c ≡ state_of l (numbers_before p x) c
  unchanged adds (Word n (Home t) w) = ap (λ (v : ℕ). if contains (home_at (homes_at l t) n) w then Some v else None) (sym (same t (coords_at (tensor_at l.stored t) w)))
    where
      same : (t : ℕ) (c : List ℕ) → numbers_before p x t c ≡ x t c
      same t c = go (nat_eq t out)
        where
          go : (b : Bool) → (if b then if p.adds then x t c else 0 else x t c) ≡ x t c
          go true = if_true p.adds (x t c) 0 adds
          go false = refl
  unchanged adds (Word n (Scratch j t) w) = refl
  unchanged adds (Word n (Work j u) w) = refl
  unchanged adds (Sign n (Home t)) = refl
  unchanged adds (Sign n (Scratch j t)) = refl
  unchanged adds (Sign n (Work j u)) = refl

  -- after the zeros the homes have the numbers before the part adds
  pub zeros_run : run_all (op_run l) (flat_map (zeros_on l k p) (below (nodes_of l.machine))) (state_of l x) ≡ Some (state_of l (numbers_before p x))
  zeros_run =
      ⊎_elim
      (λ (adds : p.adds ≡ true).
      ap (λ (b : Bool). run_all (op_run l) (flat_map (λ n. if b then [] else zero_on k out n (home n)) (below (nodes_of l.machine))) (state_of l x)) adds
      ∙ run_flat (op_run l) (λ n. none) (below (nodes_of l.machine)) (state_of l x)
      ∙ nothing (below (nodes_of l.machine)) (state_of l x)
      ∙ ap Some (λ i c. unchanged adds c i))
      (λ (adds : p.adds ≡ false). zeros_fill adds ∙ ap Some (λ i c. zeroed_cell adds c i))
      (cases_Bool p.adds)
    where
      none : List Op
      none = []

      nothing : (ns : List ℕ) (s : State) → run_all (λ n. run_all (op_run l) []) ns s ≡ Some s
      nothing [] s = refl
      nothing (n ∷ ns) s = nothing ns s
