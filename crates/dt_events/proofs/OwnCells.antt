-- What a task leaves, cell by cell of the nodes.
use Rattle.std.proofs.Common.{◌≡◌, ◌≢◌, ◌⊎◌, ℕ, ◌+◌, ◌-◌, ◌%◌, ◌^◌, ◌<◌, ◌≤◌, Bool, true, false, ◌&&◌, [], ◌∷◌, length, Option, Some, None, refl, sym, ap, ap₂, ◌∙◌, subst, ⊎_elim, inl, inr, eqb-true, eq-eqb, arith, if◌then◌else◌}
use Rattle.std.specs.Prelude.{nat_eq, nat_lt, option_map}
use Rattle.std.proofs.lemmas.Bool.{and_parts, and_from, cases_Bool, cases_lt, lt-ltb, le-ltb, ltb-true}
use Rattle.dt_nest.specs.Unit as own
use Rattle.dt_argument.specs.Frames.{grown}
use Rattle.dt_argument.proofs.Shapes.{if_true, if_false}
use Rattle.dt_plan.specs.declared.touches.Buffer.{Buffer}
use Rattle.dt_plan.specs.declared.touches.Buffer.TheVariants.{Home, Scratch, Work}
use Rattle.dt_plan.specs.Layouts.{Layout}
use Rattle.dt_plan.specs.Footprints.{buffer_by}
use Rattle.dt_events.specs.Conflicts.{is_same_buffer}
use Rattle.dt_events.specs.State.{Cell, Word, Sign, State, is_word_of, own_of, own_word, with_own}
use Rattle.dt_events.proofs.Cells.{same_buffer_true, word_is_of, word_is_itself, is_the_word}

-- Buffers ------------------------------------------------------------------------------------------------------------------

-- the buffer of a tensor
pub scratch_by : (l : Layout) (k t : ℕ) → t < length l.stored → buffer_by l k t ≡ Scratch k t
scratch_by l k t h = if_true (nat_lt t (length l.stored)) (Scratch k t) (Work k (t - length l.stored)) (lt-ltb t (length l.stored) h)

-- the buffer of a workspace
pub work_by : (l : Layout) (k t : ℕ) → length l.stored ≤ t → buffer_by l k t ≡ Work k (t - length l.stored)
work_by l k t h = if_false (nat_lt t (length l.stored)) (Scratch k t) (Work k (t - length l.stored)) (le-ltb t (length l.stored) h)

-- different tensors and workspaces have different buffers
pub buffer_by_same : (l : Layout) (k t u : ℕ) → buffer_by l k t ≡ buffer_by l k u → t ≡ u
buffer_by_same l k t u e =
    ⊎_elim
    (λ (a : t < length l.stored).
    ⊎_elim
    (λ (b : u < length l.stored). let f : Scratch k t ≡ Scratch k u = sym (scratch_by l k t a) ∙ e ∙ scratch_by l k u b in let g : t ≡ u = cc in g)
    (λ (b : length l.stored ≤ u). let f : Scratch k t ≡ Work k (u - length l.stored) = sym (scratch_by l k t a) ∙ e ∙ work_by l k u b in let g : t ≡ u = cc in g)
    (cases_lt u (length l.stored)))
    (λ (a : length l.stored ≤ t).
    ⊎_elim
    (λ (b : u < length l.stored). let f : Work k (t - length l.stored) ≡ Scratch k u = sym (work_by l k t a) ∙ e ∙ scratch_by l k u b in let g : t ≡ u = cc in g)
    (λ (b : length l.stored ≤ u).
    let f : Work k (t - length l.stored) ≡ Work k (u - length l.stored) = sym (work_by l k t a) ∙ e ∙ work_by l k u b in
    let g : t - length l.stored ≡ u - length l.stored = cc in omega (arith, a, b, g))
    (cases_lt u (length l.stored)))
    (cases_lt t (length l.stored))

-- none is a home
not_home : (l : Layout) (k t u : ℕ) → buffer_by l k t ≢ Home u
not_home l k t u e =
    ⊎_elim
    (λ (a : t < length l.stored). let f : Scratch k t ≡ Home u = sym (scratch_by l k t a) ∙ e in let g : ⊥ = cc in g)
    (λ (a : length l.stored ≤ t). let f : Work k (t - length l.stored) ≡ Home u = sym (work_by l k t a) ∙ e in let g : ⊥ = cc in g)
    (cases_lt t (length l.stored))

-- a scratch of the statement is that of a tensor
scratch_from : (l : Layout) (k t i u : ℕ) → buffer_by l k t ≡ Scratch i u → (i ≡ k) × (u < length l.stored)
scratch_from l k t i u e =
    ⊎_elim
    (λ (a : t < length l.stored).
    let f : Scratch k t ≡ Scratch i u = sym (scratch_by l k t a) ∙ e in let g : k ≡ i = cc in let h : t ≡ u = cc in (sym g, subst (λ (x : ℕ). x < length l.stored) h a))
    (λ (a : length l.stored ≤ t). let f : Work k (t - length l.stored) ≡ Scratch i u = sym (work_by l k t a) ∙ e in let g : ⊥ = cc in absurd g)
    (cases_lt t (length l.stored))

-- a workspace of the statement has its number
work_from : (l : Layout) (k t i u : ℕ) → buffer_by l k t ≡ Work i u → i ≡ k
work_from l k t i u e =
    ⊎_elim
    (λ (a : t < length l.stored). let f : Scratch k t ≡ Work i u = sym (scratch_by l k t a) ∙ e in let g : ⊥ = cc in absurd g)
    (λ (a : length l.stored ≤ t). let f : Work k (t - length l.stored) ≡ Work i u = sym (work_by l k t a) ∙ e in let g : k ≡ i = cc in sym g)
    (cases_lt t (length l.stored))

-- Cells --------------------------------------------------------------------------------------------------------------------

-- equal words have equal parts
word_parts : (m n : ℕ) (b c : Buffer) (v w : ℕ) → Word m b v ≡ Word n c w → (m ≡ n) × (b ≡ c) × (v ≡ w)
word_parts m n b c v w e = let f : m ≡ n = cc in let g : b ≡ c = cc in let h : v ≡ w = cc in (f, g, h)

-- the cell is a word of one of the task's buffers, which the task's own state gives
pub record IsOwn (l : Layout) (k node : ℕ) (st : State) (c : Cell) : Type 0 where
  pub tensor : ℕ
  pub word : ℕ
  pub cell : c ≡ Word node (buffer_by l k tensor) word
  pub given : (o : own.State) → with_own l k node o st c ≡ o (own.Word tensor word)

-- or it is none, and stays
pub record IsOther (l : Layout) (k node : ℕ) (st : State) (c : Cell) : Type 0 where
  pub apart : (t w : ℕ) → c ≢ Word node (buffer_by l k t) w
  pub stays : (o : own.State) → with_own l k node o st c ≡ st c

-- each cell is one or the other
pub own_or_other : (l : Layout) (k node : ℕ) (st : State) (c : Cell) → IsOwn l k node st c ⊎ IsOther l k node st c
own_or_other l k node st (Sign m b) = inr (record { apart = λ t w e. cc; stays = λ o. refl })
own_or_other l k node st (Word m (Home u) j) =
    inr (record {
      apart = λ t w e. not_home l k t u (sym (word_parts m node (Home u) (buffer_by l k t) j w e).1);
      stays = λ o. same (nat_eq m node);
    })
  where
    same : (b : Bool) → (if b then st (Word m (Home u) j) else st (Word m (Home u) j)) ≡ st (Word m (Home u) j)
    same true = refl
    same false = refl
own_or_other l k node st (Word m (Scratch i u) j) =
    ⊎_elim
    (λ (e : (nat_eq m node && (nat_eq i k && nat_lt u (length l.stored))) ≡ true).
    let p = and_parts (nat_eq m node) (nat_eq i k && nat_lt u (length l.stored)) e in
    let q = and_parts (nat_eq i k) (nat_lt u (length l.stored)) p.1 in
    let b : buffer_by l k u ≡ Scratch k u = scratch_by l k u (ltb-true u (length l.stored) q.1) in
    let d : Scratch i u ≡ Scratch k u = ap (λ x. Scratch x u) (eqb-true i k q.0) in
    inl (record {
      tensor = u;
      word = j;
      cell = ap₂ (λ x y. Word x y j) (eqb-true m node p.0) (d ∙ sym b);
      given = λ o. if_true (nat_eq m node) (own_word l k o (Scratch i u) j (st (Word m (Scratch i u) j))) (st (Word m (Scratch i u) j)) p.0
          ∙ if_true (nat_eq i k && nat_lt u (length l.stored)) (o (own.Word u j)) (st (Word m (Scratch i u) j)) p.1;
    }))
    (λ (e : (nat_eq m node && (nat_eq i k && nat_lt u (length l.stored))) ≡ false).
    inr (record {
      apart = λ t w q.
          let parts = word_parts m node (Scratch i u) (buffer_by l k t) j w q in
          let from = scratch_from l k t i u (sym parts.1) in
          let yes : (nat_eq m node && (nat_eq i k && nat_lt u (length l.stored))) ≡ true =
          and_from (nat_eq m node) (nat_eq i k && nat_lt u (length l.stored)) (eq-eqb m node parts.0) (and_from (nat_eq i k) (nat_lt u (length l.stored)) (eq-eqb i k from.0) (lt-ltb u (length l.stored) from.1)) in
          cc;
      stays = λ o. same o (nat_eq m node) (nat_eq i k && nat_lt u (length l.stored)) e;
    }))
    (cases_Bool (nat_eq m node && (nat_eq i k && nat_lt u (length l.stored))))
  where
    same : (o : own.State) (x y : Bool) → (x && y) ≡ false → (if x then if y then o (own.Word u j) else st (Word m (Scratch i u) j) else st (Word m (Scratch i u) j)) ≡ st (Word m (Scratch i u) j)
    same o true true e = cc
    same o true false e = refl
    same o false y e = refl
own_or_other l k node st (Word m (Work i u) j) =
    ⊎_elim
    (λ (e : (nat_eq m node && nat_eq i k) ≡ true).
    let p = and_parts (nat_eq m node) (nat_eq i k) e in
    let b : buffer_by l k (length l.stored + u) ≡ Work k (length l.stored + u - length l.stored) = work_by l k (length l.stored + u) (omega arith) in
    let s : u ≡ length l.stored + u - length l.stored = omega arith in
    let d : Work i u ≡ Work k (length l.stored + u - length l.stored) = ap₂ Work (eqb-true i k p.1) s in
    inl (record {
      tensor = length l.stored + u;
      word = j;
      cell = ap₂ (λ x y. Word x y j) (eqb-true m node p.0) (d ∙ sym b);
      given = λ o. if_true (nat_eq m node) (own_word l k o (Work i u) j (st (Word m (Work i u) j))) (st (Word m (Work i u) j)) p.0
          ∙ if_true (nat_eq i k) (o (own.Word (length l.stored + u) j)) (st (Word m (Work i u) j)) p.1;
    }))
    (λ (e : (nat_eq m node && nat_eq i k) ≡ false).
    inr (record {
      apart = λ t w q.
          let parts = word_parts m node (Work i u) (buffer_by l k t) j w q in
          let yes : (nat_eq m node && nat_eq i k) ≡ true = and_from (nat_eq m node) (nat_eq i k) (eq-eqb m node parts.0) (eq-eqb i k (work_from l k t i u (sym parts.1))) in
          cc;
      stays = λ o. same o (nat_eq m node) (nat_eq i k) e;
    }))
    (cases_Bool (nat_eq m node && nat_eq i k))
  where
    same : (o : own.State) (x y : Bool) → (x && y) ≡ false
        → (if x then if y then o (own.Word (length l.stored + u) j) else st (Word m (Work i u) j) else st (Word m (Work i u) j)) ≡ st (Word m (Work i u) j)
    same o true true e = cc
    same o true false e = refl
    same o false y e = refl

-- Units --------------------------------------------------------------------------------------------------------------------

-- to grow is to be mapped
map_grown : (d : ℕ) (x : Option ℕ) → option_map (λ v. (v + d) % 2 ^ 64) x ≡ grown d x
map_grown d None = refl
map_grown d (Some v) = refl

-- a test that would make equal what differs fails
fails : (b : Bool) → (b ≡ true → ⊥) → b ≡ false
fails true h = absurd (h refl)
fails false h = refl

-- a word that grows in the task's own state grows on the node
pub grows_there : (l : Layout) (k node t w d : ℕ) (st : State) (c : Cell)
    → (if is_word_of node (buffer_by l k t) (w ∷ []) c then grown d (st c) else st c) ≡ with_own l k node (own.grown_at (own_of l k node st) t (Some w) d) st c
grows_there l k node t w d st c = ⊎_elim own_cell other_cell (own_or_other l k node st c)
  where
    away : (c ≡ Word node (buffer_by l k t) w → ⊥) → (if is_word_of node (buffer_by l k t) (w ∷ []) c then grown d (st c) else st c) ≡ st c
    away h = if_false (is_word_of node (buffer_by l k t) (w ∷ []) c) (grown d (st c)) (st c) (fails (is_word_of node (buffer_by l k t) (w ∷ []) c) (λ e. h (is_the_word node (buffer_by l k t) w c e)))

    own_cell : IsOwn l k node st c → (if is_word_of node (buffer_by l k t) (w ∷ []) c then grown d (st c) else st c) ≡ with_own l k node (own.grown_at (own_of l k node st) t (Some w) d) st c
    own_cell p =
        ⊎_elim
        (λ (e : (nat_eq p.tensor t && nat_eq p.word w) ≡ true).
        let q = and_parts (nat_eq p.tensor t) (nat_eq p.word w) e in
        let here : Word node (buffer_by l k t) w ≡ c = sym (p.cell ∙ ap₂ (λ x y. Word node (buffer_by l k x) y) (eqb-true p.tensor t q.0) (eqb-true p.word w q.1)) in
        if_true (is_word_of node (buffer_by l k t) (w ∷ []) c) (grown d (st c)) (st c) (subst (λ (x : Cell). is_word_of node (buffer_by l k t) (w ∷ []) x ≡ true) here (word_is_itself node (buffer_by l k t) w))
        ∙ ap (λ x. grown d (st x)) p.cell
        ∙ sym (map_grown d (st (Word node (buffer_by l k p.tensor) p.word)))
        ∙ sym (if_true (nat_eq p.tensor t && nat_eq p.word w) (option_map (λ v. (v + d) % 2 ^ 64) (st (Word node (buffer_by l k p.tensor) p.word))) (st (Word node (buffer_by l k p.tensor) p.word)) e)
        ∙ sym (p.given (own.grown_at (own_of l k node st) t (Some w) d)))
        (λ (e : (nat_eq p.tensor t && nat_eq p.word w) ≡ false).
        away (λ f.
        let parts = word_parts node node (buffer_by l k p.tensor) (buffer_by l k t) p.word w (sym p.cell ∙ f) in
        let yes : (nat_eq p.tensor t && nat_eq p.word w) ≡ true = and_from (nat_eq p.tensor t) (nat_eq p.word w) (eq-eqb p.tensor t (buffer_by_same l k p.tensor t parts.1)) (eq-eqb p.word w parts.2) in
        let no : ⊥ = cc in no)
        ∙ ap st p.cell
        ∙ sym (if_false (nat_eq p.tensor t && nat_eq p.word w) (option_map (λ v. (v + d) % 2 ^ 64) (st (Word node (buffer_by l k p.tensor) p.word))) (st (Word node (buffer_by l k p.tensor) p.word)) e)
        ∙ sym (p.given (own.grown_at (own_of l k node st) t (Some w) d)))
        (cases_Bool (nat_eq p.tensor t && nat_eq p.word w))

    other_cell : IsOther l k node st c → (if is_word_of node (buffer_by l k t) (w ∷ []) c then grown d (st c) else st c) ≡ with_own l k node (own.grown_at (own_of l k node st) t (Some w) d) st c
    other_cell p = away (p.apart t w) ∙ sym (p.stays (own.grown_at (own_of l k node st) t (Some w) d))

-- whether a cell is a word of a buffer
abbrev pub is_some_word : ℕ → Buffer → Cell → Bool
is_some_word n b (Word m c w) = nat_eq n m && is_same_buffer b c
is_some_word n b (Sign m c) = false

-- what passes is one
some_word : (n : ℕ) (b : Buffer) (c : Cell) → is_some_word n b c ≡ true → (w : ℕ) × (c ≡ Word n b w)
some_word n b (Sign m d) h = cc
some_word n b (Word m d w) h = let p = and_parts (nat_eq n m) (is_same_buffer b d) h in (w, sym (ap₂ (λ x y. Word x y w) (eqb-true n m p.0) (same_buffer_true b d p.1)))

-- a buffer that is cleared in the task's own state is cleared on the node
pub clears_there : (l : Layout) (k node t : ℕ) (st : State) (c : Cell)
    → (if is_some_word node (buffer_by l k t) c then option_map (λ x. 0) (st c) else st c) ≡ with_own l k node (own.cleared_at (own_of l k node st) t) st c
clears_there l k node t st c = ⊎_elim own_cell other_cell (own_or_other l k node st c)
  where
    away : ((w : ℕ) → c ≡ Word node (buffer_by l k t) w → ⊥) → (if is_some_word node (buffer_by l k t) c then option_map (λ x. 0) (st c) else st c) ≡ st c
    away h = if_false (is_some_word node (buffer_by l k t) c) (option_map (λ x. 0) (st c)) (st c) (fails (is_some_word node (buffer_by l k t) c) (λ e. let p = some_word node (buffer_by l k t) c e in h p.0 p.1))

    own_cell : IsOwn l k node st c → (if is_some_word node (buffer_by l k t) c then option_map (λ x. 0) (st c) else st c) ≡ with_own l k node (own.cleared_at (own_of l k node st) t) st c
    own_cell p =
        ⊎_elim
        (λ (e : nat_eq p.tensor t ≡ true).
        let here : Word node (buffer_by l k t) p.word ≡ c = sym (p.cell ∙ ap (λ x. Word node (buffer_by l k x) p.word) (eqb-true p.tensor t e)) in
        if_true (is_some_word node (buffer_by l k t) c) (option_map (λ x. 0) (st c)) (st c) (subst (λ (x : Cell). is_some_word node (buffer_by l k t) x ≡ true) here (word_is_of node (buffer_by l k t) p.word))
        ∙ ap (λ x. option_map (λ v. 0) (st x)) p.cell
        ∙ sym (if_true (nat_eq p.tensor t) (option_map (λ v. 0) (st (Word node (buffer_by l k p.tensor) p.word))) (st (Word node (buffer_by l k p.tensor) p.word)) e)
        ∙ sym (p.given (own.cleared_at (own_of l k node st) t)))
        (λ (e : nat_eq p.tensor t ≡ false).
        away (λ w f.
        let parts = word_parts node node (buffer_by l k p.tensor) (buffer_by l k t) p.word w (sym p.cell ∙ f) in
        let yes : nat_eq p.tensor t ≡ true = eq-eqb p.tensor t (buffer_by_same l k p.tensor t parts.1) in
        let no : ⊥ = cc in no)
        ∙ ap st p.cell
        ∙ sym (if_false (nat_eq p.tensor t) (option_map (λ v. 0) (st (Word node (buffer_by l k p.tensor) p.word))) (st (Word node (buffer_by l k p.tensor) p.word)) e)
        ∙ sym (p.given (own.cleared_at (own_of l k node st) t)))
        (cases_Bool (nat_eq p.tensor t))

    other_cell : IsOther l k node st c → (if is_some_word node (buffer_by l k t) c then option_map (λ x. 0) (st c) else st c) ≡ with_own l k node (own.cleared_at (own_of l k node st) t) st c
    other_cell p = away (p.apart t) ∙ sym (p.stays (own.cleared_at (own_of l k node st) t))

-- a visit that writes no word leaves the state
pub still_there : (l : Layout) (k node t d : ℕ) (st : State) (c : Cell) → st c ≡ with_own l k node (own.grown_at (own_of l k node st) t None d) st c
still_there l k node t d st c =
    ⊎_elim
    (λ (p : IsOwn l k node st c). ap st p.cell ∙ sym (p.given (own.grown_at (own_of l k node st) t None d)))
    (λ (p : IsOther l k node st c). sym (p.stays (own.grown_at (own_of l k node st) t None d)))
    (own_or_other l k node st c)
