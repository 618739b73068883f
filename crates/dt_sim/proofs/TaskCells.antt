-- What a task sees and leaves on its node.
use Rattle.std.proofs.Common.{◌≡◌, ◌≢◌, ℕ, suc, ◌+◌, ◌-◌, ◌<◌, ◌≤◌, ◌&&◌, ◌||◌, Bool, true, false, List, [], ◌∷◌, length, Option, Some, None, slice_get, slice_set, nat_eq, nat_lt, refl, sym, ap, ◌∙◌, subst, arith, if◌then◌else◌, eqb-true, eq-eqb}
use Rattle.std.specs.Prelude.{option_and_then, option_map}
use Rattle.std.proofs.Math.Path.{fun_ext}
use Rattle.std.proofs.lemmas.Bool.{and_from, and_parts, le-ltb}
use Rattle.std.proofs.lemmas.List.{get_or-set_same, get_or-set_other}
use Rattle.std.proofs.lemmas.List.Quantifiers.{position-Some}
use Rattle.std.proofs.lemmas.Option.{slice_get_past}
use Rattle.dt_mem.specs.Memory.{Held, Slot, held_at, value_at, value_in}
use Rattle.dt_nest.specs.Run.{is_among}
use Rattle.dt_nest.specs.Unit as own
use Rattle.dt_leaf.specs.NodeWords.{LeavesRest, cells_in}
use Rattle.dt_leaf.proofs.Cells.{same_words}
use Rattle.dt_plan.specs.declared.touches.Buffer.{Buffer}
use Rattle.dt_plan.specs.declared.touches.Buffer.TheVariants.{Home, Scratch, Work}
use Rattle.dt_plan.specs.Layouts.{Layout}
use Rattle.dt_plan.specs.Bounds.{buffers_of}
use Rattle.dt_plan.specs.Footprints.{buffer_by}
use Rattle.dt_events.specs.Conflicts.{is_same_buffer}
use Rattle.dt_events.specs.State.{Cell, Word, Sign, own_of, own_word, with_own}
use Rattle.dt_sim.specs.Memories.{memory_at, number_in, sign_of, state_in}
use Rattle.dt_sim.specs.Slots.{AreSlots}
use Rattle.dt_sim.proofs.ChangeLaws.{one_number}

-- Past the last buffer --------------------------------------------------------------------------------------------------

no_value : (m : List Slot) (b w : ℕ) → length m ≤ b → value_at m b w ≡ None
no_value m b w h = ap (λ (o : Option Slot). option_and_then (λ (x : Held). value_in x w) (option_and_then (λ (s : Slot). s.held) o)) (slice_get_past m b h)

no_sign : (m : List Slot) (b : ℕ) → length m ≤ b → sign_of (held_at m b) ≡ None
no_sign m b h = ap (λ (o : Option Slot). sign_of (option_and_then (λ (s : Slot). s.held) o)) (slice_get_past m b h)

-- What is seen ----------------------------------------------------------------------------------------------------------

module _ (l : Layout) (k : ℕ) (slots : List ℕ) (are : AreSlots l k slots) where
  -- what is at the slot of a tensor or workspace is at its buffer's number
  at_slot : (look : ℕ → Option ℕ) → ((b : ℕ) → length (buffers_of l) ≤ b → look b ≡ None) → (t : ℕ)
      → option_and_then look (slice_get slots t) ≡ option_and_then look (number_in (buffers_of l) (buffer_by l k t))
  at_slot look none t = go (number_in (buffers_of l) (buffer_by l k t)) refl
    where
      absent : number_in (buffers_of l) (buffer_by l k t) ≡ None → (o : Option ℕ) → slice_get slots t ≡ o → option_and_then look o ≡ None
      absent e None f = refl
      absent e (Some b) f = none b (are.past t b e f)

      go : (o : Option ℕ) → number_in (buffers_of l) (buffer_by l k t) ≡ o → option_and_then look (slice_get slots t) ≡ option_and_then look o
      go (Some b) e = ap (option_and_then look) (are.named t b e)
      go None e = absent e (slice_get slots t) refl

  pub sees_node : (mems : List (List Slot)) (n : ℕ) → length (memory_at mems n) ≡ length (buffers_of l) → cells_in (memory_at mems n) slots ≡ own_of l k n (state_in (buffers_of l) mems)
  sees_node mems n e = fun_ext cell
    where
      cell : (c : own.Cell) → cells_in (memory_at mems n) slots c ≡ own_of l k n (state_in (buffers_of l) mems) c
      cell (own.Word t w) = at_slot (λ (b : ℕ). value_at (memory_at mems n) b w) (λ b h. no_value (memory_at mems n) b w (omega (arith, e, h))) t
      cell (own.Sign t) = at_slot (λ (b : ℕ). sign_of (held_at (memory_at mems n) b)) (λ b h. no_sign (memory_at mems n) b (omega (arith, e, h))) t

  -- Other buffers ---------------------------------------------------------------------------------------------------------

  among_at : (j : ℕ) (xs : List ℕ) → is_among j xs ≡ true → (u : ℕ) × (slice_get xs u ≡ Some j)
  among_at j [] e = absurd (cc)
  among_at j (x ∷ xs) e = go (nat_eq j x) refl e (λ h. among_at j xs h)
    where
      go : (t : Bool) → nat_eq j x ≡ t → (t || is_among j xs) ≡ true → (is_among j xs ≡ true → (u : ℕ) × (slice_get xs u ≡ Some j)) → (u : ℕ) × (slice_get (x ∷ xs) u ≡ Some j)
      go true f h more = (0, ap (λ (i : ℕ). Some i) (sym (eqb-true j x f)))
      go false f h more = let r = more h in (suc r.0, r.1)

  -- no slot names a buffer of another statement, or a home
  unnamed : (b : Buffer) (j : ℕ) → number_in (buffers_of l) b ≡ Some j → ((u : ℕ) → b ≡ buffer_by l k u → ⊥) → is_among j slots ≡ false
  unnamed b j e never = go (is_among j slots) refl
    where
      named_by : (u : ℕ) → slice_get slots u ≡ Some j → (o : Option ℕ) → number_in (buffers_of l) (buffer_by l k u) ≡ o → ⊥
      named_by u f (Some i) g =
          let both : ◌≡◌ {A = Option ℕ} (Some i) (Some j) = sym (are.named u i g) ∙ f in
          let same : i ≡ j = cc in
          never u (one_number (buffers_of l) b (buffer_by l k u) j e (g ∙ ap (λ (x : ℕ). Some x) same))
      named_by u f None g =
          let far = are.past u j g f in
          let near = (position-Some (is_same_buffer b) (buffers_of l) j b e).0 in
          omega (arith, far, near)

      go : (t : Bool) → is_among j slots ≡ t → t ≡ false
      go false h = refl
      go true h = let r = among_at j slots h in absurd (named_by r.0 r.1 (number_in (buffers_of l) (buffer_by l k r.0)) refl)

  module _ (mems : List (List Slot)) (n : ℕ) (after : List Slot) (size : length after ≡ length (buffers_of l)) (there : n < length mems) (rest : LeavesRest slots (memory_at mems n) after) where
    here : memory_at (slice_set mems n after) n ≡ after
    here = get_or-set_same mems n after [] there

    elsewhere : (m : ℕ) → m ≢ n → memory_at (slice_set mems n after) m ≡ memory_at mems m
    elsewhere m d = get_or-set_other mems n m after [] d

    kept : (b : Buffer) (w : ℕ) → ((u : ℕ) → b ≡ buffer_by l k u → ⊥) → state_in (buffers_of l) (slice_set mems n after) (Word n b w) ≡ state_in (buffers_of l) mems (Word n b w)
    kept b w never = go (number_in (buffers_of l) b) refl
      where
        go : (o : Option ℕ) → number_in (buffers_of l) b ≡ o
            → option_and_then (λ (j : ℕ). value_at (memory_at (slice_set mems n after) n) j w) o ≡ option_and_then (λ (j : ℕ). value_at (memory_at mems n) j w) o
        go None e = refl
        go (Some j) e =
            ap (λ (m : List Slot). value_at m j w) here
            ∙ ap (λ (o : Option Slot). option_and_then (λ (x : Held). value_in x w) (option_and_then (λ (s : Slot). s.held) o)) (rest.others j (unnamed b j e never))

    -- a buffer of the statement has what the task left
    left_at : (t w : ℕ) (b : Buffer) → buffer_by l k t ≡ b → state_in (buffers_of l) (slice_set mems n after) (Word n b w) ≡ cells_in after slots (own.Word t w)
    left_at t w b e =
        sym (ap (λ (x : Buffer). state_in (buffers_of l) (slice_set mems n after) (Word n x w)) e)
        ∙ sym (ap (λ (s : own.State). s (own.Word t w)) (sees_node (slice_set mems n after) n (ap length here ∙ size)))
        ∙ ap (λ (m : List Slot). cells_in m slots (own.Word t w)) here

    no_home : (t u : ℕ) → Home t ≡ buffer_by l k u → ⊥
    no_home t u e = go (nat_lt u (length l.stored)) e
      where
        go : (b : Bool) → Home t ≡ (if b then Scratch k u else Work k (u - length l.stored)) → ⊥
        go true e = cc
        go false e = cc

    scratch_word : (j t w : ℕ) (b : Bool) → (nat_eq j k && nat_lt t (length l.stored)) ≡ b
        → state_in (buffers_of l) (slice_set mems n after) (Word n (Scratch j t) w) ≡ (if b then cells_in after slots (own.Word t w) else state_in (buffers_of l) mems (Word n (Scratch j t) w))
    scratch_word j t w true e =
        let p = and_parts (nat_eq j k) (nat_lt t (length l.stored)) e in
        left_at t w (Scratch j t) (ap (λ (x : Bool). if x then Scratch k t else Work k (t - length l.stored)) p.1 ∙ ap (λ (i : ℕ). Scratch i t) (sym (eqb-true j k p.0)))
    scratch_word j t w false e = kept (Scratch j t) w (λ u f. go u (nat_lt u (length l.stored)) refl f)
      where
        go : (u : ℕ) (x : Bool) → nat_lt u (length l.stored) ≡ x → Scratch j t ≡ (if x then Scratch k u else Work k (u - length l.stored)) → ⊥
        go u true g f =
            let first : j ≡ k = cc in
            let second : t ≡ u = cc in
            let both : (nat_eq j k && nat_lt t (length l.stored)) ≡ true = and_from (nat_eq j k) (nat_lt t (length l.stored)) (eq-eqb j k first) (ap (λ (i : ℕ). nat_lt i (length l.stored)) second ∙ g) in
            cc
        go u false g f = cc

    work_word : (j u w : ℕ) (b : Bool) → nat_eq j k ≡ b
        → state_in (buffers_of l) (slice_set mems n after) (Word n (Work j u) w) ≡ (if b then cells_in after slots (own.Word (length l.stored + u) w) else state_in (buffers_of l) mems (Word n (Work j u) w))
    work_word j u w true e =
        let less : nat_lt (length l.stored + u) (length l.stored) ≡ false = le-ltb (length l.stored + u) (length l.stored) (omega arith) in
        let number : length l.stored + u - length l.stored ≡ u = omega arith in
        left_at (length l.stored + u) w (Work j u)
        (ap (λ (x : Bool). if x then Scratch k (length l.stored + u) else Work k (length l.stored + u - length l.stored)) less ∙ ap (Work k) number ∙ ap (λ (i : ℕ). Work i u) (sym (eqb-true j k e)))
    work_word j u w false e = kept (Work j u) w (λ v f. go v (nat_lt v (length l.stored)) f)
      where
        go : (v : ℕ) (x : Bool) → Work j u ≡ (if x then Scratch k v else Work k (v - length l.stored)) → ⊥
        go v true f = cc
        go v false f = (let first : j ≡ k = cc in let same : nat_eq j k ≡ true = eq-eqb j k first in cc)

    node_word : (b : Buffer) (w : ℕ) → state_in (buffers_of l) (slice_set mems n after) (Word n b w) ≡ own_word l k (cells_in after slots) b w (state_in (buffers_of l) mems (Word n b w))
    node_word (Home t) w = kept (Home t) w (no_home t)
    node_word (Scratch j t) w = scratch_word j t w (nat_eq j k && nat_lt t (length l.stored)) refl
    node_word (Work j u) w = work_word j u w (nat_eq j k) refl

    signs_words : (o : Option Held) → sign_of o ≡ option_map {U = ℕ} (λ (w : List ℕ). 0) (option_map (λ (h : Held). h.words) o)
    signs_words None = refl
    signs_words (Some h) = refl

    same_sign : (j : ℕ) → sign_of (held_at after j) ≡ sign_of (held_at (memory_at mems n) j)
    same_sign j =
        signs_words (held_at after j) ∙ ap (option_map {U = ℕ} (λ (w : List ℕ). 0)) (same_words (memory_at mems n) after j rest.layout) ∙ sym (signs_words (held_at (memory_at mems n) j))

    not_equal : (m : ℕ) → nat_eq m n ≡ false → m ≢ n
    not_equal m e q = (let t : nat_eq m n ≡ true = eq-eqb m n q in cc)

    cell_left : (c : Cell) → state_in (buffers_of l) (slice_set mems n after) c ≡ with_own l k n (cells_in after slots) (state_in (buffers_of l) mems) c
    cell_left (Word m b w) = go (nat_eq m n) refl
      where
        go : (x : Bool) → nat_eq m n ≡ x
            → state_in (buffers_of l) (slice_set mems n after) (Word m b w) ≡ (if x then own_word l k (cells_in after slots) b w (state_in (buffers_of l) mems (Word m b w)) else state_in (buffers_of l) mems (Word m b w))
        go false e = ap (λ (mem : List Slot). option_and_then (λ (j : ℕ). value_at mem j w) (number_in (buffers_of l) b)) (elsewhere m (not_equal m e))
        go true e =
            subst (λ (i : ℕ). state_in (buffers_of l) (slice_set mems n after) (Word i b w) ≡ own_word l k (cells_in after slots) b w (state_in (buffers_of l) mems (Word i b w))) (sym (eqb-true m n e)) (node_word b w)
    cell_left (Sign m b) = go (nat_eq m n) refl
      where
        go : (x : Bool) → nat_eq m n ≡ x → state_in (buffers_of l) (slice_set mems n after) (Sign m b) ≡ state_in (buffers_of l) mems (Sign m b)
        go false e = ap (λ (mem : List Slot). option_and_then (λ (j : ℕ). sign_of (held_at mem j)) (number_in (buffers_of l) b)) (elsewhere m (not_equal m e))
        go true e =
            subst (λ (i : ℕ). state_in (buffers_of l) (slice_set mems n after) (Sign i b) ≡ state_in (buffers_of l) mems (Sign i b)) (sym (eqb-true m n e))
            (ap (λ (mem : List Slot). option_and_then (λ (j : ℕ). sign_of (held_at mem j)) (number_in (buffers_of l) b)) here
            ∙ ap (λ (f : ℕ → Option ℕ). option_and_then f (number_in (buffers_of l) b)) (fun_ext same_sign))

    pub leaves_rest : state_in (buffers_of l) (slice_set mems n after) ≡ with_own l k n (cells_in after slots) (state_in (buffers_of l) mems)
    leaves_rest = fun_ext cell_left
