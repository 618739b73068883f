-- The units of a task add its path's sum to the left tensor's scratch.
use Rattle.std.proofs.Common.{◌≡◌, ℕ, ◌+◌, ◌-◌, ◌%◌, ◌^◌, ◌≤◌, Bool, true, false, ◌&&◌, List, [], ◌∷◌, length, Option, Some, None, refl, sym, ap, ap₂, ◌∙◌, subst, ⊎_elim, eqb-true, arith, if◌then◌else◌}
use Rattle.std.specs.Prelude.{nat_eq, nat_lt, option_map, slice_get}
use Rattle.std.specs.Option.{option_and_then}
use Rattle.std.specs.List.{AllByRecursion}
use Rattle.std.proofs.lemmas.Bool.{and_parts, le-ltb}
use Rattle.dt_base.specs.Rows.{row_major}
use Rattle.dt_model.specs.Positions.{StoredTensor, place_in, tensor_at}
use Rattle.dt_nest.specs.declared.parts.Work.{Work}
use Rattle.dt_nest.specs.Schedule.{Schedule}
use Rattle.dt_nest.specs.Visits.{Item, IsReset, IsVisit}
use Rattle.dt_nest.specs.Unit as own
use Rattle.dt_bounds.specs.TaskUnits.{units_after, all_can}
use Rattle.dt_bounds.proofs.PathHeld.{ResetBelow}
use Rattle.dt_argument.proofs.OperationRuns.{and_then}
use Rattle.dt_argument.proofs.Shapes.{if_true, if_false}
use Rattle.dt_plan.specs.declared.parts.Part.{Part}
use Rattle.dt_plan.specs.Layouts.{Layout}
use Rattle.dt_plan.specs.Footprints.{buffer_by}
use Rattle.dt_events.specs.State.{Cell, Word, State, own_of, with_own}
use Rattle.dt_events.proofs.OwnCells.{IsOwn, IsOther, own_or_other, buffer_by_same}
use Rattle.dt_events.proofs.ListRuns.{run_all}
use Rattle.dt_events.proofs.OperationMoves.{item_step}

-- Signs stay -----------------------------------------------------------------------------------------------------------------

grown_signs : (st : own.State) (t : ℕ) (o : Option ℕ) (d u : ℕ) → own.grown_at st t o d (own.Sign u) ≡ st (own.Sign u)
grown_signs st t None d u = refl
grown_signs st t (Some w) d u = refl

-- a unit leaves the signs
unit_signs : (stored : List StoredTensor) (s : Schedule) (item : Item) (st : own.State) (u : ℕ) → own.unit_of stored s item st (own.Sign u) ≡ st (own.Sign u)
unfolding own.unit_of
unit_signs stored s (IsReset work) st u = refl
unit_signs stored s (IsVisit visit) st u = grown_signs st visit.leaf.lhs.tensor (own.written_by stored s visit) (own.added_by stored s st visit) u

-- What a task leaves -----------------------------------------------------------------------------------------------------------

module _ (l : Layout) (k n : ℕ) where
  -- a word that the task sees, after what it left
  left_word : (o : own.State) (st : State) (t w : ℕ) → with_own l k n o st (Word n (buffer_by l k t) w) ≡ o (own.Word t w)
  left_word o st t w =
      ⊎_elim
      (λ (q : IsOwn l k n st (Word n (buffer_by l k t) w)).
      let e : buffer_by l k t ≡ buffer_by l k q.tensor = buffer_part t w q.tensor q.word q.cell in
      let f : w ≡ q.word = word_part t w q.tensor q.word q.cell in
      q.given o ∙ ap₂ (λ u v. o (own.Word u v)) (sym (buffer_by_same l k t q.tensor e)) (sym f))
      (λ (q : IsOther l k n st (Word n (buffer_by l k t) w)). absurd (q.apart t w refl))
      (own_or_other l k n st (Word n (buffer_by l k t) w))
    where
      buffer_part : (t w u v : ℕ) → Word n (buffer_by l k t) w ≡ Word n (buffer_by l k u) v → buffer_by l k t ≡ buffer_by l k u
      buffer_part t w u v e = cc

      word_part : (t w u v : ℕ) → Word n (buffer_by l k t) w ≡ Word n (buffer_by l k u) v → w ≡ v
      word_part t w u v e = cc

  -- what the next unit sees
  seen_again : (o : own.State) (st : State) → ((u : ℕ) → o (own.Sign u) ≡ own_of l k n st (own.Sign u)) → own_of l k n (with_own l k n o st) ≡ o
  seen_again o st signs = λ i c. cell c i
    where
      cell : (c : own.Cell) → own_of l k n (with_own l k n o st) c ≡ o c
      cell (own.Word t w) = left_word o st t w
      cell (own.Sign t) = sym (signs t)

  -- what is left twice
  left_twice : (o q : own.State) (st : State) → with_own l k n q (with_own l k n o st) ≡ with_own l k n q st
  left_twice o q st = λ i c. cell c i
    where
      cell : (c : Cell) → with_own l k n q (with_own l k n o st) c ≡ with_own l k n q st c
      cell c =
          ⊎_elim
          (λ (h : IsOwn l k n st c).
          ap (with_own l k n q (with_own l k n o st)) h.cell ∙ left_word q (with_own l k n o st) h.tensor h.word ∙ sym (h.given q))
          (λ (h : IsOther l k n st c). other c h)
          (own_or_other l k n st c)
        where
          other : (c : Cell) → IsOther l k n st c → with_own l k n q (with_own l k n o st) c ≡ with_own l k n q st c
          other c h =
              ⊎_elim
              (λ (g : IsOwn l k n (with_own l k n o st) c). absurd (h.apart g.tensor g.word g.cell))
              (λ (g : IsOther l k n (with_own l k n o st) c). g.stays q ∙ h.stays o ∙ sym (h.stays q))
              (own_or_other l k n (with_own l k n o st) c)

  -- the units of a task run as they do on what it sees
  pub items_run : (p : Part) (items : List Item) (st : State) → all_can l.stored p.sched items (own_of l k n st) ≡ true
      → run_all (item_step l k n p) items st ≡ Some (with_own l k n (units_after l.stored p.sched items (own_of l k n st)) st)
  items_run p [] st h = ap Some (λ i c. same c i)
    where
      same : (c : Cell) → st c ≡ with_own l k n (own_of l k n st) st c
      same c =
          ⊎_elim
          (λ (q : IsOwn l k n st c). ap st q.cell ∙ sym (q.given (own_of l k n st)))
          (λ (q : IsOther l k n st c). sym (q.stays (own_of l k n st)))
          (own_or_other l k n st c)
  items_run p (item ∷ items) st h =
      let both = and_parts (own.can_do l.stored p.sched item (own_of l k n st)) (all_can l.stored p.sched items (own.unit_of l.stored p.sched item (own_of l k n st))) h in
      let o : own.State = own.unit_of l.stored p.sched item (own_of l k n st) in
      let again : own_of l k n (with_own l k n (own.unit_of l.stored p.sched item (own_of l k n st)) st) ≡ own.unit_of l.stored p.sched item (own_of l k n st) =
      seen_again (own.unit_of l.stored p.sched item (own_of l k n st)) st (unit_signs l.stored p.sched item (own_of l k n st)) in
      ap (λ x. and_then x (run_all (item_step l k n p) items))
      (if_true (own.can_do l.stored p.sched item (own_of l k n st)) (Some (with_own l k n (own.unit_of l.stored p.sched item (own_of l k n st)) st)) None both.0)
      ∙ items_run p items (with_own l k n (own.unit_of l.stored p.sched item (own_of l k n st)) st)
      (subst (λ (q : own.State). all_can l.stored p.sched items q ≡ true) (sym again) both.1)
      ∙ ap (λ (q : own.State). Some (with_own l k n (units_after l.stored p.sched items q) (with_own l k n (own.unit_of l.stored p.sched item (own_of l k n st)) st))) again
      ∙ ap Some (left_twice (own.unit_of l.stored p.sched item (own_of l k n st)) (units_after l.stored p.sched items (own.unit_of l.stored p.sched item (own_of l k n st))) st)

-- Without workspaces -----------------------------------------------------------------------------------------------------------

module _ (stored : List StoredTensor) (s : Schedule) (workless : s.works ≡ []) where
  -- there is no word but of tensors
  pub no_word : (t : ℕ) (c : List ℕ) → length s.tensors ≤ t → own.word_of stored s t c ≡ None
  no_word t c h =
      if_false (nat_lt t (length s.tensors)) (place_in (tensor_at stored t) c) (option_and_then (λ (w : Work). row_major w.extents c) (slice_get s.works (t - length s.tensors))) (le-ltb t (length s.tensors) h)
      ∙ ap (λ (ws : List Work). option_and_then (λ (w : Work). row_major w.extents c) (slice_get ws (t - length s.tensors))) workless

  -- so no unit changes another
  unit_others : (item : Item) → ResetBelow (length s.works) item → (st : own.State) (t w : ℕ) → length s.tensors ≤ t → own.unit_of stored s item st (own.Word t w) ≡ st (own.Word t w)
  unfolding own.unit_of
  unit_others (IsReset work) below st t w h = let e : length s.works ≡ 0 = ap (λ (ws : List Work). length ws) workless in absurd (omega (arith, below, e))
  unit_others (IsVisit visit) below st t w h = go (own.written_by stored s visit) (λ e. no_word visit.leaf.lhs.tensor _ e)
    where
      go : (o : Option ℕ) → (length s.tensors ≤ visit.leaf.lhs.tensor → o ≡ None) → own.grown_at st visit.leaf.lhs.tensor o (own.added_by stored s st visit) (own.Word t w) ≡ st (own.Word t w)
      go None e = refl
      go (Some j) e = test (nat_eq t visit.leaf.lhs.tensor) (eqb-true t visit.leaf.lhs.tensor)
        where
          test : (b : Bool) → (b ≡ true → t ≡ visit.leaf.lhs.tensor)
              → (if b && nat_eq w j then option_map (λ x. (x + own.added_by stored s st visit) % 2 ^ 64) (st (own.Word t w)) else st (own.Word t w)) ≡ st (own.Word t w)
          test true f = let g : Some j ≡ None = e (subst (λ (u : ℕ). length s.tensors ≤ u) (f refl) h) in absurd (cc)
          test false f = refl

  -- nor do all units of a task
  pub items_others : (items : List Item) → AllByRecursion (ResetBelow (length s.works)) items → (st : own.State) (t w : ℕ) → length s.tensors ≤ t → units_after stored s items st (own.Word t w) ≡ st (own.Word t w)
  items_others [] below st t w h = refl
  items_others (item ∷ items) below st t w h = items_others items below.1 (own.unit_of stored s item st) t w h ∙ unit_others item below.0 st t w h
