-- The last item of a run, from its last answer.
use Rattle.std.proofs.Common.{◌≡◌, ℕ, ◌+◌, true, length, Option, Some, None, sym, ap, ◌∙◌, subst}
use Rattle.std.specs.Prelude.{option_map, is_some}
use Rattle.dt_model.specs.Positions.{StoredTensor}
use Rattle.std.specs.Prelude.{List}
use Rattle.dt_nest.specs.declared.progress.Visit.TheVariants as v
use Rattle.dt_nest.specs.Schedule.{Schedule}
use Rattle.dt_nest.specs.Visits.{Item, IsReset, IsVisit}
use Rattle.dt_nest.specs.Run.{answer_of}
use Rattle.dt_nest.specs.Unit.{Sign, State, can_do, cleared_at, unit_of}
use Rattle.dt_leaf.specs.NodeWords.{CanDoLast, after_last}

-- the answer of a reset is that of a reset
pub reset_last : (last : Option Item) (work : ℕ) → Some (v.Reset work) ≡ option_map answer_of last → last ≡ Some (IsReset work)
reset_last None work e = absurd (cc)
reset_last (Some (IsReset w)) work e = (let same : work ≡ w = cc in ap (λ (z : ℕ). Some (IsReset z)) (sym same))
reset_last (Some (IsVisit visit)) work e = absurd (cc)

-- its workspace is present
pub reset_present : (stored : List StoredTensor) (s : Schedule) (state : State) (last : Option Item) (work : ℕ) → last ≡ Some (IsReset work) → CanDoLast stored s state last → is_some (state (Sign (length s.tensors + work))) ≡ true
unfolding can_do
reset_present stored s state last work e h = (subst (CanDoLast stored s state) e h).0

-- and becomes 0
pub reset_done : (stored : List StoredTensor) (s : Schedule) (state after : State) (last : Option Item) (work : ℕ) → last ≡ Some (IsReset work) → after ≡ cleared_at state (length s.tensors + work) → after ≡ after_last stored s last state
unfolding unit_of
reset_done stored s state after last work e h = h ∙ ap (λ (o : Option Item). after_last stored s o state) (sym e)
