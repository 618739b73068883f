-- A split without a cause is a cut, and keeps the sum below it.
use Rattle.std.proofs.Common.{◌≡◌, List, [], ◌∷◌, None, arith}
use Rattle.std.specs.Prelude.{slice_index}
use Rattle.std.specs.Int.{div_ceil}
use Rattle.std.proofs.lemmas.Grind.{div_ceil_times}
use Rattle.dt_model.specs.Positions.{StoredTensor}
use Rattle.dt_nest.specs.Schedule.{Schedule}
use Rattle.dt_nest.specs.World.{world_of}
use Rattle.dt_nest.specs.Lawful.{IsLawful}
use Rattle.dt_cuts.specs.Cutting.{IsCut, KeepsBelow}
use Rattle.dt_rewrite.specs.declared.splits.Split.{Split}
use Rattle.dt_rewrite.specs.Splits.{split_cause, split_cut, split_effect}
use Rattle.dt_cuts.proofs.Stands.{loop_below}
use Rattle.dt_rewrite.specs.Laws.TwoLoops.{legal_two, two_loops_cut, two_loops_keep}

-- a split without a cause is a cut
pub split_is_cut : (c : Split) (s : Schedule) → IsLawful s → split_cause c s ≡ None → IsCut s (split_cut c s)
split_is_cut c s law h =
    let l = legal_two s c.var c.factor (c.outer ∷ c.inner ∷ []) law h in
    two_loops_cut s c.var (div_ceil (slice_index s.extents c.var) c.factor) c.factor c.outer c.inner law l.known l.free l.room l.differ

-- its loops add what the one added
pub split_keeps_below : (c : Split) (s : Schedule) → IsLawful s → split_cause c s ≡ None → (stored : List StoredTensor) → KeepsBelow (world_of stored (split_effect c s)) (split_cut c s)
split_keeps_below c s law h stored =
    let l = legal_two s c.var c.factor (c.outer ∷ c.inner ∷ []) law h in
    let n = slice_index s.extents c.var in
    two_loops_keep stored s c.var (div_ceil n c.factor) c.factor c.outer c.inner law (loop_below s c.var s.nest law.named l.known) (div_ceil_times n c.factor (omega (arith, l.number))).0
