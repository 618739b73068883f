-- A divide without a cause is a cut, and keeps the sum below it.
use Rattle.std.proofs.Common.{◌≡◌, ◌*◌, ◌≤◌, List, [], ◌∷◌, None, arith}
use Rattle.std.specs.Prelude.{slice_index}
use Rattle.std.specs.Int.{div_ceil}
use Rattle.std.proofs.Math.Nat.{mul_comm}
use Rattle.std.proofs.lemmas.Grind.{div_ceil_times}
use Rattle.dt_model.specs.Positions.{StoredTensor}
use Rattle.dt_nest.specs.Schedule.{Schedule}
use Rattle.dt_nest.specs.World.{world_of}
use Rattle.dt_nest.specs.Lawful.{IsLawful}
use Rattle.dt_cuts.specs.Cutting.{IsCut, KeepsBelow}
use Rattle.dt_rewrite.specs.declared.divides.Divide.{Divide}
use Rattle.dt_rewrite.specs.Divides.{divide_cause, divide_cut, divide_effect}
use Rattle.dt_cuts.proofs.Stands.{loop_below}
use Rattle.dt_rewrite.specs.Laws.TwoLoops.{legal_two, two_loops_cut, two_loops_keep}

-- a divide without a cause is a cut
pub divide_is_cut : (c : Divide) (s : Schedule) → IsLawful s → divide_cause c s ≡ None → IsCut s (divide_cut c s)
divide_is_cut c s law h =
    let l = legal_two s c.var c.pieces (c.outer ∷ c.inner ∷ []) law h in
    two_loops_cut s c.var c.pieces (div_ceil (slice_index s.extents c.var) c.pieces) c.outer c.inner law l.known l.free l.room l.differ

-- its loops add what the one added
pub divide_keeps_below : (c : Divide) (s : Schedule) → IsLawful s → divide_cause c s ≡ None → (stored : List StoredTensor) → KeepsBelow (world_of stored (divide_effect c s)) (divide_cut c s)
divide_keeps_below c s law h stored =
    let l = legal_two s c.var c.pieces (c.outer ∷ c.inner ∷ []) law h in
    let n = slice_index s.extents c.var in
    let q = div_ceil_times n c.pieces (omega (arith, l.number)) in
    let reach : n ≤ c.pieces * div_ceil n c.pieces = omega (arith, q.0, mul_comm c.pieces (div_ceil n c.pieces)) in
    two_loops_keep stored s c.var c.pieces (div_ceil n c.pieces) c.outer c.inner law (loop_below s c.var s.nest law.named l.known) reach
