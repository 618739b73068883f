use Rattle.std.proofs.Common.{◌≡◌, ◌<◌, ◌≤◌, ◌++◌, ◌∙◌, ℕ, List, length, ap, sym, arith}
use Rattle.dt_model.specs.Positions.{coords_at}
use Rattle.dt_tensor.specs.Packed.{stored_of}
use Rattle.dt_files.specs.Written.{row_text}
use Rattle.std.specs.Prelude.{slice_index}
use Rattle.dt_files.proofs.RowLemmas.{row_more, rows_end}
use Rattle.dt_files.proofs.writing.write_rows.Goals as goal

pub loop-pos-preserved : goal.loop-pos-preserved
loop-pos-preserved c =
    c.in_ok-write_row.ensures ∙ ap (λ (l : List ℕ). l ++ row_text (coords_at (stored_of c.args.tensor.now) c.loop-pos.pos) (slice_index c.args.tensor.now.values c.loop-pos.pos)) c.loop-pos.invariant
    ∙ row_more c.args.tensor.now c.loop-pos.pos c.shape-order.ensures.packed.full (omega (arith, c.stored-pos-end.ensures.count))

pub returns : goal.returns
returns c = c.loop-pos.invariant ∙ rows_end c.args.tensor.now c.loop-pos.pos c.shape-order.ensures.packed.full (omega (arith, c.stored-pos-end.ensures.count))
