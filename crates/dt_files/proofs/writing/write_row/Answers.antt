use Rattle.std.proofs.Common.{◌≡◌, ◌<◌, ◌≤◌, ◌++◌, ◌∷◌, [], ◌∙◌, ℕ, List, length, get_or, take, ap, sym, arith}
use Rattle.std.specs.Fmt.{decimal}
use Rattle.dt_model.specs.Positions.{coords_at}
use Rattle.dt_tensor.specs.Packed.{stored_of}
use Rattle.dt_tensor.proofs.IndexNumbers.{coords_length}
use Rattle.dt_files.specs.Written.{row_text}
use Rattle.dt_files.proofs.RowLemmas.{level_more, row_end}
use Rattle.dt_files.proofs.writing.write_row.Goals as goal

pub loop-level-preserved : goal.loop-level-preserved
loop-level-preserved c =
    let long = coords_length (stored_of c.args.tensor.now) c.args.pos c.requires.packed.stored c.requires.within in
    let room : c.loop-level.level < length (coords_at (stored_of c.args.tensor.now) c.args.pos) = omega (arith, long, c.requires.order) in
    c.in_ok-append.ensures.ok ∙ ap (λ (l : List ℕ). l ++ 44 ∷ []) (c.in_ok-append_number.ensures.ok ∙ ap (λ (l : List ℕ). l ++ decimal c.coord.result) c.loop-level.invariant)
    ∙ level_more c.args.text.now (coords_at (stored_of c.args.tensor.now) c.args.pos) c.loop-level.level c.coord.result room c.coord.ensures

pub returns : goal.returns
returns c =
    let long = coords_length (stored_of c.args.tensor.now) c.args.pos c.requires.packed.stored c.requires.within in
    c.in_ok-append-2.ensures.ok ∙ ap (λ (l : List ℕ). l ++ 10 ∷ []) (c.in_ok-append_number-2.ensures.ok ∙ ap (λ (l : List ℕ). l ++ decimal c.value.result) c.loop-level.invariant)
    ∙ row_end c.args.text.now (coords_at (stored_of c.args.tensor.now) c.args.pos) c.loop-level.level c.value.result (omega (arith, long, c.requires.order))
    ∙ ap (λ (v : ℕ). c.args.text.now ++ row_text (coords_at (stored_of c.args.tensor.now) c.args.pos) v) c.value.ensures
