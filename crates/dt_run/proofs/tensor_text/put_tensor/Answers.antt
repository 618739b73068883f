use Rattle.std.proofs.Common.{◌≡◌, ℕ, ◌/◌, List, ◌++◌, ◌∙◌, ap, length}
use Rattle.std.specs.Prelude.{codes}
use Rattle.std.proofs.lemmas.Result.{on_ok_weaker}
use Rattle.dt_model.specs.Shape.{dims}
use Rattle.dt_model.proofs.ShapeFacts.{shape_facts}
use Rattle.dt_refusal.specs.Refusals.{line_end}
use Rattle.dt_run.specs.TensorText.{cut_text, row_length, shape_text}
use Rattle.dt_run.proofs.RowFacts.{row_positive, tensor_whole}
use Rattle.dt_run.proofs.tensor_text.put_tensor.Goals as goal

pub put_rows-requires : goal.put_rows-requires
put_rows-requires c = rw (c.row_length.ensures, c.dims-2.ensures) (row_positive _ (shape_facts c.args.shape.now c.requires.shape).each)

pub returns : goal.returns
returns c =
    let row : c.row_length.result ≡ row_length (dims c.args.shape.now) = c.row_length.ensures ∙ ap row_length c.dims-2.ensures in
    on_ok_weaker c.put_rows.result
    (λ e. tensor_whole c.args.name.now (dims c.args.shape.now) c.args.values.now c.args.out.now c.put_head.new.out c.put_rows.new.out
    (shape_facts c.args.shape.now c.requires.shape).each c.requires.full
    (c.in_ok-put_head.ensures ∙ ap (λ (ns : List ℕ). c.args.out.now ++ (codes "tensor " ++ c.args.name.now ++ codes " " ++ shape_text ns ++ line_end)) c.dims.ensures)
    (e ∙ ap (λ (n : ℕ). c.put_head.new.out ++ cut_text (length c.args.values.now / n) n c.args.values.now) row))
    c.put_rows.ensures
