use Rattle.std.proofs.Common.{◌++◌, ap, sym, ◌∙◌}
use Rattle.dt_runs.proofs.BoxLemmas.{inner_box, inner_box-zero, box_numbers-empty}
use Rattle.dt_runs.proofs.runs.Runs.of_box.Goals as goal

pub returns-then-is_empty_box : goal.returns-then-is_empty_box
returns-then-is_empty_box c =
    c.empty-runs.ensures ∙ sym (box_numbers-empty c.args.extents.now c.args.lo.now c.args.hi.now (sym c.is_empty_box.ensures ∙ c.if-is_empty_box.true))

pub returns : goal.returns
returns c =
    c.in_ok-push_box.ensures.ok
    ∙ ap (λ ks. ks ++ inner_box 0 c.args.extents.now c.args.lo.now c.args.hi.now) c.empty-runs.ensures
    ∙ inner_box-zero c.args.extents.now c.args.lo.now c.args.hi.now
