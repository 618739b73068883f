use Rattle.std.proofs.Common.{◌≡◌, ◌≤◌, ◌<◌, ℕ, List, length, take, sym, ◌∙◌, subst, arith, rules}
use Rattle.dt_base.proofs.Assignments.{length-assignments}
use Rattle.dt_model.specs.Positions.{StoredTensor, IsStored}
use Rattle.dt_model.specs.Shape.{dims}
use Rattle.dt_model.proofs.ShapeFacts.{shape_facts}
use Rattle.dt_tensor.proofs.DenseTensors.{IsStored-dense}
use Rattle.dt_tensor.proofs.PackFacts.{asked_dense, levels_match}
use Rattle.dt_tensor.proofs.packing.levels_for.Goals as goal

pub returns-then-count-gt-MOST_STORED : goal.returns-then-count-gt-MOST_STORED
returns-then-count-gt-MOST_STORED c = λ entries given inside.
    let order : c.args.shape.order ≤ length c.args.compressed = first_of (omega (arith, (shape_facts c.args.shape c.requires.shape).order), search rules) in
    let none : c.depth_of-depth.result ≡ 0 = omega arith in
    let dense = asked_dense (dims c.args.shape) (take c.args.shape.order c.args.compressed) entries (levels_match c.args.shape c.args.compressed c.requires.shape order) (sym c.depth_of-depth.ensures ∙ none) in
    subst (λ (t : StoredTensor). 1048576 < length t.coords) dense (omega (arith, length-assignments (dims c.args.shape)))

pub returns : goal.returns
returns c = λ entries given inside.
    let order : c.args.shape.order ≤ length c.args.compressed = first_of (omega (arith, (shape_facts c.args.shape c.requires.shape).order), search rules) in
    let none : c.depth_of-depth.result ≡ 0 = omega arith in
    let dense = asked_dense (dims c.args.shape) (take c.args.shape.order c.args.compressed) entries (levels_match c.args.shape c.args.compressed c.requires.shape order) (sym c.depth_of-depth.ensures ∙ none) in (
      c.dense.ensures ∙ c.new.ensures ∙ dense,
      subst IsStored dense (IsStored-dense c.args.shape c.requires.shape),
      subst (λ (t : StoredTensor). length t.coords ≤ 1048576) dense (omega (arith, length-assignments (dims c.args.shape))),
    )
