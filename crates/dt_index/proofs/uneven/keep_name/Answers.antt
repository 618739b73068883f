use Rattle.std.proofs.Common.{◌∙◌, ap, List, ℕ, sym}
use Rattle.dt_index.specs.NameSets.{among_common, with_name}
use Rattle.dt_index.proofs.SetFacts.{chosen_name}
use Rattle.dt_index.proofs.uneven.keep_name.Goals as goal

pub returns-in_ok-insert : goal.returns-in_ok-insert
returns-in_ok-insert c = λ v.
    chosen_name (among_common c.args.common.now) c.args.kept.now c.insert.new.self c.args.name.now v (sym c.is_common.ensures ∙ c.if-is_common.true)
    (c.in_ok-insert.ensures.ok ∙ ap (λ (x : List ℕ). with_name c.args.kept.now x) c.copied.ensures)
