use Rattle.std.proofs.Common.{◌∙◌, ap, List, ℕ}
use Rattle.dt_index.specs.NameSets.{with_name}
use Rattle.dt_index.proofs.NameFacts.{joined_name}
use Rattle.dt_index.proofs.numbering.add_new.Goals as goal

pub loop-name-preserved : goal.loop-name-preserved
loop-name-preserved c = λ vs h.
    joined_name vs c.args.more.now c.loop-name.name-index c.name-item.result c.loop-name.names c.insert.new.self c.loop-name-test.true c.name-item.is (c.loop-name.invariant vs h)
    (c.in_ok-insert.ensures.ok ∙ ap (λ (v : List ℕ). with_name c.loop-name.names v) c.copied.ensures)
