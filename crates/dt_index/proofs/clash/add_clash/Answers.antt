use Rattle.std.proofs.Common.{◌≡◌, ◌∙◌, true, not, ap, List, ℕ, Option, sym}
use Rattle.std.specs.Prelude.{◌==◌, unwrap_or}
use Rattle.dt_index.specs.NameSets.{noted_extent, with_name}
use Rattle.dt_index.proofs.SetFacts.{chosen_name, differ_test}
use Rattle.dt_index.proofs.clash.add_clash.Goals as goal

pub returns-in_ok-insert : goal.returns-in_ok-insert
returns-in_ok-insert c = λ v.
    let first : c.unwrap_or.result ≡ noted_extent c.args.firsts.now c.args.occurrence.now.name = c.unwrap_or.ensures ∙ ap (λ (o : Option ℕ). unwrap_or o 0) c.get.ensures in
    let differs : not (c.args.occurrence.now.extent == noted_extent c.args.firsts.now c.args.occurrence.now.name) ≡ true = differ_test _ _ (λ e. c.if-occurrence-unwrap_or.true (e ∙ sym first)) in
    chosen_name (λ w. not (c.args.occurrence.now.extent == noted_extent c.args.firsts.now w)) c.args.clashing.now c.insert.new.self c.args.occurrence.now.name v differs
    (c.in_ok-insert.ensures.ok ∙ ap (λ (x : List ℕ). with_name c.args.clashing.now x) c.copied.ensures)
