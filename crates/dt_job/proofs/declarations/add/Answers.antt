use Rattle.std.proofs.Common.{◌∙◌, List, ℕ, ap}
use Rattle.std.specs.Str.{bytes_eq}
use Rattle.indexmap.specs.IndexMap.{insert_entry}
use Rattle.indexmap.proofs.CallerLemmas.{insert_entry-new}
use Rattle.dt_job.proofs.ContentFacts.{absent_name}
use Rattle.dt_job.proofs.declarations.add.Goals as goal

pub returns-clause-tensors : goal.returns-clause-tensors
returns-clause-tensors c =
    c.in_ok-insert.ensures.entries ∙ ap (λ (n : List ℕ). insert_entry bytes_eq c.args.tensors.now.entries n c.args.declared) c.copied.ensures
    ∙ insert_entry-new bytes_eq c.args.tensors.now c.args.name c.args.declared (absent_name c.args.name c.args.tensors.now.entries c.requires)
