use Rattle.std.proofs.Common.{◌<◌, ◌++◌, ◌∷◌, [], length, length-append, None, false, subst, sym, ap, ◌∙◌, arith}
use Rattle.dt_job.specs.Contents.{Content, Contents}
use Rattle.dt_job.proofs.ContentFacts.{named_more}
use Rattle.dt_job.proofs.declarations.Declarations.add.Goals as goal

pub invariant_of-self-2 : goal.invariant_of-self-2
invariant_of-self-2 c = (
  named_more c.self.inside.tensors.entries c.args.name c.new.result c.add.new.tensors.entries c.self.inside.names c.add.new.names c.self.invariant.0 c.in_ok-add.ensures.names c.in_ok-add.ensures.tensors,
  omega (arith, ap length c.in_ok-add.ensures.tensors, length-append c.self.inside.tensors.entries ((c.args.name, c.new.result) ∷ []), c.requires.few, ap length c.self.view_is),
)

pub returns-clause-ok : goal.returns-clause-ok
returns-clause-ok c =
    c.in_ok-add.ensures.tensors ∙ ap (λ (x : Content). c.self.inside.tensors.entries ++ (c.args.name, x) ∷ []) c.new.ensures
    ∙ ap (λ (d : Contents). d ++ (c.args.name, record { packed = c.args.tensor; given = false; placement = None }) ∷ []) c.self.view_is
