use Rattle.std.proofs.Common.{length, ap, ◌∙◌, arith}
use Rattle.dt_job.specs.Contents.{Contents, with_values}
use Rattle.dt_job.proofs.ContentFacts.{content_at, count_kept, given_tensors, named_kept}
use Rattle.dt_job.proofs.declarations.Declarations.give.Goals as goal

pub invariant_of-self : goal.invariant_of-self
invariant_of-self c = (
  named_kept c.self.inside.tensors.entries c.args.at c.give.new.self c.self.inside.names c.self.invariant.0,
  omega (arith, count_kept c.self.inside.tensors.entries c.args.at c.give.new.self, c.self.invariant.1),
)

pub returns : goal.returns
returns c =
    given_tensors c.self.inside.tensors.entries c.args.at c.index_mut.result.now c.give.new.self c.args.values.items
    (content_at c.self.inside.tensors.entries c.args.at c.index_mut.result.now c.index_mut.ensures.value) c.give.ensures
    ∙ ap (λ (d : Contents). with_values d c.args.at c.args.values.items) c.self.view_is
