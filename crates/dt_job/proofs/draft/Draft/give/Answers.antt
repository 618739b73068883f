use Rattle.std.proofs.Common.{ap, ◌∙◌, sym, subst}
use Rattle.dt_job.specs.Contents.{Contents}
use Rattle.dt_job.specs.contracts.draft.Draft.{the_view}
use Rattle.dt_job.specs.Drafts.{DraftView, IsDraft}
use Rattle.dt_job.specs.Phases.{takes_declaration}
use Rattle.dt_job.proofs.ContentFacts.{given_draft}
use Rattle.dt_job.proofs.draft.Draft.give.Goals as goal

pub invariant_of-self : goal.invariant_of-self
invariant_of-self c =
    let P : Contents → Type 0 = λ ts. IsDraft (record (the_view c.self.inside) { tensors = ts }) in
    subst P (sym c.give.ensures) (given_draft (the_view c.self.inside) c.args.at c.args.values.items (ap (λ (d : DraftView). takes_declaration d.phase) c.self.view_is ∙ c.requires.early) c.self.invariant)
