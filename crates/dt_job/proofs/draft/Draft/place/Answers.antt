use Rattle.std.proofs.Common.{ap, ◌∙◌, sym, subst}
use Rattle.dt_job.specs.Contents.{Contents}
use Rattle.dt_job.specs.contracts.draft.Draft.{the_view}
use Rattle.dt_job.specs.Drafts.{DraftView, FitsMachine, IsDraft}
use Rattle.dt_job.specs.Phases.{takes_declaration}
use Rattle.dt_job.proofs.ContentFacts.{placed_draft}
use Rattle.dt_job.proofs.draft.Draft.place.Goals as goal

pub invariant_of-self : goal.invariant_of-self
invariant_of-self c =
    let P : Contents → Type 0 = λ ts. IsDraft (record (the_view c.self.inside) { tensors = ts }) in
    let F : DraftView → Type 0 = λ d. FitsMachine d.machine c.args.placement in
    subst P (sym c.place.ensures)
    (placed_draft (the_view c.self.inside) c.args.at c.args.placement (ap (λ (d : DraftView). takes_declaration d.phase) c.self.view_is ∙ c.requires.early) (subst F (sym c.self.view_is) c.requires.lawful) c.self.invariant)
