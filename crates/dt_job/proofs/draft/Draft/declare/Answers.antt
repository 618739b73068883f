use Rattle.std.proofs.Common.{◌<◌, length, refl, subst, sym, ap, ◌∙◌}
use Rattle.dt_job.specs.contracts.draft.Draft.{the_view}
use Rattle.dt_job.specs.Drafts.{DraftView}
use Rattle.dt_job.specs.Phases.{takes_declaration}
use Rattle.dt_job.proofs.ContentFacts.{declared_draft}
use Rattle.dt_job.proofs.JobTensorFacts.{job_stored}
use Rattle.dt_job.proofs.draft.Draft.declare.Goals as goal

pub invariant_of-self-2 : goal.invariant_of-self-2
invariant_of-self-2 c =
    declared_draft (the_view c.self.inside) c.args.name _ c.add.new.self (ap (λ (d : DraftView). takes_declaration d.phase) c.self.view_is ∙ c.requires.early)
    (let P : DraftView → Type 0 = λ d. length d.tensors < 32 in subst P (sym c.self.view_is) c.requires.few) c.self.invariant refl (job_stored c.args.tensor c.requires.lawful) c.in_ok-add.ensures.ok c.in_ok-add.ensures.differ
