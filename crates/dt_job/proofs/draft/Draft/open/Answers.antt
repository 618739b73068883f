use Rattle.std.proofs.Common.{◌<◌, length, ap, sym, subst, ◌∙◌}
use Rattle.dt_job.specs.contracts.draft.Draft.{the_view}
use Rattle.dt_job.specs.Drafts.{DraftView, IsScheduled, grid_of}
use Rattle.dt_job.specs.Phases.{knows_machine}
use Rattle.dt_job.proofs.ContentFacts.{opened_draft}
use Rattle.dt_job.proofs.draft.Draft.open.Goals as goal

pub invariant_of-self : goal.invariant_of-self
invariant_of-self c =
    opened_draft (the_view c.self.inside) c.args.scheduled c.enter.new.self (ap (λ (d : DraftView). knows_machine d.phase) c.self.view_is ∙ c.requires.machine)
    (let F : DraftView → Type 0 = λ d. length d.closed < 32 in subst F (sym c.self.view_is) c.requires.few)
    (let P : DraftView → Type 0 = λ d. IsScheduled (grid_of d.machine) d.tensors c.args.scheduled in subst P (sym c.self.view_is) c.requires.lawful)
    c.enter.ensures c.self.invariant
