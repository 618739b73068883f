use Rattle.std.proofs.Common.{ap, ◌∙◌}
use Rattle.dt_job.specs.contracts.draft.Draft.{the_view}
use Rattle.dt_job.specs.Drafts.{DraftView}
use Rattle.dt_job.specs.Phases.{takes_machine}
use Rattle.dt_job.proofs.ContentFacts.{machine_draft}
use Rattle.dt_job.proofs.draft.Draft.take_machine.Goals as goal

pub invariant_of-self : goal.invariant_of-self
invariant_of-self c = machine_draft (the_view c.self.inside) c.args.machine c.enter.new.self (ap (λ (d : DraftView). takes_machine d.phase) c.self.view_is ∙ c.requires) c.enter.ensures c.self.invariant
