use Rattle.std.proofs.Common.{sym, ◌∙◌}
use Rattle.dt_job.specs.contracts.draft.Draft.{the_view}
use Rattle.dt_job.proofs.ContentFacts.{open_facts, rested_draft}
use Rattle.dt_job.proofs.draft.Draft.close.Goals as goal

pub invariant_of-self : goal.invariant_of-self
invariant_of-self c =
    rested_draft (the_view c.self.inside) c.push.new.self.items c.replace.new.dest (open_facts (the_view c.self.inside) c.in-Open.scheduled (sym c.replace.ensures.value ∙ c.in-Open.is) c.self.invariant).known
    c.in_err-push-in-Open.ensures.items c.replace.ensures.after c.self.invariant
