use Rattle.std.proofs.Common.{ℕ, List, refl, ap, sym, subst, ◌∙◌}
use Rattle.dt_text.specs.Tokens.{tokens_of}
use Rattle.dt_place.specs.Machines.{dims_of}
use Rattle.dt_schedule.specs.Commands.{command_line}
use Rattle.dt_job.specs.Contents.{stored_of_all}
use Rattle.dt_job.specs.Stops.{Says}
use Rattle.dt_job.specs.contracts.draft.Draft.{the_view}
use Rattle.dt_job.specs.Drafts.{DraftView, IsScheduled, grid_of}
use Rattle.dt_job.specs.Phases.{open_stmt}
use Rattle.dt_job.specs.declared.phases.Phase.TheVariants as phases
use Rattle.dt_job.proofs.CommandFacts.{commanded, none_open, not_known, not_open}
use Rattle.dt_job.proofs.ContentFacts.{open_facts, opened_draft}
use Rattle.dt_job.proofs.draft.Draft.command.Goals as goal

pub returns-in_default : goal.returns-in_default
returns-in_default c = not_known c.args.self.now c.args.text.now (ap (λ (d : DraftView). d.machine) (sym c.self.view_is) ∙ c.in_default.is)

pub returns-in_default-phase : goal.returns-in_default-phase
returns-in_default-phase c = not_open c.args.self.now c.args.text.now (ap (λ (d : DraftView). open_stmt d.phase) (sym c.self.view_is) ∙ none_open c.self.inside.phase c.in_default-phase.not-Open)

pub command-requires-clause-lawful : goal.command-requires-clause-lawful
command-requires-clause-lawful c =
    let L : List ℕ → Type 0 = λ grid. IsScheduled grid c.self.inside.declared c.in-Open.scheduled in
    subst L (ap grid_of c.in-Some.is ∙ sym c.dims.ensures.dims) (open_facts (the_view c.self.inside) c.in-Open.scheduled c.in-Open.is c.self.invariant).lawful

pub invariant_of-self-2 : goal.invariant_of-self-2
invariant_of-self-2 c =
    let facts = open_facts (the_view c.self.inside) c.in-Open.scheduled c.in-Open.is c.self.invariant in
    let L : List ℕ → Type 0 = λ grid. IsScheduled grid c.self.inside.declared c.command.new.self in
    opened_draft (the_view c.self.inside) c.command.new.self (phases.Open c.command.new.self) facts.known facts.few (subst L (c.dims.ensures.dims ∙ sym (ap grid_of c.in-Some.is)) c.command.ensures.lawful) refl c.self.invariant

pub returns : goal.returns
returns c =
    let A : DraftView → Type 0 = λ d. Says (λ _. c.command.new.self.sched) c.command.result (command_line c.in-Open.scheduled.sched (dims_of c.in-Some.machine) (stored_of_all d.tensors) (tokens_of c.args.text.now)) in
    commanded c.args.self.now c.args.text.now _ c.in-Open.scheduled c.command.new.self c.in-Some.machine c.command.result
    (ap (λ (d : DraftView). d.phase) (sym c.self.view_is) ∙ c.in-Open.is)
    (ap (λ (d : DraftView). d.machine) (sym c.self.view_is) ∙ c.in-Some.is)
    c.command.ensures.others
    (ap (λ (d : DraftView). record d { phase = phases.Open c.command.new.self }) c.self.view_is)
    (subst A c.self.view_is (rw (← c.dims.ensures.dims) c.command.ensures.answers))
