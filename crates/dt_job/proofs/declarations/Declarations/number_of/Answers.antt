use Rattle.std.proofs.Common.{◌∙◌, ap}
use Rattle.dt_index.specs.Known.{place_of}
use Rattle.dt_job.specs.Contents.{Contents, known_of}
use Rattle.dt_job.proofs.ContentFacts.{place_known}
use Rattle.dt_job.proofs.declarations.Declarations.number_of.Goals as goal

pub returns-in-None-clause-number : goal.returns-in-None-clause-number
returns-in-None-clause-number c =
    c.in-None.ensures.index ∙ place_known c.args.name.now c.self.inside.tensors.entries ∙ ap (λ (d : Contents). place_of c.args.name.now (known_of d)) c.self.view_is

pub returns-in-Some-clause-number : goal.returns-in-Some-clause-number
returns-in-Some-clause-number c =
    c.in-Some.ensures.index ∙ place_known c.args.name.now c.self.inside.tensors.entries ∙ ap (λ (d : Contents). place_of c.args.name.now (known_of d)) c.self.view_is
