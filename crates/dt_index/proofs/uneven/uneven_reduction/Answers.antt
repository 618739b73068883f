use Rattle.std.proofs.Common.{◌∙◌, ap, List, ℕ, None, Some}
use Rattle.std.specs.List.{list_all}
use Rattle.dt_model.specs.declared.cause.Cause.TheVariants as cause
use Rattle.dt_index.specs.Resolve.{term_has}
use Rattle.dt_index.specs.declared.form.NamedTerm.{NamedTerm}
use Rattle.dt_index.proofs.SetFacts.{uneven_found}
use Rattle.dt_index.proofs.uneven.uneven_reduction.Goals as goal

pub returns-in-None : goal.returns-in-None
returns-in-None c =
    uneven_found c.args.form.now c.args.variables.now c.as_slice-2.result.now c.in_ok-common.common None c.as_slice-2.ensures
    (λ v. c.in_ok-common.ensures v ∙ ap (λ (ts : List NamedTerm). list_all (term_has v) ts) c.as_slice.ensures) c.in-None.ensures

pub returns : goal.returns
returns c =
    ap (λ (n : List ℕ). Some (cause.UnevenReduction n)) c.copied.ensures
    ∙ uneven_found c.args.form.now c.args.variables.now c.as_slice-2.result.now c.in_ok-common.common (Some c.in-Some.variable.now) c.as_slice-2.ensures
    (λ v. c.in_ok-common.ensures v ∙ ap (λ (ts : List NamedTerm). list_all (term_has v) ts) c.as_slice.ensures) c.in-Some.ensures
