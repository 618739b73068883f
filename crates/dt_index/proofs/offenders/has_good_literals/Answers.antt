use Rattle.std.proofs.Common.{◌∙◌, Bool, List, not, ap}
use Rattle.std.specs.List.{list_any}
use Rattle.dt_index.specs.Resolve.{is_bad_literal}
use Rattle.dt_index.specs.declared.form.NamedTerm.{NamedTerm}
use Rattle.dt_index.proofs.offenders.has_good_literals.Goals as goal

pub returns : goal.returns
returns c =
    ap (λ (b : Bool). not b) c.some_term_is_bad.ensures
    ∙ ap (λ (ts : List NamedTerm). not (list_any (λ (t : NamedTerm). list_any is_bad_literal t.factors) ts)) c.as_slice.ensures
