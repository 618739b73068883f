use Rattle.std.proofs.Common.{◌≡◌, length}
use Rattle.dt_model.proofs.Fronts.{with_front}
use Rattle.dt_index.specs.Form.{term_parts, terms_in}
use Rattle.dt_index.proofs.form_reading.read_terms.Given as goal

abbrev pub invariant-loop-terms : goal.invariant-loop-terms
invariant-loop-terms l = with_front l.terms (terms_in (term_parts l.minus l.rest)) ≡ terms_in (term_parts l.fn.minus l.symbols)

abbrev pub decreases-loop-terms : goal.decreases-loop-terms
decreases-loop-terms l = length l.rest
