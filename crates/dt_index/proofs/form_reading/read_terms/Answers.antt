use Rattle.std.proofs.Common.{◌∙◌, ◌∷◌, sym, ap, Bool}
use Rattle.dt_index.specs.Form.{is_minus, term_parts}
use Rattle.dt_index.proofs.FormSteps.{first_term_stops, term_goes_on, term_ends}
use Rattle.dt_index.proofs.form_reading.read_terms.Goals as goal

pub returns-in-None : goal.returns-in-None
returns-in-None c = term_ends c.loop-terms.terms _ (term_parts c.loop-terms.minus c.loop-terms.rest.now) (record { minus = c.loop-terms.minus; symbols = c.loop-terms.rest.now }) c.in_ok-factors-in-None.factors _ c.loop-terms.invariant (c.in-None.ensures.alone c.loop-terms.minus) c.in_ok-factors-in-None.ensures c.in_ok-push-in-None.ensures.ok

pub returns-in-Err : goal.returns-in-Err
returns-in-Err c = first_term_stops c.loop-terms.terms c.loop-terms.minus (is_minus c.in-Some.sign.now) c.loop-terms.rest.now c.in-Some.front.now c.in-Some.behind.now c.in-Err.end _ c.loop-terms.invariant c.in-Some.ensures.parts c.in-Err.ensures

pub loop-terms-preserved : goal.loop-terms-preserved
loop-terms-preserved c = term_goes_on c.loop-terms.terms _ (term_parts c.loop-terms.minus c.loop-terms.rest.now) (term_parts c.is_minus-minus.result c.in-Some.behind.now) (record { minus = c.loop-terms.minus; symbols = c.in-Some.front.now }) c.in-Ok.factors _ c.loop-terms.invariant
    (c.in-Some.ensures.parts c.loop-terms.minus ∙ ap (λ (m : Bool). record { minus = c.loop-terms.minus; symbols = c.in-Some.front.now } ∷ term_parts m c.in-Some.behind.now) (sym c.is_minus-minus.ensures)) c.in-Ok.ensures c.in_ok-push-in-Ok.ensures.ok
