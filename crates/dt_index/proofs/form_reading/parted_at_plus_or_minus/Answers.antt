use Rattle.std.proofs.Common.{◌≡◌, ◌∙◌, List, ◌∷◌, length, take, drop, get_or, ◌+◌, ◌-◌, arith, sym, ap, subst}
use Rattle.std.specs.List.{position_or_len}
use Rattle.std.proofs.lemmas.List.{take_rest}
use Rattle.dt_index.specs.Form.{term_parts, is_minus, is_plus_or_minus}
use Rattle.dt_index.specs.declared.symbol_list.Symbol.{Symbol}
use Rattle.dt_index.proofs.PartFacts.{one_term, first_term, FirstTerm}
use Rattle.dt_index.proofs.form_reading.parted_at_plus_or_minus.Goals as goal

pub returns-then-at-symbols-clause-alone : goal.returns-then-at-symbols-clause-alone
returns-then-at-symbols-clause-alone c = λ m. one_term m c.args.symbols.now (omega (arith, c.before_plus_or_minus-at.ensures.place))

pub returns-clause-parts : goal.returns-clause-parts
returns-clause-parts c = λ m.
    let ss = c.args.symbols.now in
    let k = c.before_plus_or_minus-at.result in
    let d = c.index-symbols-at.result in
    let e : k ≡ position_or_len is_plus_or_minus ss = c.before_plus_or_minus-at.ensures.place in
    let first : FirstTerm m ss d k = subst (FirstTerm m ss d) (sym e) (first_term m d ss (omega (arith, e))) in
    first ∙ ap (λ (r : List Symbol). record { minus = m; symbols = take k ss } ∷ term_parts (is_minus (get_or ss k d)) r) (sym (take_rest ss (k + 1)))
    ∙ ap (λ (x : Symbol). record { minus = m; symbols = take k ss } ∷ term_parts (is_minus x) (take (length ss - (k + 1)) (drop (k + 1) ss))) (sym c.index-symbols-at.is)
