use Rattle.std.proofs.Common.{◌≡◌, ◌∙◌, List, ◌∷◌, take, ◌+◌, arith, sym, ap, subst}
use Rattle.std.specs.List.{position_or_len}
use Rattle.std.proofs.lemmas.List.{take_rest}
use Rattle.dt_index.specs.Form.{factor_parts, is_times}
use Rattle.dt_index.specs.declared.symbol_list.Symbol.{Symbol}
use Rattle.dt_index.proofs.PartFacts.{one_factor, first_factor, FirstFactor}
use Rattle.dt_index.proofs.form_reading.parted_at_times.Goals as goal

pub returns-then-at-symbols-clause-alone : goal.returns-then-at-symbols-clause-alone
returns-then-at-symbols-clause-alone c = one_factor c.args.symbols.now (omega (arith, c.before_times-at.ensures.place))

pub returns-clause-parts : goal.returns-clause-parts
returns-clause-parts c =
    let ss = c.args.symbols.now in
    let k = c.before_times-at.result in
    let e : k ≡ position_or_len is_times ss = c.before_times-at.ensures.place in
    let first : FirstFactor ss k = subst (FirstFactor ss) (sym e) (first_factor ss (omega (arith, e))) in
    first ∙ ap (λ (r : List Symbol). take k ss ∷ factor_parts r) (sym (take_rest ss (k + 1)))
