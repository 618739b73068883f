use Rattle.std.proofs.Common.{◌≡◌, ◌∙◌, ℕ, get_or, Some, arith, sym, ap}
use Rattle.std.specs.List.{position_or_len}
use Rattle.dt_index.specs.Form.{is_assignment}
use Rattle.dt_index.specs.declared.symbol_list.Symbol.{Symbol}
use Rattle.dt_index.proofs.PartFacts.{find_none, find_at_place}
use Rattle.dt_index.proofs.form_reading.parted_at_assignment.Goals as goal

pub returns-then-at-symbols-clause-sign : goal.returns-then-at-symbols-clause-sign
returns-then-at-symbols-clause-sign c = sym (find_none is_assignment c.args.symbols.now (omega (arith, c.before_assignment-at.ensures.place)))

pub returns-clause-sign : goal.returns-clause-sign
returns-clause-sign c =
    let ss = c.args.symbols.now in
    let k = c.before_assignment-at.result in
    let d = c.index-symbols-at.result in
    let e : k ≡ position_or_len is_assignment ss = c.before_assignment-at.ensures.place in
    ap (λ (x : Symbol). Some x) c.index-symbols-at.is ∙ ap (λ (i : ℕ). Some (get_or ss i d)) e ∙ sym (find_at_place is_assignment d ss (omega (arith, e)))
