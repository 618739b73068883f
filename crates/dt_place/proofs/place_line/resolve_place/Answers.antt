use Rattle.std.proofs.Common.{◌≡◌, List, ℕ, Bool, true, sym, ap, ◌∙◌}
use Rattle.dt_place.specs.PlaceLine.{have_dims, symbols_of}
use Rattle.dt_place.proofs.PlaceFacts.{symbols-fit}
use Rattle.dt_place.proofs.place_line.resolve_place.Goals as goal

pub returns-clause-lawful : goal.returns-clause-lawful
returns-clause-lawful c =
    symbols-fit c.as_slice-letters.result.now c.as_slice.result.now c.args.machine.now.levels c.in_ok-symbols.symbols (sym c.has_levels.ensures ∙ c.if-not-has_levels.false)
    (ap (λ (l : List (List ℕ)). symbols_of c.as_slice-letters.result.now l) (c.as_slice.ensures ∙ sym c.as_slice-2.ensures) ∙ c.in_ok-symbols.ensures)
