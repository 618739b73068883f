use Rattle.std.proofs.Common.{List, ℕ, [], ◌++◌, arith, ap, sym, ◌∙◌}
use Rattle.dt_place.specs.PlaceLine.{level_symbols}
use Rattle.dt_place.specs.declared.placements.Symbol.{Symbol}
use Rattle.dt_place.proofs.PlaceSteps.{ends_whole, levels_end, levels_more, levels_stop}
use Rattle.dt_place.proofs.place_line.read_symbols.Goals as goal

pub returns-in-Err : goal.returns-in-Err
returns-in-Err c =
    ends_whole c.in-Err.end (level_symbols c.args.letters.now [] c.as_slice.result.now) _ c.in-Err.ensures
    (λ x e. levels_stop c.args.letters.now c.args.levels.now c.loop-level.level-index c.level-item.result c.loop-level.symbols _ x c.loop-level-test.true c.level-item.is
    (ap (λ (l : List ℕ). level_symbols c.args.letters.now [] l) (sym c.as_slice.ensures) ∙ e) c.loop-level.invariant)

pub loop-level-preserved : goal.loop-level-preserved
loop-level-preserved c =
    levels_more c.args.letters.now c.args.levels.now c.loop-level.level-index c.level-item.result c.in-Ok.more c.loop-level.symbols c.append.new.self _ c.loop-level-test.true c.level-item.is
    (ap (λ (l : List ℕ). level_symbols c.args.letters.now [] l) (sym c.as_slice.ensures) ∙ c.in-Ok.ensures)
    (c.in_ok-append-in-Ok.ensures.ok ∙ ap (λ (ss : List Symbol). c.loop-level.symbols ++ ss) c.as_slice-in-Ok.ensures) c.loop-level.invariant

pub returns : goal.returns
returns c = levels_end c.args.letters.now c.args.levels.now c.loop-level.level-index c.loop-level.symbols _ (omega arith) c.loop-level.invariant
