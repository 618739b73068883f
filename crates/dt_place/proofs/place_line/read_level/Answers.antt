use Rattle.std.proofs.Common.{arith, get_or, take}
use Rattle.dt_place.specs.PlaceLine.{symbol_of}
use Rattle.dt_place.proofs.PlaceSteps.{ends_whole, level_end, level_more, level_stops}
use Rattle.dt_place.proofs.place_line.read_level.Goals as goal

pub returns-in-Err : goal.returns-in-Err
returns-in-Err c =
    ends_whole c.in-Err.end (symbol_of c.args.letters.now (take c.loop-i.i c.args.level.now) (get_or c.args.level.now c.loop-i.i 0)) _ c.in-Err.ensures
    (λ x e. level_stops c.args.letters.now c.args.level.now c.loop-i.i c.loop-i.symbols _ x c.loop-i-test.true e c.loop-i.invariant)

pub loop-i-preserved : goal.loop-i-preserved
loop-i-preserved c =
    level_more c.args.letters.now c.args.level.now c.loop-i.i c.in-Ok.symbol c.loop-i.symbols c.push.new.self _ c.loop-i-test.true c.in-Ok.ensures c.in_ok-push-in-Ok.ensures.ok c.loop-i.invariant

pub returns : goal.returns
returns c = level_end c.args.letters.now c.args.level.now c.loop-i.i c.loop-i.symbols _ (omega arith) c.loop-i.invariant
