use Rattle.std.proofs.Common.{◌∙◌, sym, arith}
use Rattle.dt_mem.proofs.RoomLemmas.{before_fits, found_room, found_place, laid_at, place_fits}
use Rattle.dt_mem.proofs.rooms.find.Goals as goal

pub overflow_add-result : goal.overflow_add-result
overflow_add-result c =
    let at = found_room c.args.rooms.now c.args.buf c.index-rooms-buf.result c.requires.exists c.index-rooms-buf.is in
    let laid = laid_at 0 c.args.rooms.now c.args.buf c.index-rooms-buf.result c.requires.laid at in
    let fit = before_fits c.args.rooms.now c.args.buf c.index-rooms-buf.result at in
    let small = place_fits c.index-rooms-buf.result c.in-Some.words c.args.pos c.in-Some-rank_near.rank c.in-Some.is (sym c.rank_near.ensures ∙ c.in-Some-rank_near.is) laid.1 in
    omega (arith, laid.0, fit, small, c.requires.small)

pub returns-in-Some-rank_near : goal.returns-in-Some-rank_near
returns-in-Some-rank_near c =
    let at = found_room c.args.rooms.now c.args.buf c.index-rooms-buf.result c.requires.exists c.index-rooms-buf.is in
    let laid = laid_at 0 c.args.rooms.now c.args.buf c.index-rooms-buf.result c.requires.laid at in
    found_place c.args.rooms.now c.args.buf c.index-rooms-buf.result c.in-Some.words c.args.pos c.in-Some-rank_near.rank at c.in-Some.is (sym c.rank_near.ensures ∙ c.in-Some-rank_near.is) laid.0
