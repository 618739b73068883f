use Rattle.std.proofs.Common.{◌≤◌, ◌+◌, ◌*◌, ℕ, List, slice_set, arith, ap, ◌∙◌, Some, refl}
use Rattle.dt_mem.specs.declared.rooms.Room.{Room}
use Rattle.dt_mem.specs.Rooms.{cleared, slots_of}
use Rattle.dt_mem.proofs.Kept.{begin_kept, begin_view, live_small}
use Rattle.dt_mem.proofs.Places.{absent_here, has_room, room_here}
use Rattle.dt_mem.proofs.RoomLemmas.{before_fits, found_room, laid_at}
use Rattle.dt_mem.proofs.node_mem.NodeMem.begin.Goals as goal

pub index_mut-room-requires : goal.index_mut-room-requires
index_mut-room-requires c =
    let there = has_room c.self.inside.rooms.items c.self.inside.rooms.items c.self.inside.values.items c.args.self.now c.args.buf c.self.view_is refl c.requires.exists in
    omega (arith, there, c.self.inside.rooms.ok.0)

pub clear-requires : goal.clear-requires
clear-requires c =
    let there = has_room c.self.inside.rooms.items c.self.inside.rooms.items c.self.inside.values.items c.args.self.now c.args.buf c.self.view_is refl c.requires.exists in
    let at = found_room c.self.inside.rooms.items c.args.buf c.index_mut-room.result.now there c.index_mut-room.ensures.value in
    let laid = laid_at 0 c.self.inside.rooms.items c.args.buf c.index_mut-room.result.now c.self.invariant.laid at in
    let room = room_here c.self.inside.rooms.items c.self.inside.values.items c.args.self.now c.args.buf c.index_mut-room.result.now c.self.view_is at in
    let fit = before_fits c.self.inside.rooms.items c.args.buf c.index_mut-room.result.now at in
    omega (arith, laid.0, fit, room, c.requires.fits, c.count-count.ensures, c.self.invariant.whole)

pub overflow_add-self : goal.overflow_add-self
overflow_add-self c =
    let there = has_room c.self.inside.rooms.items c.self.inside.rooms.items c.self.inside.values.items c.args.self.now c.args.buf c.self.view_is refl c.requires.exists in
    let at = found_room c.self.inside.rooms.items c.args.buf c.index_mut-room.result.now there c.index_mut-room.ensures.value in
    let laid = laid_at 0 c.self.inside.rooms.items c.args.buf c.index_mut-room.result.now c.self.invariant.laid at in
    let room = room_here c.self.inside.rooms.items c.self.inside.values.items c.args.self.now c.args.buf c.index_mut-room.result.now c.self.view_is at in
    let fits : c.count-count.result ≤ c.index_mut-room.result.now.room = omega (arith, room, c.requires.fits, c.count-count.ensures) in
    let none = absent_here c.self.inside.rooms.items c.self.inside.values.items c.args.self.now c.args.buf c.index_mut-room.result.now c.self.view_is at c.requires.absent in
    let q : Room = record { base = c.index_mut-room.result.now.base; room = c.index_mut-room.result.now.room; cost = c.index_mut-room.result.now.cost; words = Some c.args.words } in
    let kept = begin_kept c.self.inside.rooms.items c.self.inside.values.items c.self.inside.live c.self.inside.sum c.args.buf c.count-count.result c.index_mut-room.result.now.base c.index_mut-room.result.now q c.args.words c.self.invariant at none refl refl refl refl c.count-count.ensures fits laid.0 in
    let small = live_small (slice_set c.self.inside.rooms.items c.args.buf q) (cleared c.index_mut-room.result.now.base c.count-count.result c.self.inside.values.items) (c.self.inside.live + c.index_mut-room.result.now.cost * c.count-count.result) c.self.inside.sum kept in
    rw (c.from.ensures, c.from-2.ensures) (omega (arith, small))

pub invariant_of-self : goal.invariant_of-self
invariant_of-self c =
    let there = has_room c.self.inside.rooms.items c.self.inside.rooms.items c.self.inside.values.items c.args.self.now c.args.buf c.self.view_is refl c.requires.exists in
    let at = found_room c.self.inside.rooms.items c.args.buf c.index_mut-room.result.now there c.index_mut-room.ensures.value in
    let laid = laid_at 0 c.self.inside.rooms.items c.args.buf c.index_mut-room.result.now c.self.invariant.laid at in
    let room = room_here c.self.inside.rooms.items c.self.inside.values.items c.args.self.now c.args.buf c.index_mut-room.result.now c.self.view_is at in
    let fits : c.count-count.result ≤ c.index_mut-room.result.now.room = omega (arith, room, c.requires.fits, c.count-count.ensures) in
    let none = absent_here c.self.inside.rooms.items c.self.inside.values.items c.args.self.now c.args.buf c.index_mut-room.result.now c.self.view_is at c.requires.absent in
    let q : Room = record { base = c.index_mut-room.result.now.base; room = c.index_mut-room.result.now.room; cost = c.index_mut-room.result.now.cost; words = Some c.args.words } in
    let kept = begin_kept c.self.inside.rooms.items c.self.inside.values.items c.self.inside.live c.self.inside.sum c.args.buf c.count-count.result c.index_mut-room.result.now.base c.index_mut-room.result.now q c.args.words c.self.invariant at none refl refl refl refl c.count-count.ensures fits laid.0 in
    rw (c.clear.ensures, c.from.ensures, c.from-2.ensures) kept

pub returns : goal.returns
returns c =
    let there = has_room c.self.inside.rooms.items c.self.inside.rooms.items c.self.inside.values.items c.args.self.now c.args.buf c.self.view_is refl c.requires.exists in
    let at = found_room c.self.inside.rooms.items c.args.buf c.index_mut-room.result.now there c.index_mut-room.ensures.value in
    let laid = laid_at 0 c.self.inside.rooms.items c.args.buf c.index_mut-room.result.now c.self.invariant.laid at in
    let room = room_here c.self.inside.rooms.items c.self.inside.values.items c.args.self.now c.args.buf c.index_mut-room.result.now c.self.view_is at in
    let fits : c.count-count.result ≤ c.index_mut-room.result.now.room = omega (arith, room, c.requires.fits, c.count-count.ensures) in
    let none = absent_here c.self.inside.rooms.items c.self.inside.values.items c.args.self.now c.args.buf c.index_mut-room.result.now c.self.view_is at c.requires.absent in
    let q : Room = record { base = c.index_mut-room.result.now.base; room = c.index_mut-room.result.now.room; cost = c.index_mut-room.result.now.cost; words = Some c.args.words } in
    let seen = begin_view c.self.inside.rooms.items c.self.inside.values.items c.args.self.now c.self.inside.live c.self.inside.sum c.args.buf c.count-count.result c.index_mut-room.result.now.base c.index_mut-room.result.now q c.args.words c.self.invariant c.self.view_is at refl refl refl c.count-count.ensures fits laid.0 in
    ap (λ (xs : List ℕ). slots_of (slice_set c.self.inside.rooms.items c.args.buf q) xs) c.clear.ensures ∙ seen
