use Rattle.std.proofs.Common.{◌≤◌, ◌%◌, ◌^◌, ℕ, List, drop, take, sum_by, arith, ap, ◌∙◌, None, refl}
use Rattle.dt_mem.specs.declared.rooms.Room.{Room}
use Rattle.dt_mem.proofs.Kept.{end_fits, end_kept, end_view}
use Rattle.dt_mem.proofs.Places.{has_room, present_here}
use Rattle.dt_mem.proofs.RoomLemmas.{before_fits, found_room, laid_at}
use Rattle.dt_mem.proofs.node_mem.NodeMem.end.Goals as goal

pub index_mut-room-requires : goal.index_mut-room-requires
index_mut-room-requires c =
    let there = has_room c.self.inside.rooms.items c.self.inside.rooms.items c.self.inside.values.items c.args.self.now c.args.buf c.self.view_is refl c.requires.exists in
    omega (arith, there, c.self.inside.rooms.ok.0)

pub unwrap-requires : goal.unwrap-requires
unwrap-requires c =
    let there = has_room c.self.inside.rooms.items c.self.inside.rooms.items c.self.inside.values.items c.args.self.now c.args.buf c.self.view_is refl c.requires.exists in
    let at = found_room c.self.inside.rooms.items c.args.buf c.index_mut-room.result.now there c.index_mut-room.ensures.value in
    let laid = laid_at 0 c.self.inside.rooms.items c.args.buf c.index_mut-room.result.now c.self.invariant.laid at in
    let w = present_here c.self.inside.rooms.items c.self.inside.values.items c.args.self.now c.args.buf c.index_mut-room.result.now c.self.view_is at c.requires.present in
    rw w.1 refl

pub part_sum-dropped-requires : goal.part_sum-dropped-requires
part_sum-dropped-requires c =
    let there = has_room c.self.inside.rooms.items c.self.inside.rooms.items c.self.inside.values.items c.args.self.now c.args.buf c.self.view_is refl c.requires.exists in
    let at = found_room c.self.inside.rooms.items c.args.buf c.index_mut-room.result.now there c.index_mut-room.ensures.value in
    let laid = laid_at 0 c.self.inside.rooms.items c.args.buf c.index_mut-room.result.now c.self.invariant.laid at in
    let fits : c.count-count.result ≤ c.index_mut-room.result.now.room = let few = rw c.unwrap.ensures at laid.1 in omega (arith, few, c.count-count.ensures) in
    let fit = before_fits c.self.inside.rooms.items c.args.buf c.index_mut-room.result.now at in
    rw c.as_slice.ensures.value (omega (arith, laid.0, fit, fits, c.self.invariant.whole))

pub overflow_sub-self : goal.overflow_sub-self
overflow_sub-self c =
    let there = has_room c.self.inside.rooms.items c.self.inside.rooms.items c.self.inside.values.items c.args.self.now c.args.buf c.self.view_is refl c.requires.exists in
    let at = found_room c.self.inside.rooms.items c.args.buf c.index_mut-room.result.now there c.index_mut-room.ensures.value in
    let laid = laid_at 0 c.self.inside.rooms.items c.args.buf c.index_mut-room.result.now c.self.invariant.laid at in
    let fits : c.count-count.result ≤ c.index_mut-room.result.now.room = let few = rw c.unwrap.ensures at laid.1 in omega (arith, few, c.count-count.ensures) in
    rw (c.from.ensures, c.from-2.ensures) (end_fits c.self.inside.rooms.items c.self.inside.values.items c.self.inside.live c.self.inside.sum c.args.buf c.count-count.result c.index_mut-room.result.now c.unwrap.result c.self.invariant at c.unwrap.ensures c.count-count.ensures fits)

pub invariant_of-self : goal.invariant_of-self
invariant_of-self c =
    let there = has_room c.self.inside.rooms.items c.self.inside.rooms.items c.self.inside.values.items c.args.self.now c.args.buf c.self.view_is refl c.requires.exists in
    let at = found_room c.self.inside.rooms.items c.args.buf c.index_mut-room.result.now there c.index_mut-room.ensures.value in
    let laid = laid_at 0 c.self.inside.rooms.items c.args.buf c.index_mut-room.result.now c.self.invariant.laid at in
    let fits : c.count-count.result ≤ c.index_mut-room.result.now.room = let few = rw c.unwrap.ensures at laid.1 in omega (arith, few, c.count-count.ensures) in
    let q : Room = record { base = c.index_mut-room.result.now.base; room = c.index_mut-room.result.now.room; cost = c.index_mut-room.result.now.cost; words = None } in
    let gone = c.part_sum-dropped.ensures ∙ ap (λ (xs : List ℕ). sum_by (λ (v : ℕ). v) (take c.count-count.result (drop c.index_mut-room.result.now.base xs)) % 2 ^ 64) c.as_slice.ensures.value in
    rw (c.from.ensures, c.from-2.ensures) (end_kept c.self.inside.rooms.items c.self.inside.values.items c.self.inside.live c.self.inside.sum c.args.buf c.count-count.result c.index_mut-room.result.now.base c.part_sum-dropped.result c.index_mut-room.result.now q c.unwrap.result
    c.self.invariant at c.unwrap.ensures refl refl refl refl c.count-count.ensures fits laid.0 gone)

pub returns : goal.returns
returns c =
    let there = has_room c.self.inside.rooms.items c.self.inside.rooms.items c.self.inside.values.items c.args.self.now c.args.buf c.self.view_is refl c.requires.exists in
    let at = found_room c.self.inside.rooms.items c.args.buf c.index_mut-room.result.now there c.index_mut-room.ensures.value in
    let laid = laid_at 0 c.self.inside.rooms.items c.args.buf c.index_mut-room.result.now c.self.invariant.laid at in
    let q : Room = record { base = c.index_mut-room.result.now.base; room = c.index_mut-room.result.now.room; cost = c.index_mut-room.result.now.cost; words = None } in
    end_view c.self.inside.rooms.items c.self.inside.values.items c.args.self.now c.args.buf c.index_mut-room.result.now q c.self.view_is at refl refl refl
