use Rattle.std.proofs.Common.{arith, refl}
use Rattle.dt_mem.proofs.Places.{has_room, words_here}
use Rattle.dt_mem.proofs.RoomLemmas.{found_room}
use Rattle.dt_mem.proofs.node_mem.NodeMem.words.Goals as goal

pub index-requires : goal.index-requires
index-requires c =
    let there = has_room c.self.inside.rooms.items c.self.inside.rooms.items c.self.inside.values.items c.args.self.now c.args.buf c.self.view_is refl c.requires.exists in
    omega (arith, there, c.self.inside.rooms.ok.0)

pub returns : goal.returns
returns c =
    let there = has_room c.self.inside.rooms.items c.self.inside.rooms.items c.self.inside.values.items c.args.self.now c.args.buf c.self.view_is refl c.requires.exists in
    words_here c.self.inside.rooms.items c.self.inside.values.items c.args.self.now c.args.buf c.index.result.now c.self.view_is (found_room c.self.inside.rooms.items c.args.buf c.index.result.now there c.index.ensures)
