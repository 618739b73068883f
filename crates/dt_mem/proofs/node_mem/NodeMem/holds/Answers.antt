use Rattle.std.proofs.Common.{◌∙◌}
use Rattle.dt_mem.proofs.Places.{found_is_held, has_room}
use Rattle.dt_mem.proofs.node_mem.NodeMem.holds.Goals as goal

pub find-requires-clause-exists : goal.find-requires-clause-exists
find-requires-clause-exists c = has_room c.self.inside.rooms.items c.as_slice.result.now c.self.inside.values.items c.args.self.now c.args.buf c.self.view_is c.as_slice.ensures.value c.requires.exists

pub returns : goal.returns
returns c =
    c.is_some.ensures ∙ found_is_held c.self.inside.rooms.items c.as_slice.result.now c.self.inside.values.items c.args.self.now c.args.buf c.args.pos c.find.result c.self.invariant.laid c.self.invariant.whole c.self.view_is c.as_slice.ensures.value c.find.ensures
