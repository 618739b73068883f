use Rattle.std.proofs.Common.{arith, sym, ap, ◌∙◌, Some, refl}
use Rattle.std.proofs.lemmas.Option.{slice_get-get_or}
use Rattle.dt_mem.proofs.Places.{find_held, found_value, found_within, has_room}
use Rattle.dt_mem.proofs.node_mem.NodeMem.read.Goals as goal

pub find-requires-clause-exists : goal.find-requires-clause-exists
find-requires-clause-exists c = has_room c.self.inside.rooms.items c.as_slice.result.now c.self.inside.values.items c.args.self.now c.args.buf c.self.view_is c.as_slice.ensures.value c.requires.exists

pub unwrap-place-requires : goal.unwrap-place-requires
unwrap-place-requires c =
    let f = find_held c.self.inside.rooms.items c.as_slice.result.now c.self.inside.values.items c.args.self.now c.args.buf c.args.pos c.find.result c.self.invariant.laid c.self.view_is c.as_slice.ensures.value c.find.ensures c.requires.held in
    rw f.is refl

pub index-requires : goal.index-requires
index-requires c =
    let f = find_held c.self.inside.rooms.items c.as_slice.result.now c.self.inside.values.items c.args.self.now c.args.buf c.args.pos c.find.result c.self.invariant.laid c.self.view_is c.as_slice.ensures.value c.find.ensures c.requires.held in
    let small = found_within c.self.inside.rooms.items c.args.buf c.args.pos c.unwrap-place.result c.find.result c.self.inside.values.items c.self.invariant.laid c.self.invariant.whole f c.unwrap-place.ensures in
    omega (arith, small, c.self.inside.values.ok.0)

pub returns : goal.returns
returns c =
    let f = find_held c.self.inside.rooms.items c.as_slice.result.now c.self.inside.values.items c.args.self.now c.args.buf c.args.pos c.find.result c.self.invariant.laid c.self.view_is c.as_slice.ensures.value c.find.ensures c.requires.held in
    let small = found_within c.self.inside.rooms.items c.args.buf c.args.pos c.unwrap-place.result c.find.result c.self.inside.values.items c.self.invariant.laid c.self.invariant.whole f c.unwrap-place.ensures in
    found_value c.self.inside.rooms.items c.self.inside.values.items c.args.self.now c.args.buf c.args.pos c.unwrap-place.result c.index.result.now c.find.result c.self.invariant.laid c.self.view_is f c.unwrap-place.ensures
    (slice_get-get_or c.self.inside.values.items c.unwrap-place.result c.index.result.now small ∙ ap Some (sym c.index.ensures))
