use Rattle.std.proofs.Common.{◌+◌, ◌%◌, ◌^◌, arith, sym, ap, ◌∙◌, Some, refl}
use Rattle.std.proofs.lemmas.Option.{slice_get-get_or}
use Rattle.dt_mem.proofs.Kept.{fold_view, more_total, write_kept}
use Rattle.dt_mem.proofs.Places.{find_held, found_within, has_room}
use Rattle.dt_mem.proofs.node_mem.NodeMem.fold.Goals as goal

pub find-requires-clause-exists : goal.find-requires-clause-exists
find-requires-clause-exists c = has_room c.self.inside.rooms.items c.as_slice.result.now c.self.inside.values.items c.args.self.now c.args.buf c.self.view_is c.as_slice.ensures.value c.requires.exists

pub unwrap-place-requires : goal.unwrap-place-requires
unwrap-place-requires c =
    let f = find_held c.self.inside.rooms.items c.as_slice.result.now c.self.inside.values.items c.args.self.now c.args.buf c.args.pos c.find.result c.self.invariant.laid c.self.view_is c.as_slice.ensures.value c.find.ensures c.requires.held in
    rw f.is refl

pub index-old-requires : goal.index-old-requires
index-old-requires c =
    let f = find_held c.self.inside.rooms.items c.as_slice.result.now c.self.inside.values.items c.args.self.now c.args.buf c.args.pos c.find.result c.self.invariant.laid c.self.view_is c.as_slice.ensures.value c.find.ensures c.requires.held in
    let small = found_within c.self.inside.rooms.items c.args.buf c.args.pos c.unwrap-place.result c.find.result c.self.inside.values.items c.self.invariant.laid c.self.invariant.whole f c.unwrap-place.ensures in
    omega (arith, small, c.self.inside.values.ok.0)

pub index_mut-requires : goal.index_mut-requires
index_mut-requires c =
    let f = find_held c.self.inside.rooms.items c.as_slice.result.now c.self.inside.values.items c.args.self.now c.args.buf c.args.pos c.find.result c.self.invariant.laid c.self.view_is c.as_slice.ensures.value c.find.ensures c.requires.held in
    let small = found_within c.self.inside.rooms.items c.args.buf c.args.pos c.unwrap-place.result c.find.result c.self.inside.values.items c.self.invariant.laid c.self.invariant.whole f c.unwrap-place.ensures in
    omega (arith, small, c.self.inside.values.ok.0)

pub invariant_of-self : goal.invariant_of-self
invariant_of-self c =
    let f = find_held c.self.inside.rooms.items c.as_slice.result.now c.self.inside.values.items c.args.self.now c.args.buf c.args.pos c.find.result c.self.invariant.laid c.self.view_is c.as_slice.ensures.value c.find.ensures c.requires.held in
    let small = found_within c.self.inside.rooms.items c.args.buf c.args.pos c.unwrap-place.result c.find.result c.self.inside.values.items c.self.invariant.laid c.self.invariant.whole f c.unwrap-place.ensures in
    let old = slice_get-get_or c.self.inside.values.items c.unwrap-place.result c.index-old.result.now small ∙ ap Some (sym c.index-old.ensures) in
    write_kept c.self.inside.rooms.items c.self.inside.values.items c.self.inside.live c.self.inside.sum c.args.buf c.args.pos c.unwrap-place.result c.index-old.result.now ((c.index-old.result.now + c.args.amount) % 2 ^ 64) ((c.self.inside.sum + c.args.amount) % 2 ^ 64) c.find.result c.self.invariant f c.unwrap-place.ensures old
    (λ s t h e. more_total c.self.inside.sum c.index-old.result.now c.args.amount s t h e)

pub returns : goal.returns
returns c =
    let f = find_held c.self.inside.rooms.items c.as_slice.result.now c.self.inside.values.items c.args.self.now c.args.buf c.args.pos c.find.result c.self.invariant.laid c.self.view_is c.as_slice.ensures.value c.find.ensures c.requires.held in
    let small = found_within c.self.inside.rooms.items c.args.buf c.args.pos c.unwrap-place.result c.find.result c.self.inside.values.items c.self.invariant.laid c.self.invariant.whole f c.unwrap-place.ensures in
    let old = slice_get-get_or c.self.inside.values.items c.unwrap-place.result c.index-old.result.now small ∙ ap Some (sym c.index-old.ensures) in
    fold_view c.self.inside.rooms.items c.self.inside.values.items c.args.self.now c.args.buf c.args.pos c.unwrap-place.result c.index-old.result.now c.args.amount c.find.result c.self.invariant.laid c.self.view_is f c.unwrap-place.ensures old
