use Rattle.std.proofs.Common.{◌≡◌, length, rules}
use Rattle.std.specs.Slice.Iter.{iter_rest}
use Rattle.std.specs.Iterator.Adapters.{zip_first, zip_second}
use Rattle.std.proofs.lemmas.List.{length_push}
use Rattle.std.proofs.lemmas.Slice.Zip.{zip_turn, zip_end}
use Rattle.dt_index.proofs.OccurrenceFacts.{zipped_more, zipped_all}
use Rattle.dt_index.proofs.occurrences.add_dimensions.Goals as goal

pub loop-variable-preserved : goal.loop-variable-preserved
loop-variable-preserved c =
    let first : iter_rest (zip_first c.into_iter-variable-iterator.result) ≡ c.args.variables.now = search rules in
    let second : iter_rest (zip_second c.into_iter-variable-iterator.result) ≡ c.args.extents.now = search rules in
    let turn = zip_turn c.args.variables.now c.args.extents.now c.loop-variable.yielded c.into_iter-variable-iterator.result c.loop-variable.variable-iterator c.next.new.self c.next.result first second c.loop-variable.yielded_by
    (c.in-Some.variable, c.in-Some.extent) c.in-Some.is c.next.ensures.steps in
    zipped_more c.args.all.now c.loop-variable.all c.push.new.self c.args.variables.now c.args.extents.now (length c.loop-variable.yielded) _ c.in-Some.variable.now c.copied.result c.in-Some.extent.now
    turn.0 turn.1 (turn.2 c.in-Some.variable.now) (turn.3 c.in-Some.extent.now) c.loop-variable.invariant c.in_ok-push.ensures.ok c.copied.ensures (length_push c.loop-variable.yielded (c.in-Some.variable, c.in-Some.extent))

pub returns : goal.returns
returns c =
    let first : iter_rest (zip_first c.into_iter-variable-iterator.result) ≡ c.args.variables.now = search rules in
    let second : iter_rest (zip_second c.into_iter-variable-iterator.result) ≡ c.args.extents.now = search rules in
    zipped_all c.args.all.now c.loop-variable.all c.args.variables.now c.args.extents.now (length c.loop-variable.yielded)
    (zip_end c.args.variables.now c.args.extents.now c.loop-variable.yielded c.into_iter-variable-iterator.result c.loop-variable.variable-iterator c.next.new.self c.next.result first second c.loop-variable.yielded_by c.in-None.is c.next.ensures.steps)
    c.loop-variable.invariant
