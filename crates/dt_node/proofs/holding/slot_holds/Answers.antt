use Rattle.std.proofs.Common.{Some, ap, sym, ◌∙◌}
use Rattle.std.proofs.lemmas.Option.{slice_get-get_or}
use Rattle.dt_node.proofs.NodeSteps.{named_below}
use Rattle.dt_node.proofs.holding.slot_holds.Goals as goal

pub returns-in-Some : goal.returns-in-Some
returns-in-Some c =
    named_below c.has_below.result c.args.mem.now c.args.slots.now c.args.at c.in-Some.buf.now c.args.count
    (slice_get-get_or c.args.slots.now c.args.at c.in-Some.buf.now c.in-Some.ensures.lookup.3.0 ∙ ap Some (sym c.in-Some.ensures.lookup.1)) c.has_below.ensures
