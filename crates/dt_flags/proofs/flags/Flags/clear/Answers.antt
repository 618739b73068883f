use Rattle.std.proofs.Common.{◌<◌, false, ◌∙◌, sym, length}
use Rattle.std.proofs.lemmas.List.{get_or_read}
use Rattle.dt_flags.proofs.Counts.{clear_counted, clear_fits, clear_some}
use Rattle.dt_flags.proofs.flags.Flags.clear.Goals as goal

pub put-requires-clause-fits : goal.put-requires-clause-fits
put-requires-clause-fits c =
    let there : c.args.place < length c.self.inside.bits.items = rw c.self.view_is c.requires in
    clear_fits c.self.inside.bits.items c.self.inside.sums c.self.inside.count c.args.place c.self.invariant there (sym (get_or_read c.self.inside.bits.items c.args.place c.index.result.now there c.index.ensures false) ∙ c.if-index.true)

pub overflow_sub-self : goal.overflow_sub-self
overflow_sub-self c =
    let there : c.args.place < length c.self.inside.bits.items = rw c.self.view_is c.requires in
    clear_some c.self.inside.bits.items c.self.inside.sums c.self.inside.count c.args.place c.self.invariant there (sym (get_or_read c.self.inside.bits.items c.args.place c.index.result.now there c.index.ensures false) ∙ c.if-index.true)

pub invariant_of-self : goal.invariant_of-self
invariant_of-self c =
    let there : c.args.place < length c.self.inside.bits.items = rw c.self.view_is c.requires in
    rw c.put.ensures (clear_counted c.self.inside.bits.items c.self.inside.sums c.self.inside.count c.args.place c.self.invariant there (sym (get_or_read c.self.inside.bits.items c.args.place c.index.result.now there c.index.ensures false) ∙ c.if-index.true))
