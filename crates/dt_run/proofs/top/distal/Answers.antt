use Rattle.std.proofs.Common.{map, string_bytes, subst, sym, ◌∙◌}
use Rattle.dt_run.specs.EveryOrder.{HaveOrders}
use Rattle.dt_run.specs.Forms.{form_of}
use Rattle.dt_run.proofs.EveryOrder.{asked_have}
use Rattle.dt_run.proofs.top.distal.Goals as goal

pub returns-in-Ok-Text-clause-orders : goal.returns-in-Ok-Text-clause-orders
returns-in-Ok-Text-clause-orders g c = λ done.
    asked_have HaveOrders c.in-Some.form (form_of (map string_bytes c.args.words.now)) (g.R.Source.left c.args.input.now) (g.R.Source.left c.read_all.new.src) c.in-Ok.bytes (sym c.in-Some.is ∙ c.form_of.ensures)
    c.in-Ok.ensures.taken.0 c.in-Ok.ensures.taken.1 (subst HaveOrders c.as_slice-2.ensures c.in-Ok-Text.ensures.orders)
