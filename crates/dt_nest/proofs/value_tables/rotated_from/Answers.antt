use Rattle.std.proofs.Common.{ℕ, ◌+◌, ◌%◌, Some, sym, ap, ◌∙◌}
use Rattle.dt_nest.proofs.Rotated.{sum_stops, sum_step}
use Rattle.dt_nest.specs.ValueTables.{named}
use Rattle.dt_nest.proofs.value_tables.rotated_from.Goals as goal

pub returns-in-None : goal.returns-in-None
returns-in-None g c = sum_stops (named c.args.known.now.values.now (g.N.Renaming.names c.args.known.now.names.now)) c.args.extent c.args.start c.loop-u.u-index c.args.by.now c.loop-u-test.true (sym c.value_at.ensures ∙ c.in-None.is)

pub loop-u-preserved : goal.loop-u-preserved
loop-u-preserved g c =
    ap (λ (n : ℕ). Some n) (ap (λ (n : ℕ). (n + c.from-in-Some.result) % c.from-in-Some-2.result) c.from.ensures ∙ ap (λ (n : ℕ). (c.loop-u.sum + n) % c.from-in-Some-2.result) c.from-in-Some.ensures ∙ ap (λ (n : ℕ). (c.loop-u.sum + c.in-Some.x) % n) c.from-in-Some-2.ensures)
    ∙ sum_step (named c.args.known.now.values.now (g.N.Renaming.names c.args.known.now.names.now)) c.args.extent c.args.start c.loop-u.sum c.loop-u.u-index c.in-Some.x c.args.by.now c.loop-u-test.true c.loop-u.invariant (sym c.value_at.ensures ∙ c.in-Some.is)
