use Rattle.std.proofs.Common.{Option, Some, sym, ap, ◌∙◌}
use Rattle.dt_nest.specs.declared.loops.Walk.{Walk}
use Rattle.dt_nest.specs.Schedule.{seen}
use Rattle.dt_nest.specs.World.{world_of}
use Rattle.dt_nest.specs.Naming.{pairs_in}
use Rattle.dt_nest.specs.Values.{inside_tests}
use Rattle.dt_nest.proofs.TableFacts.{table_takes}
use Rattle.dt_nest.proofs.conditions.Conditions.takes_from.Goals as goal

pub returns-in-Some : goal.returns-in-Some
returns-in-Some g c slots t =
    c.takes_stored.ensures
    ∙ table_takes (world_of (g.L.Locator.tensors c.args.self.now.loc.now) (seen c.args.self.now.parts.now)) c.args.self.now.parts.now.derived (pairs_in c.args.naming.now) slots c.args.values.now (Some c.in-Some.walk) c.args.var t
    ∙ ap (λ (walk : Option Walk). (inside_tests (world_of (g.L.Locator.tensors c.args.self.now.loc.now) (seen c.args.self.now.parts.now)) c.args.self.now.parts.now.derived).takes walk c.args.var (pairs_in c.args.naming.now) slots) (sym c.in-Some.is)
