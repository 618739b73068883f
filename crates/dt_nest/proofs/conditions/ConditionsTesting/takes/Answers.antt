use Rattle.std.proofs.Common.{ℕ, List, Option, Some, sym, ap, ◌∙◌}
use Rattle.dt_nest.specs.declared.loops.Walk.{Walk}
use Rattle.dt_nest.specs.Schedule.{seen}
use Rattle.dt_nest.specs.World.{world_of}
use Rattle.dt_nest.specs.Naming.{pairs_in}
use Rattle.dt_nest.specs.Meaning.{renamed}
use Rattle.dt_nest.specs.Values.{inside_tests, takes_inside}
use Rattle.dt_nest.specs.ValueTables.{named}
use Rattle.dt_nest.proofs.TableFacts.{table_takes}
use Rattle.dt_nest.proofs.conditions.ConditionsTesting.takes.Goals as goal

pub returns-in-Some-clause-takes : goal.returns-in-Some-clause-takes
returns-in-Some-clause-takes g c =
    c.takes_stored.ensures
    ∙ ap (λ (l : List (Option ℕ)). takes_inside (world_of (g.L.Locator.tensors c.args.self.now.loc.now) (seen c.args.self.now.parts.now)) (Some c.in-Some.walk) c.args.var (renamed (pairs_in c.args.naming.now)) (named l (renamed (pairs_in c.args.naming.now)))) c.as_slice.ensures.value
    ∙ table_takes (world_of (g.L.Locator.tensors c.args.self.now.loc.now) (seen c.args.self.now.parts.now)) c.args.self.now.parts.now.derived (pairs_in c.args.naming.now) c.args.cursor.now.slots.items c.tabulate_cursor.new.cursor.values.items (Some c.in-Some.walk) c.args.var c.tabulate_cursor.ensures.table
    ∙ ap (λ (walk : Option Walk). (inside_tests (world_of (g.L.Locator.tensors c.args.self.now.loc.now) (seen c.args.self.now.parts.now)) c.args.self.now.parts.now.derived).takes walk c.args.var (pairs_in c.args.naming.now) c.args.cursor.now.slots.items) (sym c.in-Some.is)
