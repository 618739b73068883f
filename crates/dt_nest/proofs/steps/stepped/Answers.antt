use Rattle.std.proofs.Common.{◌≡◌, ℕ, [], sym, ap, ◌∙◌, subst}
use Rattle.dt_nest.specs.Schedule.{seen}
use Rattle.dt_nest.specs.World.{world_of}
use Rattle.dt_nest.specs.Search.{pairs_at}
use Rattle.dt_nest.specs.ValueTables.{IsLeafTable}
use Rattle.dt_nest.specs.Run.{standing}
use Rattle.dt_nest.proofs.StepFacts.{last_table, table_last}
use Rattle.dt_nest.proofs.steps.stepped.Goals as goal

pub turned-requires-clause-table : goal.turned-requires-clause-table
turned-requires-clause-table g c =
    last_table (g.L.Locator.tensors c.args.conditions.now.loc.now) (seen c.args.conditions.now.parts.now) c.args.path.now c.args.cursor.now.slots.items c.args.cursor.now.slots.items c.args.inner_loops.now c.requires.kept.inner_loops c.args.cursor.now.values.items
    (c.requires.kept.table c.args.inner_loops.now.leaf (c.is_on.ensures.0 c.if-not-is_on.false))

pub returns-then-turned-clause-kept : goal.returns-then-turned-clause-kept
returns-then-turned-clause-kept g c = record {
  inner_loops = c.requires.kept.inner_loops;
  room = c.turned.ensures.size.1;
  table = λ leaf e.
      let same : c.args.inner_loops.now.leaf ≡ leaf = sym (ap standing (c.is_on.ensures.0 c.if-not-is_on.false)) ∙ ap standing e in
      subst (λ (k : ℕ). IsLeafTable (world_of (g.L.Locator.tensors c.args.conditions.now.loc.now) (seen c.args.conditions.now.parts.now)) c.args.conditions.now.parts.now.derived [] (pairs_at (seen c.args.conditions.now.parts.now).nest k) c.turned.new.cursor.slots.items c.turned.new.cursor.values.items) same
      (table_last (g.L.Locator.tensors c.args.conditions.now.loc.now) (seen c.args.conditions.now.parts.now) c.args.path.now c.args.cursor.now.slots.items c.turned.new.cursor.slots.items c.args.inner_loops.now c.requires.kept.inner_loops c.turned.new.cursor.values.items
      c.turned.ensures.table);
}
