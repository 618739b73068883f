use Rattle.std.proofs.Common.{ℕ, List, Option, sym, ap, ◌∙◌, slice_index}
use Rattle.std.specs.List.{list_all}
use Rattle.dt_nest.specs.declared.loops.Nest.{Nest}
use Rattle.dt_nest.specs.Schedule.{seen}
use Rattle.dt_nest.specs.Tree.{tree_of}
use Rattle.dt_nest.specs.World.{world_of}
use Rattle.dt_nest.specs.Meaning.{renamed}
use Rattle.dt_nest.specs.Naming.{pairs_in}
use Rattle.dt_nest.specs.Search.{node_of}
use Rattle.dt_nest.specs.Values.{inside_tests, is_below}
use Rattle.dt_nest.specs.ValueTables.{tabled}
use Rattle.dt_nest.proofs.TableFacts.{table_holds_at}
use Rattle.dt_nest.proofs.conditions.ConditionsTesting.holds.Goals as goal

pub returns-else-is_empty-clause-holds : goal.returns-else-is_empty-clause-holds
returns-else-is_empty-clause-holds g c =
    c.hold.ensures
    ∙ ap (λ (l : List (Option ℕ)). list_all (λ v. is_below (slice_index c.as_slice-in-Leaf-3.result.now v) (tabled l (renamed (pairs_in c.args.naming.now) v))) c.as_slice-in-Leaf-2.result.now) c.as_slice-in-Leaf.ensures.value
    ∙ ap (λ (extents : List ℕ). list_all (λ v. is_below (slice_index extents v) (tabled c.tabulate_cursor.new.cursor.values.items (renamed (pairs_in c.args.naming.now) v))) c.as_slice-in-Leaf-2.result.now) c.as_slice-in-Leaf-3.ensures
    ∙ ap (λ (guards : List ℕ). list_all (λ v. is_below (slice_index c.args.self.now.parts.now.extents v) (tabled c.tabulate_cursor.new.cursor.values.items (renamed (pairs_in c.args.naming.now) v))) guards) c.as_slice-in-Leaf-2.ensures
    ∙ table_holds_at (world_of (g.L.Locator.tensors c.args.self.now.loc.now) (seen c.args.self.now.parts.now)) c.args.self.now.parts.now.derived (pairs_in c.args.naming.now) c.args.cursor.now.slots.items c.tabulate_cursor.new.cursor.values.items c.in-Leaf.guards c.tabulate_cursor.ensures.table
    ∙ ap (λ (leaf : Nest). (inside_tests (world_of (g.L.Locator.tensors c.args.self.now.loc.now) (seen c.args.self.now.parts.now)) c.args.self.now.parts.now.derived).holds (node_of (tree_of leaf)) (pairs_in c.args.naming.now) c.args.cursor.now.slots.items) (sym c.in-Leaf.is)
