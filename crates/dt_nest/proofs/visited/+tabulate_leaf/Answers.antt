use Rattle.std.proofs.Common.{ℕ, List, Option, length, ◌++◌, sym, ap, ◌∙◌}
use Rattle.dt_nest.specs.declared.loops.Nest.{Nest}
use Rattle.dt_nest.specs.Schedule.{seen}
use Rattle.dt_nest.specs.Tree.{tree_of, leaf_count}
use Rattle.dt_nest.specs.World.{world_of}
use Rattle.dt_nest.specs.Naming.{pairs_in}
use Rattle.dt_nest.specs.Search.{pairs_at}
use Rattle.dt_nest.specs.Meaning.{renamed}
use Rattle.dt_nest.specs.ValueTables.{tabled}
use Rattle.dt_nest.proofs.Lent.{lent}
use Rattle.dt_nest.proofs.LeafTables.{leaf_inside, producer_pairs}
use Rattle.dt_nest.proofs.visited.+tabulate_leaf.Goals as goal

pub returns-then-leaf-count-clause-table : goal.returns-then-leaf-count-clause-table
returns-then-leaf-count-clause-table g t c =
    leaf_inside (world_of (g.L.Locator.tensors c.args.conditions.now.loc.now) (seen c.args.conditions.now.parts.now)) c.args.conditions.now.parts.now.derived c.args.cursor.now.slots.items (pairs_in c.args.naming.now) (pairs_in c.args.naming.now ++ c.as_slice.result.now) c.in-Pre.pairs c.as_slice-then-leaf-count.result.now
    (pairs_at (tree_of c.deref-then-leaf-count.result.now) c.args.leaf) (pairs_at (tree_of c.args.nest.now) c.args.leaf) c.tabulate_leaf-then-leaf-count.new.cursor.values.items _
    (ap (λ l. pairs_in c.args.naming.now ++ l) c.as_slice.ensures) c.as_slice-then-leaf-count.ensures
    (ap (λ (n : Nest). pairs_at (tree_of n) c.args.leaf) c.in-Pre.is
    ∙ producer_pairs c.in-Pre.work c.in-Pre.pairs (tree_of c.in-Pre.producer.value) (tree_of c.in-Pre.consumer.value) c.args.leaf c.leaves-count.result c.if-leaf-count.true (c.leaves-count.ensures ∙ ap (λ (n : Nest). leaf_count (tree_of n)) c.deref-in-Pre.ensures)
    ∙ ap (λ (n : Nest). c.in-Pre.pairs ++ pairs_at (tree_of n) c.args.leaf) (sym c.deref-then-leaf-count.ensures))
    c.tabulate_leaf-then-leaf-count.ensures.table
    (λ u.
    ap (λ (l : List (Option ℕ)). tabled l u) (lent c.tabulate_leaf-then-leaf-count.new.cursor.values.items c.as_mut_slice.result.now c.rename.new.values c.tabulate_leaf-then-leaf-count.new.cursor.values.len c.as_mut_slice.ensures.value (sym c.as_mut_slice.ensures.len ∙ ap length c.as_mut_slice.ensures.value) c.rename.ensures.length)
    ∙ c.rename.ensures.values u ∙ ap (λ (l : List (Option ℕ)). tabled l (renamed c.as_slice-then-leaf-count.result.now u)) c.as_mut_slice.ensures.value)
