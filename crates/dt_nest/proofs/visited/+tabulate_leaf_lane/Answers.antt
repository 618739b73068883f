use Rattle.std.proofs.Common.{◌≡◌, ◌<◌, ◌++◌, ℕ, length, sym, ap, ◌∙◌, subst, slice_set}
use Rattle.std.specs.Prelude.{slice_index}
use Rattle.std.specs.List.{AllByRecursion}
use Rattle.dt_nest.specs.declared.loops.Nest.{Nest}
use Rattle.dt_nest.specs.declared.loops.Pair.{Pair}
use Rattle.dt_nest.specs.Schedule.{seen}
use Rattle.dt_nest.specs.Tree.{tree_of, leaf_count}
use Rattle.dt_nest.specs.World.{world_of}
use Rattle.dt_nest.specs.Lawful.{IsNamed}
use Rattle.dt_nest.specs.Naming.{pairs_in}
use Rattle.dt_nest.specs.Search.{pairs_at}
use Rattle.dt_nest.specs.Branch.{substituted_at}
use Rattle.dt_nest.specs.Values.{inside_tests}
use Rattle.dt_nest.proofs.Each.{all_map}
use Rattle.dt_nest.proofs.LeafTables.{producer_pairs}
use Rattle.dt_nest.proofs.LaneTables.{lane_inside, producer_substituted, valid_taken, valid_refused}
use Rattle.dt_nest.proofs.visited.+tabulate_leaf_lane.Goals as goal

pub returns-then-takes_from-clause-valid : goal.returns-then-takes_from-clause-valid
returns-then-takes_from-clause-valid g t c =
    valid_taken (inside_tests (world_of (g.L.Locator.tensors c.args.conditions.now.loc.now) (seen c.args.conditions.now.parts.now)) c.args.conditions.now.parts.now.derived) (pairs_in c.args.naming.now) c.args.slots.now c.args.lane.leaf c.args.lane.value (tree_of c.args.nest.now) c.in-Loop.walk c.in-Loop.var c.in-Loop.extent (tree_of c.in-Loop.body.value) (tree_of c.deref.result.now) (ap tree_of c.in-Loop.is) (ap tree_of c.deref.ensures) (sym c.has_kernel.ensures ∙ c.if-has_kernel.true) (tree_of c.deref-then-takes_from.result.now) (ap tree_of c.deref-then-takes_from.ensures) c.takes_from.result c.holds_from.result
    (c.takes_from.ensures (slice_set c.args.slots.now c.in-Loop.var c.args.lane.value) c.tabulate_lane.ensures.table) c.if-takes_from.true (c.holds_from.ensures (slice_set c.args.slots.now c.in-Loop.var c.args.lane.value) c.tabulate_lane.ensures.table)

pub returns-else-takes_from-clause-valid : goal.returns-else-takes_from-clause-valid
returns-else-takes_from-clause-valid g t c =
    valid_refused (inside_tests (world_of (g.L.Locator.tensors c.args.conditions.now.loc.now) (seen c.args.conditions.now.parts.now)) c.args.conditions.now.parts.now.derived) (pairs_in c.args.naming.now) c.args.slots.now c.args.lane.leaf c.args.lane.value (tree_of c.args.nest.now) c.in-Loop.walk c.in-Loop.var c.in-Loop.extent (tree_of c.in-Loop.body.value) (tree_of c.deref.result.now) (ap tree_of c.in-Loop.is) (ap tree_of c.deref.ensures) (sym c.has_kernel.ensures ∙ c.if-has_kernel.true) c.takes_from.result (c.takes_from.ensures (slice_set c.args.slots.now c.in-Loop.var c.args.lane.value) c.tabulate_lane.ensures.table) c.if-takes_from.false

pub rename-requires : goal.rename-requires
rename-requires g t c =
    let pairs = (subst (IsNamed (seen c.args.conditions.now.parts.now)) (ap tree_of c.in-Pre.is) c.requires.nest).1 in
    let size : length c.tabulate_leaf_lane-valid.new.values ≡ length c.args.conditions.now.parts.now.names = c.tabulate_leaf_lane-valid.ensures.values ∙ c.requires.values in
    subst (AllByRecursion (λ (p : Pair). p.from < length c.tabulate_leaf_lane-valid.new.values)) (sym c.as_slice-then-lane-count.ensures)
    (all_map (λ (p : Pair). (p.from < length c.args.conditions.now.parts.now.names) × (p.to < length c.args.conditions.now.parts.now.names) × (slice_index c.args.conditions.now.parts.now.extents p.to ≡ slice_index c.args.conditions.now.parts.now.extents p.from)) (λ (p : Pair). p.from < length c.tabulate_leaf_lane-valid.new.values)
    (λ p h. subst (λ (n : ℕ). p.from < n) (sym size) h.0) c.in-Pre.pairs pairs)

pub returns-then-lane-count-clause-table : goal.returns-then-lane-count-clause-table
returns-then-lane-count-clause-table g t c =
    lane_inside (world_of (g.L.Locator.tensors c.args.conditions.now.loc.now) (seen c.args.conditions.now.parts.now)) c.args.conditions.now.parts.now.derived c.args.slots.now c.args.lane.value (pairs_in c.args.naming.now) (pairs_in c.args.naming.now ++ c.as_slice.result.now) c.in-Pre.pairs c.as_slice-then-lane-count.result.now
    (pairs_at (tree_of c.deref-then-lane-count.result.now) c.args.lane.leaf) (pairs_at (tree_of c.args.nest.now) c.args.lane.leaf) c.tabulate_leaf_lane-valid.new.values c.rename.new.values
    (substituted_at (tree_of c.deref-then-lane-count.result.now) c.args.lane.leaf) (substituted_at (tree_of c.args.nest.now) c.args.lane.leaf)
    (ap (λ l. pairs_in c.args.naming.now ++ l) c.as_slice.ensures) c.as_slice-then-lane-count.ensures
    (ap (λ (n : Nest). pairs_at (tree_of n) c.args.lane.leaf) c.in-Pre.is
    ∙ producer_pairs c.in-Pre.work c.in-Pre.pairs (tree_of c.in-Pre.producer.value) (tree_of c.in-Pre.consumer.value) c.args.lane.leaf c.leaves-count.result c.if-lane-count.true (c.leaves-count.ensures ∙ ap (λ (n : Nest). leaf_count (tree_of n)) c.deref-in-Pre.ensures)
    ∙ ap (λ (n : Nest). c.in-Pre.pairs ++ pairs_at (tree_of n) c.args.lane.leaf) (sym c.deref-then-lane-count.ensures))
    (ap (λ (n : Nest). substituted_at (tree_of n) c.args.lane.leaf) c.in-Pre.is
    ∙ producer_substituted c.in-Pre.work c.in-Pre.pairs (tree_of c.in-Pre.producer.value) (tree_of c.in-Pre.consumer.value) c.args.lane.leaf c.leaves-count.result c.if-lane-count.true (c.leaves-count.ensures ∙ ap (λ (n : Nest). leaf_count (tree_of n)) c.deref-in-Pre.ensures)
    ∙ ap (λ (n : Nest). substituted_at (tree_of n) c.args.lane.leaf) (sym c.deref-then-lane-count.ensures))
    c.tabulate_leaf_lane-valid.ensures.table c.rename.ensures.values
