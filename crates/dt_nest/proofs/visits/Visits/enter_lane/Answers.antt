use Rattle.std.proofs.Common.{◌≡◌, ◌<◌, ℕ, true, List, [], Some, refl, sym, ap, ◌∙◌, subst}
use Rattle.dt_nest.specs.Schedule.{Schedule, seen}
use Rattle.dt_nest.specs.World.{world_of}
use Rattle.dt_nest.specs.Search.{pairs_at}
use Rattle.dt_nest.specs.Branch.{substituted_at, valid_at}
use Rattle.dt_nest.specs.Visited.{HasLaneTable}
use Rattle.dt_nest.specs.Point.{ArePointValues}
use Rattle.dt_nest.specs.Run.{Run, run_tests, OnLanes, is_among, standing}
use Rattle.dt_nest.proofs.OwnSlots.{few_in}
use Rattle.dt_nest.proofs.RunFacts.{valid_answer}
use Rattle.dt_nest.proofs.PointTables.{lane_values, on_true, valid_lane_true}
use Rattle.dt_nest.proofs.visits.Visits.enter_lane.Goals as goal

pub tabulate_leaf_lane-requires-clause-few : goal.tabulate_leaf_lane-requires-clause-few
tabulate_leaf_lane-requires-clause-few g c = few_in (seen c.parts.result.now) c.self.inside.sched.now c.parts.ensures.parts c.parts.ensures.lawful

pub returns-clause-valid : goal.returns-clause-valid
returns-clause-valid g c =
    let e : c.tabulate_leaf_lane.result ≡ valid_at (run_tests (g.L.Locator.tensors c.self.inside.loc.now) c.self.inside.sched.now) c.self.inside.sched.now.nest [] c.self.inside.cursor.slots.items (standing c.self.inside.progress) c.args.x =
    c.tabulate_leaf_lane.ensures.valid
    ∙ ap (λ (r : Schedule). valid_at (run_tests (g.L.Locator.tensors c.self.inside.loc.now) r) r.nest [] c.as_slice-slots.result.now c.leaf.result c.args.x) c.parts.ensures.parts
    ∙ ap (λ (k : ℕ). valid_at (run_tests (g.L.Locator.tensors c.self.inside.loc.now) c.self.inside.sched.now) c.self.inside.sched.now.nest [] c.as_slice-slots.result.now k c.args.x) c.leaf.ensures
    ∙ ap (λ (l : List ℕ). valid_at (run_tests (g.L.Locator.tensors c.self.inside.loc.now) c.self.inside.sched.now) c.self.inside.sched.now.nest [] l (standing c.self.inside.progress) c.args.x) c.as_slice-slots.ensures.value in
    subst (λ (r : Run). OnLanes r (λ lanes. c.tabulate_leaf_lane.result ≡ is_among c.args.x lanes.valid)) c.self.view_is
    (valid_answer (g.L.Locator.tensors c.self.inside.loc.now) c.self.inside.sched.now c.self.inside.path.items c.self.inside.cursor.slots.items c.self.inside.progress c.self.invariant.0 c.args.x c.tabulate_leaf_lane.result (subst (λ (r : Run). OnLanes r (λ lanes. c.args.x < lanes.extent)) (sym c.self.view_is) c.requires.within) e)

pub returns-clause-point : goal.returns-clause-point
returns-clause-point g c =
    on_true c.tabulate_leaf_lane.result (ArePointValues c.args.self.now (Some c.args.x) c.tabulate_leaf_lane.new.values) (λ y.
    let e : HasLaneTable (world_of (g.L.Locator.tensors c.self.inside.loc.now) c.self.inside.sched.now) c.self.inside.sched.now.derived [] (pairs_at c.self.inside.sched.now.nest (standing c.self.inside.progress)) c.self.inside.cursor.slots.items (substituted_at c.self.inside.sched.now.nest (standing c.self.inside.progress)) c.args.x c.tabulate_leaf_lane.new.values =
    subst (λ (l : List ℕ). HasLaneTable (world_of (g.L.Locator.tensors c.self.inside.loc.now) c.self.inside.sched.now) c.self.inside.sched.now.derived [] (pairs_at c.self.inside.sched.now.nest (standing c.self.inside.progress)) l (substituted_at c.self.inside.sched.now.nest (standing c.self.inside.progress)) c.args.x c.tabulate_leaf_lane.new.values) c.as_slice-slots.ensures.value
    (subst (λ (k : ℕ). HasLaneTable (world_of (g.L.Locator.tensors c.self.inside.loc.now) c.self.inside.sched.now) c.self.inside.sched.now.derived [] (pairs_at c.self.inside.sched.now.nest k) c.as_slice-slots.result.now (substituted_at c.self.inside.sched.now.nest k) c.args.x c.tabulate_leaf_lane.new.values) c.leaf.ensures
    (subst (λ (r : Schedule). HasLaneTable (world_of (g.L.Locator.tensors c.self.inside.loc.now) r) r.derived [] (pairs_at r.nest c.leaf.result) c.as_slice-slots.result.now (substituted_at r.nest c.leaf.result) c.args.x c.tabulate_leaf_lane.new.values) c.parts.ensures.parts c.tabulate_leaf_lane.ensures.table)) in
    subst (λ (r : Run). ArePointValues r (Some c.args.x) c.tabulate_leaf_lane.new.values) c.self.view_is
    (lane_values (g.L.Locator.tensors c.self.inside.loc.now) c.self.inside.sched.now c.self.inside.path.items c.self.inside.cursor.slots.items c.self.inside.progress c.self.invariant.0 c.args.x c.tabulate_leaf_lane.new.values (substituted_at c.self.inside.sched.now.nest (standing c.self.inside.progress)) refl
    (subst (λ (r : Run). OnLanes r (λ lanes. is_among c.args.x lanes.valid ≡ true)) (sym c.self.view_is) (valid_lane_true c.args.self.now c.args.x c.tabulate_leaf_lane.result (returns-clause-valid g c) y)) e))
