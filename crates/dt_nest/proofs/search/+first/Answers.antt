use Rattle.std.proofs.Common.{rules, List, ◌≡◌, ◌+◌, ℕ, [], ◌∷◌, length, sym, ap, ◌∙◌, subst, refl, arith}
use Rattle.dt_nest.specs.declared.loops.Nest.{Nest}
use Rattle.dt_nest.specs.declared.loops.Pair.{Pair}
use Rattle.dt_nest.specs.Tree.{tree_of, Loop, Pre}
use Rattle.dt_nest.specs.Naming.{pairs_in}
use Rattle.dt_nest.specs.Search.{HaveSlots}
use Rattle.std.proofs.lemmas.Grind.{common_steps}
use Rattle.dt_nest.proofs.Moves.{enters_body, found_from, none_at}
use Rattle.dt_nest.proofs.Searches.{entered_by, finds_at, nil_of, loop_whole, loop_one, loop_lanes, loop_no_lanes, pre_first, pre_second}
use Rattle.std.proofs.Math.ListN.{length-set}
use Rattle.dt_nest.proofs.search.+first.Goals as goal

pub first-returns-in-Loop-clause-finds : goal.first-returns-in-Loop-clause-finds
first-returns-in-Loop-clause-finds g t c =
    finds_at (g.T.Testing.tests c.args.route.now.tests.now) (tree_of c.args.nest.now) (Loop c.in-Loop.var c.in-Loop.extent c.in-Loop.walk (tree_of c.deref.result.now)) (pairs_in c.args.route.now.naming.now) c.args.route.now.path.now c.args.cursor.now.slots.items c.first_in_loop.new.cursor.slots.items c.first_in_loop.result
    (ap tree_of c.in-Loop.is ∙ ap (λ (b : Nest). Loop c.in-Loop.var c.in-Loop.extent c.in-Loop.walk (tree_of b)) (sym c.deref.ensures)) c.first_in_loop.ensures.finds

pub first_in_loop-returns-then-has_lane-clause-finds : goal.first_in_loop-returns-then-has_lane-clause-finds
first_in_loop-returns-then-has_lane-clause-finds g t c =
    loop_lanes (g.T.Testing.tests c.args.route.now.tests.now) (Loop c.args.head.now.var c.args.extent c.args.head.now.walk.now (tree_of c.args.head.now.body.now)) c.args.head.now.walk.now c.args.head.now.var c.args.extent (tree_of c.args.head.now.body.now) (tree_of c.args.head.now.body.now) (pairs_in c.args.route.now.naming.now) c.args.route.now.path.now c.args.cursor.now.slots.items c.has_lane.new.cursor.slots.items
    refl refl (sym c.has_kernel.ensures ∙ c.if-has_kernel.true) c.requires.zero c.has_lane.result c.has_lane.ensures.found c.if-has_lane.true c.has_lane.ensures.slots

pub first_in_loop-returns-else-has_lane-clause-finds : goal.first_in_loop-returns-else-has_lane-clause-finds
first_in_loop-returns-else-has_lane-clause-finds g t c =
    loop_no_lanes (g.T.Testing.tests c.args.route.now.tests.now) (Loop c.args.head.now.var c.args.extent c.args.head.now.walk.now (tree_of c.args.head.now.body.now)) c.args.head.now.walk.now c.args.head.now.var c.args.extent (tree_of c.args.head.now.body.now) (tree_of c.args.head.now.body.now) (pairs_in c.args.route.now.naming.now) c.args.route.now.path.now c.args.cursor.now.slots.items c.has_lane.new.cursor.slots.items
    refl refl (sym c.has_kernel.ensures ∙ c.if-has_kernel.true) c.has_lane.result c.has_lane.ensures.found c.if-has_lane.false c.has_lane.ensures.slots

pub first_in_loop-returns-in-None-clause-finds : goal.first_in_loop-returns-in-None-clause-finds
first_in_loop-returns-in-None-clause-finds g t c =
    let none : length c.args.route.now.path.now ≡ 0 = search rules in
    let p : c.args.route.now.path.now ≡ [] = nil_of c.args.route.now.path.now none in
    loop_whole (g.T.Testing.tests c.args.route.now.tests.now) (Loop c.args.head.now.var c.args.extent c.args.head.now.walk.now (tree_of c.args.head.now.body.now)) c.args.head.now.walk.now c.args.head.now.var c.args.extent (tree_of c.args.head.now.body.now) (tree_of c.args.head.now.body.now) (pairs_in c.args.route.now.naming.now) c.args.route.now.path.now c.args.cursor.now.slots.items c.first_from.new.cursor.slots.items
    refl refl c.first_from.result (sym c.has_kernel.ensures ∙ c.if-has_kernel.false) p c.first_from.ensures.finds

pub first_in_loop-returns-in-Some-clause-finds : goal.first_in_loop-returns-in-Some-clause-finds
first_in_loop-returns-in-Some-clause-finds g t c =
    let p : c.args.route.now.path.now ≡ c.in-Some.x.now ∷ c.in-Some.rest.now = search rules in
    loop_one (g.T.Testing.tests c.args.route.now.tests.now) (Loop c.args.head.now.var c.args.extent c.args.head.now.walk.now (tree_of c.args.head.now.body.now)) c.args.head.now.walk.now c.args.head.now.var c.args.extent (tree_of c.args.head.now.body.now) (tree_of c.args.head.now.body.now) (pairs_in c.args.route.now.naming.now) c.args.route.now.path.now c.args.cursor.now.slots.items c.first_from-in-Some.new.cursor.slots.items
    refl refl c.first_from-in-Some.result c.in-Some.x.now c.in-Some.rest.now (sym c.has_kernel.ensures ∙ c.if-has_kernel.false) p c.requires.path c.first_from-in-Some.ensures.finds

pub first_from-enter-requires : goal.first_from-enter-requires
first_from-enter-requires g t c κs within = (
  search rules,
  (
    grind (arith, common_steps),
    (
      grind (arith, common_steps),
      (
        grind (arith, common_steps),
        (
          subst (HaveSlots (tree_of c.args.head.now.body.now)) (sym (length-set c.loop-i.cursor.slots.items c.args.head.now.var c.loop-i.i ∙ ap length c.loop-i.invariant.0)) c.requires.room.2,
          (
            enters_body c.args.head.now.walk.now _ _ _ c.args.to _ _ c.loop-i.invariant.0 c.requires.room c.requires.zero,
            (c.requires.path, (length-set c.loop-i.cursor.slots.items c.args.head.now.var c.loop-i.i ∙ c.loop-i.invariant.2.0, c.loop-i.invariant.2.1)),
          ),
        ),
      ),
    ),
  ),
)

pub enter-returns-then-takes-clause-enters : goal.enter-returns-then-takes-clause-enters
enter-returns-then-takes-clause-enters g t c =
    entered_by (g.T.Testing.tests c.args.route.now.tests.now) c.args.head.now.walk.now c.args.head.now.var (tree_of c.args.head.now.body.now) (pairs_in c.args.route.now.naming.now) c.args.route.now.path.now c.args.cursor.now.slots.items c.takes.new.cursor.slots.items c.first.new.cursor.slots.items c.first.result
    c.takes.ensures.slots (sym c.takes.ensures.takes ∙ c.if-takes.true) c.first.ensures.finds

pub first_from-returns-in-Some-clause-finds : goal.first_from-returns-in-Some-clause-finds
first_from-returns-in-Some-clause-finds g t c = found_from _ _ _ _ _ _ _ _ _ _ _ _ _ c.loop-i.invariant.0 c.loop-i.invariant.1 c.loop-i.auto.i c.loop-i-test.true c.requires.room.0 c.requires.room.1 c.requires.zero.0 c.in-Some.ensures.enters

pub first_from-loop-i-preserved : goal.first_from-loop-i-preserved
first_from-loop-i-preserved g t c =
    let h = none_at (g.T.Testing.tests c.args.route.now.tests.now) c.args.head.now.walk.now c.args.head.now.var (tree_of c.args.head.now.body.now) (pairs_in c.args.route.now.naming.now) c.args.route.now.path.now c.args.from c.loop-i.i c.args.cursor.now.slots.items c.loop-i.cursor.slots.items c.enter.new.cursor.slots.items c.loop-i.invariant.0 c.loop-i.invariant.1 c.loop-i.auto.i c.requires.zero.0 c.in_default.ensures.enters in
    (h.0, h.1, (length-set c.enter.new.cursor.slots.items c.args.head.now.var 0 ∙ c.in_default.ensures.size.0, c.in_default.ensures.size.1))

pub first_in_branches-returns-in-Some-clause-finds : goal.first_in_branches-returns-in-Some-clause-finds
first_in_branches-returns-in-Some-clause-finds g t c work =
    pre_first (g.T.Testing.tests c.args.route.now.tests.now) (Pre work c.args.branches.now.pairs.now (tree_of c.args.branches.now.producer.now) (tree_of c.args.branches.now.consumer.now)) work c.args.branches.now.pairs.now c.args.branches.now.pairs.now (tree_of c.args.branches.now.producer.now) (tree_of c.args.branches.now.consumer.now) (tree_of c.args.branches.now.producer.now) (tree_of c.args.branches.now.consumer.now) (pairs_in c.args.route.now.naming.now) c.args.route.now.path.now c.args.cursor.now.slots.items _ refl refl refl refl c.requires.room c.requires.zero _ c.in-Some.ensures.finds

pub first_in_branches-returns-in-Some-first-clause-finds : goal.first_in_branches-returns-in-Some-first-clause-finds
first_in_branches-returns-in-Some-first-clause-finds g t c work =
    pre_second (g.T.Testing.tests c.args.route.now.tests.now) (Pre work c.args.branches.now.pairs.now (tree_of c.args.branches.now.producer.now) (tree_of c.args.branches.now.consumer.now)) work c.args.branches.now.pairs.now c.args.branches.now.pairs.now (tree_of c.args.branches.now.producer.now) (tree_of c.args.branches.now.consumer.now) (tree_of c.args.branches.now.producer.now) (tree_of c.args.branches.now.consumer.now) (pairs_in c.args.route.now.naming.now) c.args.route.now.path.now c.args.cursor.now.slots.items _ refl refl refl refl c.requires.room c.requires.zero c.first.new.cursor.slots.items _ c.in-Some-first.leaf (ap (λ (k : ℕ). k + c.in-Some-first.leaf) (sym c.leaves.ensures)) c.in_default.ensures.finds c.in-Some-first.ensures.finds

pub first_in_branches-overflow_add-result : goal.first_in_branches-overflow_add-result
first_in_branches-overflow_add-result g t c =
    let some = (c.in-Some-first.ensures.finds.goes.0 []).exists in
    omega (arith, c.requires.few, some, c.leaves.ensures)

pub first-returns-in-Pre-clause-finds : goal.first-returns-in-Pre-clause-finds
first-returns-in-Pre-clause-finds g t c =
    finds_at (g.T.Testing.tests c.args.route.now.tests.now) (tree_of c.args.nest.now) (Pre c.in-Pre.work c.as_slice.result.now (tree_of c.deref-in-Pre.result.now) (tree_of c.deref-in-Pre-2.result.now)) (pairs_in c.args.route.now.naming.now) c.args.route.now.path.now c.args.cursor.now.slots.items c.first_in_branches.new.cursor.slots.items c.first_in_branches.result
    (ap tree_of c.in-Pre.is ∙ ap (λ (l : List Pair). Pre c.in-Pre.work l (tree_of c.in-Pre.producer.value) (tree_of c.in-Pre.consumer.value)) (sym c.as_slice.ensures)
    ∙ ap (λ (b : Nest). Pre c.in-Pre.work c.as_slice.result.now (tree_of b) (tree_of c.in-Pre.consumer.value)) (sym c.deref-in-Pre.ensures)
    ∙ ap (λ (b : Nest). Pre c.in-Pre.work c.as_slice.result.now (tree_of c.deref-in-Pre.result.now) (tree_of b)) (sym c.deref-in-Pre-2.ensures)) (c.first_in_branches.ensures.finds c.in-Pre.work)
