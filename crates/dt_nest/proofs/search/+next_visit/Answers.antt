use Rattle.std.proofs.Common.{◌≡◌, ◌+◌, ◌-◌, ◌<◌, ◌^◌, ℕ, List, [], Some, None, subst, sym, ap, ◌∙◌, refl, arith}
use Rattle.dt_nest.specs.declared.loops.Nest.{Nest}
use Rattle.dt_nest.specs.declared.loops.Pair.{Pair}
use Rattle.dt_nest.specs.Tree.{tree_of, Loop, Pre, leaf_count}
use Rattle.std.specs.Prelude.{slice_index, slice_set}
use Rattle.dt_nest.specs.Naming.{pairs_in}
use Rattle.dt_nest.specs.Search.{FindsFrom, end_on}
use Rattle.dt_nest.proofs.Refills.{get_or_any}
use Rattle.dt_nest.proofs.Searches.{steps_at}
use Rattle.dt_nest.proofs.NextSearches.{loop_next, over_zero, loop_next_over, loop_next_none, consumer_zero, pre_first_next, pre_over, pre_over_none, pre_second_next, pre_second_none, past_fits}
use Rattle.dt_nest.proofs.search.+next_visit.Goals as goal

pub next_visit-returns-in-Loop-clause-steps : goal.next_visit-returns-in-Loop-clause-steps
next_visit-returns-in-Loop-clause-steps g t c =
    steps_at (g.T.Testing.tests c.args.route.now.tests.now) (tree_of c.args.nest.now) (Loop c.in-Loop.var c.in-Loop.extent c.in-Loop.walk (tree_of c.deref.result.now)) (pairs_in c.args.route.now.naming.now) c.args.route.now.path.now c.args.leaf c.args.cursor.now.slots.items c.next_in_loop.new.cursor.slots.items c.next_in_loop.result
    (ap tree_of c.in-Loop.is ∙ ap (λ (b : Nest). Loop c.in-Loop.var c.in-Loop.extent c.in-Loop.walk (tree_of b)) (sym c.deref.ensures)) c.next_in_loop.ensures.steps

pub next_in_loop-returns-in-Some-clause-steps : goal.next_in_loop-returns-in-Some-clause-steps
next_in_loop-returns-in-Some-clause-steps g t c = loop_next (g.T.Testing.tests c.args.route.now.tests.now) (Loop c.args.head.now.var c.args.extent c.args.head.now.walk.now (tree_of c.args.head.now.body.now)) c.args.head.now.walk.now c.args.head.now.var c.args.extent (tree_of c.args.head.now.body.now) (tree_of c.args.head.now.body.now) (pairs_in c.args.route.now.naming.now) c.args.route.now.path.now c.below_first.result.now c.args.cursor.now.slots.items c.args.leaf refl refl c.below_first.ensures (sym c.has_kernel.ensures ∙ c.if-has_kernel.false) c.requires.room c.requires.stands _ _ c.in-Some.ensures.steps

pub next_in_loop-first_from-requires-clause-zero : goal.next_in_loop-first_from-requires-clause-zero
next_in_loop-first_from-requires-clause-zero g t c = over_zero (g.T.Testing.tests c.args.route.now.tests.now) (Loop c.args.head.now.var c.args.extent c.args.head.now.walk.now (tree_of c.args.head.now.body.now)) c.args.head.now.walk.now c.args.head.now.var c.args.extent (tree_of c.args.head.now.body.now) (tree_of c.args.head.now.body.now) (pairs_in c.args.route.now.naming.now) c.args.route.now.path.now c.below_first.result.now c.args.cursor.now.slots.items c.args.leaf refl refl c.below_first.ensures (sym c.has_kernel.ensures ∙ c.if-has_kernel.false) c.requires.room c.requires.stands c.next_visit.new.cursor.slots.items c.in_default.ensures.steps

pub next_in_loop-returns-in-None-clause-steps : goal.next_in_loop-returns-in-None-clause-steps
next_in_loop-returns-in-None-clause-steps g t c =
    let e : c.index-x.result.now ≡ slice_index c.args.cursor.now.slots.items c.args.head.now.var = c.index-x.ensures ∙ get_or_any c.args.cursor.now.slots.items c.args.head.now.var c.index-x.result.now 0 c.requires.room.0 in
    loop_next_none (g.T.Testing.tests c.args.route.now.tests.now) (Loop c.args.head.now.var c.args.extent c.args.head.now.walk.now (tree_of c.args.head.now.body.now)) c.args.head.now.walk.now c.args.head.now.var c.args.extent (tree_of c.args.head.now.body.now) (tree_of c.args.head.now.body.now) (pairs_in c.args.route.now.naming.now) c.args.route.now.path.now c.below_first.result.now c.args.cursor.now.slots.items c.args.leaf refl refl c.below_first.ensures (sym c.has_kernel.ensures ∙ c.if-has_kernel.false) c.requires.room c.requires.stands (tree_of c.args.head.now.body.now) c.next_visit.new.cursor.slots.items _ c.end_of-to.result refl (c.end_of-to.ensures ∙ ap (end_on c.args.route.now.path.now c.args.extent) e) c.in_default.ensures.steps (subst (λ (m : ℕ). FindsFrom (g.T.Testing.tests c.args.route.now.tests.now) c.args.head.now.walk.now c.args.head.now.var (tree_of c.args.head.now.body.now) (pairs_in c.args.route.now.naming.now) c.below_first.result.now (m + 1) c.end_of-to.result (slice_set c.next_visit.new.cursor.slots.items c.args.head.now.var 0) c.first_from.new.cursor.slots.items None) e c.in-None.ensures.finds)

pub next_in_loop-returns-in-Some-first_from-clause-steps : goal.next_in_loop-returns-in-Some-first_from-clause-steps
next_in_loop-returns-in-Some-first_from-clause-steps g t c =
    let e : c.index-x.result.now ≡ slice_index c.args.cursor.now.slots.items c.args.head.now.var = c.index-x.ensures ∙ get_or_any c.args.cursor.now.slots.items c.args.head.now.var c.index-x.result.now 0 c.requires.room.0 in
    loop_next_over (g.T.Testing.tests c.args.route.now.tests.now) (Loop c.args.head.now.var c.args.extent c.args.head.now.walk.now (tree_of c.args.head.now.body.now)) c.args.head.now.walk.now c.args.head.now.var c.args.extent (tree_of c.args.head.now.body.now) (tree_of c.args.head.now.body.now) (pairs_in c.args.route.now.naming.now) c.args.route.now.path.now c.below_first.result.now c.args.cursor.now.slots.items c.args.leaf refl refl c.below_first.ensures (sym c.has_kernel.ensures ∙ c.if-has_kernel.false) c.requires.room c.requires.stands (tree_of c.args.head.now.body.now) c.next_visit.new.cursor.slots.items _ c.end_of-to.result c.in-Some-first_from.leaf _ refl (c.end_of-to.ensures ∙ ap (end_on c.args.route.now.path.now c.args.extent) e) refl refl c.in_default.ensures.steps (subst (λ (m : ℕ). FindsFrom (g.T.Testing.tests c.args.route.now.tests.now) c.args.head.now.walk.now c.args.head.now.var (tree_of c.args.head.now.body.now) (pairs_in c.args.route.now.naming.now) c.below_first.result.now (m + 1) c.end_of-to.result (slice_set c.next_visit.new.cursor.slots.items c.args.head.now.var 0) c.first_from.new.cursor.slots.items (Some c.in-Some-first_from.leaf)) e c.in-Some-first_from.ensures.finds)

pub next_in_producer-returns-in-Some-clause-steps : goal.next_in_producer-returns-in-Some-clause-steps
next_in_producer-returns-in-Some-clause-steps g t c work = pre_first_next (g.T.Testing.tests c.args.route.now.tests.now) (Pre work c.args.branches.now.pairs.now (tree_of c.args.branches.now.producer.now) (tree_of c.args.branches.now.consumer.now)) work c.args.branches.now.pairs.now c.args.branches.now.pairs.now (tree_of c.args.branches.now.producer.now) (tree_of c.args.branches.now.consumer.now) (tree_of c.args.branches.now.producer.now) (tree_of c.args.branches.now.consumer.now) (pairs_in c.args.route.now.naming.now) c.args.route.now.path.now c.args.cursor.now.slots.items c.args.leaf refl refl refl refl c.requires.room c.requires.stands _ c.in-Some.stand _ c.requires.inside refl refl c.in-Some.ensures.steps

pub next_in_producer-returns-in-None-clause-steps : goal.next_in_producer-returns-in-None-clause-steps
next_in_producer-returns-in-None-clause-steps g t c work = pre_over_none (g.T.Testing.tests c.args.route.now.tests.now) (Pre work c.args.branches.now.pairs.now (tree_of c.args.branches.now.producer.now) (tree_of c.args.branches.now.consumer.now)) work c.args.branches.now.pairs.now c.args.branches.now.pairs.now (tree_of c.args.branches.now.producer.now) (tree_of c.args.branches.now.consumer.now) (tree_of c.args.branches.now.producer.now) (tree_of c.args.branches.now.consumer.now) (pairs_in c.args.route.now.naming.now) c.args.route.now.path.now c.args.cursor.now.slots.items c.args.leaf refl refl refl refl c.requires.room c.requires.stands c.next_visit.new.cursor.slots.items _ c.requires.inside c.in_default.ensures.steps c.in-None.ensures.finds

pub next_in_producer-returns-in-Some-first-clause-steps : goal.next_in_producer-returns-in-Some-first-clause-steps
next_in_producer-returns-in-Some-first-clause-steps g t c work = pre_over (g.T.Testing.tests c.args.route.now.tests.now) (Pre work c.args.branches.now.pairs.now (tree_of c.args.branches.now.producer.now) (tree_of c.args.branches.now.consumer.now)) work c.args.branches.now.pairs.now c.args.branches.now.pairs.now (tree_of c.args.branches.now.producer.now) (tree_of c.args.branches.now.consumer.now) (tree_of c.args.branches.now.producer.now) (tree_of c.args.branches.now.consumer.now) (pairs_in c.args.route.now.naming.now) c.args.route.now.path.now c.args.cursor.now.slots.items c.args.leaf refl refl refl refl c.requires.room c.requires.stands c.next_visit.new.cursor.slots.items _ c.in-Some-first.leaf _ c.requires.inside (ap (λ (k : ℕ). k + c.in-Some-first.leaf) (sym c.leaves.ensures)) refl c.in_default.ensures.steps c.in-Some-first.ensures.finds

pub next_in_producer-first-requires-clause-zero : goal.next_in_producer-first-requires-clause-zero
next_in_producer-first-requires-clause-zero g t c = consumer_zero (g.T.Testing.tests c.args.route.now.tests.now) (Pre 0 c.args.branches.now.pairs.now (tree_of c.args.branches.now.producer.now) (tree_of c.args.branches.now.consumer.now)) 0 c.args.branches.now.pairs.now c.args.branches.now.pairs.now (tree_of c.args.branches.now.producer.now) (tree_of c.args.branches.now.consumer.now) (tree_of c.args.branches.now.producer.now) (tree_of c.args.branches.now.consumer.now) (pairs_in c.args.route.now.naming.now) c.args.route.now.path.now c.args.cursor.now.slots.items c.args.leaf refl refl refl refl c.requires.room c.requires.stands c.next_visit.new.cursor.slots.items c.requires.inside c.in_default.ensures.steps

pub next_in_consumer-returns-in-None-clause-steps : goal.next_in_consumer-returns-in-None-clause-steps
next_in_consumer-returns-in-None-clause-steps g t c work = pre_second_none (g.T.Testing.tests c.args.route.now.tests.now) (Pre work c.args.branches.now.pairs.now (tree_of c.args.branches.now.producer.now) (tree_of c.args.branches.now.consumer.now)) work c.args.branches.now.pairs.now c.args.branches.now.pairs.now (tree_of c.args.branches.now.producer.now) (tree_of c.args.branches.now.consumer.now) (tree_of c.args.branches.now.producer.now) (tree_of c.args.branches.now.consumer.now) (pairs_in c.args.route.now.naming.now) c.args.route.now.path.now c.args.cursor.now.slots.items c.args.leaf refl refl refl refl c.requires.room c.requires.stands _ (c.args.leaf - c.leaves-count.result) (omega (arith, c.requires.inside, c.leaves-count.ensures)) c.in-None.ensures.steps

pub next_in_consumer-returns-in-Some-clause-steps : goal.next_in_consumer-returns-in-Some-clause-steps
next_in_consumer-returns-in-Some-clause-steps g t c work = pre_second_next (g.T.Testing.tests c.args.route.now.tests.now) (Pre work c.args.branches.now.pairs.now (tree_of c.args.branches.now.producer.now) (tree_of c.args.branches.now.consumer.now)) work c.args.branches.now.pairs.now c.args.branches.now.pairs.now (tree_of c.args.branches.now.producer.now) (tree_of c.args.branches.now.consumer.now) (tree_of c.args.branches.now.producer.now) (tree_of c.args.branches.now.consumer.now) (pairs_in c.args.route.now.naming.now) c.args.route.now.path.now c.args.cursor.now.slots.items c.args.leaf refl refl refl refl c.requires.room c.requires.stands _ (c.args.leaf - c.leaves-count.result) c.in-Some.stand _ (omega (arith, c.requires.inside, c.leaves-count.ensures)) (ap (λ (k : ℕ). k + c.in-Some.stand.leaf) (sym c.leaves-count.ensures)) refl c.in-Some.ensures.steps

pub next_visit-returns-then-leaf-leaves-clause-steps : goal.next_visit-returns-then-leaf-leaves-clause-steps
next_visit-returns-then-leaf-leaves-clause-steps g t c =
    steps_at (g.T.Testing.tests c.args.route.now.tests.now) (tree_of c.args.nest.now) (Pre c.in-Pre.work c.as_slice.result.now (tree_of c.deref-in-Pre.result.now) (tree_of c.deref-in-Pre-2.result.now)) (pairs_in c.args.route.now.naming.now) c.args.route.now.path.now c.args.leaf c.args.cursor.now.slots.items c.next_in_producer.new.cursor.slots.items c.next_in_producer.result
    (ap tree_of c.in-Pre.is ∙ ap (λ (l : List Pair). Pre c.in-Pre.work l (tree_of c.in-Pre.producer.value) (tree_of c.in-Pre.consumer.value)) (sym c.as_slice.ensures)
    ∙ ap (λ (b : Nest). Pre c.in-Pre.work c.as_slice.result.now (tree_of b) (tree_of c.in-Pre.consumer.value)) (sym c.deref-in-Pre.ensures)
    ∙ ap (λ (b : Nest). Pre c.in-Pre.work c.as_slice.result.now (tree_of c.deref-in-Pre.result.now) (tree_of b)) (sym c.deref-in-Pre-2.ensures)) (c.next_in_producer.ensures.steps c.in-Pre.work)

pub next_visit-returns-else-leaf-leaves-clause-steps : goal.next_visit-returns-else-leaf-leaves-clause-steps
next_visit-returns-else-leaf-leaves-clause-steps g t c =
    steps_at (g.T.Testing.tests c.args.route.now.tests.now) (tree_of c.args.nest.now) (Pre c.in-Pre.work c.as_slice.result.now (tree_of c.deref-in-Pre.result.now) (tree_of c.deref-in-Pre-2.result.now)) (pairs_in c.args.route.now.naming.now) c.args.route.now.path.now c.args.leaf c.args.cursor.now.slots.items c.next_in_consumer.new.cursor.slots.items c.next_in_consumer.result
    (ap tree_of c.in-Pre.is ∙ ap (λ (l : List Pair). Pre c.in-Pre.work l (tree_of c.in-Pre.producer.value) (tree_of c.in-Pre.consumer.value)) (sym c.as_slice.ensures)
    ∙ ap (λ (b : Nest). Pre c.in-Pre.work c.as_slice.result.now (tree_of b) (tree_of c.in-Pre.consumer.value)) (sym c.deref-in-Pre.ensures)
    ∙ ap (λ (b : Nest). Pre c.in-Pre.work c.as_slice.result.now (tree_of c.deref-in-Pre.result.now) (tree_of b)) (sym c.deref-in-Pre-2.ensures)) (c.next_in_consumer.ensures.steps c.in-Pre.work)

pub next_in_consumer-overflow_add-result : goal.next_in_consumer-overflow_add-result
next_in_consumer-overflow_add-result g t c =
    let some = (c.in-Some.ensures.steps.goes.0 []).exists in
    omega (arith, c.requires.few, some, c.leaves-count.ensures)

pub next_in_consumer-overflow_add-result-in-Some : goal.next_in_consumer-overflow_add-result-in-Some
next_in_consumer-overflow_add-result-in-Some g t c =
    let few : leaf_count (tree_of c.args.branches.now.consumer.now) < 2 ^ 32 = omega (arith, c.requires.few) in
    let l = past_fits _ _ _ _ _ _ _ _ few c.in-Some.ensures.steps in
    omega arith

pub next_in_producer-overflow_add-result : goal.next_in_producer-overflow_add-result
next_in_producer-overflow_add-result g t c =
    let few : leaf_count (tree_of c.args.branches.now.producer.now) < 2 ^ 32 = omega (arith, c.requires.few) in
    let l = past_fits _ _ _ _ _ _ _ _ few c.in-Some.ensures.steps in
    omega arith

pub next_in_producer-overflow_add-result-in-Some-first : goal.next_in_producer-overflow_add-result-in-Some-first
next_in_producer-overflow_add-result-in-Some-first g t c =
    let some = (c.in-Some-first.ensures.finds.goes.0 []).exists in
    omega (arith, c.requires.few, some, c.leaves.ensures)
