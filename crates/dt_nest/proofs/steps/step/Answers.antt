use Rattle.std.proofs.Common.{◌≡◌, ◌<◌, ◌+◌, ℕ, false, List, [], Option, Some, None, length, take, sym, ap, ◌∙◌, subst, arith}
use Rattle.std.specs.Prelude.{if◌then◌else◌, is_some, slice_index, slice_index_or}
use Rattle.std.specs.List.{AllByRecursion, list_all}
use Rattle.dt_nest.specs.declared.derivations.Derived.{Derived}
use Rattle.dt_nest.specs.declared.inner_loops.InnerLoop.{InnerLoop}
use Rattle.dt_nest.specs.Schedule.{seen}
use Rattle.dt_nest.specs.World.{world_of}
use Rattle.dt_nest.specs.Lawful.{AreNamed, IsBounded, is_replaced, sources}
use Rattle.dt_nest.specs.Values.{guard_inside, inside_in, is_below}
use Rattle.dt_nest.specs.ValueTables.{dependents, refilled, tabled}
use Rattle.dt_nest.proofs.Lent.{lent}
use Rattle.dt_nest.specs.InnerLoops.{is_inner_loop, turned}
use Rattle.dt_nest.proofs.Each.{all_map}
use Rattle.dt_nest.proofs.TableFacts.{table_holds}
use Rattle.dt_nest.proofs.Refills.{all_dependents, get_or_any, turned_table}
use Rattle.dt_nest.proofs.steps.step.Goals as goal

pub refill-requires-clause-named : goal.refill-requires-clause-named
refill-requires-clause-named g c =
    let within : c.in-Some.inner_loop < length c.args.inner_loops.now.items.items = subst (λ (l : List InnerLoop). c.in-Some.inner_loop < length l) c.as_slice.ensures.value c.in-Some.ensures.within in
    let room : c.in-Some.inner_loop < length c.as_slice-lists.result.now = omega (arith, within, c.requires.turn.count, ap length c.as_slice-lists.ensures.value) in
    let e : c.as_slice-in-Some.result.now ≡ dependents c.args.conditions.now.parts.now.derived (is_inner_loop (take (c.in-Some.inner_loop + 1) c.args.inner_loops.now.items.items)) =
    c.as_slice-in-Some.ensures ∙ c.index-lists-inner_loop.is ∙ get_or_any c.as_slice-lists.result.now c.in-Some.inner_loop c.index-lists-inner_loop.result [] room
    ∙ ap (λ (l : List (List Derived)). slice_index_or l c.in-Some.inner_loop []) c.as_slice-lists.ensures.value ∙ c.requires.turn.derived c.in-Some.inner_loop within in
    subst (AreNamed (seen c.args.conditions.now.parts.now)) (sym e)
    (all_dependents (λ (d : Derived). (d.var < length c.args.conditions.now.parts.now.names) × AllByRecursion (λ u. u < length c.args.conditions.now.parts.now.names) (sources d.how) × IsBounded (seen c.args.conditions.now.parts.now) d.var d.how)
    c.args.conditions.now.parts.now.derived (is_inner_loop (take (c.in-Some.inner_loop + 1) c.args.inner_loops.now.items.items)) c.requires.lawful.derived)

pub returns-then-hold-clause-table : goal.returns-then-hold-clause-table
returns-then-hold-clause-table g c u =
    let within : c.in-Some.inner_loop < length c.args.inner_loops.now.items.items = subst (λ (l : List InnerLoop). c.in-Some.inner_loop < length l) c.as_slice.ensures.value c.in-Some.ensures.within in
    let room : c.in-Some.inner_loop < length c.as_slice-lists.result.now = omega (arith, within, c.requires.turn.count, ap length c.as_slice-lists.ensures.value) in
    let e : c.as_slice-in-Some.result.now ≡ dependents c.args.conditions.now.parts.now.derived (is_inner_loop (take (c.in-Some.inner_loop + 1) c.as_slice.result.now)) =
    c.as_slice-in-Some.ensures ∙ c.index-lists-inner_loop.is ∙ get_or_any c.as_slice-lists.result.now c.in-Some.inner_loop c.index-lists-inner_loop.result [] room
    ∙ ap (λ (l : List (List Derived)). slice_index_or l c.in-Some.inner_loop []) c.as_slice-lists.ensures.value ∙ c.requires.turn.derived c.in-Some.inner_loop within
    ∙ ap (λ (l : List InnerLoop). dependents c.args.conditions.now.parts.now.derived (is_inner_loop (take (c.in-Some.inner_loop + 1) l))) (sym c.as_slice.ensures.value) in
    let size : length c.turn.new.cursor.values.items ≡ length c.args.conditions.now.parts.now.names = c.turn.ensures.values ∙ c.requires.size.0 in
    ap (λ (l : List (Option ℕ)). tabled l u) (lent c.turn.new.cursor.values.items c.as_mut_slice.result.now c.refill.new.values c.turn.new.cursor.values.len c.as_mut_slice.ensures.value (sym c.as_mut_slice.ensures.len ∙ ap length c.as_mut_slice.ensures.value) c.refill.ensures.length)
    ∙ ap (λ (l : List (Option ℕ)). tabled l u) c.refill.ensures.values
    ∙ ap (λ (l : List (Option ℕ)). tabled (refilled (world_of (g.L.Locator.tensors c.args.conditions.now.loc.now) (seen c.args.conditions.now.parts.now)) c.as_slice-in-Some.result.now l) u) c.as_mut_slice.ensures.value
    ∙ turned_table (world_of (g.L.Locator.tensors c.args.conditions.now.loc.now) (seen c.args.conditions.now.parts.now)) c.args.conditions.now.parts.now.derived c.args.cursor.now.slots.items c.turn.new.cursor.slots.items c.args.cursor.now.values.items c.turn.new.cursor.values.items c.as_slice.result.now c.in-Some.inner_loop c.as_slice-in-Some.result.now
    c.requires.lawful.ordered
    (all_map (λ (d : Derived). (d.var < length c.args.conditions.now.parts.now.names) × AllByRecursion (λ u. u < length c.args.conditions.now.parts.now.names) (sources d.how) × IsBounded (seen c.args.conditions.now.parts.now) d.var d.how)
    (λ (d : Derived). d.var < length c.turn.new.cursor.values.items) (λ d h. subst (λ (n : ℕ). d.var < n) (sym size) h.0) c.args.conditions.now.parts.now.derived c.requires.lawful.derived)
    (subst (λ (l : List InnerLoop). AllByRecursion (λ w. is_replaced c.args.conditions.now.parts.now.derived w.var ≡ false) l) (sym c.as_slice.ensures.value) c.requires.turn.loops)
    c.requires.table c.in-Some.ensures.stay c.turn.ensures.others c.turn.ensures.follow e u

pub returns-then-hold-clause-steps : goal.returns-then-hold-clause-steps
returns-then-hold-clause-steps g c =
    let h : c.hold.result ≡ list_all (guard_inside (world_of (g.L.Locator.tensors c.args.conditions.now.loc.now) (seen c.args.conditions.now.parts.now)) (inside_in (world_of (g.L.Locator.tensors c.args.conditions.now.loc.now) (seen c.args.conditions.now.parts.now)) c.args.conditions.now.parts.now.derived [] c.turn.new.cursor.slots.items)) c.args.inner_loops.now.guards.items =
    c.hold.ensures
    ∙ ap (λ (l : List (Option ℕ)). list_all (λ v. is_below (slice_index c.as_slice-in-Some-3.result.now v) (tabled l v)) c.as_slice-in-Some-2.result.now) (c.as_slice-values.ensures.value ∙ (lent c.turn.new.cursor.values.items c.as_mut_slice.result.now c.refill.new.values c.turn.new.cursor.values.len c.as_mut_slice.ensures.value (sym c.as_mut_slice.ensures.len ∙ ap length c.as_mut_slice.ensures.value) c.refill.ensures.length))
    ∙ ap (λ (extents : List ℕ). list_all (λ v. is_below (slice_index extents v) (tabled c.refill.new.values v)) c.as_slice-in-Some-2.result.now) c.as_slice-in-Some-3.ensures
    ∙ ap (λ (l : List ℕ). list_all (λ v. is_below (slice_index c.args.conditions.now.parts.now.extents v) (tabled c.refill.new.values v)) l) c.as_slice-in-Some-2.ensures.value
    ∙ table_holds (world_of (g.L.Locator.tensors c.args.conditions.now.loc.now) (seen c.args.conditions.now.parts.now)) c.args.conditions.now.parts.now.derived c.turn.new.cursor.slots.items c.refill.new.values c.args.inner_loops.now.guards.items (λ u. ap (λ (l : List (Option ℕ)). tabled l u) (sym (lent c.turn.new.cursor.values.items c.as_mut_slice.result.now c.refill.new.values c.turn.new.cursor.values.len c.as_mut_slice.ensures.value (sym c.as_mut_slice.ensures.len ∙ ap length c.as_mut_slice.ensures.value) c.refill.ensures.length)) ∙ returns-then-hold-clause-table g c u) in (
      ap (λ (ws : List InnerLoop). turned ws c.args.cursor.now.slots.items) (sym c.as_slice.ensures.value) ∙ c.turn.ensures.turned ∙ ap (λ (o : Option ℕ). if is_some o then Some c.turn.new.cursor.slots.items else None) c.in-Some.is,
      ap (λ (l : List ℕ). list_all (guard_inside (world_of (g.L.Locator.tensors c.args.conditions.now.loc.now) (seen c.args.conditions.now.parts.now)) (inside_in (world_of (g.L.Locator.tensors c.args.conditions.now.loc.now) (seen c.args.conditions.now.parts.now)) c.args.conditions.now.parts.now.derived [] c.turn.new.cursor.slots.items)) l) (sym c.requires.turn.guards) ∙ sym h ∙ c.if-hold.true,
    )

pub returns-else-hold-clause-table : goal.returns-else-hold-clause-table
returns-else-hold-clause-table g c u =
    let within : c.in-Some.inner_loop < length c.args.inner_loops.now.items.items = subst (λ (l : List InnerLoop). c.in-Some.inner_loop < length l) c.as_slice.ensures.value c.in-Some.ensures.within in
    let room : c.in-Some.inner_loop < length c.as_slice-lists.result.now = omega (arith, within, c.requires.turn.count, ap length c.as_slice-lists.ensures.value) in
    let e : c.as_slice-in-Some.result.now ≡ dependents c.args.conditions.now.parts.now.derived (is_inner_loop (take (c.in-Some.inner_loop + 1) c.as_slice.result.now)) =
    c.as_slice-in-Some.ensures ∙ c.index-lists-inner_loop.is ∙ get_or_any c.as_slice-lists.result.now c.in-Some.inner_loop c.index-lists-inner_loop.result [] room
    ∙ ap (λ (l : List (List Derived)). slice_index_or l c.in-Some.inner_loop []) c.as_slice-lists.ensures.value ∙ c.requires.turn.derived c.in-Some.inner_loop within
    ∙ ap (λ (l : List InnerLoop). dependents c.args.conditions.now.parts.now.derived (is_inner_loop (take (c.in-Some.inner_loop + 1) l))) (sym c.as_slice.ensures.value) in
    let size : length c.turn.new.cursor.values.items ≡ length c.args.conditions.now.parts.now.names = c.turn.ensures.values ∙ c.requires.size.0 in
    ap (λ (l : List (Option ℕ)). tabled l u) (lent c.turn.new.cursor.values.items c.as_mut_slice.result.now c.refill.new.values c.turn.new.cursor.values.len c.as_mut_slice.ensures.value (sym c.as_mut_slice.ensures.len ∙ ap length c.as_mut_slice.ensures.value) c.refill.ensures.length)
    ∙ ap (λ (l : List (Option ℕ)). tabled l u) c.refill.ensures.values
    ∙ ap (λ (l : List (Option ℕ)). tabled (refilled (world_of (g.L.Locator.tensors c.args.conditions.now.loc.now) (seen c.args.conditions.now.parts.now)) c.as_slice-in-Some.result.now l) u) c.as_mut_slice.ensures.value
    ∙ turned_table (world_of (g.L.Locator.tensors c.args.conditions.now.loc.now) (seen c.args.conditions.now.parts.now)) c.args.conditions.now.parts.now.derived c.args.cursor.now.slots.items c.turn.new.cursor.slots.items c.args.cursor.now.values.items c.turn.new.cursor.values.items c.as_slice.result.now c.in-Some.inner_loop c.as_slice-in-Some.result.now
    c.requires.lawful.ordered
    (all_map (λ (d : Derived). (d.var < length c.args.conditions.now.parts.now.names) × AllByRecursion (λ u. u < length c.args.conditions.now.parts.now.names) (sources d.how) × IsBounded (seen c.args.conditions.now.parts.now) d.var d.how)
    (λ (d : Derived). d.var < length c.turn.new.cursor.values.items) (λ d h. subst (λ (n : ℕ). d.var < n) (sym size) h.0) c.args.conditions.now.parts.now.derived c.requires.lawful.derived)
    (subst (λ (l : List InnerLoop). AllByRecursion (λ w. is_replaced c.args.conditions.now.parts.now.derived w.var ≡ false) l) (sym c.as_slice.ensures.value) c.requires.turn.loops)
    c.requires.table c.in-Some.ensures.stay c.turn.ensures.others c.turn.ensures.follow e u

pub returns-else-hold-clause-steps : goal.returns-else-hold-clause-steps
returns-else-hold-clause-steps g c =
    let h : c.hold.result ≡ list_all (guard_inside (world_of (g.L.Locator.tensors c.args.conditions.now.loc.now) (seen c.args.conditions.now.parts.now)) (inside_in (world_of (g.L.Locator.tensors c.args.conditions.now.loc.now) (seen c.args.conditions.now.parts.now)) c.args.conditions.now.parts.now.derived [] c.turn.new.cursor.slots.items)) c.args.inner_loops.now.guards.items =
    c.hold.ensures
    ∙ ap (λ (l : List (Option ℕ)). list_all (λ v. is_below (slice_index c.as_slice-in-Some-3.result.now v) (tabled l v)) c.as_slice-in-Some-2.result.now) (c.as_slice-values.ensures.value ∙ (lent c.turn.new.cursor.values.items c.as_mut_slice.result.now c.refill.new.values c.turn.new.cursor.values.len c.as_mut_slice.ensures.value (sym c.as_mut_slice.ensures.len ∙ ap length c.as_mut_slice.ensures.value) c.refill.ensures.length))
    ∙ ap (λ (extents : List ℕ). list_all (λ v. is_below (slice_index extents v) (tabled c.refill.new.values v)) c.as_slice-in-Some-2.result.now) c.as_slice-in-Some-3.ensures
    ∙ ap (λ (l : List ℕ). list_all (λ v. is_below (slice_index c.args.conditions.now.parts.now.extents v) (tabled c.refill.new.values v)) l) c.as_slice-in-Some-2.ensures.value
    ∙ table_holds (world_of (g.L.Locator.tensors c.args.conditions.now.loc.now) (seen c.args.conditions.now.parts.now)) c.args.conditions.now.parts.now.derived c.turn.new.cursor.slots.items c.refill.new.values c.args.inner_loops.now.guards.items (λ u. ap (λ (l : List (Option ℕ)). tabled l u) (sym (lent c.turn.new.cursor.values.items c.as_mut_slice.result.now c.refill.new.values c.turn.new.cursor.values.len c.as_mut_slice.ensures.value (sym c.as_mut_slice.ensures.len ∙ ap length c.as_mut_slice.ensures.value) c.refill.ensures.length)) ∙ returns-else-hold-clause-table g c u) in (
      ap (λ (ws : List InnerLoop). turned ws c.args.cursor.now.slots.items) (sym c.as_slice.ensures.value) ∙ c.turn.ensures.turned ∙ ap (λ (o : Option ℕ). if is_some o then Some c.turn.new.cursor.slots.items else None) c.in-Some.is,
      ap (λ (l : List ℕ). list_all (guard_inside (world_of (g.L.Locator.tensors c.args.conditions.now.loc.now) (seen c.args.conditions.now.parts.now)) (inside_in (world_of (g.L.Locator.tensors c.args.conditions.now.loc.now) (seen c.args.conditions.now.parts.now)) c.args.conditions.now.parts.now.derived [] c.turn.new.cursor.slots.items)) l) (sym c.requires.turn.guards) ∙ sym h ∙ c.if-hold.false,
    )
