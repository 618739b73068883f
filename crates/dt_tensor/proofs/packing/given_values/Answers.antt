use Rattle.std.proofs.Common.{◌-◌, ◌≡◌, ℕ, List, Option, Some, None, replicate, length, drop, map, sym, ◌∙◌, ap, arith}
use Rattle.dt_model.specs.Positions.{place_in}
use Rattle.dt_model.proofs.PositionFacts.{ordered_positions}
use Rattle.dt_tensor.specs.Packing.{given_at}
use Rattle.dt_tensor.proofs.StoredEntries.{numbers_none, numbers_more, numbers_kept}
use Rattle.dt_tensor.proofs.StoredTables.{place_fits}
use Rattle.dt_tensor.proofs.Tables.{written}
use Rattle.dt_tensor.proofs.packing.given_values.Goals as goal

pub loop-i-init : goal.loop-i-init
loop-i-init c =
    c.in_ok-values.ensures.items_if_clones_equal (λ y e. e)
    ∙ numbers_none c.args.levels.now.coords c.count.result (length c.args.entries.now) c.args.entries.now c.count.ensures (omega arith)

pub loop-i-preserved-in-None : goal.loop-i-preserved-in-None
loop-i-preserved-in-None c =
    numbers_kept c.args.levels.now.coords c.args.entries.now (c.loop-i.i - 1) c.loop-i.i c.index-entries-i.result c.loop-i.values.items (ordered_positions c.args.levels.now c.requires).placed (omega arith) (omega arith) c.index-entries-i.is
    (ap (place_in c.args.levels.now) (sym c.as_slice.ensures) ∙ sym c.place_near.ensures ∙ c.in-None.is) c.loop-i.invariant

pub bounds-as_mut_slice-pos : goal.bounds-as_mut_slice-pos
bounds-as_mut_slice-pos c =
    place_fits (given_at (drop c.loop-i.i c.args.entries.now)) c.args.levels.now.coords c.as_slice.result.now c.in-Some.pos c.as_mut_slice.result.now (sym c.place_near.ensures ∙ c.in-Some.is) (c.as_mut_slice.ensures.value ∙ c.loop-i.invariant)

pub loop-i-preserved : goal.loop-i-preserved
loop-i-preserved c =
    written c.loop-i.values.items c.as_mut_slice.result.now c.loop-i.values.len c.in-Some.pos c.index-entries-i.result.value c.as_mut_slice.ensures.value (sym c.as_mut_slice.ensures.len ∙ ap length c.as_mut_slice.ensures.value)
    ∙ numbers_more c.args.levels.now.coords c.args.entries.now (c.loop-i.i - 1) c.loop-i.i c.in-Some.pos c.index-entries-i.result c.loop-i.values.items (ordered_positions c.args.levels.now c.requires).placed (omega arith) (omega arith) c.index-entries-i.is
    (ap (place_in c.args.levels.now) (sym c.as_slice.ensures) ∙ sym c.place_near.ensures ∙ c.in-Some.is) c.loop-i.invariant
