use Rattle.std.proofs.Common.{◌+◌, ◌≡◌, ◌==◌, ℕ, List, position, subst, Some, None, true, false, length, map, take, sym, ◌∙◌, ap, arith, rules, below_more}
use Rattle.std.proofs.lemmas.List.{length-map}
use Rattle.dt_base.specs.Rows.{row_major}
use Rattle.dt_model.specs.Shape.{dims}
use Rattle.dt_runs.specs.Sets.{contains}
use Rattle.dt_tensor.specs.Packed.{index_at}
use Rattle.dt_tensor.specs.declared.packing.PackEnd.TheVariants as ends
use Rattle.dt_tensor.proofs.EntryLemmas.{is_given, offence_outside, offence_repeated, offence_none, first_offence-here, first_offence-none, found_number}
use Rattle.dt_tensor.proofs.GivenFronts.{given_contains, index_place, numbers_distinct, numbers_within}
use Rattle.dt_tensor.proofs.StoredEntries.{seen_none, seen_more, seen_tells, entries_inside}
use Rattle.dt_tensor.proofs.StoredTables.{place_fits}
use Rattle.dt_tensor.proofs.Tables.{written}
use Rattle.dt_tensor.proofs.packing.offence_in.Goals as goal

pub loop-i-init : goal.loop-i-init
loop-i-init c = record {
  clear = λ j h. absurd (omega arith);
  marks = c.in_ok-seen.ensures.items_if_clones_equal (λ y e. e)
      ∙ seen_none (map (index_at (dims c.args.shape.now)) c.args.numbers.now) (length c.args.numbers.now) c.args.entries.now (sym (length-map c.args.numbers.now (index_at (dims c.args.shape.now))));
}

pub returns-in-None-clause-offence : goal.returns-in-None-clause-offence
returns-in-None-clause-offence c =
    first_offence-here (dims c.args.shape.now) c.args.entries.now c.loop-i.i (ends.OutOfShape (c.loop-i.i + 1)) (omega arith) (offence_outside (dims c.args.shape.now) c.args.entries.now c.loop-i.i c.index-entries-i.result (omega arith) c.index-entries-i.is (found_number (dims c.args.shape.now) c.as_slice.result.now c.index-entries-i.result.at c.index.result None c.index.ensures c.as_slice.ensures c.in-None.is)) c.loop-i.invariant.clear

pub place_of-place-requires-clause-among : goal.place_of-place-requires-clause-among
place_of-place-requires-clause-among c =
    c.requires.given c.in-Some.number ∙ given_contains (dims c.args.shape.now) c.args.entries.now c.loop-i.i c.in-Some.number c.index-entries-i.result (omega arith) c.index-entries-i.is (found_number (dims c.args.shape.now) c.as_slice.result.now c.index-entries-i.result.at c.index.result (Some c.in-Some.number) c.index.ensures c.as_slice.ensures c.in-Some.is)

pub bounds-as_slice-place : goal.bounds-as_slice-place
bounds-as_slice-place c =
    place_fits (is_given (take c.loop-i.i c.args.entries.now)) (map (index_at (dims c.args.shape.now)) c.args.numbers.now) c.index-entries-i.result.at c.place_of-place.result c.as_slice-in-Some.result.now (index_place (dims c.args.shape.now) c.args.numbers.now c.index-entries-i.result.at c.in-Some.number c.place_of-place.result (numbers_within (dims c.args.shape.now) c.args.entries.now c.args.numbers.now c.requires.given) (found_number (dims c.args.shape.now) c.as_slice.result.now c.index-entries-i.result.at c.index.result (Some c.in-Some.number) c.index.ensures c.as_slice.ensures c.in-Some.is) c.place_of-place.ensures) (c.as_slice-in-Some.ensures.value ∙ c.loop-i.invariant.marks)

pub returns-then-as_slice-place-clause-offence : goal.returns-then-as_slice-place-clause-offence
returns-then-as_slice-place-clause-offence c =
    let mark = sym (seen_tells (map (index_at (dims c.args.shape.now)) c.args.numbers.now) c.args.entries.now c.loop-i.i c.place_of-place.result c.index-entries-i.result c.as_slice-in-Some.result.now (index_place (dims c.args.shape.now) c.args.numbers.now c.index-entries-i.result.at c.in-Some.number c.place_of-place.result (numbers_within (dims c.args.shape.now) c.args.entries.now c.args.numbers.now c.requires.given) (found_number (dims c.args.shape.now) c.as_slice.result.now c.index-entries-i.result.at c.index.result (Some c.in-Some.number) c.index.ensures c.as_slice.ensures c.in-Some.is) c.place_of-place.ensures) (c.as_slice-in-Some.ensures.value ∙ c.loop-i.invariant.marks)) ∙ c.if-as_slice-place.true in
    first_offence-here (dims c.args.shape.now) c.args.entries.now c.loop-i.i (ends.Repeated (c.loop-i.i + 1)) (omega arith) (offence_repeated (dims c.args.shape.now) c.args.entries.now c.loop-i.i c.in-Some.number c.index-entries-i.result (omega arith) c.index-entries-i.is (found_number (dims c.args.shape.now) c.as_slice.result.now c.index-entries-i.result.at c.index.result (Some c.in-Some.number) c.index.ensures c.as_slice.ensures c.in-Some.is) mark) c.loop-i.invariant.clear

pub bounds-as_mut_slice-place : goal.bounds-as_mut_slice-place
bounds-as_mut_slice-place c =
    place_fits (is_given (take c.loop-i.i c.args.entries.now)) (map (index_at (dims c.args.shape.now)) c.args.numbers.now) c.index-entries-i.result.at c.place_of-place.result c.as_mut_slice.result.now (index_place (dims c.args.shape.now) c.args.numbers.now c.index-entries-i.result.at c.in-Some.number c.place_of-place.result (numbers_within (dims c.args.shape.now) c.args.entries.now c.args.numbers.now c.requires.given) (found_number (dims c.args.shape.now) c.as_slice.result.now c.index-entries-i.result.at c.index.result (Some c.in-Some.number) c.index.ensures c.as_slice.ensures c.in-Some.is) c.place_of-place.ensures) (c.as_mut_slice.ensures.value ∙ c.loop-i.invariant.marks)

pub loop-i-preserved : goal.loop-i-preserved
loop-i-preserved c =
    let mark = sym (seen_tells (map (index_at (dims c.args.shape.now)) c.args.numbers.now) c.args.entries.now c.loop-i.i c.place_of-place.result c.index-entries-i.result c.as_slice-in-Some.result.now (index_place (dims c.args.shape.now) c.args.numbers.now c.index-entries-i.result.at c.in-Some.number c.place_of-place.result (numbers_within (dims c.args.shape.now) c.args.entries.now c.args.numbers.now c.requires.given) (found_number (dims c.args.shape.now) c.as_slice.result.now c.index-entries-i.result.at c.index.result (Some c.in-Some.number) c.index.ensures c.as_slice.ensures c.in-Some.is) c.place_of-place.ensures) (c.as_slice-in-Some.ensures.value ∙ c.loop-i.invariant.marks)) ∙ c.if-as_slice-place.false in
    record {
      clear = below_more _ _ c.loop-i.invariant.clear (offence_none (dims c.args.shape.now) c.args.entries.now c.loop-i.i c.in-Some.number c.index-entries-i.result (omega arith) c.index-entries-i.is (found_number (dims c.args.shape.now) c.as_slice.result.now c.index-entries-i.result.at c.index.result (Some c.in-Some.number) c.index.ensures c.as_slice.ensures c.in-Some.is) mark);
      marks = written c.loop-i.seen.items c.as_mut_slice.result.now c.loop-i.seen.len c.place_of-place.result true c.as_mut_slice.ensures.value (sym c.as_mut_slice.ensures.len ∙ ap length c.as_mut_slice.ensures.value)
          ∙ seen_more (map (index_at (dims c.args.shape.now)) c.args.numbers.now) c.args.entries.now c.loop-i.i c.place_of-place.result c.index-entries-i.result c.loop-i.seen.items (numbers_distinct (dims c.args.shape.now) c.args.numbers.now c.requires.ascending (numbers_within (dims c.args.shape.now) c.args.entries.now c.args.numbers.now c.requires.given)) (omega arith) c.index-entries-i.is (index_place (dims c.args.shape.now) c.args.numbers.now c.index-entries-i.result.at c.in-Some.number c.place_of-place.result (numbers_within (dims c.args.shape.now) c.args.entries.now c.args.numbers.now c.requires.given) (found_number (dims c.args.shape.now) c.as_slice.result.now c.index-entries-i.result.at c.index.result (Some c.in-Some.number) c.index.ensures c.as_slice.ensures c.in-Some.is) c.place_of-place.ensures) c.loop-i.invariant.marks;
    }

pub returns-clause-offence : goal.returns-clause-offence
returns-clause-offence c = first_offence-none (dims c.args.shape.now) c.args.entries.now c.loop-i.i (omega arith) c.loop-i.invariant.clear

pub returns-clause-inside : goal.returns-clause-inside
returns-clause-inside c = λ e. entries_inside (dims c.args.shape.now) c.args.entries.now (λ j h. c.loop-i.invariant.clear j (omega arith))
