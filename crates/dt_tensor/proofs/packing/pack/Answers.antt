use Rattle.std.proofs.Common.{◌≡◌, ◌≤◌, ◌<◌, Ok, Err, None, Option, Result, List, map, take, length, sym, ◌∙◌, ap, subst, arith}
use Rattle.std.proofs.lemmas.List.{length-map}
use Rattle.dt_model.specs.Positions.{StoredTensor, IsStored}
use Rattle.dt_model.specs.Shape.{dims}
use Rattle.dt_tensor.specs.Packed.{Packed, whole_of}
use Rattle.dt_tensor.specs.Packing.{given_at, given_whole, first_offence, levels_asked, pack_of, AreLevels, StoreGiven}
use Rattle.dt_tensor.specs.declared.entry.Given.{Given}
use Rattle.dt_tensor.specs.declared.packing.PackEnd.{PackEnd}
use Rattle.dt_tensor.specs.declared.packing.PackEnd.TheVariants as ends
use Rattle.dt_tensor.proofs.GivenFronts.{numbers_within}
use Rattle.dt_tensor.proofs.PackLemmas.{pack_of-offence}
use Rattle.dt_tensor.proofs.PackFacts.{levels_given, packs, packs_none, whole_given}
use Rattle.dt_tensor.proofs.packing.pack.Goals as goal

pub levels_for-requires-clause-within : goal.levels_for-requires-clause-within
levels_for-requires-clause-within c = numbers_within (dims c.args.shape) c.as_slice-list.result.now c.in-Ok.numbers.items c.in-Ok.ensures.given

pub returns-in-Ok-Some-clause-packed : goal.returns-in-Ok-Some-clause-packed
returns-in-Ok-Some-clause-packed c =
    pack_of-offence (dims c.args.shape) (take c.args.shape.order c.args.compressed) c.args.entries.now c.in-Ok-Some.end
    (sym c.in-Ok-Some.field-0-is ∙ c.in-Ok-Some.ensures.offence ∙ ap (λ (es : List Given). first_offence (dims c.args.shape) es) c.as_slice-list.ensures)

pub given_values-requires : goal.given_values-requires
given_values-requires c =
    let levels = levels_given c.in-Ok-Some-levels_for.levels c.in-Ok-Some-levels_for.field-0 (dims c.args.shape) (take c.args.shape.order c.args.compressed) c.in-Ok.numbers.items c.as_slice-list.result.now c.in-Ok-Some-levels_for.ensures c.in-Ok-Some-levels_for.field-0-is
    c.in-Ok.ensures.given (c.in-Ok-None.ensures.inside c.in-Ok-None.field-0-is) in
    levels.1

pub with_levels-requires : goal.with_levels-requires
with_levels-requires c =
    let levels = levels_given c.in-Ok-Some-levels_for.levels c.in-Ok-Some-levels_for.field-0 (dims c.args.shape) (take c.args.shape.order c.args.compressed) c.in-Ok.numbers.items c.as_slice-list.result.now c.in-Ok-Some-levels_for.ensures c.in-Ok-Some-levels_for.field-0-is
    c.in-Ok.ensures.given (c.in-Ok-None.ensures.inside c.in-Ok-None.field-0-is) in
    record {
      stored = levels.1;
      few = levels.2;
      full = ap length c.in-Ok-given_values.ensures ∙ length-map c.in-Ok-Some-levels_for.levels.coords (given_at c.as_slice-list.result.now);
    }

pub returns-in-Ok-None-levels_for-clause-packed : goal.returns-in-Ok-None-levels_for-clause-packed
returns-in-Ok-None-levels_for-clause-packed c =
    let many = subst (λ (o : Option StoredTensor). StoreGiven o (dims c.args.shape) (take c.args.shape.order c.args.compressed) c.in-Ok.numbers.items) c.in-Ok-None-levels_for.field-0-is c.in-Ok-None-levels_for.ensures
    c.as_slice-list.result.now c.in-Ok.ensures.given (c.in-Ok-None.ensures.inside c.in-Ok-None.field-0-is) in
    ap (λ (es : List Given). pack_of (dims c.args.shape) (take c.args.shape.order c.args.compressed) es) (sym c.as_slice-list.ensures)
    ∙ packs_none (dims c.args.shape) (take c.args.shape.order c.args.compressed) c.as_slice-list.result.now (sym c.in-Ok-None.field-0-is ∙ c.in-Ok-None.ensures.offence) many

pub returns-in-Ok-given_values-clause-packed : goal.returns-in-Ok-given_values-clause-packed
returns-in-Ok-given_values-clause-packed c =
    let levels = levels_given c.in-Ok-Some-levels_for.levels c.in-Ok-Some-levels_for.field-0 (dims c.args.shape) (take c.args.shape.order c.args.compressed) c.in-Ok.numbers.items c.as_slice-list.result.now c.in-Ok-Some-levels_for.ensures c.in-Ok-Some-levels_for.field-0-is
    c.in-Ok.ensures.given (c.in-Ok-None.ensures.inside c.in-Ok-None.field-0-is) in
    ap (λ (es : List Given). pack_of (dims c.args.shape) (take c.args.shape.order c.args.compressed) es) (sym c.as_slice-list.ensures)
    ∙ packs (dims c.args.shape) (take c.args.shape.order c.args.compressed) c.as_slice-list.result.now c.in-Ok-Some-levels_for.levels c.in-Ok-given_values.values.items (sym c.in-Ok-None.field-0-is ∙ c.in-Ok-None.ensures.offence) levels.0
    (subst (λ (t : StoredTensor). length t.coords ≤ 1048576) levels.0 levels.2) c.in-Ok-given_values.ensures
    ∙ ap (λ (t : Packed). Ok t) (sym c.with_levels.ensures)

pub returns-in-Ok-given_values-clause-whole : goal.returns-in-Ok-given_values-clause-whole
returns-in-Ok-given_values-clause-whole c =
    let levels = levels_given c.in-Ok-Some-levels_for.levels c.in-Ok-Some-levels_for.field-0 (dims c.args.shape) (take c.args.shape.order c.args.compressed) c.in-Ok.numbers.items c.as_slice-list.result.now c.in-Ok-Some-levels_for.ensures c.in-Ok-Some-levels_for.field-0-is
    c.in-Ok.ensures.given (c.in-Ok-None.ensures.inside c.in-Ok-None.field-0-is) in
    ap (λ (t : Packed). whole_of t) c.with_levels.ensures
    ∙ whole_given (dims c.args.shape) (take c.args.shape.order c.args.compressed) c.as_slice-list.result.now c.in-Ok-Some-levels_for.levels c.in-Ok-given_values.values.items levels.0 c.in-Ok-given_values.ensures
    ∙ ap (λ (es : List Given). given_whole (dims c.args.shape) es) c.as_slice-list.ensures
