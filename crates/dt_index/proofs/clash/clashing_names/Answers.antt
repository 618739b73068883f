use Rattle.std.proofs.Common.{◌∙◌, ap, arith, not, ◌&&◌, ◌||◌, List, Option, ℕ}
use Rattle.std.specs.Prelude.{◌==◌, unwrap_or}
use Rattle.std.specs.List.{list_any}
use Rattle.std.specs.Str.{bytes_eq}
use Rattle.std.proofs.lemmas.List.{take_all}
use Rattle.dt_index.specs.NameSets.{among}
use Rattle.dt_index.specs.Resolve.{extent_of}
use Rattle.dt_index.specs.declared.occurrence_list.Occurrence.{Occurrence}
use Rattle.dt_index.proofs.SetFacts.{any_next}
use Rattle.dt_index.proofs.clash.clashing_names.Goals as goal

pub loop-occurrence-preserved : goal.loop-occurrence-preserved
loop-occurrence-preserved c = λ v.
    let o = c.occurrence-item.result in
    any_next (λ o. bytes_eq o.name v && not (o.extent == extent_of c.args.occurrences.now v)) c.args.occurrences.now c.loop-occurrence.occurrence-index o (among c.loop-occurrence.clashing v) (among c.add_clash.new.clashing v)
    c.loop-occurrence-test.true c.occurrence-item.is (c.loop-occurrence.invariant v)
    (c.in_ok-add_clash.ensures v ∙ ap (λ (n : Option ℕ). among c.loop-occurrence.clashing v || (bytes_eq o.name v && not (o.extent == unwrap_or n 0))) (c.in_ok-firsts.ensures v))

pub returns : goal.returns
returns c = λ v.
    let os : List Occurrence = c.args.occurrences.now in
    c.loop-occurrence.invariant v ∙ ap (λ (xs : List Occurrence). list_any (λ o. bytes_eq o.name v && not (o.extent == extent_of os v)) xs) (take_all c.loop-occurrence.occurrence-index os (omega arith))
