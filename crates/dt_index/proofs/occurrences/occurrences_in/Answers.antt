use Rattle.std.proofs.Common.{◌≤◌, length, map, subst, All, List, arith}
use Rattle.std.proofs.lemmas.List.{take_all, length-map}
use Rattle.dt_index.specs.Resolve.{named_extents, access_occurrences}
use Rattle.dt_index.specs.declared.form.NamedAccess.{NamedAccess}
use Rattle.dt_index.proofs.RefFacts.{joined_next, all_next}
use Rattle.dt_index.proofs.occurrences.occurrences_in.Goals as goal

pub loop-access-preserved : goal.loop-access-preserved
loop-access-preserved g c =
    let tensors = g.L.Lookup.tensors c.args.names.now in
    record {
      value = joined_next (λ a. a.now) (access_occurrences tensors) c.args.accesses.now c.loop-access.access-index c.access-item.result c.loop-access.all c.add_occurrences.new.all c.loop-access-test.true c.access-item.is c.loop-access.invariant.value c.in_ok-add_occurrences.ensures.value;
      few = all_next (λ a. a.now) (λ a. length (named_extents tensors a.tensor) ≤ 4) c.args.accesses.now c.loop-access.access-index c.access-item.result c.loop-access-test.true c.access-item.is c.loop-access.invariant.few c.add_occurrences.ensures.few;
    }

pub returns-clause-few : goal.returns-clause-few
returns-clause-few g c =
    let P : NamedAccess → Type 0 = λ a. length (named_extents (g.L.Lookup.tensors c.args.names.now) a.tensor) ≤ 4 in
    subst (λ (xs : List NamedAccess). All P xs) (take_all c.loop-access.access-index (map (λ a. a.now) c.args.accesses.now) (omega (arith, length-map c.args.accesses.now (λ a. a.now)))) c.loop-access.invariant.few
