use Rattle.std.proofs.Common.{◌∙◌, arith, sym, ap, Bool, List, Option, Some}
use Rattle.std.specs.Prelude.{find, is_none, option_map}
use Rattle.dt_model.specs.declared.cause.Cause.TheVariants as cause
use Rattle.dt_index.specs.declared.form.NamedAccess.{NamedAccess}
use Rattle.dt_index.specs.Known.{place_of}
use Rattle.dt_index.proofs.RefFacts.{found_here, passed_all, passed_by}
use Rattle.dt_index.proofs.offenders.unknown_tensor.Goals as goal

pub returns-then-is_unknown : goal.returns-then-is_unknown
returns-then-is_unknown g c =
    let p : NamedAccess → Bool = (λ a. is_none (place_of a.tensor (g.L.Lookup.tensors c.args.names.now))) in
    ap (λ n. Some (cause.UnknownTensor n)) c.copied.ensures
    ∙ ap (λ (o : Option NamedAccess). option_map (λ a. cause.UnknownTensor a.tensor) o) (sym (found_here (λ a. a.now) p c.args.accesses.now c.loop-access.access-index c.access-item.result c.loop-access-test.true c.access-item.is c.loop-access.invariant (sym c.is_unknown.ensures ∙ c.if-is_unknown.true)))
    ∙ ap (λ (xs : List NamedAccess). option_map (λ a. cause.UnknownTensor a.tensor) (find p xs)) c.requires

pub loop-access-preserved : goal.loop-access-preserved
loop-access-preserved g c =
    let p : NamedAccess → Bool = (λ a. is_none (place_of a.tensor (g.L.Lookup.tensors c.args.names.now))) in
    passed_by (λ a. a.now) p c.args.accesses.now c.loop-access.access-index c.access-item.result c.loop-access-test.true c.access-item.is c.loop-access.invariant (sym c.is_unknown.ensures ∙ c.if-is_unknown.false)

pub returns : goal.returns
returns g c =
    let p : NamedAccess → Bool = (λ a. is_none (place_of a.tensor (g.L.Lookup.tensors c.args.names.now))) in
    sym (ap (λ (xs : List NamedAccess). option_map (λ a. cause.UnknownTensor a.tensor) (find p xs)) (sym c.requires) ∙ ap (λ (o : Option NamedAccess). option_map (λ a. cause.UnknownTensor a.tensor) o) (passed_all (λ a. a.now) p c.args.accesses.now c.loop-access.access-index (omega arith) c.loop-access.invariant))
