use Rattle.std.proofs.Common.{◌∙◌, arith, length, sym, ap, Bool, List, Option, Some}
use Rattle.std.specs.Prelude.{find, not, ◌==◌, option_map}
use Rattle.dt_model.specs.declared.cause.Cause.TheVariants as cause
use Rattle.dt_index.specs.declared.form.NamedAccess.{NamedAccess}
use Rattle.dt_index.specs.Resolve.{named_extents}
use Rattle.dt_index.proofs.RefFacts.{found_here, passed_all, passed_by}
use Rattle.dt_index.proofs.offenders.wrong_order.Goals as goal

pub returns-then-has_wrong_order : goal.returns-then-has_wrong_order
returns-then-has_wrong_order g c =
    let p : NamedAccess → Bool = (λ a. not (length a.vars == length (named_extents (g.L.Lookup.tensors c.args.names.now) a.tensor))) in
    ap (λ n. Some (cause.WrongOrder n)) c.copied.ensures
    ∙ ap (λ (o : Option NamedAccess). option_map (λ a. cause.WrongOrder a.tensor) o) (sym (found_here (λ a. a.now) p c.args.accesses.now c.loop-access.access-index c.access-item.result c.loop-access-test.true c.access-item.is c.loop-access.invariant (sym c.has_wrong_order.ensures ∙ c.if-has_wrong_order.true)))
    ∙ ap (λ (xs : List NamedAccess). option_map (λ a. cause.WrongOrder a.tensor) (find p xs)) c.requires

pub loop-access-preserved : goal.loop-access-preserved
loop-access-preserved g c =
    let p : NamedAccess → Bool = (λ a. not (length a.vars == length (named_extents (g.L.Lookup.tensors c.args.names.now) a.tensor))) in
    passed_by (λ a. a.now) p c.args.accesses.now c.loop-access.access-index c.access-item.result c.loop-access-test.true c.access-item.is c.loop-access.invariant (sym c.has_wrong_order.ensures ∙ c.if-has_wrong_order.false)

pub returns : goal.returns
returns g c =
    let p : NamedAccess → Bool = (λ a. not (length a.vars == length (named_extents (g.L.Lookup.tensors c.args.names.now) a.tensor))) in
    sym (ap (λ (xs : List NamedAccess). option_map (λ a. cause.WrongOrder a.tensor) (find p xs)) (sym c.requires) ∙ ap (λ (o : Option NamedAccess). option_map (λ a. cause.WrongOrder a.tensor) o) (passed_all (λ a. a.now) p c.args.accesses.now c.loop-access.access-index (omega arith) c.loop-access.invariant))
