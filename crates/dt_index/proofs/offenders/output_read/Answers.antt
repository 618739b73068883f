use Rattle.std.proofs.Common.{◌∙◌, arith, sym, ap, Bool, List, Option, Some}
use Rattle.std.specs.Prelude.{find, option_map}
use Rattle.std.specs.Str.{bytes_eq}
use Rattle.dt_model.specs.declared.cause.Cause.TheVariants as cause
use Rattle.dt_index.specs.declared.form.NamedAccess.{NamedAccess}
use Rattle.dt_index.proofs.RefFacts.{found_here, passed_all, passed_by}
use Rattle.dt_index.proofs.offenders.output_read.Goals as goal

pub returns-then-same_name : goal.returns-then-same_name
returns-then-same_name c =
    let p : NamedAccess → Bool = (λ a. bytes_eq a.tensor c.args.form.now.lhs.tensor) in
    ap (λ n. Some (cause.OutputRead n)) c.copied.ensures
    ∙ ap (λ (o : Option NamedAccess). option_map (λ a. cause.OutputRead a.tensor) o) (sym (found_here (λ a. a.now) p c.args.right.now c.loop-access.access-index c.access-item.result c.loop-access-test.true c.access-item.is c.loop-access.invariant (sym c.same_name.ensures ∙ c.if-same_name.true)))
    ∙ ap (λ (xs : List NamedAccess). option_map (λ a. cause.OutputRead a.tensor) (find p xs)) c.requires

pub loop-access-preserved : goal.loop-access-preserved
loop-access-preserved c =
    let p : NamedAccess → Bool = (λ a. bytes_eq a.tensor c.args.form.now.lhs.tensor) in
    passed_by (λ a. a.now) p c.args.right.now c.loop-access.access-index c.access-item.result c.loop-access-test.true c.access-item.is c.loop-access.invariant (sym c.same_name.ensures ∙ c.if-same_name.false)

pub returns : goal.returns
returns c =
    let p : NamedAccess → Bool = (λ a. bytes_eq a.tensor c.args.form.now.lhs.tensor) in
    sym (ap (λ (xs : List NamedAccess). option_map (λ a. cause.OutputRead a.tensor) (find p xs)) (sym c.requires) ∙ ap (λ (o : Option NamedAccess). option_map (λ a. cause.OutputRead a.tensor) o) (passed_all (λ a. a.now) p c.args.right.now c.loop-access.access-index (omega arith) c.loop-access.invariant))
