use Rattle.std.proofs.Common.{◌≡◌, ◌<◌, ◌-◌, ℕ, suc, ◌∷◌, length, drop, sym, ap, ◌∙◌, arith, drop-cons}
use Rattle.std.proofs.Math.ListN.{length-set}
use Rattle.dt_nest.specs.declared.derivations.Derived.{Derived}
use Rattle.dt_nest.specs.ValueTables.{marked}
use Rattle.dt_nest.proofs.Each.{all_get}
use Rattle.dt_nest.proofs.MarkFacts.{list_more, marks_more}
use Rattle.dt_nest.proofs.dependents.dependents.Goals as goal

pub loop-k-preserved : goal.loop-k-preserved
loop-k-preserved c =
    let l : c.loop-k.k - 1 < length c.args.derived.now = omega (arith, c.loop-k.invariant.within, c.loop-k-test.true) in
    let k : suc (c.loop-k.k - 1) ≡ c.loop-k.k = omega (arith, c.loop-k-test.true) in
    let rest : drop (c.loop-k.k - 1) c.args.derived.now ≡ c.index-derived-k.result ∷ drop c.loop-k.k c.args.derived.now =
    drop-cons c.args.derived.now (c.loop-k.k - 1) c.index-derived-k.result l
    ∙ ap (λ (d : Derived). d ∷ drop (suc (c.loop-k.k - 1)) c.args.derived.now) (sym c.index-derived-k.is)
    ∙ ap (λ (m : ℕ). c.index-derived-k.result ∷ drop m c.args.derived.now) k in
    let named = all_get (λ (d : Derived). d.var < length c.args.marks.now) c.args.derived.now (c.loop-k.k - 1) c.index-derived-k.result c.requires l in
    let within : c.index-derived-k.result.var < length c.loop-k.marks = omega (arith, ap (λ (d : Derived). d.var) c.index-derived-k.is, named, c.loop-k.invariant.same) in
    record {
      same = length-set c.loop-k.marks c.index-derived-k.result.var c.names_marked-follows.result ∙ c.loop-k.invariant.same;
      within = omega (arith, l);
      list = list_more (marked c.args.marks.now) (drop (c.loop-k.k - 1) c.args.derived.now) (drop c.loop-k.k c.args.derived.now) c.index-derived-k.result c.loop-k.marks rest c.loop-k.invariant.marks
          c.names_marked-follows.result c.loop-k.list c.push_if.new.list c.names_marked-follows.ensures c.loop-k.invariant.list c.in_ok-push_if.ensures;
      marks = marks_more (marked c.args.marks.now) (drop (c.loop-k.k - 1) c.args.derived.now) (drop c.loop-k.k c.args.derived.now) c.index-derived-k.result c.loop-k.marks rest c.loop-k.invariant.marks
          c.names_marked-follows.result within c.names_marked-follows.ensures;
    }
