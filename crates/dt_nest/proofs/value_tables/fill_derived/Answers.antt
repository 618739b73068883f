use Rattle.std.proofs.Common.{◌≡◌, ◌<◌, ◌-◌, ℕ, suc, List, [], ◌∷◌, length, drop, refl, sym, ap, ◌∙◌, subst, arith, drop-cons}
use Rattle.std.proofs.lemmas.List.{drop_all}
use Rattle.std.proofs.Math.ListN.{length-set}
use Rattle.dt_nest.specs.declared.derivations.Derived.{Derived}
use Rattle.dt_nest.specs.Schedule.{seen}
use Rattle.dt_nest.specs.World.{world_of}
use Rattle.dt_nest.specs.Lawful.{sources, IsBounded}
use Rattle.std.specs.List.{AllByRecursion}
use Rattle.dt_nest.specs.ValueTables.{IsTable}
use Rattle.dt_nest.proofs.Each.{all_get}
use Rattle.dt_nest.proofs.TableFacts.{table_none, table_more}
use Rattle.dt_nest.proofs.value_tables.fill_derived.Goals as goal

pub loop-k-init : goal.loop-k-init
loop-k-init g c =
    let none : drop (length c.args.derived.now) c.args.derived.now ≡ [] = drop_all (length c.args.derived.now) c.args.derived.now (omega arith) in
    record {
      same = refl;
      within = omega arith;
      done = λ slots own.
          subst (λ (l : List Derived). IsTable (world_of (g.L.Locator.tensors c.args.loc.now) (seen c.args.parts.now)) l (g.N.Renaming.names c.args.names.now) slots c.args.values.now) (sym none)
          (table_none (world_of (g.L.Locator.tensors c.args.loc.now) (seen c.args.parts.now)) (g.N.Renaming.names c.args.names.now) slots c.args.values.now own);
    }

pub loop-k-preserved : goal.loop-k-preserved
loop-k-preserved g c =
    let l : c.loop-k.k - 1 < length c.args.derived.now = omega (arith, c.loop-k.invariant.within, c.loop-k-test.true) in
    let k : suc (c.loop-k.k - 1) ≡ c.loop-k.k = omega (arith, c.loop-k-test.true) in
    let rest : drop (c.loop-k.k - 1) c.args.derived.now ≡ c.index-derived-k.result ∷ drop c.loop-k.k c.args.derived.now =
    drop-cons c.args.derived.now (c.loop-k.k - 1) c.index-derived-k.result l
    ∙ ap (λ (d : Derived). d ∷ drop (suc (c.loop-k.k - 1)) c.args.derived.now) (sym c.index-derived-k.is)
    ∙ ap (λ (m : ℕ). c.index-derived-k.result ∷ drop m c.args.derived.now) k in
    let named = all_get (λ (d : Derived). (d.var < length (seen c.args.parts.now).names) × AllByRecursion (λ u. u < length (seen c.args.parts.now).names) (sources d.how) × IsBounded (seen c.args.parts.now) d.var d.how)
    c.args.derived.now (c.loop-k.k - 1) c.index-derived-k.result c.requires.named l in
    let within : c.index-derived-k.result.var < length c.loop-k.values = omega (arith, ap (λ (d : Derived). d.var) c.index-derived-k.is, named.0, c.requires.room, c.loop-k.invariant.same) in
    record {
      same = length-set c.loop-k.values c.index-derived-k.result.var c.derived_from-value.result ∙ c.loop-k.invariant.same;
      within = omega (arith, l);
      done = λ slots own.
          table_more (world_of (g.L.Locator.tensors c.args.loc.now) (seen c.args.parts.now)) (g.N.Renaming.names c.args.names.now) slots c.loop-k.values c.index-derived-k.result (drop c.loop-k.k c.args.derived.now) (drop (c.loop-k.k - 1) c.args.derived.now) c.derived_from-value.result
          within (c.loop-k.invariant.done slots own) rest c.derived_from-value.ensures;
    }
