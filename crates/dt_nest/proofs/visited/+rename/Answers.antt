use Rattle.std.proofs.Common.{rules, ◌≡◌, ◌<◌, List, ◌∷◌, length, subst, arith}
use Rattle.std.specs.List.{AllByRecursion}
use Rattle.dt_nest.specs.declared.loops.Pair.{Pair}
use Rattle.dt_nest.proofs.LeafTables.{renamed_more}
use Rattle.dt_nest.proofs.visited.+rename.Goals as goal

pub returns-in-Some-clause-values : goal.returns-in-Some-clause-values
returns-in-Some-clause-values g c =
    let e : c.args.pairs.now ≡ c.in-Some.pair.now ∷ c.in-Some.rest.now = search rules in
    let within = (subst (λ (l : List Pair). AllByRecursion (λ p. p.from < length c.args.values.now) l) e c.requires).0 in
    renamed_more c.args.values.now c.rename.new.values c.args.pairs.now c.in-Some.rest.now c.in-Some.pair.now c.tabled-value.result (omega (arith, within, c.rename.ensures.length)) e c.rename.ensures.values c.tabled-value.ensures
