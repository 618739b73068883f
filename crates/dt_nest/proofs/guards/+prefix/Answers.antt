use Rattle.std.proofs.Common.{rules, ◌≡◌, ◌<◌, ℕ, ◌∷◌, nat_eq, length, sym, ap, ◌∙◌, arith}
use Rattle.std.proofs.lemmas.Bool.{ne_eqb}
use Rattle.dt_nest.specs.Meaning.{renamed}
use Rattle.dt_nest.specs.Naming.{pairs_in}
use Rattle.dt_nest.specs.ValueTables.{named}
use Rattle.dt_nest.proofs.Prefixes.{prefix_step}
use Rattle.dt_nest.proofs.guards.+prefix.Goals as goal

pub returns-else-name-var : goal.returns-else-name-var
returns-else-name-var t c =
    let e : c.args.vars.now ≡ c.in-Some.u.now ∷ c.in-Some.rest.now = search rules in
    let room : c.args.at < length c.args.coords.now = omega (arith, c.requires, ap length e) in
    prefix_step (named c.args.known.now.values.now (renamed (pairs_in c.args.known.now.names.now))) (λ u. nat_eq (renamed (pairs_in c.args.known.now.names.now) u) c.args.var) c.args.vars.now c.in-Some.rest.now c.in-Some.u.now c.args.at _ c.args.coords.now _ _ e
    (ap (λ (n : ℕ). nat_eq n c.args.var) (sym c.name.ensures) ∙ ne_eqb c.name.result c.args.var c.if-name-var.false)
    (sym c.in-Some-value_at.ensures) room c.prefix.ensures
