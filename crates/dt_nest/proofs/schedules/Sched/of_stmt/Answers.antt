use Rattle.std.proofs.Common.{rules, ◌≡◌, sym, subst}
use Rattle.dt_nest.specs.Lawful.{IsLawful}
use Rattle.dt_nest.specs.Schedule.{Schedule, seen}
use Rattle.dt_nest.specs.Chain.{stmt_schedule, MeansStmt}
use Rattle.dt_nest.proofs.ChainLawful.{stmt_lawful}
use Rattle.dt_nest.proofs.ChainSums.{stmt_means}
use Rattle.dt_nest.proofs.schedules.Sched.of_stmt.Goals as goal

pub from_parts-requires : goal.from_parts-requires
unfolding stmt_schedule
from_parts-requires c =
    let made : Schedule = seen (record { nest = c.in_ok-chain_around.field-0; derived = c.new-2.result; distributed = 0; moved = c.new-3.result; tensors = c.in_ok-names_copied.field-0; names = c.in_ok-of.field-0; extents = c.in_ok-extents_copied.field-0; works = c.new-4.result }) in
    let e : made ≡ stmt_schedule c.args.stmt.now c.args.vars.now c.args.tensors.now = search rules in
    subst (λ (s : Schedule). IsLawful s) (sym e) (stmt_lawful _ _ _ c.requires)

pub returns-clause-sums : goal.returns-clause-sums
unfolding stmt_schedule
returns-clause-sums c =
    let e : c.from_parts.result ≡ stmt_schedule c.args.stmt.now c.args.vars.now c.args.tensors.now = search rules in
    subst (λ (s : Schedule). MeansStmt c.args.stmt.now s) (sym e) (stmt_means _ _ _ c.requires)
