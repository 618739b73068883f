use Rattle.std.proofs.Common.{◌≡◌, IfOk, Option, None, Result, Ok, Err, sym, subst}
use Rattle.dt_nest.specs.declared.commands.RewriteEnd.{RewriteEnd}
use Rattle.dt_nest.specs.Schedule.{Schedule}
use Rattle.dt_nest.specs.Commands.{Answers, Keeps, KeepsSum, Rule}
use Rattle.dt_nest.proofs.commands.rewritten.Goals as goal

-- a legal command keeps the sum
kept : (r : Rule) (s : Schedule) (result : Result Schedule RewriteEnd) → (r.cause s ≡ None → Keeps r s) → Answers (r.cause s) (r.effect s) s result → IfOk result (λ t. KeepsSum s t)
kept r s (Ok t) keeps a = subst (KeepsSum s) (sym a.1) (keeps a.0).sum
kept r s (Err e) keeps a = tt

-- src/commands.rt:62:1
pub returns : goal.returns
returns g c =
    kept (g.R.Rewrite.rule c.args.command) c.args.sched c.apply.result
    (g.met.R.Rewrite.keeps c.args.command c.args.sched c.parts-lawful.ensures.lawful c.requires) c.apply.ensures
