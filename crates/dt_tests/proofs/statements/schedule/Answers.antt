use Rattle.std.proofs.Common.{◌≡◌, ◌<◌, ◌-◌, ◌^◌, ◌∙◌, ℕ, List, length, ap, sym, arith}
use Rattle.std.proofs.lemmas.List.{length-map}
use Rattle.std.proofs.lemmas.Result.{IfOk-weaker}
use Rattle.dt_model.specs.Stmts.{shapes_of}
use Rattle.dt_model.specs.WholeTensor.{WholeTensor}
use Rattle.dt_nest.specs.Chain.{stmt_schedule}
use Rattle.dt_nest.specs.Schedule.{Schedule}
use Rattle.dt_nest.proofs.Schedulable.{schedulable}
use Rattle.dt_tests.proofs.statements.schedule.Goals as goal

pub of_stmt-requires : goal.of_stmt-requires
of_stmt-requires c =
    let few : length c.in_ok-names.names < 2 ^ 32 - 1 = omega (arith, c.in_ok-names.ensures.count, c.requires.few) in
    schedulable (shapes_of c.args.wholes.now) c.args.stmt.now c.in_ok-vars.vars c.in_ok-names.names c.requires.stmt (length-map c.args.wholes.now (λ (w : WholeTensor). w.extents) ∙ sym c.in_ok-names.ensures.count)
    (c.in_ok-vars.ensures.count ∙ ap length c.as_slice.ensures) c.in_ok-vars.ensures.distinct c.in_ok-names.ensures.distinct few

pub returns : goal.returns
returns c =
    IfOk-weaker c.of_stmt.result (λ s. s ≡ stmt_schedule c.args.stmt.now c.in_ok-vars.vars c.in_ok-names.names)
    (λ s. (vars : List (List ℕ)) × (names : List (List ℕ)) × (length names ≡ length c.args.wholes.now) × (s ≡ stmt_schedule c.args.stmt.now vars names))
    (λ s e. (c.in_ok-vars.vars, c.in_ok-names.names, c.in_ok-names.ensures.count, e)) c.of_stmt.ensures.schedule
