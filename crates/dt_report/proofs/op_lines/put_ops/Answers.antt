use Rattle.std.proofs.Common.{ℕ}
use Rattle.dt_plan.specs.declared.ops.Op.{Op}
use Rattle.dt_report.specs.PlanText.{op_line}
use Rattle.dt_report.proofs.Enumerated.{made_more, made_whole}
use Rattle.dt_report.proofs.op_lines.put_ops.Goals as goal

pub loop-number-preserved : goal.loop-number-preserved
loop-number-preserved c =
    made_more (λ (x : ℕ × Op). op_line c.args.parts.now x.0 x.1) c.args.ops.now c.loop-number.number c.index-ops-number.result c.args.out.now c.loop-number.out c.put_op_of.new.out c.loop-number-test.true
    c.index-ops-number.is c.loop-number.invariant c.in_ok-put_op_of.ensures

pub returns : goal.returns
returns c =
    made_whole (λ (x : ℕ × Op). op_line c.args.parts.now x.0 x.1) c.args.ops.now c.loop-number.number c.args.out.now c.loop-number.out c.loop-number-test.false c.loop-number.invariant
