use Rattle.std.proofs.Common.{ℕ, List, arith}
use Rattle.std.specs.List.{zip}
use Rattle.dt_plan.specs.declared.parts.Part.{Part}
use Rattle.dt_report.specs.PlanText.{part_text}
use Rattle.dt_report.proofs.Enumerated.{get_or-paired, length-paired, made_more, made_whole}
use Rattle.dt_report.proofs.stmt_lines.put_parts.Goals as goal

pub loop-number-preserved : goal.loop-number-preserved
loop-number-preserved c =
    let many = length-paired c.args.parts.now c.args.heads.now c.requires in
    let less = c.loop-number-test.true in
    let same = c.requires in
    made_more (λ (x : ℕ × (Part × List ℕ)). part_text x.0 x.1.0 x.1.1) (zip c.args.parts.now c.args.heads.now) c.loop-number.number (c.index-parts-number.result, c.index-heads-number.result) c.args.out.now c.loop-number.out c.put_part.new.out (omega (arith, many, less))
    (get_or-paired c.args.parts.now c.args.heads.now c.loop-number.number c.index-parts-number.result c.index-heads-number.result less (omega (arith, less, same)) c.index-parts-number.is c.index-heads-number.is) c.loop-number.invariant c.in_ok-put_part.ensures

pub returns : goal.returns
returns c =
    let many = length-paired c.args.parts.now c.args.heads.now c.requires in
    let test = c.loop-number-test.false in
    made_whole (λ (x : ℕ × (Part × List ℕ)). part_text x.0 x.1.0 x.1.1) (zip c.args.parts.now c.args.heads.now) c.loop-number.number c.args.out.now c.loop-number.out (omega (arith, many, test)) c.loop-number.invariant
