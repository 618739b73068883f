use Rattle.std.proofs.Common.{ℕ, map}
use Rattle.dt_nest.specs.Paths.{tensors_in}
use Rattle.dt_plan.specs.declared.parts.Part.{Part}
use Rattle.dt_plan.specs.declared.touches.Buffer.TheVariants.{Scratch}
use Rattle.dt_plan.proofs.NumberedParts.{flat_more, flat_whole}
use Rattle.dt_plan.proofs.job_ops.push_all_scratch.Goals as goal

pub loop-stmt-preserved : goal.loop-stmt-preserved
loop-stmt-preserved c =
    flat_more (λ (x : ℕ × Part). map (Scratch x.0) (tensors_in x.1.sched)) c.args.parts.now c.loop-stmt.stmt c.index-parts-stmt.result c.args.buffers.now.items c.loop-stmt.buffers.items c.push_scratch.new.buffers.items c.loop-stmt-test.true
    c.index-parts-stmt.is c.loop-stmt.invariant (cc (c.in_ok-push_scratch.ensures, c.index-parts-stmt.is))

pub returns : goal.returns
returns c =
    flat_whole (λ (x : ℕ × Part). map (Scratch x.0) (tensors_in x.1.sched)) c.args.parts.now c.loop-stmt.stmt c.args.buffers.now.items c.loop-stmt.buffers.items c.loop-stmt-test.false c.loop-stmt.invariant
