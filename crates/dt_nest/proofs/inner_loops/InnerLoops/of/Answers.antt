use Rattle.std.proofs.Common.{length, ap, ◌∙◌}
use Rattle.dt_nest.specs.Schedule.{seen}
use Rattle.dt_nest.proofs.OwnSlots.{few_leaves}
use Rattle.dt_nest.proofs.StepFacts.{inner_loops_named}
use Rattle.dt_nest.proofs.inner_loops.InnerLoops.of.Goals as goal

pub inner_loop_dependents-requires-clause-inner_loops : goal.inner_loop_dependents-requires-clause-inner_loops
inner_loop_dependents-requires-clause-inner_loops c =
    inner_loops_named (seen c.args.parts.now) c.args.path.now (length c.as_slice-names.result.now) c.as_slice-2.result.now c.requires (ap length c.as_slice-names.ensures) (c.as_slice-2.ensures.value ∙ c.in_ok-items.ensures)

pub leaves-requires : goal.leaves-requires
leaves-requires c = few_leaves (seen c.args.parts.now) c.requires
