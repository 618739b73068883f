use Rattle.std.proofs.Common.{[], false, length, replicate, Err, Result, ap, sym, subst, ◌∙◌}
use Rattle.dt_model.specs.Shape.{dims}
use Rattle.dt_tensor.specs.Packed.{Packed}
use Rattle.dt_tensor.specs.Packing.{IsPack, pack_of}
use Rattle.dt_tensor.specs.declared.packing.PackEnd.{PackEnd}
use Rattle.dt_job.specs.Stops.{Stops}
use Rattle.dt_job.specs.TensorLine.{packed_or_cause, zeros_of}
use Rattle.dt_job.specs.declared.line_stop.LineStop.{LineStop}
use Rattle.dt_job.proofs.JobTensorFacts.{no_entries, pack_stops, packed_job, some_shape}
use Rattle.dt_job.proofs.tensor_line.zeros.Goals as goal

pub returns-in-Ok-clause-tensor : goal.returns-in-Ok-clause-tensor
returns-in-Ok-clause-tensor c = ap packed_or_cause (sym (no_entries c.args.shape c.new.result c.requires c.new.ensures) ∙ c.in-Ok.ensures.packed)

pub returns-in-Ok-clause-lawful : goal.returns-in-Ok-clause-lawful
returns-in-Ok-clause-lawful c = packed_job (dims c.args.shape) c.in-Ok.tensor (some_shape c.args.shape c.requires) (sym (no_entries c.args.shape c.new.result c.requires c.new.ensures) ∙ c.in-Ok.ensures.packed)

pub returns-clause-tensor : goal.returns-clause-tensor
returns-clause-tensor c =
    subst (λ (stop : LineStop). Stops stop (zeros_of (dims c.args.shape) (replicate (length (dims c.args.shape)) false))) (sym c.from.ensures)
    (pack_stops c.in-Err.end (pack_of (dims c.args.shape) (replicate (length (dims c.args.shape)) false) [])
    (subst (λ (given : Result Packed PackEnd). IsPack (Err c.in-Err.end) given) (no_entries c.args.shape c.new.result c.requires c.new.ensures) c.in-Err.ensures.packed))
