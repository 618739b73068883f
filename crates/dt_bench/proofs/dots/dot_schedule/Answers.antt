use Rattle.std.proofs.Common.{refl}
use Rattle.dt_bench.proofs.DotLawful.{made_lawful}
use Rattle.dt_bench.proofs.dots.dot_schedule.Goals as goal

pub from_parts-requires : goal.from_parts-requires
from_parts-requires c =
    made_lawful c.args.extent
    (record {
      nest = c.in_ok-dot_nest.field-0;
      derived = c.new.result;
      distributed = 0;
      moved = c.new-2.result;
      tensors = c.in_ok-tensor_names.field-0;
      names = c.in_ok-loop_names.field-0;
      extents = c.in_ok-from_slice.field-0;
      works = c.new-3.result;
    })
    c.in_ok-dot_nest.ensures c.new.ensures refl c.new-2.ensures c.in_ok-tensor_names.ensures c.in_ok-loop_names.ensures c.in_ok-from_slice.ensures c.new-3.ensures
