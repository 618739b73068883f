use Rattle.std.proofs.Common.{refl}
use Rattle.dt_visit_tests.proofs.RowLawful.{made_lawful}
use Rattle.dt_visit_tests.proofs.row_schedules.row_schedule.Goals as goal

pub from_parts-requires : goal.from_parts-requires
from_parts-requires c =
    (made_lawful
    (record {
      nest = c.in_ok-row_nest.field-0;
      derived = c.in_ok-derivations.field-0;
      distributed = 0;
      moved = c.new.result;
      tensors = c.in_ok-tensor_names.field-0;
      names = c.in_ok-loop_names.field-0;
      extents = c.in_ok-from_slice.field-0;
      works = c.in_ok-workspaces.field-0;
    })
    c.in_ok-row_nest.ensures c.in_ok-derivations.ensures refl c.new.ensures c.in_ok-tensor_names.ensures c.in_ok-loop_names.ensures c.in_ok-from_slice.ensures c.in_ok-workspaces.ensures).1
