use Rattle.dt_base.proofs.Rows.{row_major-below}
use Rattle.dt_place.specs.Machines.{dims_of}
use Rattle.dt_base.proofs.Assignments.{assignment-row_major, row_major-assignment}
use Rattle.dt_place.proofs.laws.numbers_follow_coordinates.Goals as goal

pub returns : goal.returns
returns c = λ m. record {
  numbered = λ node h. row_major-assignment (dims_of m) node h;
  found = λ cs node e. (assignment-row_major (dims_of m) cs node e, row_major-below (dims_of m) cs node e);
}
