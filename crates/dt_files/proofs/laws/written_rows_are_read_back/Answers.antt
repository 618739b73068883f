use Rattle.dt_files.proofs.TensorBack.{tensor_back}
use Rattle.dt_files.proofs.laws.written_rows_are_read_back.Goals as goal

pub returns : goal.returns
returns c = λ t packed values. tensor_back t packed values
