use Rattle.dt_nest.proofs.RootApart.{reads_tensors}
use Rattle.dt_nest.proofs.laws.sum_reads_tensors.Goals as goal

pub returns : goal.returns
returns c = reads_tensors
