use Rattle.std.proofs.Common.{length}
use Rattle.dt_tensor.proofs.PackFacts.{over_is}
use Rattle.dt_tensor.proofs.packing.is_over.Goals as goal

pub returns : goal.returns
returns c = over_is 1048576 (length c.args.fronts.now) c.args.size c.requires
