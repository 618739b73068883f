use Rattle.dt_copy.proofs.Serving.{pieces_serve}
use Rattle.dt_copy.proofs.laws.pieces_serve.Goals as goal

pub returns : goal.returns
returns c = pieces_serve
