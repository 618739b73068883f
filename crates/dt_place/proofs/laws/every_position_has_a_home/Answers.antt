use Rattle.dt_place.proofs.Coverage.{covered}
use Rattle.dt_place.proofs.laws.every_position_has_a_home.Goals as goal

pub returns : goal.returns
returns c = covered
