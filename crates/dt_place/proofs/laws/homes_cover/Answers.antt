use Rattle.dt_place.proofs.HomeLists.{homes_cover}
use Rattle.dt_place.proofs.laws.homes_cover.Goals as goal

pub returns : goal.returns
returns c = homes_cover
