use Rattle.dt_nest.proofs.ZerosFit.{fits_zeros}
use Rattle.dt_nest.proofs.laws.fitting_are_zeros.Goals as goal

pub returns : goal.returns
returns c = fits_zeros
