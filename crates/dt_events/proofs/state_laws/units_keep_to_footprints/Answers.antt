use Rattle.dt_events.proofs.Frames.{units_framed}
use Rattle.dt_events.proofs.state_laws.units_keep_to_footprints.Goals as goal

pub returns : goal.returns
returns g l parts o words i = units_framed l parts o words i
