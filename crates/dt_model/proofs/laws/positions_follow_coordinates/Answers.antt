use Rattle.dt_model.proofs.PositionFacts.{ordered_positions}
use Rattle.dt_model.proofs.laws.positions_follow_coordinates.Goals as goal

pub returns : goal.returns
returns c = ordered_positions
