use Rattle.dt_events.proofs.LiveBounds.{homes_stay}
use Rattle.dt_events.proofs.live_words.homes_stay.Goals as goal

pub returns : goal.returns
returns g l x done n t w = homes_stay l x done n t w
