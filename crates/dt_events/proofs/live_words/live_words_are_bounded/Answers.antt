use Rattle.dt_events.proofs.LiveBounds.{live_bounded}
use Rattle.dt_events.proofs.live_words.live_words_are_bounded.Goals as goal

pub returns : goal.returns
returns g l ready x numbers u allowed s run n = live_bounded l ready x numbers u allowed s run n
