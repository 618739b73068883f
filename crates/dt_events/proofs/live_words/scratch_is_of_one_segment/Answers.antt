use Rattle.dt_events.proofs.OneSegment.{one_segment}
use Rattle.dt_events.proofs.live_words.scratch_is_of_one_segment.Goals as goal

pub returns : goal.returns
returns g l ready x numbers u allowed s run m j t v n k r w p q hp hq a b = one_segment l ready x numbers u allowed s run m j t v n k r w p q hp hq a b
