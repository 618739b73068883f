use Rattle.dt_events.proofs.ScratchWords.{scratch_bounded}
use Rattle.dt_events.proofs.live_words.scratch_is_bounded.Goals as goal

pub returns : goal.returns
returns g l runnable x done n k t p here = scratch_bounded l runnable x done n k t p here
