use Rattle.dt_events.proofs.Presence.{opened_whole}
use Rattle.dt_events.proofs.PresentCounts.{words_bounded}
use Rattle.dt_events.proofs.presence_laws.buffers_are_opened_whole.Goals as goal

pub returns-clause-whole : goal.returns-clause-whole
returns-clause-whole g l ops event opening done n b absent = opened_whole l ops event opening done n b absent

pub returns-clause-bounded : goal.returns-clause-bounded
returns-clause-bounded g l ops event opening done n b absent size = words_bounded l ops event opening done n b absent size
