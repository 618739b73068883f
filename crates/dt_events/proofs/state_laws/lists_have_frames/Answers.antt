use Rattle.dt_events.proofs.Frames.{lists_framed, unmet_apart}
use Rattle.dt_events.proofs.state_laws.lists_have_frames.Goals as goal

pub returns-clause-apart : goal.returns-clause-apart
returns-clause-apart g fs gs h = unmet_apart fs gs h

pub returns-clause-lists : goal.returns-clause-lists
returns-clause-lists g l parts ops words event opening = lists_framed l parts ops words event opening
