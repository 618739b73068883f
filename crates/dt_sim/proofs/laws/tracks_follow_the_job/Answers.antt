use Rattle.dt_sim.proofs.JobTracks.{follows_job, plans_tracked}
use Rattle.dt_sim.proofs.laws.tracks_follow_the_job.Goals as goal

pub returns : goal.returns
returns c = record { begin = plans_tracked; follow = follows_job }
