use Rattle.dt_events.proofs.JobLists.{conflicts_same, job_frames, job_ordered}
use Rattle.dt_events.proofs.job_laws.jobs_meet_the_facts.Goals as goal

pub returns-clause-conflicts : goal.returns-clause-conflicts
returns-clause-conflicts g l a b h k = conflicts_same l a b h k

pub returns-clause-frames : goal.returns-clause-frames
returns-clause-frames g l parts x = job_frames l parts x

pub returns-clause-ordered : goal.returns-clause-ordered
returns-clause-ordered g l x h = job_ordered l x h
