use Rattle.dt_argument.proofs.WorkedFacts.{frames, ordered}
use Rattle.dt_argument.proofs.tests.the_list_meets_the_facts.Goals as goal

pub returns : goal.returns
returns c = record { frames = frames; ordered = ordered }
