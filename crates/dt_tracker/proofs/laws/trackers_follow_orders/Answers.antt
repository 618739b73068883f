use Rattle.dt_tracker.proofs.LawProofs.{followers_listed, tells, track_more}
use Rattle.dt_tracker.proofs.laws.trackers_follow_orders.Goals as goal

pub returns : goal.returns
returns g c = record { tell = λ t l done k s b. tells t l done k s b; go_on = λ t l done k s b h. track_more t l done k s b h; events = followers_listed }
