use Rattle.dt_argument.proofs.Chains.{chain}
use Rattle.dt_argument.proofs.EventLists.{chain_listed, is_listed_is}
use Rattle.dt_argument.proofs.events.conflicts_are_joined.Goals as goal

pub returns : goal.returns
returns c = record { joined = chain; exact = is_listed_is; listed = chain_listed }
