use Rattle.dt_argument.proofs.InTurn.{in_turn_defined, in_turn_ends, listing_is_allowed, listing_is_complete, turn_defined}
use Rattle.dt_argument.proofs.orders.the_listing_is_an_order.Goals as goal

pub returns-clause-order : goal.returns-clause-order
returns-clause-order g c l = (listing_is_allowed l, listing_is_complete l)

pub returns-clause-turns : goal.returns-clause-turns
returns-clause-turns g c l = ((turn_defined l, in_turn_defined l), in_turn_ends l)
