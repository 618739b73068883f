use Rattle.dt_argument.proofs.Counting.{more_are_counts}
use Rattle.dt_argument.proofs.MovingBack.{alike_at_turn, defined_at_turn, next_is}
use Rattle.dt_argument.proofs.orders.new_unit_moves_back.Goals as goal

pub returns-clause-moves : goal.returns-clause-moves
returns-clause-moves g c l f o done k b en = (defined_at_turn l f o done k b en, next_is l f o done k b en, more_are_counts l done k b en)

pub returns-clause-alike : goal.returns-clause-alike
returns-clause-alike g c l f o done k b en = alike_at_turn l f o done k b en
