use Rattle.dt_tracker.proofs.LawProofs.{enabled_pass, least_goes_on, steps_if, stuck}
use Rattle.dt_tracker.proofs.laws.none_is_stuck.Goals as goal

pub returns : goal.returns
returns c = record { least = least_goes_on; stuck = stuck; step = λ t. (λ k h. enabled_pass t k h, λ b. steps_if t b) }
