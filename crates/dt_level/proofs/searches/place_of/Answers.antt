use Rattle.std.proofs.Common.{arith, rules}
use Rattle.dt_level.proofs.SearchLemmas.{place_found, place_missing}
use Rattle.dt_level.proofs.searches.place_of.Goals.{else-k-numbers-via-then-k-numbers+else-numbers-k, else-k-numbers-via-else-k-numbers}
use Rattle.dt_level.proofs.searches.place_of.Goals as goal

pub returns-then-numbers-k : goal.returns-then-numbers-k
returns-then-numbers-k c =
    place_found c.args.numbers.now c.args.x c.count_below-k.result c.count_below-k.ensures.place (omega arith) (search rules)

pub returns-else-k-numbers : goal.returns-else-k-numbers
returns-else-k-numbers c =
    place_missing c.args.numbers.now c.args.x c.count_below-k.result c.requires c.count_below-k.ensures.place
    (λ lt e. elim c.else-k-numbers.branch [
      | else-k-numbers-via-then-k-numbers+else-numbers-k w ↦ search rules
      | else-k-numbers-via-else-k-numbers w ↦ omega arith
    ])
