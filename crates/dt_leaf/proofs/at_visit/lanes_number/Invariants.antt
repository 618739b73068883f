use Rattle.std.proofs.Common.{◌≡◌, ◌^◌, ◌%◌, Some, filter, sum_by}
use Rattle.std.specs.List.{range_with_len}
use Rattle.dt_nest.specs.Meaning.{terms_of}
use Rattle.dt_nest.specs.Run.{is_among}
use Rattle.dt_nest.specs.Point.{env_at, valid_of}
use Rattle.dt_leaf.proofs.at_visit.lanes_number.Given as goal

abbrev pub invariant-loop-x : goal.invariant-loop-x
invariant-loop-x g l = l.sum ≡ sum_by (λ y. terms_of (g.N.Numbers.entries l.numbers) (env_at l.visits (Some y)) l.terms) (filter (λ y. is_among y (valid_of l.visits)) (range_with_len 0 l.x)) % 2 ^ 64
