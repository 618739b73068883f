use Rattle.std.proofs.Common.{◌≡◌, ◌^◌, ◌%◌, take}
use Rattle.dt_nest.specs.Meaning.{terms_of}
use Rattle.dt_nest.specs.Point.{env_at}
use Rattle.dt_leaf.proofs.at_visit.terms_number.Given as goal

abbrev pub invariant-loop-term : goal.invariant-loop-term
invariant-loop-term g l = l.sum ≡ terms_of (g.N.Numbers.entries l.numbers) (env_at l.visits l.point.lane) (take l.term-index l.terms) % 2 ^ 64
