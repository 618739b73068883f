use Rattle.std.proofs.Common.{◌≡◌, take}
use Rattle.dt_nest.proofs.derivations.copy_derived.Given as goal

abbrev pub invariant-loop-derived : goal.invariant-loop-derived
invariant-loop-derived l = l.items.items ≡ take l.derived-index l.list
