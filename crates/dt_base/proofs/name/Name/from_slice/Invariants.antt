use Rattle.std.proofs.Common.{◌≡◌, take}
use Rattle.dt_base.proofs.name.Name.from_slice.Given as goal

abbrev pub invariant-loop-b : goal.invariant-loop-b
invariant-loop-b l = l.items.items ≡ take l.b-index l.bytes
