use Rattle.std.proofs.Common.{◌≡◌, take}
use Rattle.dt_mem.proofs.Made.{rooms_from, words_of}
use Rattle.dt_mem.proofs.node_mem.NodeMem.new.Given as goal

abbrev pub invariant-loop-spec : goal.invariant-loop-spec
invariant-loop-spec l = (l.rooms.items ≡ rooms_from 0 (take l.spec-index l.specs)) × (l.total ≡ words_of (take l.spec-index l.specs))
