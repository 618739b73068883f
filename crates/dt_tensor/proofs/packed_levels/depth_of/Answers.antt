use Rattle.std.proofs.Common.{◌≡◌, ℕ, Bool, List, length, take, ap, sym, ◌∙◌, arith}
use Rattle.std.proofs.lemmas.List.{take_all}
use Rattle.dt_tensor.specs.Packed.{depth_of}
use Rattle.dt_tensor.proofs.Depths.{depth_compressed, depth_kept}
use Rattle.dt_tensor.proofs.packed_levels.depth_of.Goals as goal

pub returns : goal.returns
returns c = c.loop-i.invariant ∙ ap (λ (l : List Bool). depth_of l) (take_all c.loop-i.i c.args.compressed.now (omega arith))
