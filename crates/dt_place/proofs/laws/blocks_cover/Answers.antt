use Rattle.dt_place.proofs.BlockLemmas.{are_blocks}
use Rattle.dt_place.proofs.laws.blocks_cover.Goals as goal

pub returns : goal.returns
returns c = are_blocks
