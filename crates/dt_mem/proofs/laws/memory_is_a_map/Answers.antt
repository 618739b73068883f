use Rattle.dt_mem.proofs.MapLaws.{begins_with_zeros, ends_with_nothing, folds_one_word, writes_one_word}
use Rattle.dt_mem.proofs.laws.memory_is_a_map.Goals as goal

pub returns : goal.returns
returns c = record { begins = begins_with_zeros; ends = ends_with_nothing; writes = writes_one_word; folds = folds_one_word }
