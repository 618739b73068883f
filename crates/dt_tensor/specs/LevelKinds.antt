-- What the levels of a tensor store, dense or not.
use Rattle.dt_model.specs.Positions.{StoredTensor}
use Rattle.dt_tensor.specs.declared.tensor_levels.LevelKind.{LevelKind}
use Rattle.dt_tensor.specs.declared.tensor_levels.LevelKind.TheVariants as kinds

-- where the words lie
abbrev pub stored_by : LevelKind → StoredTensor
stored_by (kinds.Dense levels) = levels
stored_by (kinds.Packed levels) = levels
