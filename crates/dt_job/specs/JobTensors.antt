-- The tensors of a job.
use Rattle.std.specs.Prelude.{◌≡◌, ◌≤◌, length, IsSome}
use Rattle.dt_base.specs.Rows.{product}
use Rattle.dt_model.specs.Shape.{shape_of_extents}
use Rattle.dt_tensor.specs.Packed.{Packed, dense_tensor}

-- a tensor with dense levels alone and one number for each position, of which there are at most 2 ^ 20
pub record IsJobTensor (t : Packed) : Type 0 where
  pub shape : IsSome (shape_of_extents t.extents)
  pub dense : t ≡ dense_tensor t.extents t.values
  pub full : length t.values ≡ product t.extents
  pub few : product t.extents ≤ 1048576
