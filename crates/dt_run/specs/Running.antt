-- Parts run one after another: over which tensors.
use Rattle.std.specs.Prelude.{◌≡◌, ℕ, List, [], map, None}
use Rattle.std.specs.List.{AllByRecursion}
use Rattle.dt_model.specs.WholeTensor.{WholeTensor, IsWhole}
use Rattle.dt_model.specs.Positions.{StoredTensor, place_in, tensor_at}
use Rattle.dt_model.specs.Stmts.{shapes_of}
use Rattle.dt_nest.specs.World.{entries_of}
use Rattle.dt_plan.specs.declared.parts.Part.{Part}

-- Whole tensors over stored ones: with their extents, a number for each index, and 0 where nothing is stored.
pub record AreOver (stored : List StoredTensor) (tensors : List WholeTensor) : Type 0 where
  pub shapes : map (λ t. t.extents) stored ≡ shapes_of tensors
  pub whole : AllByRecursion IsWhole tensors
  pub zeros : (t : ℕ) (c : List ℕ) → place_in (tensor_at stored t) c ≡ None → entries_of tensors t c ≡ 0

-- parts without workspaces
abbrev pub AreWorkless : List Part → Type 0
AreWorkless parts = AllByRecursion (λ (p : Part). p.sched.works ≡ []) parts
