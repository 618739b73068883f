-- The parts of statements: each statement with its schedule.
use Rattle.std.specs.Prelude.{◌≡◌, ℕ, List, [], ◌∷◌}
use Rattle.dt_model.specs.Positions.{StoredTensor, tensor_at}
use Rattle.dt_model.specs.declared.stmt.Stmt.{Stmt}
use Rattle.dt_nest.specs.Chain.{MeansStmt}
use Rattle.dt_nest.specs.FitsStored.{FitsStored}
use Rattle.dt_nest.specs.Grid.{IsOnGrid}
use Rattle.dt_nest.specs.Outputs.{IsUnread, output_of}
use Rattle.dt_tensor.specs.Packed.{dense_levels}
use Rattle.dt_plan.specs.declared.parts.Part.{Part}

-- A statement's part, over stored tensors with these names and a machine with these dimensions. Whatever the tensors' numbers
-- are, the part's schedule means the statement at each index; the stored tensors fit it; its distributed loops are none or
-- the machine's dimensions; and it writes the statement's left tensor, which has dense levels alone and is read nowhere.
pub record IsPartOf (dims : List ℕ) (stored : List StoredTensor) (names : List (List ℕ)) (stmt : Stmt) (part : Part) : Type 0 where
  pub means : MeansStmt stmt part.sched
  pub adds : part.adds ≡ stmt.adds
  pub tensors : part.sched.tensors ≡ names
  pub fits : FitsStored stored part.sched
  pub grid : IsOnGrid dims part.sched
  pub output : output_of part.sched.nest ≡ stmt.lhs.tensor
  pub dense : tensor_at stored stmt.lhs.tensor ≡ dense_levels (tensor_at stored stmt.lhs.tensor).extents
  pub unread : IsUnread stmt.lhs.tensor part.sched.nest

-- one part for each statement, in order
abbrev pub ArePartsOf : List ℕ → List StoredTensor → List (List ℕ) → List Stmt → List Part → Type 0
ArePartsOf dims stored names [] [] = Unit {0}
ArePartsOf dims stored names (s ∷ stmts) (p ∷ parts) = IsPartOf dims stored names s p × ArePartsOf dims stored names stmts parts
ArePartsOf dims stored names _ _ = ⊥
