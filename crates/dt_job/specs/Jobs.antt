-- A whole job.
use Rattle.std.specs.Prelude.{◌≡◌, ℕ, ◌<◌, ◌≤◌, List, length, map, All, IsSortedBy, false, nat_lt}
use Rattle.std.specs.List.{IsDistinct}
use Rattle.std.specs.Str.{bytes_eq}
use Rattle.dt_model.specs.Stmts.{AreEven, AreUsed, IsStmt}
use Rattle.dt_model.specs.declared.stmt.Stmt.{Stmt}
use Rattle.dt_index.specs.Reads.{right_side_reads}
use Rattle.dt_index.specs.Resolve.{IsSmall}
use Rattle.dt_tensor.specs.Packed.{stored_of}
use Rattle.dt_place.specs.Machines.{MachineView, dims_of}
use Rattle.dt_place.specs.Placements.{IsPlacement}
use Rattle.dt_place.specs.declared.placements.Placement.{Placement}
use Rattle.dt_job.specs.declared.job.Job.{Job}
use Rattle.dt_job.specs.declared.outputs.Show.{Show}
use Rattle.dt_job.specs.declared.outputs.Show.TheVariants.{Print}
use Rattle.dt_job.specs.JobTensors.{IsJobTensor}
use Rattle.dt_job.specs.PartsOf.{ArePartsOf}

-- A statement over tensors of these shapes: each variable stands in it, each term has each reduction variable, it has
-- at most 16 terms of at most 8 factors, and it does not read its left tensor.
pub record IsJobStmt (shapes : List (List ℕ)) (s : Stmt) : Type 0 where
  pub stands : IsStmt shapes s
  pub used : AreUsed s
  pub even : AreEven s
  pub small : IsSmall s
  pub unread : right_side_reads s.lhs.tensor s ≡ false

-- an output shows one of the first n tensors
abbrev pub ShowsBelow : ℕ → Show → Type 0
ShowsBelow n (Print k) = k < n

-- the extents of each tensor
abbrev pub shapes_of_job : Job → List (List ℕ)
shapes_of_job j = map (λ t. t.extents) j.tensors

-- a placement fits this machine
abbrev pub FitsOn : MachineView → Placement → Type 0
FitsOn m p = IsPlacement p m

-- A job of these statements: at most 32 tensors, whose names differ, each with a placement that fits the machine, and at most
-- 32 statements over them, each with its text and its part, whose segments never fall; every output is one of the tensors.
pub record IsJob (statements : List Stmt) (j : Job) : Type 0 where
  pub named : length j.names ≡ length j.tensors
  pub differ : IsDistinct bytes_eq j.names
  pub few : length j.tensors ≤ 32
  pub tensors : All IsJobTensor j.tensors
  pub placed : length j.places ≡ length j.tensors
  pub places : All (FitsOn j.machine) j.places
  pub few_stmts : length statements ≤ 32
  pub stmts : All (IsJobStmt (shapes_of_job j)) statements
  pub headed : length j.heads ≡ length statements
  pub parts : ArePartsOf (dims_of j.machine) (map stored_of j.tensors) j.names statements j.parts
  pub segments : IsSortedBy nat_lt (map (λ p. p.segment) j.parts)
  pub shows : All (ShowsBelow (length j.tensors)) j.shows
