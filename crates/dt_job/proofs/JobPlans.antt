-- What a job gives for its plan.
use Rattle.std.proofs.Common.{ℕ, List, [], ◌∷◌, map}
use Rattle.std.specs.List.{AllByRecursion}
use Rattle.dt_model.specs.Positions.{StoredTensor}
use Rattle.dt_model.specs.declared.stmt.Stmt.{Stmt}
use Rattle.dt_nest.specs.FitsStored.{FitsStored}
use Rattle.dt_nest.proofs.Each.{all_of}
use Rattle.dt_place.specs.Machines.{dims_of}
use Rattle.dt_place.specs.Placements.{IsPlacement}
use Rattle.dt_place.specs.declared.placements.Placement.{Placement}
use Rattle.dt_plan.specs.declared.parts.Part.{Part}
use Rattle.dt_tensor.specs.Packed.{stored_of}
use Rattle.dt_job.specs.Jobs.{IsJob}
use Rattle.dt_job.specs.PartsOf.{ArePartsOf}
use Rattle.dt_job.specs.declared.job.Job.{Job}

-- parts of statements fit the stored tensors
parts_fit : (dims : List ℕ) (stored : List StoredTensor) (names : List (List ℕ)) (stmts : List Stmt) (parts : List Part) → ArePartsOf dims stored names stmts parts → AllByRecursion (λ (p : Part). FitsStored stored p.sched) parts
parts_fit dims stored names [] [] h = tt
parts_fit dims stored names [] (q ∷ qs) h = absurd h
parts_fit dims stored names (s ∷ ss) [] h = absurd h
parts_fit dims stored names (s ∷ ss) (q ∷ qs) h = (h.0.fits, parts_fit dims stored names ss qs h.1)

-- so do those of a job
pub job_fits : (j : Job) → ((stmts : List Stmt) × IsJob stmts j) → AllByRecursion (λ (p : Part). FitsStored (map stored_of j.tensors) p.sched) j.parts
job_fits j (stmts, h) = parts_fit (dims_of j.machine) (map stored_of j.tensors) j.names stmts j.parts h.parts

-- its placements fit its machine
pub job_placed : (j : Job) → ((stmts : List Stmt) × IsJob stmts j) → AllByRecursion (λ (p : Placement). IsPlacement p j.machine) j.places
job_placed j (stmts, h) = all_of (λ (p : Placement). IsPlacement p j.machine) j.places h.places
