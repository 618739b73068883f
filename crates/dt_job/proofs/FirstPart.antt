-- The first part of a job fits the job's tensors.
use Rattle.std.proofs.Common.{◌≡◌, ℕ, ◌≤◌, List, [], ◌∷◌, map, length, arith, subst, sym}
use Rattle.std.specs.Prelude.{slice_index_or}
use Rattle.dt_model.specs.Positions.{StoredTensor}
use Rattle.dt_model.specs.declared.stmt.Stmt.{Stmt}
use Rattle.dt_nest.specs.FitsStored.{FitsStored}
use Rattle.dt_place.specs.Machines.{dims_of}
use Rattle.dt_tensor.specs.Packed.{stored_of}
use Rattle.dt_job.specs.Jobs.{IsJob}
use Rattle.dt_job.specs.PartsOf.{ArePartsOf}
use Rattle.dt_job.specs.declared.job.Job.{Job}
use Rattle.dt_plan.specs.declared.parts.Part.{Part}

-- of parts of statements the first fits
first_of : (dims : List ℕ) (stored : List StoredTensor) (names : List (List ℕ)) (stmts : List Stmt) (parts : List Part) (p : Part) → ArePartsOf dims stored names stmts parts → 1 ≤ length parts → p ≡ slice_index_or parts 0 p → FitsStored stored p.sched
first_of dims stored names [] [] p h l e = absurd (omega arith)
first_of dims stored names [] (q ∷ qs) p h l e = absurd h
first_of dims stored names (s ∷ ss) [] p h l e = absurd h
first_of dims stored names (s ∷ ss) (q ∷ qs) p h l e = subst (λ (x : Part). FitsStored stored x.sched) (sym e) h.0.fits

-- so of a job's
pub first_fits : (j : Job) (parts : List Part) (p : Part) → ((stmts : List Stmt) × IsJob stmts j) → parts ≡ j.parts → 1 ≤ length parts → p ≡ slice_index_or parts 0 p → FitsStored (map stored_of j.tensors) p.sched
first_fits j parts p (stmts, h) s l e = first_of (dims_of j.machine) (map stored_of j.tensors) j.names stmts parts p (subst (λ (x : List Part). ArePartsOf (dims_of j.machine) (map stored_of j.tensors) j.names stmts x) (sym s) h.parts) l e
