-- What the program answers to its words and an input: a status and a text.
use Rattle.std.specs.Prelude.{ℕ, List, [], ◌++◌, length, codes, map, nat_lt, if◌then◌else◌, Option, Some, None, option_map, unwrap_or, slice_get, Result, Ok, Err}
use Rattle.std.specs.List.{flat_map, zip}
use Rattle.std.specs.Option.{option_and_then}
use Rattle.dt_model.specs.Positions.{StoredTensor}
use Rattle.dt_model.specs.WholeTensor.{WholeTensor, number_at}
use Rattle.dt_model.specs.Value.{final_of}
use Rattle.dt_model.specs.declared.cause.Cause.{Cause}
use Rattle.dt_job.specs.declared.job.Job.{Job}
use Rattle.dt_tensor.specs.Packed.{Packed, stored_of, whole_of}
use Rattle.dt_job.specs.declared.outputs.Show.{Show}
use Rattle.dt_job.specs.declared.outputs.Show.TheVariants as show
use Rattle.dt_job.specs.Read.{StatedJob, job_of}
use Rattle.dt_run.specs.Forms.{form_of}
use Rattle.dt_run.specs.Planning.{job_layout, job_plan_text, limit_of}
use Rattle.dt_refusal.specs.Refusals.{line_end, refused_line_text, refused_plan_text, too_long_text}
use Rattle.dt_run.specs.TensorText.{tensor_text}
use Rattle.dt_run.specs.declared.form.Form.{Form}
use Rattle.dt_run.specs.declared.form.Form.TheVariants as form
use Rattle.dt_refusal.specs.declared.plan_cause.PlanCause.{PlanCause}
use Rattle.dt_run.specs.declared.status.Status.{Status}
use Rattle.dt_run.specs.declared.status.Status.TheVariants as status

-- a status, and the text that is written
pub record Outcome : Type 0 where
  pub status : Status
  pub text : List ℕ

-- a tensor that stores these coordinates, with the numbers that a whole one has there
abbrev pub packed_with : StoredTensor → WholeTensor → Packed
packed_with s w = record { extents = s.extents; compressed = s.compressed; coords = s.coords; values = map (λ c. unwrap_or (number_at w c) 0) s.coords }

-- the tensor with this number as it is printed, by its name
abbrev pub print_text : List (List ℕ) → List Packed → ℕ → List ℕ
print_text names tensors k = unwrap_or (option_and_then (λ name. option_map (tensor_text name) (slice_get tensors k)) (slice_get names k)) []

-- what an output writes
abbrev pub show_text : List (List ℕ) → List Packed → Show → List ℕ
show_text names tensors (show.Print k) = print_text names tensors k

-- the tensors of a job as they are given
abbrev pub given_of : Job → List WholeTensor
given_of j = map whole_of j.tensors

-- the tensors of a job after all statements, each as it is stored
abbrev pub ends_of : StatedJob → List Packed
ends_of s = map (λ p. packed_with p.0 p.1) (zip (map stored_of s.job.tensors) (final_of s.stmts (given_of s.job)))

-- what a run writes: its head, and each output of the tensors after all statements
abbrev pub run_text : StatedJob → List ℕ
run_text s = codes "distal run" ++ line_end ++ flat_map (show_text s.job.names (ends_of s)) s.job.shows

-- the most bytes of an input
abbrev pub input_limit : ℕ
input_limit = 16777216

-- words of no form: nothing is written
abbrev pub bad_words : Outcome
bad_words = record { status = status.BadWords; text = [] }

-- what is refused with this text
abbrev pub refused_with : List ℕ → Outcome
refused_with text = record { status = status.Refused; text = text }

-- what a form writes of a job
abbrev pub form_text : Form → StatedJob → List ℕ
form_text form.Run s = run_text s
form_text form.Plan s = job_plan_text s.job

-- a plan that passes a limit is refused; else the text is written
abbrev pub planned : Option PlanCause → List ℕ → Outcome
planned (Some c) text = refused_with (refused_plan_text c)
planned None text = record { status = status.Done; text = text }

-- what a form answers to a job: each of them plans it first
abbrev pub outcome_of_job : Form → StatedJob → Outcome
outcome_of_job f s = planned (limit_of (job_layout s.job)) (form_text f s)

-- a line that has a cause is refused
abbrev pub outcome_of_read : Form → Result StatedJob (ℕ × Cause) → Outcome
outcome_of_read f (Ok s) = outcome_of_job f s
outcome_of_read f (Err e) = refused_with (refused_line_text e.0 e.1)

-- what a form answers to the bytes of a job
abbrev pub outcome_of_bytes : Form → List ℕ → Outcome
outcome_of_bytes f bytes = if nat_lt input_limit (length bytes) then refused_with too_long_text else outcome_of_read f (job_of bytes)

-- what the program answers to these words and the bytes that they ask for, without a fault and with memory
abbrev pub outcome_of : List (List ℕ) → List ℕ → Outcome
outcome_of words bytes = unwrap_or (option_map (λ f. outcome_of_bytes f bytes) (form_of words)) bad_words
