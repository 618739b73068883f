-- What the words of the command line ask for.
use Rattle.std.specs.Prelude.{ℕ, List, [], ◌∷◌, codes, Option, Some, None, if◌then◌else◌}
use Rattle.std.specs.Str.{bytes_eq}
use Rattle.dt_run.specs.declared.form.Form.{Form}
use Rattle.dt_run.specs.declared.form.Form.TheVariants as form

-- the form of these words: the words `plan` and `run` have one, each alone
abbrev pub form_of : List (List ℕ) → Option Form
form_of (word ∷ []) = if bytes_eq word (codes "run") then Some form.Run else if bytes_eq word (codes "plan") then Some form.Plan else None
form_of _ = None

-- the bytes of the job that a form takes, where they are told: both take those of the source
abbrev pub job_bytes : Form → Option (List ℕ) → Option (List ℕ)
job_bytes form.Run told = told
job_bytes form.Plan told = told

-- the bytes that the words ask for, where they are told; words of no form ask for none
abbrev pub asked_bytes : Option Form → Option (List ℕ) → Option (List ℕ)
asked_bytes None told = Some []
asked_bytes (Some f) told = job_bytes f told
