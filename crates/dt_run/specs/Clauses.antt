-- What the top call promises at each status.
use Rattle.std.specs.Prelude.{◌≡◌, ℕ, List, Option, IfSome, ◌⊎◌}
use Rattle.std.specs.Io.KnownBytes.{Appends}
use Rattle.dt_io.specs.Faults.{Rose, AppendsPrefix}
use Rattle.dt_run.specs.declared.answering.Answer.{Answer}
use Rattle.dt_run.specs.declared.answering.Answer.TheVariants.{Text, Refusal}
use Rattle.dt_run.specs.declared.status.Status.{Status}
use Rattle.dt_run.specs.declared.status.Status.TheVariants as status
use Rattle.dt_run.specs.Forms.{asked_bytes, form_of}
use Rattle.dt_run.specs.Outcome.{Outcome, outcome_of}

-- the outcome that an answer stands for
abbrev pub outcome_in : Answer → Outcome
outcome_in (Text text) = record { status = status.Done; text = text }
outcome_in (Refusal text) = record { status = status.Refused; text = text }

-- where the bytes that the words ask for are told, the outcome for them has the property
abbrev pub IfTold : List (List ℕ) → Option (List ℕ) → (Outcome → Type 0) → Type 0
IfTold words left P = IfSome (asked_bytes (form_of words) left) (λ bytes. P (outcome_of words bytes))

-- the outcome has this status, and the bytes written grew by exactly its text
abbrev pub Answers : Status → Outcome → Option (List ℕ) → Option (List ℕ) → Type 0
Answers s o old new = (o.status ≡ s) × Appends old new o.text

-- the text was written, or the sink failed and has a front of it
abbrev pub Wrote : {W : Type 0} → (W → Option (List ℕ)) → (W → ℕ) → W → W → Status → List ℕ → Status → Type 0
Wrote written faults old new wanted text got = ((got ≡ wanted) × Appends (written old) (written new) text)
    ⊎ ((got ≡ status.WriteFault) × Rose (faults old) (faults new) × AppendsPrefix (written old) (written new) text)
