-- A command line on the open statement of a draft.
use Rattle.std.proofs.Common.{◌≡◌, ℕ, List, Option, Some, None, option_map, Result, Ok, Err, refl, ap, sym, ◌∙◌}
use Rattle.dt_text.specs.Tokens.{tokens_of}
use Rattle.dt_model.specs.declared.cause.Cause.{Cause}
use Rattle.dt_model.specs.declared.cause.Cause.TheVariants as cause
use Rattle.dt_model.specs.Steps.{◌>>=◌, found}
use Rattle.dt_nest.specs.Schedule.{Schedule}
use Rattle.dt_place.specs.Machines.{MachineView, dims_of}
use Rattle.dt_schedule.specs.Commands.{command_line}
use Rattle.dt_job.specs.declared.line_stop.LineStop.{LineStop}
use Rattle.dt_job.specs.declared.line_stop.LineStop.TheVariants as stops
use Rattle.dt_job.specs.declared.phases.Phase.{Phase}
use Rattle.dt_job.specs.declared.phases.Phase.TheVariants as phases
use Rattle.dt_job.specs.Contents.{stored_of_all}
use Rattle.dt_job.specs.Drafts.{DraftView}
use Rattle.dt_job.specs.Phases.{open_stmt}
use Rattle.dt_job.specs.ScheduleLine.{schedule_line}
use Rattle.dt_job.specs.Scheduled.{ScheduledView}
use Rattle.dt_job.specs.Stops.{Says}

-- what a part of a line says is so of the line
said_so : {X A B : Type 0} (x : A) (y : B) (next : A → Result B Cause) (r : Result X LineStop) (part : Result A Cause) (whole : Result B Cause) → whole ≡ (part >>= next) → next x ≡ Ok y → Says (λ _. x) r part → Says (λ _. y) r whole
said_so x y next (Ok u) part whole w n h = w ∙ ap (λ (p : Result _ Cause). p >>= next) h ∙ n
said_so x y next (Err (stops.Refused c)) part whole w n h = w ∙ ap (λ (p : Result _ Cause). p >>= next) h
said_so x y next (Err stops.NoMemory) part whole w n h = tt

-- a phase that is not that of an open statement has none
pub none_open : (p : Phase) → ((s : ScheduledView) → p ≡ phases.Open s → ⊥) → open_stmt p ≡ None
none_open phases.Version h = refl
none_open phases.Machine h = refl
none_open phases.Declarations h = refl
none_open (phases.Open s) h = absurd (h s refl)
none_open phases.Statements h = refl
none_open phases.Outputs h = refl

module _ (d : DraftView) (text : List ℕ) where
  -- the draft with another schedule of this statement
  abbrev with_sched : ScheduledView → Schedule → DraftView
  with_sched s sched = record d { phase = phases.Open (record s { sched = sched }) }

  abbrev with_next : ScheduledView → Schedule → Result DraftView Cause
  with_next s sched = Ok (with_sched s sched)

  -- what the line says where this statement is open on a machine with these dimensions
  abbrev said : Option ScheduledView → Option (List ℕ) → Result DraftView Cause
  said o grid = found o cause.OutOfPlace >>= λ s. found grid cause.OutOfPlace >>= λ dims. command_line s.sched dims (stored_of_all d.tensors) (tokens_of text) >>= with_next s

  -- no statement is open
  pub not_open : open_stmt d.phase ≡ None → schedule_line d text ≡ Err cause.OutOfPlace
  unfolding schedule_line
  not_open e = ap (λ (o : Option ScheduledView). said o (option_map dims_of d.machine)) e

  -- no machine is known
  pub not_known : d.machine ≡ None → schedule_line d text ≡ Err cause.OutOfPlace
  unfolding schedule_line
  not_known e = ap (λ (m : Option MachineView). said (open_stmt d.phase) (option_map dims_of m)) e ∙ none (open_stmt d.phase)
    where
      none : (o : Option ScheduledView) → said o None ≡ Err cause.OutOfPlace
      none None = refl
      none (Some s) = refl

  -- the open statement gets another schedule, or the line has a cause
  pub commanded : {X : Type 0} (new : DraftView) (s t : ScheduledView) (m : MachineView) (r : Result X LineStop) → d.phase ≡ phases.Open s → d.machine ≡ Some m → t ≡ record s { sched = t.sched } → new ≡ record d { phase = phases.Open t }
      → Says (λ _. t.sched) r (command_line s.sched (dims_of m) (stored_of_all d.tensors) (tokens_of text)) → Says (λ _. new) r (schedule_line d text)
  unfolding schedule_line
  commanded new s t m r p k o n h =
      said_so t.sched new (with_next s) r (command_line s.sched (dims_of m) (stored_of_all d.tensors) (tokens_of text)) (schedule_line d text)
      (ap (λ (p : Phase). said (open_stmt p) (option_map dims_of d.machine)) p ∙ ap (λ (o : Option MachineView). said (Some s) (option_map dims_of o)) k)
      (ap (λ (u : ScheduledView). Ok (record d { phase = phases.Open u })) (sym o) ∙ ap (λ (e : DraftView). Ok e) (sym n)) h
