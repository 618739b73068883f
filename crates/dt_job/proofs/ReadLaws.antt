-- Reading line after line.
use Rattle.std.proofs.Common.{◌≡◌, ℕ, ◌+◌, List, [], ◌∷◌, drop, Bool, true, if◌then◌else◌, Option, Some, None, option_map, Result, Ok, Err, refl, ap, sym, ◌∙◌}
use Rattle.std.specs.Prelude.{slice_range}
use Rattle.dt_text.specs.Lines.{lines_of}
use Rattle.dt_model.specs.declared.cause.Cause.{Cause}
use Rattle.dt_model.specs.declared.cause.Cause.TheVariants as cause
use Rattle.dt_model.specs.Steps.{found}
use Rattle.dt_place.specs.Machines.{MachineView}
use Rattle.dt_job.specs.declared.job.Job.{Job}
use Rattle.dt_job.specs.declared.line_stop.LineStop.{LineStop}
use Rattle.dt_job.specs.declared.line_stop.LineStop.TheVariants as stops
use Rattle.dt_job.specs.Stops.{Stops}
use Rattle.dt_job.specs.Drafts.{DraftView}
use Rattle.dt_job.specs.Lines.{bytes_line}
use Rattle.dt_job.specs.Phases.{is_whole}
use Rattle.dt_job.specs.Read.{IsRead, StatedJob, at_line, job_on, lines_from, numbered, stmts_of}

goes_on : (n : ℕ) (d e : DraftView) (first : List ℕ) (rest : List (List ℕ)) → bytes_line d first ≡ Ok e → lines_from n d (first ∷ rest) ≡ lines_from (n + 1) e rest
unfolding lines_from
goes_on n d e first rest h = rw h refl

ends_there : (n : ℕ) (d : DraftView) (first : List ℕ) (rest : List (List ℕ)) (c : Cause) → bytes_line d first ≡ Err c → lines_from n d (first ∷ rest) ≡ Err (n, c)
unfolding lines_from
ends_there n d first rest c h = rw h refl

-- a line without a cause: what is left to read
pub line_goes_on : (text : List ℕ) (n : ℕ) (d e : DraftView) (at from to next : ℕ) → lines_of (drop at text) ≡ slice_range text from to ∷ lines_of (drop (to + 1) text)
    → drop next text ≡ drop (to + 1) text → bytes_line d (slice_range text from to) ≡ Ok e → lines_from (n + 1) e (lines_of (drop next text)) ≡ lines_from n d (lines_of (drop at text))
line_goes_on text n d e at from to next l r h =
    ap (λ (t : List ℕ). lines_from (n + 1) e (lines_of t)) r ∙ sym (goes_on n d e (slice_range text from to) (lines_of (drop (to + 1) text)) h) ∙ ap (λ (ls : List (List ℕ)). lines_from n d ls) (sym l)

-- a line with a cause: the answer
pub line_stops : (text : List ℕ) (n : ℕ) (d : DraftView) (at from to : ℕ) (c : Cause) → lines_of (drop at text) ≡ slice_range text from to ∷ lines_of (drop (to + 1) text)
    → bytes_line d (slice_range text from to) ≡ Err c → lines_from n d (lines_of (drop at text)) ≡ Err (n, c)
line_stops text n d at from to c l h = ap (λ (ls : List (List ℕ)). lines_from n d ls) l ∙ ends_there n d (slice_range text from to) (lines_of (drop (to + 1) text)) c h

-- the end of a text, where the job is whole
pub finished : (n : ℕ) (d : DraftView) (j : Job) → is_whole d.phase ≡ true → option_map (job_on d) d.machine ≡ Some j → lines_from n d [] ≡ Ok (record { job = j; stmts = stmts_of d })
unfolding lines_from
finished n d j w e =
    ap (λ (b : Bool). numbered n (found (if b then option_map on d.machine else None) cause.Unfinished)) w
    ∙ ap (λ (o : Option StatedJob). numbered n (found o cause.Unfinished)) (stated d.machine ∙ ap (option_map (λ k. record { job = k; stmts = stmts_of d })) e)
  where
    on : MachineView → StatedJob
    on m = record { job = job_on d m; stmts = stmts_of d }

    stated : (m : Option MachineView) → option_map on m ≡ option_map (λ k. record { job = k; stmts = stmts_of d }) (option_map (job_on d) m)
    stated None = refl
    stated (Some m) = refl

-- where a line stops the reading, the job ends
pub refuses : (n : ℕ) (stop : LineStop) (line : Result DraftView Cause) (whole : Result StatedJob (ℕ × Cause)) → Stops stop line → ((c : Cause) → line ≡ Err c → whole ≡ Err (n, c)) → IsRead (Err (at_line n stop)) whole
refuses n (stops.Refused c) line whole f h = h c f
refuses n stops.NoMemory line whole f h = tt
