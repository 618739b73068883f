-- The parts of a job have no workspaces: no line of a text makes any.
use Rattle.std.proofs.Common.{◌≡◌, ℕ, ◌+◌, Bool, true, false, List, [], ◌∷◌, ◌++◌, map, Option, Some, None, IfSome, is_some, option_map, not, ◌&&◌, ◌==◌, length, nat_lt, replicate, Result, Ok, Err, IfOk, refl, ◌∙◌, subst, if◌then◌else◌, codes}
use Rattle.std.specs.List.{AllByRecursion, list_all}
use Rattle.std.specs.Str.{bytes_eq}
use Rattle.dt_text.specs.Lines.{lines_of, plain_line}
use Rattle.dt_text.specs.Names.{is_name}
use Rattle.dt_text.specs.Numbers.{all_numbers_of, is_numeral}
use Rattle.dt_text.specs.Tokens.{after_word, tokens_of}
use Rattle.dt_text.specs.Words.{line_words}
use Rattle.dt_model.specs.declared.cause.Cause.{Cause}
use Rattle.dt_model.specs.declared.cause.Cause.TheVariants as cause
use Rattle.dt_model.specs.Shape.{dims, shape_of_extents}
use Rattle.dt_model.specs.Steps.{◌>>=◌, found, need}
use Rattle.dt_index.specs.Known.{place_of}
use Rattle.dt_index.specs.Resolve.{Resolved, parsed_of}
use Rattle.dt_nest.specs.Chain.{stmt_schedule}
use Rattle.dt_nest.specs.Schedule.{Schedule}
use Rattle.dt_place.specs.MachineLine as machine_lines
use Rattle.dt_place.specs.Machines.{MachineView, dims_of}
use Rattle.dt_place.specs.PlaceLine.{form_of, placed_of}
use Rattle.dt_schedule.specs.Commands.{command_line}
use Rattle.dt_schedule.proofs.LineFacts.{line_works}
use Rattle.dt_job.specs.Contents.{known_of, names_of, order_of, position_count_of, stored_of_all}
use Rattle.dt_job.specs.Drafts.{DraftView, empty_draft, part_of}
use Rattle.dt_job.specs.DataLine.{data_line, numbers_line, ungiven_number}
use Rattle.dt_job.specs.DistalLine.{distal_line}
use Rattle.dt_job.specs.EndLine.{end_line}
use Rattle.dt_job.specs.GivenWords.{given_words}
use Rattle.dt_job.specs.FillLine.{fill_line, fill_of, filled_in}
use Rattle.dt_job.specs.Lines.{bytes_line, words_line, words_of}
use Rattle.dt_job.specs.MachineLine.{machine_line}
use Rattle.dt_job.specs.PlaceLine.{place_line, unplaced_number}
use Rattle.dt_job.specs.PrintLine.{print_line}
use Rattle.dt_schedule.specs.CommandWords.{is_command}
use Rattle.dt_job.specs.ScheduleLine.{schedule_line}
use Rattle.dt_job.specs.Scheduled.{ScheduledView}
use Rattle.dt_job.specs.StmtLine.{scheduled_of, stmt_line}
use Rattle.dt_job.specs.TensorLine.{declared_in, tensor_line, zeros_of}
use Rattle.dt_job.specs.Phases.{is_whole, open_stmt, takes_declaration, takes_distal, takes_machine, takes_output, takes_stmt}
use Rattle.dt_job.specs.Shapes.{are_numerals, extent_words, is_dense_letter, level_words, numeral_of}
use Rattle.dt_job.specs.Read.{StatedJob, job_of, job_on, lines_from, numbered, stmts_of, then_lines}
use Rattle.dt_job.specs.declared.fills.Fill.{Fill}
use Rattle.dt_run.specs.Running.{AreWorkless}

-- a statement's schedule has no workspaces
abbrev HasNone : ScheduledView → Type 0
HasNone s = s.sched.works ≡ []

-- none of a draft's statements has any
abbrev Workless : DraftView → Type 0
Workless d = AllByRecursion HasNone d.closed × IfSome (open_stmt d.phase) HasNone

-- what holds of each result of the next step holds after it
after : {A B : Type 0} (P : B → Type 0) (r : Result A Cause) (k : A → Result B Cause) → ((x : A) → r ≡ Ok x → IfOk (k x) P) → IfOk (r >>= k) P
after P (Ok x) k h = h x refl
after P (Err e) k h = tt

-- what holds of both holds of either
either : (P : DraftView → Type 0) (b : Bool) (x y : Result DraftView Cause) → IfOk x P → IfOk y P → IfOk (if b then x else y) P
either P true x y p q = p
either P false x y p q = q

found_has : {A : Type 0} (P : A → Type 0) (o : Option A) (c : Cause) (x : A) → IfSome o P → found o c ≡ Ok x → P x
found_has P None c x h e = absurd (cc)
found_has P (Some y) c x h e = let same : y ≡ x = cc in subst P same h

one_more : (closed : List ScheduledView) (s : ScheduledView) → AllByRecursion HasNone closed → HasNone s → AllByRecursion HasNone (closed ++ s ∷ [])
one_more [] s h n = (n, tt)
one_more (c ∷ closed) s h n = (h.0, one_more closed s h.1 n)

-- Lines --------------------------------------------------------------------------------------------------------------------

module _ (d : DraftView) (w : Workless d) where
  -- none is open
  rested : AllByRecursion HasNone d.closed × Unit {0}
  rested = (w.0, tt)

  -- the schedule that a statement starts with has none
  started : (r : Resolved) → AllByRecursion HasNone d.closed × HasNone (scheduled_of r (names_of d.tensors))
  unfolding stmt_schedule
  started r = (w.0, refl)

  -- the open statement has none
  open_none : (s : ScheduledView) → found (open_stmt d.phase) cause.OutOfPlace ≡ Ok s → HasNone s
  open_none s e = found_has HasNone (open_stmt d.phase) cause.OutOfPlace s w.1 e

  -- nor does a command give it one
  commanded : (s : ScheduledView) (grid : List ℕ) (text : List ℕ) (sched : Schedule) → found (open_stmt d.phase) cause.OutOfPlace ≡ Ok s → command_line s.sched grid (stored_of_all d.tensors) (tokens_of text) ≡ Ok sched → AllByRecursion HasNone d.closed × HasNone (record s { sched = sched })
  commanded s grid text sched e g = (w.0, line_works s.sched grid (stored_of_all d.tensors) (tokens_of text) sched g ∙ open_none s e)

  -- nor does the last closed one have any
  ended : (s : ScheduledView) → found (open_stmt d.phase) cause.OutOfPlace ≡ Ok s → AllByRecursion HasNone (d.closed ++ s ∷ []) × Unit {0}
  ended s e = (one_more d.closed s w.0 (open_none s e), tt)

  distal_workless : (words : List (List ℕ)) → IfOk (distal_line d words) Workless
  unfolding distal_line
  distal_workless [] = after Workless (need (takes_distal d.phase) cause.OutOfPlace) (λ u. Err cause.Syntax) (λ u e. tt)
  distal_workless (word ∷ []) =
      after Workless (need (takes_distal d.phase) cause.OutOfPlace) _ (λ u e. after Workless (numeral_of word) _ (λ n f. after Workless (need (n == 1) cause.Version) _ (λ v g. rested)))
  distal_workless (word ∷ more ∷ words) = after Workless (need (takes_distal d.phase) cause.OutOfPlace) (λ u. Err cause.Syntax) (λ u e. tt)

  machine_workless : (text : List ℕ) → IfOk (machine_line d text) Workless
  unfolding machine_line
  machine_workless text = after Workless (need (takes_machine d.phase) cause.OutOfPlace) _ (λ u e. after Workless (machine_lines.machine_line (tokens_of text)) _ (λ m f. rested))

  declared_workless : (name extents : List ℕ) (letters : ℕ) → IfOk (declared_in d name extents letters) Workless
  unfolding declared_in
  declared_workless name extents letters =
      after Workless (need (not (is_some (place_of name (known_of d.tensors)))) (cause.NameTaken name)) _ (λ a e. after Workless (need (nat_lt (length d.tensors) 32) cause.TooManyTensors) _
      (λ b f. after Workless (found (shape_of_extents extents) cause.BadShape) _ (λ s g. after Workless (need (letters == length extents) cause.BadFormat) _ (λ c h. after Workless (zeros_of (dims s) (replicate (length (dims s)) false)) _ (λ u i. w)))))

  tensor_workless : (words : List (List ℕ)) → IfOk (tensor_line d words) Workless
  unfolding tensor_line
  tensor_workless [] = after Workless (need (takes_declaration d.phase) cause.OutOfPlace) (λ u. Err cause.Syntax) (λ u e. tt)
  tensor_workless (name ∷ []) = after Workless (need (takes_declaration d.phase) cause.OutOfPlace) (λ u. Err cause.Syntax) (λ u e. tt)
  tensor_workless (name ∷ shape ∷ []) =
      after Workless (need (takes_declaration d.phase) cause.OutOfPlace) _ (λ u e. after Workless (need (is_name name && list_all is_numeral (extent_words shape)) cause.Syntax) _
      (λ v f. after Workless (found (all_numbers_of (extent_words shape)) cause.BadNumber) (λ ns. declared_in d name ns (length ns)) (λ ns g. declared_workless name ns (length ns))))
  tensor_workless (name ∷ shape ∷ format ∷ []) =
      after Workless (need (takes_declaration d.phase) cause.OutOfPlace) _ (λ u e. after Workless (need (is_name name && list_all is_numeral (extent_words shape) && list_all is_dense_letter (level_words format)) cause.Syntax) _
      (λ v f. after Workless (found (all_numbers_of (extent_words shape)) cause.BadNumber) (λ ns. declared_in d name ns (length (level_words format))) (λ ns g. declared_workless name ns (length (level_words format)))))
  tensor_workless (name ∷ shape ∷ format ∷ more ∷ words) = after Workless (need (takes_declaration d.phase) cause.OutOfPlace) (λ u. Err cause.Syntax) (λ u e. tt)

  place_workless : (text : List ℕ) → IfOk (place_line d text) Workless
  unfolding place_line
  place_workless text =
      after Workless (need (takes_declaration d.phase) cause.OutOfPlace) _ (λ u e. after Workless (found d.machine cause.OutOfPlace) _ (λ m f. after Workless (form_of (tokens_of text)) _
      (λ form g. after Workless (unplaced_number d.tensors form.name) _ (λ k h. after Workless (placed_of form (order_of d.tensors k) m.levels) _ (λ p i. w)))))

  numbers_workless : (name ns : List ℕ) → IfOk (numbers_line d name ns) Workless
  unfolding numbers_line
  numbers_workless name ns = after Workless (ungiven_number d.tensors name) _ (λ k e. after Workless (need (length ns == position_count_of d.tensors k) cause.WrongCount) _ (λ u f. w))

  data_workless : (words : List (List ℕ)) → IfOk (data_line d words) Workless
  unfolding data_line
  data_workless words =
      after Workless (given_words d.phase words) _ (λ g e. after Workless (need (are_numerals g.1) cause.Syntax) _
      (λ v f. after Workless (found (all_numbers_of g.1) cause.BadNumber) (λ ns. numbers_line d g.0 ns) (λ ns h. numbers_workless g.0 ns)))

  filled_workless : (name : List ℕ) (fill : Fill) → IfOk (filled_in d name fill) Workless
  unfolding filled_in
  filled_workless name fill = after Workless (ungiven_number d.tensors name) _ (λ k e. w)

  fill_workless : (words : List (List ℕ)) → IfOk (fill_line d words) Workless
  unfolding fill_line
  fill_workless words = after Workless (given_words d.phase words) _ (λ g e. after Workless (fill_of g.1) (λ fill. filled_in d g.0 fill) (λ fill h. filled_workless g.0 fill))

  stmt_workless : (text : List ℕ) → IfOk (stmt_line d text) Workless
  unfolding stmt_line
  stmt_workless text =
      after Workless (need (takes_stmt d.phase) cause.OutOfPlace) _ (λ u e. after Workless (parsed_of (known_of d.tensors) text) _ (λ r f. after Workless (need (nat_lt (length d.closed) 32) cause.TooManyStatements) _ (λ v g. started r)))

  schedule_workless : (text : List ℕ) → IfOk (schedule_line d text) Workless
  unfolding schedule_line
  schedule_workless text =
      after Workless (found (open_stmt d.phase) cause.OutOfPlace) _ (λ s e. after Workless (found (option_map dims_of d.machine) cause.OutOfPlace) _ (λ grid f. after Workless (command_line s.sched grid (stored_of_all d.tensors) (tokens_of text)) _ (λ sched g. commanded s grid text sched e g)))

  end_workless : (words : List (List ℕ)) → IfOk (end_line d words) Workless
  unfolding end_line
  end_workless [] = after Workless (found (open_stmt d.phase) cause.OutOfPlace) _ (λ s e. ended s e)
  end_workless (word ∷ words) = after Workless (found (open_stmt d.phase) cause.OutOfPlace) (λ s. Err cause.Syntax) (λ s e. tt)

  print_workless : (words : List (List ℕ)) → IfOk (print_line d words) Workless
  unfolding print_line
  print_workless [] = after Workless (need (takes_output d.phase) cause.OutOfPlace) (λ u. Err cause.Syntax) (λ u e. tt)
  print_workless (name ∷ []) =
      after Workless (need (takes_output d.phase) cause.OutOfPlace) _ (λ u e. after Workless (need (is_name name) cause.Syntax) _ (λ v f. after Workless (found (place_of name (known_of d.tensors)) (cause.UnknownTensor name)) _ (λ k g. rested)))
  print_workless (name ∷ more ∷ words) = after Workless (need (takes_output d.phase) cause.OutOfPlace) (λ u. Err cause.Syntax) (λ u e. tt)

  words_workless : (text : List ℕ) (words : List (List ℕ)) → IfOk (words_line d text words) Workless
  unfolding words_line
  words_workless text [] = w
  words_workless text (word ∷ words) =
      either Workless (bytes_eq word (codes "distal")) _ _ (distal_workless words)
      (either Workless (bytes_eq word (codes "machine")) _ _ (machine_workless (after_word text))
      (either Workless (bytes_eq word (codes "tensor")) _ _ (tensor_workless words)
      (either Workless (bytes_eq word (codes "place")) _ _ (place_workless (after_word text))
      (either Workless (bytes_eq word (codes "data")) _ _ (data_workless words)
      (either Workless (bytes_eq word (codes "fill")) _ _ (fill_workless words)
      (either Workless (bytes_eq word (codes "stmt")) _ _ (stmt_workless (after_word text))
      (either Workless (bytes_eq word (codes "end")) _ _ (end_workless words)
      (either Workless (bytes_eq word (codes "print")) _ _ (print_workless words)
      (either Workless (is_command word) _ _ (schedule_workless text) tt)))))))))

  bytes_workless : (bytes : List ℕ) → IfOk (bytes_line d bytes) Workless
  unfolding bytes_line
  bytes_workless bytes = after Workless (words_of (line_words bytes)) _ (λ words e. words_workless (plain_line bytes) words)

-- Jobs ---------------------------------------------------------------------------------------------------------------------

parts_workless : (closed : List ScheduledView) → AllByRecursion HasNone closed → AreWorkless (map part_of closed)
parts_workless [] h = tt
parts_workless (s ∷ closed) h = (h.0, parts_workless closed h.1)

-- the parts of the job have none
abbrev HasWorklessParts : StatedJob → Type 0
HasWorklessParts s = AreWorkless s.job.parts

end_is : (n : ℕ) (d : DraftView) → Workless d → IfOk (lines_from n d []) HasWorklessParts
unfolding lines_from
end_is n d w = whole (is_whole d.phase)
  where
    on : (m : Option MachineView) → IfOk (numbered n (found (option_map (λ m. record { job = job_on d m; stmts = stmts_of d }) m) cause.Unfinished)) HasWorklessParts
    on None = tt
    on (Some m) = parts_workless d.closed w.0

    whole : (b : Bool) → IfOk (numbered n (found (if b then option_map (λ m. record { job = job_on d m; stmts = stmts_of d }) d.machine else None) cause.Unfinished)) HasWorklessParts
    whole false = tt
    whole true = on d.machine

lines_workless : (lines : List (List ℕ)) (n : ℕ) (d : DraftView) → Workless d → IfOk (lines_from n d lines) HasWorklessParts
unfolding lines_from
lines_workless [] n d w = end_is n d w
lines_workless (bytes ∷ rest) n d w = next (bytes_line d bytes) (bytes_workless d w bytes) (λ e v. lines_workless rest (n + 1) e v)
  where
    next : (r : Result DraftView Cause) → IfOk r Workless → ((e : DraftView) → Workless e → IfOk (lines_from (n + 1) e rest) HasWorklessParts) → IfOk (then_lines (numbered n r) (λ e. lines_from (n + 1) e rest)) HasWorklessParts
    next (Ok e) v go = go e v
    next (Err c) v go = tt

-- the parts of a job that a text says have no workspaces
pub job_workless : (text : List ℕ) (s : StatedJob) → job_of text ≡ Ok s → AreWorkless s.job.parts
job_workless text s e = subst (λ (r : Result StatedJob (ℕ × Cause)). IfOk r HasWorklessParts) e (lines_workless (lines_of text) 1 empty_draft (tt, tt))
