-- What a line says: the draft after it, or the first cause against it.
use Rattle.std.specs.Prelude.{ℕ, List, [], ◌∷◌, codes, if◌then◌else◌, Result, Ok, Err}
use Rattle.std.specs.Str.{bytes_eq}
use Rattle.dt_text.specs.Lines.{plain_line}
use Rattle.dt_text.specs.Tokens.{after_word}
use Rattle.dt_text.specs.Words.{line_words}
use Rattle.dt_text.specs.declared.text_end.TextEnd.{TextEnd}
use Rattle.dt_text.specs.declared.text_end.TextEnd.TheVariants as text_ends
use Rattle.dt_model.specs.declared.cause.Cause.{Cause}
use Rattle.dt_model.specs.declared.cause.Cause.TheVariants as cause
use Rattle.dt_model.specs.Steps.{◌>>=◌}
use Rattle.dt_job.specs.declared.line_stop.LineStop.{LineStop}
use Rattle.dt_job.specs.declared.line_stop.LineStop.TheVariants as stops
use Rattle.dt_job.specs.Drafts.{DraftView}
use Rattle.dt_job.specs.DataLine.{data_line}
use Rattle.dt_job.specs.DistalLine.{distal_line}
use Rattle.dt_job.specs.EndLine.{end_line}
use Rattle.dt_job.specs.FillLine.{fill_line}
use Rattle.dt_job.specs.MachineLine.{machine_line}
use Rattle.dt_job.specs.PlaceLine.{place_line}
use Rattle.dt_job.specs.PrintLine.{print_line}
use Rattle.dt_schedule.specs.CommandWords.{is_command}
use Rattle.dt_job.specs.ScheduleLine.{schedule_line}
use Rattle.dt_job.specs.StmtLine.{stmt_line}
use Rattle.dt_job.specs.TensorLine.{tensor_line}

-- a line by its first word; `text` is the whole line, byte by byte
unfoldable pub words_line : DraftView → List ℕ → List (List ℕ) → Result DraftView Cause
words_line d text [] = Ok d
words_line d text (word ∷ words) =
    if bytes_eq word (codes "distal") then distal_line d words
    else if bytes_eq word (codes "machine") then machine_line d (after_word text)
    else if bytes_eq word (codes "tensor") then tensor_line d words
    else if bytes_eq word (codes "place") then place_line d (after_word text)
    else if bytes_eq word (codes "data") then data_line d words
    else if bytes_eq word (codes "fill") then fill_line d words
    else if bytes_eq word (codes "stmt") then stmt_line d (after_word text)
    else if bytes_eq word (codes "end") then end_line d words
    else if bytes_eq word (codes "print") then print_line d words
    else if is_command word then schedule_line d text
    else Err cause.UnknownWord

-- the words of a line, where no byte of it is wrong
abbrev pub words_of : Result (List (List ℕ)) TextEnd → Result (List (List ℕ)) Cause
words_of (Ok words) = Ok words
words_of (Err text_ends.LineTooLong) = Err cause.LineTooLong
words_of (Err (text_ends.BadByte place)) = Err (cause.BadByte place)
words_of (Err text_ends.NoMemory) = Err cause.Syntax

-- where bytes of a line are wrong, the line stops the reading
abbrev pub line_stop_of : TextEnd → LineStop
line_stop_of text_ends.LineTooLong = stops.Refused cause.LineTooLong
line_stop_of (text_ends.BadByte place) = stops.Refused (cause.BadByte place)
line_stop_of text_ends.NoMemory = stops.NoMemory

-- a line by its bytes
unfoldable pub bytes_line : DraftView → List ℕ → Result DraftView Cause
bytes_line d bytes = do
  words ← words_of (line_words bytes)
  words_line d (plain_line bytes) words
