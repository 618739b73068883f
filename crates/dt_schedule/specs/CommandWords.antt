-- The words that begin commands.
use Rattle.std.specs.Prelude.{ℕ, Bool, List, codes, Option, Some, None, is_some, if◌then◌else◌}
use Rattle.std.specs.Str.{bytes_eq}
use Rattle.dt_schedule.specs.declared.command_words.CommandWord.{CommandWord}
use Rattle.dt_schedule.specs.declared.command_words.CommandWord.TheVariants as kind

-- the kind of command that begins with a word
abbrev pub word_of : List ℕ → Option CommandWord
word_of word =
    if bytes_eq word (codes "split") then Some kind.Split
    else if bytes_eq word (codes "divide") then Some kind.Divide
    else if bytes_eq word (codes "reorder") then Some kind.Reorder
    else if bytes_eq word (codes "collapse") then Some kind.Collapse
    else if bytes_eq word (codes "rotate") then Some kind.Rotate
    else if bytes_eq word (codes "distribute") then Some kind.Distribute
    else if bytes_eq word (codes "communicate") then Some kind.Communicate
    else None

-- whether a command begins with a word
abbrev pub is_command : List ℕ → Bool
is_command word = is_some (word_of word)
