-- Command lines: the schedule after one, or the first cause against it.
use Rattle.std.specs.Prelude.{◌≡◌, ℕ, List, Result, Ok, Err}
use Rattle.dt_model.specs.declared.cause.Cause.{Cause}
use Rattle.dt_model.specs.Positions.{StoredTensor}
use Rattle.dt_model.specs.Steps.{◌>>=◌, none}
use Rattle.dt_nest.specs.declared.commands.RewriteEnd.{RewriteEnd}
use Rattle.dt_nest.specs.declared.commands.RewriteEnd.TheVariants.{Illegal, NoMemory}
use Rattle.dt_nest.specs.Schedule.{Schedule}
use Rattle.dt_nest.specs.FitsStored.{FitsStored}
use Rattle.dt_nest.specs.Grid.{IsOnGrid}
use Rattle.dt_nest.specs.Commands.{Rule, KeepsSum, KeepsAccesses}
use Rattle.dt_rewrite.specs.Splits.{split_rule}
use Rattle.dt_rewrite.specs.Divides.{divide_rule}
use Rattle.dt_rewrite.specs.Reorders.{reorder_rule}
use Rattle.dt_rewrite.specs.Collapses.{collapse_rule}
use Rattle.dt_rewrite.specs.Rotates.{rotate_rule}
use Rattle.dt_rewrite.specs.Distributes.{distribute_rule}
use Rattle.dt_rewrite.specs.Communicates.{communicate_rule}
use Rattle.dt_schedule.specs.declared.commands.Command.{Command}
use Rattle.dt_schedule.specs.declared.commands.Command.TheVariants as command
use Rattle.dt_schedule.specs.CommandForms.{command_of}

-- what each command is
abbrev pub rule_of : Command → Rule
rule_of (command.Split c) = split_rule c
rule_of (command.Divide c) = divide_rule c
rule_of (command.Reorder c) = reorder_rule c
rule_of (command.Collapse c) = collapse_rule c
rule_of (command.Rotate c) = rotate_rule c
rule_of (command.Distribute c) = distribute_rule c
rule_of (command.Communicate c) = communicate_rule c

-- the schedule after a command line, by the machine's dimensions, what the tensors store, and the line's words, or the first
-- cause against the line
unfoldable pub command_line : Schedule → List ℕ → List StoredTensor → List (List ℕ) → Result Schedule Cause
command_line s grid stored words = do
  c ← command_of s grid stored words
  _ ← none ((rule_of c).cause s)
  Ok ((rule_of c).effect s)

-- a command line gives its schedule or its first cause, and a refusal hands the schedule back as it was
abbrev pub AnswersLine : Schedule → Result Schedule Cause → Result Schedule RewriteEnd → Type 0
AnswersLine old line (Ok s) = line ≡ Ok s
AnswersLine old line (Err (Illegal s c)) = (line ≡ Err c) × (s ≡ old)
AnswersLine old line (Err (NoMemory s)) = s ≡ old

-- What a command line keeps on a machine with these dimensions, over tensors that store this: the sum and the accesses; the
-- tensors fit the new schedule if they fitted the old one; distributed loops that were the machine's are so.
pub record LineKeeps (dims : List ℕ) (stored : List StoredTensor) (old new : Schedule) : Type 0 where
  pub sum : KeepsSum old new
  pub accesses : KeepsAccesses old new
  pub fit : FitsStored stored old → FitsStored stored new
  pub grid : IsOnGrid dims old → IsOnGrid dims new
