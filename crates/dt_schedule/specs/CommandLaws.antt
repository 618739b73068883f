-- Every command keeps what a command owes.
use Rattle.std.specs.Prelude.{◌≡◌, None}
use Rattle.dt_nest.specs.Schedule.{Schedule}
use Rattle.dt_nest.specs.Lawful.{IsLawful}
use Rattle.dt_nest.specs.Commands.{Keeps}
use Rattle.dt_rewrite.specs.Laws.Split.{split_keeps}
use Rattle.dt_rewrite.specs.Laws.Divide.{divide_keeps}
use Rattle.dt_rewrite.specs.Laws.Reorder.{reorder_keeps}
use Rattle.dt_rewrite.specs.Laws.Collapse.{collapse_keeps}
use Rattle.dt_rewrite.specs.Laws.Rotate.{rotate_keeps}
use Rattle.dt_rewrite.specs.Laws.Distribute.{distribute_keeps}
use Rattle.dt_rewrite.specs.Laws.Communicate.{communicate_keeps}
use Rattle.dt_schedule.specs.declared.commands.Command.{Command}
use Rattle.dt_schedule.specs.declared.commands.Command.TheVariants as command
use Rattle.dt_schedule.specs.Commands.{rule_of}

-- a command without a cause keeps it
pub command_keeps : (c : Command) (s : Schedule) → IsLawful s → (rule_of c).can s → (rule_of c).cause s ≡ None → Keeps (rule_of c) s
command_keeps (command.Split c) s l k ok = split_keeps c s l k ok
command_keeps (command.Divide c) s l k ok = divide_keeps c s l k ok
command_keeps (command.Reorder c) s l k ok = reorder_keeps c s l k ok
command_keeps (command.Collapse c) s l k ok = collapse_keeps c s l k ok
command_keeps (command.Rotate c) s l k ok = rotate_keeps c s l k ok
command_keeps (command.Distribute c) s l k ok = distribute_keeps c s l k ok
command_keeps (command.Communicate c) s l k ok = communicate_keeps c s l k ok
