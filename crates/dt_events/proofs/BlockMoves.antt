-- Operations on the state of the nodes, each with all its units, and the runs of lists of them.
use Rattle.std.specs.Prelude.{ℕ, Bool, ◌&&◌, List, Option, Some, None, is_some, unwrap_or, if◌then◌else◌}
use Rattle.dt_argument.specs.Frames.{grown}
use Rattle.dt_plan.specs.declared.touches.Buffer.{Buffer}
use Rattle.dt_events.specs.State.{Cell, Sign, Word, State, with_buffer, without_buffer}
use Rattle.dt_events.proofs.Cells.{same_cell}
use Rattle.dt_events.proofs.ListRuns.{run_all}

-- an operation with its buffers; a task is what it makes of a state, where it is defined
pub data Move : Type 0 where
  Alloc : (node : ℕ) (buffer : Buffer) (words : List ℕ) → Move
  Free : (node : ℕ) (buffer : Buffer) → Move
  Copy : (from : ℕ) (source : Buffer) (node : ℕ) (buffer : Buffer) (words : List ℕ) → Move
  Fold : (from : ℕ) (source : Buffer) (node : ℕ) (buffer : Buffer) (words : List ℕ) → Move
  Task : (run : State → Option State) → Move

-- the number, 0 where there is none
abbrev pub number : Option ℕ → ℕ
number x = unwrap_or x 0

-- the state where a cell has this number
abbrev pub put : Cell → ℕ → State → State
put d v s c = if same_cell d c then Some v else s c

-- the state where one cell has grown
abbrev pub grow : Cell → ℕ → State → State
grow d v s c = if same_cell d c then grown v (s c) else s c

-- two cells that are there
abbrev pub both_held : Cell → Cell → State → Bool
both_held from to s = is_some (s from) && is_some (s to)

-- one unit of a copy and of a fold
abbrev pub copy_word : ℕ → Buffer → ℕ → Buffer → ℕ → State → Option State
copy_word from source node buffer w s = if both_held (Word from source w) (Word node buffer w) s then Some (put (Word node buffer w) (number (s (Word from source w))) s) else None

-- one unit of a fold
abbrev pub fold_word : ℕ → Buffer → ℕ → Buffer → ℕ → State → Option State
fold_word from source node buffer w s = if both_held (Word from source w) (Word node buffer w) s then Some (grow (Word node buffer w) (number (s (Word from source w))) s) else None

-- all units of an operation
abbrev pub run_op : Move → State → Option State
run_op (Alloc node buffer words) s = if is_some (s (Sign node buffer)) then None else Some (with_buffer node buffer words s)
run_op (Free node buffer) s = if is_some (s (Sign node buffer)) then Some (without_buffer node buffer s) else None
run_op (Copy from source node buffer words) s = run_all (copy_word from source node buffer) words s
run_op (Fold from source node buffer words) s = run_all (fold_word from source node buffer) words s
run_op (Task run) s = run s

-- all units of each operation of a list
abbrev pub run_ops : List Move → State → Option State
run_ops = run_all run_op
