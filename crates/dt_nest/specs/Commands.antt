-- What a command is, what it answers, and what it keeps.
use Rattle.std.specs.Prelude.{◌≡◌, ◌↔◌, ℕ, ◌<◌, ◌^◌, List, length, Option, Some, None, Ok, Err, Result}
use Rattle.std.specs.List.{Contains}
use Rattle.dt_model.specs.WholeTensor.{WholeTensor}
use Rattle.dt_model.specs.Positions.{StoredTensor}
use Rattle.dt_model.specs.declared.cause.Cause.{Cause}
use Rattle.dt_model.specs.declared.stmt.Access.{Access}
use Rattle.dt_nest.specs.declared.commands.RewriteEnd.{RewriteEnd}
use Rattle.dt_nest.specs.declared.commands.RewriteEnd.TheVariants.{Illegal, NoMemory}
use Rattle.dt_nest.specs.Tree.{accesses_of}
use Rattle.dt_nest.specs.Outputs.{output_of, reads_of, IsUnread}
use Rattle.dt_nest.specs.Schedule.{Schedule}
use Rattle.dt_nest.specs.Lawful.{IsLawful}
use Rattle.dt_nest.specs.World.{Fits, sum_of}
use Rattle.dt_nest.specs.FitsStored.{FitsStored}
use Rattle.dt_nest.specs.Grid.{IsOnGrid}

-- A command: on which schedules it may be called, the first cause against it, the schedule after it, which of the stored
-- tensors that fit a schedule suit it, and which machines it is for, by their dimensions.
pub record Rule : Type 1 where
  pub can : Schedule → Type 0
  pub cause : Schedule → Option Cause
  pub effect : Schedule → Schedule
  pub suits : List StoredTensor → Schedule → Type 0
  pub serves : List ℕ → Type 0

-- Ok comes only where there is no cause, with the command's effect; a refusal gives the schedule back as it was, Illegal
-- with the first cause
abbrev pub Answers : Option Cause → Schedule → Schedule → Result Schedule RewriteEnd → Type 0
Answers cause effect sched (Ok s) = (cause ≡ None) × (s ≡ effect)
Answers cause effect sched (Err (Illegal s c)) = (cause ≡ Some c) × (s ≡ sched)
Answers cause effect sched (Err (NoMemory s)) = (cause ≡ None) × (s ≡ sched)

-- tensors that fit the new schedule fit the old one, and both add the same at each index
pub record KeepsSum (old new : Schedule) : Type 0 where
  pub fits : (stored : List StoredTensor) (tensors : List WholeTensor) → Fits stored tensors new → Fits stored tensors old
  pub sums : (stored : List StoredTensor) (tensors : List WholeTensor) (c : List ℕ) → Fits stored tensors new → sum_of stored tensors new c ≡ sum_of stored tensors old c

-- an access of one of the n tensors is among the new ones exactly where it is among the old ones; of workspaces others may be
abbrev pub KeepsEach : ℕ → List Access → List Access → Type 0
KeepsEach n old new = (a : Access) → a.tensor < n → Contains new a ↔ Contains old a

-- The tensors are the same, and no access of a tensor comes or goes; what the nest writes is the same, and stays unread.
pub record KeepsAccesses (old new : Schedule) : Type 0 where
  pub tensors : new.tensors ≡ old.tensors
  pub accesses : KeepsEach (length old.tensors) (accesses_of old.nest) (accesses_of new.nest)
  pub reads : KeepsEach (length old.tensors) (reads_of old.nest) (reads_of new.nest)
  pub output : output_of new.nest ≡ output_of old.nest
  pub unread : IsUnread (output_of old.nest) old.nest → IsUnread (output_of new.nest) new.nest

-- What a command owes: the schedule after it is lawful where its names have numbers; it keeps the sum and the accesses;
-- stored tensors that fit the schedule and suit the command fit the schedule after it; on a machine that it is for, the
-- distributed loops stay those of the machine.
pub record Keeps (r : Rule) (s : Schedule) : Type 0 where
  pub lawful : length (r.effect s).names < 2 ^ 32 → IsLawful (r.effect s)
  pub sum : KeepsSum s (r.effect s)
  pub accesses : KeepsAccesses s (r.effect s)
  pub fit : (stored : List StoredTensor) → r.suits stored s → FitsStored stored s → FitsStored stored (r.effect s)
  pub grid : (dims : List ℕ) → r.serves dims → IsOnGrid dims s → IsOnGrid dims (r.effect s)
