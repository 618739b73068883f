-- The state of a job's nodes, and what a footprint does at a cell.
use Rattle.std.specs.Prelude.{ℕ, ◌+◌, Bool, false, ◌&&◌, ◌||◌, List, [], ◌∷◌, length, Option, Some, None, option_map, unwrap_or, if◌then◌else◌, nat_eq, nat_lt}
use Rattle.dt_runs.specs.Sets.{contains}
use Rattle.dt_nest.specs.Unit as own
use Rattle.dt_argument.specs.Frames.{StateOf, Mode, Untouched, Reads, Writes, Folds, grown}
use Rattle.dt_argument.specs.Joined.{both}
use Rattle.dt_plan.specs.declared.touches.Buffer.{Buffer}
use Rattle.dt_plan.specs.declared.touches.Buffer.TheVariants.{Home, Scratch, Work}
use Rattle.dt_plan.specs.declared.touches.Mode as access
use Rattle.dt_plan.specs.declared.touches.Mode.TheVariants as how
use Rattle.dt_plan.specs.declared.touches.Touch.{Touch}
use Rattle.dt_plan.specs.Layouts.{Layout}
use Rattle.dt_plan.specs.Footprints.{buffer_by}
use Rattle.dt_events.specs.Conflicts.{is_same_buffer}

-- a word of a buffer on a node, or the sign that the buffer is present there
pub data Cell : Type 0 where
  Word : (node : ℕ) (buffer : Buffer) (word : ℕ) → Cell
  Sign : (node : ℕ) (buffer : Buffer) → Cell

-- the number in each cell that is present
abbrev pub State : Type 0
State = StateOf Cell

-- whether a cell is of a buffer on a node
abbrev pub is_of : ℕ → Buffer → Cell → Bool
is_of n b (Word m c w) = nat_eq n m && is_same_buffer b c
is_of n b (Sign m c) = nat_eq n m && is_same_buffer b c

-- whether it is one of these words of the buffer
abbrev pub is_word_of : ℕ → Buffer → List ℕ → Cell → Bool
is_word_of n b words (Word m c w) = (nat_eq n m && is_same_buffer b c) && contains words w
is_word_of n b words (Sign m c) = false

-- the number in a cell, and 0 where it is absent
abbrev pub number_at : State → Cell → ℕ
number_at s c = unwrap_or (s c) 0

-- What changes a state -----------------------------------------------------------------------------------------------------

-- the state where these words of a buffer have a number, those that are present
abbrev pub overwritten : ℕ → Buffer → List ℕ → ℕ → State → State
overwritten n b words v s c = if is_word_of n b words c then option_map (λ x. v) (s c) else s c

-- the state where they have grown by a number
abbrev pub added_to : ℕ → Buffer → List ℕ → ℕ → State → State
added_to n b words d s c = if is_word_of n b words c then grown d (s c) else s c

-- a cell of a buffer that is opened with these words: they are 0, and no other word is present
abbrev pub opened_at : List ℕ → Cell → Option ℕ
opened_at words (Word n b w) = if contains words w then Some 0 else None
opened_at words (Sign n b) = Some 0

-- the state where a buffer was opened with these words
abbrev pub with_buffer : ℕ → Buffer → List ℕ → State → State
with_buffer n b words s c = if is_of n b c then opened_at words c else s c

-- the state where a buffer was closed
abbrev pub without_buffer : ℕ → Buffer → State → State
without_buffer n b s c = if is_of n b c then None else s c

-- What a task sees ---------------------------------------------------------------------------------------------------------

-- what a task of statement k on node n sees of a state: the scratch and the workspaces of the statement there
abbrev pub own_of : Layout → ℕ → ℕ → State → own.State
own_of l k n s (own.Word t w) = s (Word n (buffer_by l k t) w)
own_of l k n s (own.Sign t) = s (Sign n (buffer_by l k t))

-- a word of a buffer on the task's node, of which old was there before, after what the task left
abbrev pub own_word : Layout → ℕ → own.State → Buffer → ℕ → Option ℕ → Option ℕ
own_word l k o (Home t) w old = old
own_word l k o (Scratch j t) w old = if nat_eq j k && nat_lt t (length l.stored) then o (own.Word t w) else old
own_word l k o (Work j u) w old = if nat_eq j k then o (own.Word (length l.stored + u) w) else old

-- the state with what a task of statement k left on node n; it opens and closes no buffer
abbrev pub with_own : Layout → ℕ → ℕ → own.State → State → State
with_own l k n o s (Word m b w) = if nat_eq m n then own_word l k o b w (s (Word m b w)) else s (Word m b w)
with_own l k n o s (Sign m b) = s (Sign m b)

-- Footprints ---------------------------------------------------------------------------------------------------------------

-- whether a footprint has the cell: one of its words, or the sign where it has words; a whole buffer is all its cells
abbrev pub has_cell : Touch → Cell → Bool
has_cell f (Word n b w) = (nat_eq f.node n && is_same_buffer f.buffer b) && (f.whole || contains f.words w)
has_cell f (Sign n b) = (nat_eq f.node n && is_same_buffer f.buffer b) && (f.whole || nat_lt 0 (length f.words))

-- what is done at a word
abbrev pub at_word : access.Mode → Mode
at_word how.Read = Reads
at_word how.Write = Writes
at_word how.Fold = Folds

-- what is done at a sign: it is written where the whole buffer is, and else read
abbrev pub at_sign : Bool → access.Mode → Mode
at_sign whole how.Read = Reads
at_sign whole how.Write = if whole then Writes else Reads
at_sign whole how.Fold = Reads

-- what is done at a cell of a footprint
abbrev pub mode_in : Touch → Cell → Mode
mode_in f (Word n b w) = at_word f.mode
mode_in f (Sign n b) = at_sign f.whole f.mode

-- what a footprint does at a cell
abbrev pub touch_at : Touch → Cell → Mode
touch_at f c = if has_cell f c then mode_in f c else Untouched

-- what footprints do at a cell
abbrev pub touches_at : List Touch → Cell → Mode
touches_at [] c = Untouched
touches_at (f ∷ fs) c = both (touch_at f c) (touches_at fs c)
