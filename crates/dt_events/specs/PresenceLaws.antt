-- A law of what is present: alloc and free alone open and close buffers.
use Rattle.std.specs.Prelude.{◌≡◌, ◌⊎◌, ℕ, zero, suc, ◌+◌, ◌<◌, ◌≤◌, Bool, true, false, ◌&&◌, List, [], ◌∷◌, length, is_some, max, if◌then◌else◌, nat_eq}
use Rattle.dt_runs.specs.Sets.{contains}
use Rattle.dt_argument.specs.Listings.{state_at}
use Rattle.dt_plan.specs.declared.kind.Kind.{Kind}
use Rattle.dt_plan.specs.declared.kind.Kind.TheVariants as kind
use Rattle.dt_plan.specs.declared.ops.Op.{Op}
use Rattle.dt_plan.specs.declared.touches.Buffer.{Buffer}
use Rattle.dt_plan.specs.Layouts.{Layout}
use Rattle.dt_events.specs.Conflicts.{is_same_buffer}
use Rattle.dt_events.specs.State.{Word, State}
use Rattle.dt_events.specs.Units.{scratch_of}
use Rattle.dt_events.specs.Jobs.{op_at, listing_over}

-- no word of the buffer is present on the node
abbrev pub IsClosed : State → ℕ → Buffer → Type 0
IsClosed s n b = (w : ℕ) → is_some (s (Word n b w)) ≡ false

-- its words on the node are those with which one of the first operations opened it
pub record IsOpen (l : Layout) (ops : List Op) (first : ℕ) (s : State) (n : ℕ) (b : Buffer) : Type 0 where
  pub by : ℕ
  pub before : by < first
  pub opens : (op_at ops by).kind ≡ kind.Alloc
  pub buffer : (nat_eq (op_at ops by).node n && is_same_buffer (scratch_of l (op_at ops by)) b) ≡ true
  pub words : (w : ℕ) → is_some (s (Word n b w)) ≡ contains (op_at ops by).words w

-- Whatever numbers of units are done, a buffer that is absent at the opening is absent, or has the words of one of its allocs.
abbrev pub BuffersAreOpenedWhole : Type 0
BuffersAreOpenedWhole =
    (l : Layout) (ops : List Op) (event : ℕ → ℕ → Bool) (opening : State) (done : ℕ → ℕ) (n : ℕ) (b : Buffer) → IsClosed opening n b
    → IsClosed (state_at (listing_over l ops event opening) done) n b ⊎ IsOpen l ops (length ops) (state_at (listing_over l ops event opening) done) n b

-- how many numbers below n pass a test
abbrev pub count_below : (ℕ → Bool) → ℕ → ℕ
count_below test zero = 0
count_below test (suc n) = (if test n then 1 else 0) + count_below test n

-- whether an operation of a kind opens a buffer
abbrev pub is_alloc : Kind → Bool
is_alloc kind.Zero = false
is_alloc kind.Alloc = true
is_alloc kind.Copy = false
is_alloc kind.Task = false
is_alloc kind.Fold = false
is_alloc kind.Free = false

-- with how many words an operation opens the buffer on the node
abbrev pub opened_by : Layout → ℕ → Buffer → Op → ℕ
opened_by l n b o = if is_alloc o.kind && (nat_eq o.node n && is_same_buffer (scratch_of l o) b) then length o.words else 0

-- the greatest of these numbers
abbrev pub most_opened : Layout → ℕ → Buffer → List Op → ℕ
most_opened l n b [] = 0
most_opened l n b (o ∷ os) = max (opened_by l n b o) (most_opened l n b os)

-- So no more words of such a buffer are present than the greatest number with which an operation opens it.
abbrev pub WordsAreBounded : Type 0
WordsAreBounded =
    (l : Layout) (ops : List Op) (event : ℕ → ℕ → Bool) (opening : State) (done : ℕ → ℕ) (n : ℕ) (b : Buffer) → IsClosed opening n b
    → (size : ℕ) → count_below (λ w. is_some (state_at (listing_over l ops event opening) done (Word n b w))) size ≤ most_opened l n b ops
