-- The words that a node holds, and laws of how many they are at most.
use Rattle.std.specs.Prelude.{◌≡◌, ℕ, ◌*◌, ◌≤◌, true, List, length, Some, is_some, option_map, unwrap_or, slice_get, sum_by}
use Rattle.dt_runs.specs.Sets.{contains}
use Rattle.dt_model.specs.Positions.{cost_of, tensor_at}
use Rattle.dt_nest.specs.Meaning.{Entries}
use Rattle.dt_copy.specs.Sources.{home_at}
use Rattle.dt_argument.specs.Orders.{IsAllowed}
use Rattle.dt_plan.specs.declared.parts.Part.{Part}
use Rattle.dt_plan.specs.declared.touches.Buffer.{Buffer}
use Rattle.dt_plan.specs.declared.touches.Buffer.TheVariants.{Home, Scratch, Work}
use Rattle.dt_plan.specs.Layouts.{Layout, homes_at}
use Rattle.dt_plan.specs.Operations.{work_size}
use Rattle.dt_plan.specs.Bounds.{scratch_words, bound_of, buffers_of}
use Rattle.dt_events.specs.State.{Word, State}
use Rattle.dt_events.specs.StateLaws.{AreRunnable}
use Rattle.dt_events.specs.Jobs.{listing_of, run_of, at_of}
use Rattle.dt_events.specs.ListingRuns.{IsReady}
use Rattle.dt_events.specs.Placed.{AreNumbers}
use Rattle.dt_events.specs.PresenceLaws.{count_below}

-- the words that a buffer may have: the positions of its tensor, or all of a workspace
abbrev pub size_of : Layout → Buffer → ℕ
size_of l (Home t) = length (tensor_at l.stored t).coords
size_of l (Scratch k t) = length (tensor_at l.stored t).coords
size_of l (Work k u) = unwrap_or (option_map (λ (p : Part). work_size p.sched u) (slice_get l.parts k)) 0

-- what a word of it costs
abbrev pub word_cost : Layout → Buffer → ℕ
word_cost l (Home t) = cost_of (tensor_at l.stored t)
word_cost l (Scratch k t) = cost_of (tensor_at l.stored t)
word_cost l (Work k u) = 1

-- what the words of a buffer that are present on a node cost
abbrev pub held_words : Layout → ℕ → State → Buffer → ℕ
held_words l n s b = word_cost l b * count_below (λ w. is_some (s (Word n b w))) (size_of l b)

-- what all that is present on a node costs
abbrev pub live_of : Layout → ℕ → State → ℕ
live_of l n s = sum_by (held_words l n s) (buffers_of l)

-- Whatever numbers of units are done, exactly the words of its home are present of a tensor's home on a node.
abbrev pub HomesStay : Type 0
HomesStay = (l : Layout) (x : Entries) (done : ℕ → ℕ) (n t w : ℕ) → is_some (at_of l x done (Word n (Home t) w)) ≡ contains (home_at (homes_at l t) n) w

-- Whatever numbers of units are done, a tensor's scratch in a statement costs no more than on the greatest of its paths on the node.
abbrev pub ScratchIsBounded : Type 0
ScratchIsBounded =
    (l : Layout) → AreRunnable l → (x : Entries) (done : ℕ → ℕ) (n k t : ℕ) (p : Part) → slice_get l.parts k ≡ Some p
    → held_words l n (at_of l x done) (Scratch k t) ≤ scratch_words l p.sched n t

-- After each list of units that the events allow, all scratch that is present, on any nodes, is of statements of one segment.
abbrev pub ScratchIsOfOneSegment : Type 0
ScratchIsOfOneSegment =
    (l : Layout) → IsReady l → (x : Entries) → AreNumbers l x → (u : List ℕ) → IsAllowed (listing_of l x) u → (s : State) → run_of l x u ≡ Some s
    → (m j t v n k r w : ℕ) (p q : Part) → slice_get l.parts j ≡ Some p → slice_get l.parts k ≡ Some q → is_some (s (Word m (Scratch j t) v)) ≡ true → is_some (s (Word n (Scratch k r) w)) ≡ true
    → p.segment ≡ q.segment

-- After each of them, no node holds more than its bound.
abbrev pub LiveWordsAreBounded : Type 0
LiveWordsAreBounded =
    (l : Layout) → IsReady l → (x : Entries) → AreNumbers l x → (u : List ℕ) → IsAllowed (listing_of l x) u → (s : State) → run_of l x u ≡ Some s → (n : ℕ) → live_of l n s ≤ bound_of l n
