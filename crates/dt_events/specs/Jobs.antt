-- A job's operations as a list with units, modes and states, and its runs.
use Rattle.std.specs.Prelude.{ℕ, Bool, not, ◌&&◌, ◌||◌, List, [], length, Option, Some, None, option_map, unwrap_or, if◌then◌else◌, nat_eq, nat_lt, slice_get, slice_index_or}
use Rattle.dt_runs.specs.Sets.{contains}
use Rattle.dt_model.specs.Positions.{coords_at, tensor_at}
use Rattle.dt_nest.specs.Meaning.{Entries}
use Rattle.dt_copy.specs.Sources.{home_at}
use Rattle.dt_place.specs.Machines.{nodes_of}
use Rattle.dt_argument.specs.Events.{is_listed}
use Rattle.dt_argument.specs.Listings.{Listing, state_at}
use Rattle.dt_argument.specs.Orders.{run_along}
use Rattle.dt_plan.specs.declared.kind.Kind.TheVariants.{Free}
use Rattle.dt_plan.specs.declared.ops.Op.{Op}
use Rattle.dt_plan.specs.declared.parts.Part.{Part}
use Rattle.dt_plan.specs.declared.touches.Buffer.TheVariants.{Home, Scratch, Work}
use Rattle.dt_plan.specs.Layouts.{Layout, homes_at}
use Rattle.dt_plan.specs.Operations.{op_on, ops_of, units_of}
use Rattle.dt_plan.specs.Footprints.{footprints_of}
use Rattle.dt_plan.specs.Limits.{plan_view}
use Rattle.dt_events.specs.Conflicts.{some_meet}
use Rattle.dt_events.specs.Events.{events_of}
use Rattle.dt_events.specs.State.{Cell, Word, Sign, State, touches_at}
use Rattle.dt_events.specs.Units.{can_do, next_of}

-- the operation at a place of a list; past its end there is none, and what is read there does not matter
abbrev pub op_at : List Op → ℕ → Op
op_at ops a = slice_index_or ops a (op_on Free 0 0 [] 0 0 [] 1)

-- the barrier segment of an operation's statement
abbrev pub segment_in : Layout → Op → ℕ
segment_in l o = unwrap_or (option_map (λ (p : Part). p.segment) (slice_get l.parts o.stmt)) 0

-- whether two operations conflict: their segments differ, or footprints of theirs meet
abbrev pub ops_conflict : Layout → Op → Op → Bool
ops_conflict l o p = not (nat_eq (segment_in l o) (segment_in l p)) || some_meet (footprints_of l o) (footprints_of l p)

-- operations of a layout in any list, with any events, from any opening state
abbrev pub listing_over : Layout → List Op → (ℕ → ℕ → Bool) → State → Listing Cell
listing_over l ops event opening = record {
  count = length ops;
  units = λ a. units_of l (op_at ops a);
  conflict = λ a b. ops_conflict l (op_at ops a) (op_at ops b);
  event = event;
  mode = λ a. touches_at (footprints_of l (op_at ops a));
  can = λ a. can_do l (op_at ops a);
  next = λ a. next_of l (op_at ops a);
  opening = opening;
}

-- The state in which all homes are present with the numbers of some entries, and nothing else is. A node has a home of each
-- tensor, though it may have no words.
abbrev pub state_of : Layout → Entries → State
state_of l x (Word n (Home t) w) = if contains (home_at (homes_at l t) n) w then Some (x t (coords_at (tensor_at l.stored t) w)) else None
state_of l x (Word n (Scratch k t) w) = None
state_of l x (Word n (Work k u) w) = None
state_of l x (Sign n (Home t)) = if nat_lt t (length l.stored) && nat_lt n (nodes_of l.machine) then Some 0 else None
state_of l x (Sign n (Scratch k t)) = None
state_of l x (Sign n (Work k u)) = None

-- the job's own list, with its events, where the homes have the given numbers at the opening
abbrev pub listing_of : Layout → Entries → Listing Cell
listing_of l x = listing_over l (ops_of l) (is_listed (events_of (plan_view l))) (state_of l x)

-- the state after a list of units, or none where one of them is undefined
abbrev pub run_of : Layout → Entries → List ℕ → Option State
run_of l x u = run_along (listing_of l x) u

-- the state after so many units of each operation, in the order of the list
abbrev pub at_of : Layout → Entries → (ℕ → ℕ) → State
at_of l x done = state_at (listing_of l x) done
