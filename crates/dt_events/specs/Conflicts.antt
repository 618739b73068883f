-- Which operations of a plan conflict.
use Rattle.std.specs.Prelude.{◌≡◌, ℕ, ◌<◌, Bool, true, false, not, ◌&&◌, ◌||◌, List, [], length, option_map, unwrap_or, slice_get, slice_index, slice_index_or, if◌then◌else◌, nat_eq, nat_lt}
use Rattle.std.specs.List.{All, list_any}
use Rattle.dt_runs.specs.Sets.{contains}
use Rattle.dt_plan.specs.declared.ops.Op.{Op}
use Rattle.dt_plan.specs.declared.touches.Buffer.{Buffer}
use Rattle.dt_plan.specs.declared.touches.Buffer.TheVariants.{Home, Scratch, Work}
use Rattle.dt_plan.specs.declared.touches.Mode.{Mode}
use Rattle.dt_plan.specs.declared.touches.Mode.TheVariants.{Read, Write, Fold}
use Rattle.dt_plan.specs.declared.touches.Touch.{Touch}
use Rattle.dt_plan.specs.Limits.{PlanView}

-- two reads of a word may come in either order, and so may two folds into it
abbrev pub may_swap : Mode → Mode → Bool
may_swap Read Read = true
may_swap Read Write = false
may_swap Read Fold = false
may_swap Write how = false
may_swap Fold Read = false
may_swap Fold Write = false
may_swap Fold Fold = true

-- buffers of one kind with the same numbers
abbrev pub is_same_buffer : Buffer → Buffer → Bool
is_same_buffer (Home t) (Home u) = nat_eq t u
is_same_buffer (Home t) (Scratch j u) = false
is_same_buffer (Home t) (Work j u) = false
is_same_buffer (Scratch k t) (Home u) = false
is_same_buffer (Scratch k t) (Scratch j u) = nat_eq k j && nat_eq t u
is_same_buffer (Scratch k t) (Work j u) = false
is_same_buffer (Work k t) (Home u) = false
is_same_buffer (Work k t) (Scratch j u) = false
is_same_buffer (Work k t) (Work j u) = nat_eq k j && nat_eq t u

-- whether footprints in one buffer have a common word: two whole buffers do, and a whole one has each word that there is
abbrev pub have_common : Touch → Touch → Bool
have_common a b =
    if a.whole then b.whole || nat_lt 0 (length b.words)
    else if b.whole then nat_lt 0 (length a.words)
    else list_any (contains b.words) a.words

-- two footprints meet where they have a common word of one buffer on one node that may not be touched in either order
abbrev pub touches_meet : Touch → Touch → Bool
touches_meet a b = nat_eq a.node b.node && (is_same_buffer a.buffer b.buffer && (not (may_swap a.mode b.mode) && have_common a b))

-- whether a footprint of the first list meets one of the second
abbrev pub some_meet : List Touch → List Touch → Bool
some_meet xs ys = list_any (λ x. list_any (touches_meet x) ys) xs

-- the barrier segment of an operation's statement
abbrev pub segment_of : PlanView → ℕ → ℕ
segment_of p a = unwrap_or (option_map (λ (o : Op). slice_index p.segments o.stmt) (slice_get p.ops a)) 0

-- two operations conflict where their segments differ or footprints of theirs meet
abbrev pub conflict : PlanView → ℕ → ℕ → Bool
conflict p a b = not (nat_eq (segment_of p a) (segment_of p b)) || some_meet (slice_index_or p.touches a []) (slice_index_or p.touches b [])

abbrev pub Conflicts : PlanView → ℕ → ℕ → Type 0
Conflicts p a b = conflict p a b ≡ true

-- each operation's statement has a segment
abbrev pub HasSegments : PlanView → Type 0
HasSegments p = All (λ (o : Op). o.stmt < length p.segments) p.ops
