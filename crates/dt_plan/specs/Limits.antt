-- The plan of a layout, or the first number that is too great.
use Rattle.std.specs.Prelude.{◌≡◌, ℕ, ◌+◌, ◌*◌, List, Bool, map, length, max, nat_lt, sum_by, if◌then◌else◌, Result, Ok, Err}
use Rattle.dt_base.specs.Ranges.{below}
use Rattle.dt_nest.specs.Tree.{Tree, Loop, Pre, Leaf}
use Rattle.dt_place.specs.Machines.{nodes_of}
use Rattle.dt_plan.specs.declared.ops.Op.{Op}
use Rattle.dt_plan.specs.declared.parts.Part.{Part}
use Rattle.dt_plan.specs.declared.plan_end.PlanEnd.{PlanEnd}
use Rattle.dt_plan.specs.declared.plan_end.PlanEnd.TheVariants as ends
use Rattle.dt_plan.specs.declared.touches.Buffer.{Buffer}
use Rattle.dt_plan.specs.declared.touches.Touch.{Touch}
use Rattle.dt_plan.specs.Layouts.{Layout}
use Rattle.dt_plan.specs.Operations.{ops_of, units_of}
use Rattle.dt_plan.specs.Footprints.{footprints_of}
use Rattle.dt_plan.specs.Bounds.{Traffic, bound_of, buffers_of, traffic_of}

-- the visits that a tree may have: for each leaf the product of the extents around it, where an extent of 0 counts as 1
abbrev pub visits_bound : Tree → ℕ
visits_bound (Loop v n walk body) = max 1 n * visits_bound body
visits_bound (Pre work pairs producer consumer) = visits_bound producer + visits_bound consumer
visits_bound (Leaf lhs terms guards kernel) = 1

-- those of all parts
abbrev pub visit_count : List Part → ℕ
visit_count parts = sum_by (λ (p : Part). visits_bound p.sched.nest) parts

-- the most visits of a plan
abbrev pub visit_limit : ℕ
visit_limit = 4194304

-- whether they may have more than the limit
abbrev pub has_too_many_visits : List Part → Bool
has_too_many_visits parts = nat_lt visit_limit (visit_count parts)

-- the sum of all nodes' bounds
abbrev pub bound_sum : Layout → ℕ
bound_sum l = sum_by (bound_of l) (below (nodes_of l.machine))

-- the bounds of all nodes, unless they are too many words in all
abbrev pub bounds_within : Layout → Result (List ℕ) PlanEnd
bounds_within l = if nat_lt 16777216 (bound_sum l) then Err ends.TooManyWords else Ok (map (bound_of l) (below (nodes_of l.machine)))

-- the operations, unless they are too many
abbrev pub ops_within : Layout → Result (List Op) PlanEnd
ops_within l = if nat_lt 8192 (length (ops_of l)) then Err ends.TooManyOps else Ok (ops_of l)

-- all units
abbrev pub unit_count : Layout → ℕ
unit_count l = sum_by (units_of l) (ops_of l)

-- A plan: the number of nodes; the operations in the order of the listing, with what each one touches; the homes by tensor
-- and node; the barrier segment of each statement; the bound of each node; the traffic; and the buffers of a node.
pub record PlanView : Type 0 where
  pub nodes : ℕ
  pub ops : List Op
  pub touches : List (List Touch)
  pub homes : List (List (List ℕ))
  pub segments : List ℕ
  pub bounds : List ℕ
  pub traffic : Traffic
  pub buffers : List Buffer

unfoldable pub plan_view : Layout → PlanView
plan_view l = record {
  nodes = nodes_of l.machine;
  ops = ops_of l;
  touches = map (footprints_of l) (ops_of l);
  homes = l.homes;
  segments = map (λ (p : Part). p.segment) l.parts;
  bounds = map (bound_of l) (below (nodes_of l.machine));
  traffic = traffic_of l.machine (ops_of l);
  buffers = buffers_of l;
}

-- the plan, or the first of four numbers that passes its limit
unfoldable pub plan_of : Layout → Result PlanView PlanEnd
plan_of l =
    if has_too_many_visits l.parts then Err ends.TooManyVisits
    else if nat_lt 16777216 (bound_sum l) then Err ends.TooManyWords
    else if nat_lt 8192 (length (ops_of l)) then Err ends.TooManyOps
    else if nat_lt 33554432 (unit_count l) then Err ends.TooManyUnits
    else Ok (plan_view l)

-- Answers ---------------------------------------------------------------------------------------------------------------

-- what ended a plan is the limit that the definition gives, or want of memory
abbrev pub Fails : {Y : Type 0} → PlanEnd → Result Y PlanEnd → Type 0
Fails ends.TooManyVisits wanted = wanted ≡ Err ends.TooManyVisits
Fails ends.TooManyWords wanted = wanted ≡ Err ends.TooManyWords
Fails ends.TooManyOps wanted = wanted ≡ Err ends.TooManyOps
Fails ends.TooManyUnits wanted = wanted ≡ Err ends.TooManyUnits
Fails ends.NoMemory wanted = Unit {0}

-- what a call returned, seen by view, is what the definition gives, unless memory ran out
abbrev pub Gives : {X Y : Type 0} → (X → Y) → Result X PlanEnd → Result Y PlanEnd → Type 0
Gives view (Ok x) wanted = wanted ≡ Ok (view x)
Gives view (Err end) wanted = Fails end wanted
