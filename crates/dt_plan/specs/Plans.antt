-- What is asked of a plan.
use Rattle.std.specs.Prelude.{◌≡◌, ℕ, ◌<◌, ◌≤◌, List, length, option_map, position, Option, nat_lt, slice_index, sum_by}
use Rattle.std.specs.List.{All, AllByRecursion}
use Rattle.dt_plan.specs.declared.ops.Op.{Op}
use Rattle.dt_place.specs.Machines.{nodes_of}
use Rattle.dt_plan.specs.declared.planning.Listing.{Listing}
use Rattle.dt_plan.specs.Keeps.{op_limit}
use Rattle.dt_plan.specs.Layouts.{Layout}
use Rattle.dt_plan.specs.Limits.{PlanView}

-- There are at most 64 nodes, and no more operations than the limit. Each operation has what it touches, its statement a
-- segment, each node a bound, and each tensor a home on each node.
pub record IsPlan (p : PlanView) : Type 0 where
  pub nodes : p.nodes ≤ 64
  pub few : length p.ops ≤ op_limit
  pub touches : length p.touches ≡ length p.ops
  pub bounds : length p.bounds ≡ p.nodes
  pub homes : AllByRecursion (λ (homes : List (List ℕ)). length homes ≡ p.nodes) p.homes
  pub segments : All (λ (o : Op). o.stmt < length p.segments) p.ops

-- all units
abbrev pub units_in : List Op → ℕ
units_in ops = sum_by (λ (o : Op). o.units) ops

-- the least node whose bound is above the capacity, with that bound
abbrev pub over_of : List ℕ → ℕ → Option (ℕ × ℕ)
over_of bounds capacity = option_map (λ n. (n, slice_index bounds n)) (position (nat_lt capacity) bounds)

-- the plan that a listing has on the nodes and homes of a layout
abbrev pub plan_with : Layout → Listing → PlanView
plan_with l s = record {
  nodes = nodes_of l.machine;
  ops = s.ops;
  touches = s.touches.items;
  homes = l.homes;
  segments = s.segments.items;
  bounds = s.bounds.items;
  traffic = record { local = s.moves.local; group = s.moves.group; across = s.moves.across };
  buffers = s.buffers.items;
}
