-- The words that nodes need room for, and the positions that are moved between them.
use Rattle.std.specs.Prelude.{ℕ, ◌+◌, ◌*◌, Bool, true, false, not, ◌&&◌, List, ◌++◌, length, map, filter, fold, max, if◌then◌else◌, nat_eq, sum_by}
use Rattle.std.specs.List.{flat_map, zip}
use Rattle.std.specs.Str.{bytes_eq}
use Rattle.dt_base.specs.Ranges.{below}
use Rattle.dt_model.specs.Positions.{cost_of, tensor_at}
use Rattle.dt_nest.specs.Schedule.{Schedule}
use Rattle.dt_nest.specs.Visits.{needed_of}
use Rattle.dt_nest.specs.Paths.{depth_of, tensors_in, task_depth, paths_of}
use Rattle.dt_copy.specs.Sources.{home_at}
use Rattle.dt_place.specs.Machines.{MachineView, group_of}
use Rattle.dt_plan.specs.declared.kind.Kind.{Kind}
use Rattle.dt_plan.specs.declared.kind.Kind.TheVariants.{Zero, Alloc, Copy, Task, Fold, Free}
use Rattle.dt_plan.specs.declared.ops.Op.{Op}
use Rattle.dt_plan.specs.declared.parts.Part.{Part}
use Rattle.dt_plan.specs.declared.touches.Buffer.{Buffer}
use Rattle.dt_plan.specs.declared.touches.Buffer.TheVariants.{Home, Scratch, Work}
use Rattle.dt_plan.specs.Layouts.{Layout, homes_at, node_of}
use Rattle.dt_plan.specs.Brackets.{has_some}
use Rattle.dt_plan.specs.Operations.{work_size}

-- the greatest of some numbers, and 0 of none
abbrev pub greatest_of : List ℕ → ℕ
greatest_of ns = fold max 0 ns

-- Bounds ----------------------------------------------------------------------------------------------------------------

-- what the homes on a node cost
abbrev pub home_words : Layout → ℕ → ℕ
home_words l n = sum_by (λ t. cost_of (tensor_at l.stored t) * length (home_at (homes_at l t) n)) (below (length l.stored))

-- the paths of the first k loops that are on a node
abbrev pub node_paths : Layout → Schedule → ℕ → ℕ → List (List ℕ)
node_paths l s k n = filter (λ p. nat_eq (node_of l.machine s p) n) (paths_of l.stored s k)

-- the most that a tensor's scratch costs on one of the node's paths
abbrev pub scratch_words : Layout → Schedule → ℕ → ℕ → ℕ
scratch_words l s n t = greatest_of (map (λ p. cost_of (tensor_at l.stored t) * length (needed_of l.stored s t p)) (node_paths l s (depth_of s t) n))

-- the words of the workspaces, where the node has a task
abbrev pub work_words : Layout → Schedule → ℕ → ℕ
work_words l s n = if has_some (node_paths l s (task_depth s) n) then sum_by (work_size s) (below (length s.works)) else 0

-- what a statement's scratch and workspaces cost on a node
abbrev pub part_words : Layout → ℕ → Part → ℕ
part_words l n p = sum_by (scratch_words l p.sched n) (tensors_in p.sched) + work_words l p.sched n

-- what the statements of a barrier segment cost
abbrev pub segment_words : Layout → ℕ → ℕ → ℕ
segment_words l n segment = sum_by (part_words l n) (filter (λ (p : Part). nat_eq p.segment segment) l.parts)

-- the words that a node needs room for: its homes, and the most that a segment costs
abbrev pub bound_of : Layout → ℕ → ℕ
bound_of l n = home_words l n + greatest_of (map (λ (p : Part). segment_words l n p.segment) l.parts)

-- Buffers ---------------------------------------------------------------------------------------------------------------

-- the buffers that a node may have: homes by tensor, scratch by statement and tensor, workspaces by statement and number
abbrev pub buffers_of : Layout → List Buffer
buffers_of l =
    map Home (below (length l.stored))
    ++ (flat_map (λ x. map (Scratch x.0) (tensors_in x.1.sched)) (zip (below (length l.parts)) l.parts)
    ++ flat_map (λ x. map (Work x.0) (below (length x.1.sched.works))) (zip (below (length l.parts)) l.parts))

-- Traffic ---------------------------------------------------------------------------------------------------------------

-- positions that copies and folds move: on one node, between nodes of one group, and between groups
pub record Traffic : Type 0 where
  pub local : ℕ
  pub group : ℕ
  pub across : ℕ

-- whether an operation of a kind moves words between homes and scratch
abbrev pub is_move : Kind → Bool
is_move Zero = false
is_move Alloc = false
is_move Copy = true
is_move Task = false
is_move Fold = true
is_move Free = false

abbrev pub is_local : Op → Bool
is_local o = nat_eq o.node o.other

abbrev pub shares_group : MachineView → Op → Bool
shares_group m o = bytes_eq (group_of m o.node) (group_of m o.other)

-- the positions that an operation moves, if it passes a test
abbrev pub moved_by : (Op → Bool) → Op → ℕ
moved_by test o = if is_move o.kind && test o then length o.words else 0

-- the positions that the operations which pass a test move
abbrev pub positions_moved : (Op → Bool) → List Op → ℕ
positions_moved test ops = sum_by (λ (o : Op). length o.words) (filter (λ (o : Op). is_move o.kind && test o) ops)

abbrev pub traffic_of : MachineView → List Op → Traffic
traffic_of m ops = record {
  local = positions_moved is_local ops;
  group = positions_moved (λ o. not (is_local o) && shares_group m o) ops;
  across = positions_moved (λ o. not (is_local o) && not (shares_group m o)) ops;
}
