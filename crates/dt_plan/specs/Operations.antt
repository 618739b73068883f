-- The operations of a job, and their order.
use Rattle.std.specs.Prelude.{ℕ, suc, ◌+◌, ◌-◌, Bool, ◌&&◌, ◌||◌, List, [], ◌∷◌, ◌++◌, length, map, option_map, unwrap_or, slice_get, if◌then◌else◌, nat_eq, nat_lt}
use Rattle.std.specs.List.{flat_map, zip}
use Rattle.std.specs.Str.{bytes_eq}
use Rattle.dt_base.specs.Ranges.{below}
use Rattle.dt_base.specs.Rows.{product}
use Rattle.dt_model.specs.PositionLaws.{is_before}
use Rattle.dt_nest.specs.declared.parts.Work.{Work}
use Rattle.dt_nest.specs.Schedule.{Schedule}
use Rattle.dt_nest.specs.Outputs.{output_of}
use Rattle.dt_nest.specs.Visits.{Item, visits_of, needed_of}
use Rattle.dt_nest.specs.Paths.{depth_of, tensors_in, task_depth, paths_of}
use Rattle.dt_nest.specs.PathSteps.{visited_values}
use Rattle.dt_copy.specs.declared.piece_list.Piece.{Piece}
use Rattle.dt_copy.specs.Sources.{home_at, pieces_of, shares_of}
use Rattle.dt_place.specs.Machines.{nodes_of}
use Rattle.dt_plan.specs.declared.kind.Kind.{Kind}
use Rattle.dt_plan.specs.declared.kind.Kind.TheVariants.{Zero, Alloc, Copy, Task, Fold, Free}
use Rattle.dt_plan.specs.declared.ops.Op.{Op}
use Rattle.dt_plan.specs.declared.parts.Part.{Part}
use Rattle.dt_plan.specs.Layouts.{Layout, homes_at, node_of}
use Rattle.dt_plan.specs.Listed.{listed}
use Rattle.dt_plan.specs.Brackets.{Outline, named_ops}

-- Workspaces ------------------------------------------------------------------------------------------------------------

-- the words of a workspace
abbrev pub work_size : Schedule → ℕ → ℕ
work_size s w = unwrap_or (option_map (λ (x : Work). product x.extents) (slice_get s.works w)) 0

-- the numbers that workspaces have in accesses and operations: they come after all tensors
abbrev pub works_in : Schedule → List ℕ
works_in s = map (λ w. length s.tensors + w) (below (length s.works))

-- where no loop is distributed, workspaces are opened and closed at the root, among the tensors that are moved there
abbrev pub root_works : Schedule → List ℕ
root_works s = if nat_eq s.distributed 0 then works_in s else []

-- where a loop is distributed, they are opened and closed around a node's paths
abbrev pub node_works : Schedule → List ℕ
node_works s = if nat_eq s.distributed 0 then [] else works_in s

-- how many loops the paths of a tensor or workspace have
abbrev pub moved_depth : Schedule → ℕ → ℕ
moved_depth s t = if nat_lt t (length s.tensors) then depth_of s t else 0

-- the words of scratch on a path: those that the tensor needs, or all of a workspace
abbrev pub scratch_on : Layout → Schedule → ℕ → List ℕ → List ℕ
scratch_on l s t path = if nat_lt t (length s.tensors) then needed_of l.stored s t path else below (work_size s (t - length s.tensors))

-- Operations ------------------------------------------------------------------------------------------------------------

abbrev pub op_on : Kind → ℕ → ℕ → List ℕ → ℕ → ℕ → List ℕ → ℕ → Op
op_on what k n path t other words units = record { stmt = k; node = n; path = path; kind = what; tensor = t; other = other; words = words; units = units }

-- the zero of a home, unless the home is empty
abbrev pub zero_on : ℕ → ℕ → ℕ → List ℕ → List Op
zero_on k t n [] = []
zero_on k t n (w ∷ ws) = op_on Zero k n [] t n (w ∷ ws) 1 ∷ []

-- the zero of the left tensor's home on a node, where the statement doesn't add to what is there
abbrev pub zeros_on : Layout → ℕ → Part → ℕ → List Op
zeros_on l k p n = if p.adds then [] else zero_on k (output_of p.sched.nest) n (home_at (homes_at l (output_of p.sched.nest)) n)

-- Statement k of a layout. Each operation on a path is on the path's node. A copy comes from each node that has the source
-- of a needed word, a fold goes to each node whose home shares a word, and a task has all visits that extend its path.
abbrev pub outline_of : Layout → ℕ → Part → Outline Op Piece
outline_of l k p = record {
  stmt = k;
  nodes = nodes_of l.machine;
  tensors = tensors_in p.sched ++ root_works p.sched;
  output = output_of p.sched.nest;
  depth = moved_depth p.sched;
  distributed = p.sched.distributed;
  deepest = task_depth p.sched;
  inner = task_depth p.sched - p.sched.distributed;
  paths = paths_of l.stored p.sched;
  values = visited_values l.stored p.sched;
  node = node_of l.machine p.sched;
  zeros = zeros_on l k p;
  pieces = λ t path. pieces_of (needed_of l.stored p.sched t path) (homes_at l t) (node_of l.machine p.sched path);
  shares = λ t path. shares_of (needed_of l.stored p.sched t path) (homes_at l t);
  works = node_works p.sched;
  work_alloc = λ n w. op_on Alloc k n [] w n (below (work_size p.sched (w - length p.sched.tensors))) 1;
  work_free = λ n w. op_on Free k n [] w n (below (work_size p.sched (w - length p.sched.tensors))) 1;
  alloc = λ t path. op_on Alloc k (node_of l.machine p.sched path) path t (node_of l.machine p.sched path) (scratch_on l p.sched t path) 1;
  free = λ t path. op_on Free k (node_of l.machine p.sched path) path t (node_of l.machine p.sched path) (scratch_on l p.sched t path) 1;
  copy = λ t path x. op_on Copy k (node_of l.machine p.sched path) path t x.node x.words (length x.words);
  fold = λ t path x. op_on Fold k (node_of l.machine p.sched path) path t x.node x.words (length x.words);
  task = λ path. op_on Task k (node_of l.machine p.sched path) path 0 (node_of l.machine p.sched path) [] (length (visits_of l.stored p.sched path));
}

-- the statements in order
abbrev pub outlines_of : Layout → List (Outline Op Piece)
outlines_of l = map (λ x. outline_of l x.0 x.1) (zip (below (length l.parts)) l.parts)

-- Their order -----------------------------------------------------------------------------------------------------------

-- zeros come first
abbrev pub class_of : Kind → ℕ
class_of Zero = 0
class_of Alloc = 1
class_of Copy = 1
class_of Task = 1
class_of Fold = 1
class_of Free = 1

-- the order of the kinds
abbrev pub kind_rank : Kind → ℕ
kind_rank Zero = 0
kind_rank Alloc = 1
kind_rank Copy = 2
kind_rank Task = 3
kind_rank Fold = 4
kind_rank Free = 5

-- What a path is lengthened by: allocs and copies come before all that is deeper, folds and frees after it. As each value of
-- the path is, the number is one more than that of the rule, which is -1, 0 or 2 ^ 32.
abbrev pub path_end : Kind → ℕ
path_end Zero = 0
path_end Alloc = 0
path_end Copy = 0
path_end Task = 1
path_end Fold = 4294967297
path_end Free = 4294967297

-- the path with its end
abbrev pub lengthened : Op → List ℕ
lengthened o = map suc o.path ++ path_end o.kind ∷ []

-- what is compared before the path, and what after it
abbrev pub before_path : Op → List ℕ
before_path o = o.stmt ∷ class_of o.kind ∷ o.node ∷ []

abbrev pub after_path : Op → List ℕ
after_path o = kind_rank o.kind ∷ o.tensor ∷ o.other ∷ []

-- the key of an operation, as one list of numbers: statement, zeros first, node, path with its end, kind, tensor, other node
abbrev pub key_of : Op → List ℕ
key_of o = o.stmt ∷ class_of o.kind ∷ o.node ∷ (map suc o.path ++ path_end o.kind ∷ kind_rank o.kind ∷ o.tensor ∷ o.other ∷ [])

-- the order by what the key is made of, one after the other
abbrev pub comes_before : Op → Op → Bool
comes_before o p =
    is_before (before_path o) (before_path p)
    || (bytes_eq (before_path o) (before_path p) && (is_before (lengthened o) (lengthened p) || (bytes_eq (lengthened o) (lengthened p) && is_before (after_path o) (after_path p))))

-- the set of all operations, ascending by their keys
unfoldable pub ops_of : Layout → List Op
ops_of l = listed key_of (flat_map named_ops (outlines_of l))

-- Units -----------------------------------------------------------------------------------------------------------------

-- the visits of a task
abbrev pub items_of : Layout → Op → List Item
items_of l o = unwrap_or (option_map (λ (p : Part). visits_of l.stored p.sched o.path) (slice_get l.parts o.stmt)) []

-- the units of an operation: one for each word that is moved and for each visit, else one
abbrev pub units_by : Kind → Layout → Op → ℕ
units_by Zero l o = 1
units_by Alloc l o = 1
units_by Copy l o = length o.words
units_by Task l o = length (items_of l o)
units_by Fold l o = length o.words
units_by Free l o = 1

abbrev pub units_of : Layout → Op → ℕ
units_of l o = units_by o.kind l o
