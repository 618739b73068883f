-- A statement of a job, with its number.
use Rattle.std.specs.Prelude.{◌≡◌, ℕ, ◌-◌, ◌^◌, ◌<◌, ◌≤◌, Bool, true, false, not, ◌&&◌, List, [], ◌∷◌, length, map, nat_lt}
use Rattle.std.specs.List.{AllByRecursion}
use Rattle.dt_base.specs.Ranges.{below}
use Rattle.dt_nest.specs.Tree.{Tree, Loop, Pre, Leaf, is_kernel_leaf}
use Rattle.dt_nest.specs.FitsStored.{FitsStored}
use Rattle.dt_nest.specs.Lawful.{IsLawful}
use Rattle.dt_nest.specs.Outputs.{output_of}
use Rattle.dt_place.specs.Machines.{IsMachine, nodes_of}
use Rattle.dt_copy.specs.declared.piece_list.Piece.{Piece}
use Rattle.dt_plan.specs.declared.needs.Need.{Need}
use Rattle.dt_plan.specs.declared.ops.Op.{Op}
use Rattle.dt_plan.specs.declared.parts.Part.{Part}
use Rattle.dt_plan.specs.Brackets.{Outline, moved_here}
use Rattle.dt_plan.specs.Layouts.{Layout, node_of}
use Rattle.dt_plan.specs.Limits.{visits_bound, visit_count, visit_limit}
use Rattle.dt_plan.specs.Operations.{node_works, outline_of, scratch_on, work_size}
use Rattle.dt_plan.specs.PathOps.{PathView}

-- there is a machine, and each tensor has a home on each of its nodes
pub record HasHomes (l : Layout) : Type 0 where
  pub machine : IsMachine l.machine
  pub count : length l.homes ≡ length l.stored
  pub few : length l.homes < 2 ^ 32
  pub nodes : AllByRecursion (λ (homes : List (List ℕ)). length homes ≡ nodes_of l.machine) l.homes

-- a part of a layout, with its number
pub record StatementView : Type 0 where
  pub layout : Layout
  pub number : ℕ
  pub part : Part

-- the tensors fit a part, which has no more visits than a plan may have
pub record FitsPart (l : Layout) (p : Part) : Type 0 where
  pub lawful : IsLawful p.sched
  pub fits : FitsStored l.stored p.sched
  pub visits : visits_bound p.sched.nest ≤ visit_limit

-- so it is of each part, and all of them have no more visits than a plan may have
pub record FitsLayout (l : Layout) : Type 0 where
  pub parts : AllByRecursion (FitsPart l) l.parts
  pub visits : visit_count l.parts ≤ visit_limit

-- the outline of a statement
abbrev pub outline_at : StatementView → Outline Op Piece
outline_at v = outline_of v.layout v.number v.part

-- whether values are those of the outermost loops of a tree, none of them substituted or inside a precompute node
abbrev pub is_path_in : Tree → List ℕ → Bool
is_path_in tree [] = true
is_path_in (Loop v n walk body) (x ∷ path) = nat_lt x n && (not (is_kernel_leaf body) && is_path_in body path)
is_path_in (Pre work pairs producer consumer) (x ∷ path) = false
is_path_in (Leaf lhs terms guards kernel) (x ∷ path) = false

abbrev pub has_path : StatementView → List ℕ → Bool
has_path v path = is_path_in v.part.sched.nest path

-- a path of the statement on its node
abbrev pub path_at : StatementView → List ℕ → PathView
path_at v path = record { stmt = v.number; node = node_of v.layout.machine v.part.sched path; path = path; output = output_of v.part.sched.nest; homes = v.layout.homes }

-- the scratch of a tensor or workspace on a path
abbrev pub need_at : StatementView → List ℕ → ℕ → Need
need_at v path t = record { tensor = t; words = scratch_on v.layout v.part.sched t path }

-- the scratch that is opened on a path
abbrev pub needs_on : StatementView → List ℕ → List Need
needs_on v path = map (need_at v path) (moved_here (outline_at v) path)

-- the scratch of a workspace, all of it
abbrev pub work_need : StatementView → ℕ → Need
work_need v w = record { tensor = w; words = below (work_size v.part.sched (w - length v.part.sched.tensors)) }

-- that of the workspaces that are opened around a node's paths
abbrev pub node_needs : StatementView → List Need
node_needs v = map (work_need v) (node_works v.part.sched)
