-- Numbers of words by node, none of them counted past the first number that is too great.
use Rattle.std.specs.Prelude.{◌≡◌, ℕ, ◌+◌, ◌*◌, ◌<◌, ◌≤◌, List, length, map, filter, max, min, nat_eq, slice_index, sum_by}
use Rattle.dt_base.specs.Ranges.{below}
use Rattle.dt_model.specs.Positions.{cost_of, tensor_at}
use Rattle.dt_nest.specs.Schedule.{Schedule}
use Rattle.dt_nest.specs.Visits.{needed_of}
use Rattle.dt_nest.specs.Paths.{depth_of, task_depth}
use Rattle.dt_plan.specs.declared.opened.Opened.{Opened}
use Rattle.dt_plan.specs.declared.opened.Opened.TheVariants.{Scratch, Works}
use Rattle.dt_plan.specs.declared.parts.Part.{Part}
use Rattle.dt_plan.specs.Bounds.{greatest_of, node_paths, part_words}
use Rattle.dt_plan.specs.Layouts.{Layout}

-- the most words of a plan
abbrev pub word_limit : ℕ
word_limit = 16777216

-- the words, or the first number past the limit
abbrev pub capped : ℕ → ℕ
capped words = min words (word_limit + 1)

-- these words of the nodes, by number
abbrev pub row_of : ℕ → (ℕ → ℕ) → List ℕ
row_of nodes words = map (λ n. capped (words n)) (below nodes)

-- the words of what is opened on a path: the scratch of a tensor, or so many words of workspaces
abbrev pub opened_on : Layout → Schedule → Opened → List ℕ → ℕ
opened_on l s (Scratch t) path = cost_of (tensor_at l.stored t) * length (needed_of l.stored s t path)
opened_on l s (Works words) path = words

-- how many loops its paths have
abbrev pub opened_depth : Schedule → Opened → ℕ
opened_depth s (Scratch t) = depth_of s t
opened_depth s (Works words) = task_depth s

-- a tensor that is moved, no deeper than the task, or workspaces
abbrev pub IsOpened : Schedule → Opened → Type 0
IsOpened s (Scratch t) = (t < length s.tensors) × (depth_of s t ≤ task_depth s)
IsOpened s (Works words) = Unit {0}

-- the most words of some paths on a node
abbrev pub most_on : (List ℕ → ℕ) → (List ℕ → ℕ) → ℕ → List (List ℕ) → ℕ
most_on words node n paths = greatest_of (map words (filter (λ p. nat_eq (node p) n) paths))

-- the most words that is opened on one of the node's paths
abbrev pub opened_words : Layout → Schedule → Opened → ℕ → ℕ
opened_words l s o n = greatest_of (map (opened_on l s o) (node_paths l s (opened_depth s o) n))

-- each number rose to the words of the paths on its node, where these are more
pub record Raises (words node : List ℕ → ℕ) (paths : List (List ℕ)) (old new : List ℕ) : Type 0 where
  pub count : length new ≡ length old
  pub each : (n : ℕ) → n < length old → slice_index new n ≡ max (slice_index old n) (most_on words node n paths)

-- what the parts of a segment among these cost on a node
abbrev pub segment_sum : Layout → List Part → ℕ → ℕ → ℕ
segment_sum l parts segment n = sum_by (part_words l n) (filter (λ (p : Part). nat_eq p.segment segment) parts)

-- the most that a segment of these costs
abbrev pub most_of_segments : Layout → List Part → ℕ → ℕ
most_of_segments l parts n = greatest_of (map (λ (p : Part). segment_sum l parts p.segment n) parts)
