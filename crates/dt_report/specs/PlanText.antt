-- The text of a plan.
use Rattle.std.specs.Prelude.{ℕ, List, [], ◌∷◌, ◌++◌, length, map, option_map, slice_get, slice_index, unwrap_or, if◌then◌else◌, nat_eq, codes}
use Rattle.std.specs.Fmt.{decimal}
use Rattle.std.specs.List.{flat_map, join_by, join_with_byte, zip}
use Rattle.dt_base.specs.Ranges.{below}
use Rattle.dt_nest.specs.declared.derivations.Derived.{Derived}
use Rattle.dt_nest.specs.NestTexts.{derived_text, nest_text}
use Rattle.dt_nest.specs.PartNames.{tensor_name}
use Rattle.dt_nest.specs.Schedule.{Schedule}
use Rattle.dt_plan.specs.Limits.{PlanView}
use Rattle.dt_plan.specs.Plans.{units_in}
use Rattle.dt_plan.specs.declared.kind.Kind.{Kind}
use Rattle.dt_plan.specs.declared.kind.Kind.TheVariants.{Zero, Alloc, Copy, Task, Fold, Free}
use Rattle.dt_plan.specs.declared.ops.Op.{Op}
use Rattle.dt_plan.specs.declared.parts.Part.{Part}
use Rattle.dt_refusal.specs.Refusals.{line_end}
use Rattle.dt_runs.specs.Stretches.{stretches_of}

-- Words and paths -------------------------------------------------------------------------------------------------------

-- an interval by its first and its last number, or its one number
abbrev pub interval_text : ℕ × ℕ → List ℕ
interval_text s = decimal s.0 ++ (if nat_eq s.0 s.1 then [] else codes "-" ++ decimal s.1)

-- intervals joined by commas, and a dash for none
abbrev pub intervals_text : List (ℕ × ℕ) → List ℕ
intervals_text [] = codes "-"
intervals_text (s ∷ ss) = join_by interval_text (codes ",") (s ∷ ss)

-- words in order, as their fewest intervals
abbrev pub words_text : List ℕ → List ℕ
words_text words = intervals_text (stretches_of words)

-- the values of a path joined by points, and a dash for the empty path
abbrev pub path_text : List ℕ → List ℕ
path_text [] = codes "-"
path_text (i ∷ is) = join_with_byte 46 (map decimal (i ∷ is))

-- Operations ------------------------------------------------------------------------------------------------------------

-- the word of a kind
abbrev pub kind_word : Kind → List ℕ
kind_word Zero = codes "zero"
kind_word Alloc = codes "alloc"
kind_word Copy = codes "copy"
kind_word Task = codes "task"
kind_word Fold = codes "fold"
kind_word Free = codes "free"

-- the tensor or workspace with its words
abbrev pub held_text : Schedule → Op → List ℕ
held_text s o = tensor_name s o.tensor ++ codes " " ++ words_text o.words

-- the tensor, the other node behind this, and the words
abbrev pub moved_text : Schedule → Op → List ℕ → List ℕ
moved_text s o between = tensor_name s o.tensor ++ between ++ decimal o.other ++ codes " " ++ words_text o.words

-- what stands behind the kind: the number of units of a task, else the tensor with its words, and the node that a copy
-- comes from or a fold goes to
abbrev pub rest_text : Kind → Schedule → Op → List ℕ
rest_text Zero s o = held_text s o
rest_text Alloc s o = held_text s o
rest_text Copy s o = moved_text s o (codes " from ")
rest_text Task s o = decimal o.units
rest_text Fold s o = moved_text s o (codes " to ")
rest_text Free s o = held_text s o

-- the number in the listing, the statement, the node and the path
abbrev pub origin_text : ℕ → Op → List ℕ
origin_text number o = codes "op " ++ decimal number ++ codes " " ++ decimal o.stmt ++ codes " " ++ decimal o.node ++ codes " " ++ path_text o.path

-- the line of an operation, under its statement's schedule
abbrev pub op_text : Schedule → ℕ → Op → List ℕ
op_text s number o = origin_text number o ++ codes " " ++ kind_word o.kind ++ codes " " ++ rest_text o.kind s o ++ line_end

-- the line of an operation of one of these statements
abbrev pub op_line : List Part → ℕ → Op → List ℕ
op_line parts number o = unwrap_or (option_map (λ (p : Part). op_text p.sched number o) (slice_get parts o.stmt)) []

-- a line for each operation, in the order of the listing
abbrev pub ops_text : List Part → List Op → List ℕ
ops_text parts ops = flat_map (λ x. op_line parts x.0 x.1) (zip (below (length ops)) ops)

-- Statements ------------------------------------------------------------------------------------------------------------

-- the line of a statement's text
abbrev pub stmt_line : ℕ → List ℕ → List ℕ
stmt_line number head = codes "stmt " ++ decimal number ++ codes " " ++ head ++ line_end

-- the line of a variable that was replaced
abbrev pub derive_line : ℕ → Schedule → Derived → List ℕ
derive_line number s d = codes "derive " ++ decimal number ++ codes " " ++ derived_text s d ++ line_end

-- the line of a nest
abbrev pub nest_line : ℕ → Schedule → List ℕ
nest_line number s = codes "nest " ++ decimal number ++ codes " " ++ nest_text s ++ line_end

-- the lines of a statement: its text, its replaced variables in the order of the commands, and its nest
abbrev pub part_text : ℕ → Part → List ℕ → List ℕ
part_text number p head = stmt_line number head ++ flat_map (derive_line number p.sched) p.sched.derived ++ nest_line number p.sched

-- the lines of all statements, each with its text
abbrev pub parts_text : List Part → List (List ℕ) → List ℕ
parts_text parts heads = flat_map (λ x. part_text x.0 x.1.0 x.1.1) (zip (below (length (zip parts heads))) (zip parts heads))

-- Plans -----------------------------------------------------------------------------------------------------------------

-- the line of an event
abbrev pub event_line : ℕ × ℕ → List ℕ
event_line e = codes "event " ++ decimal e.0 ++ codes " " ++ decimal e.1 ++ line_end

-- the line of a node's bound, in words
abbrev pub bound_line : ℕ → ℕ → List ℕ
bound_line node words = codes "bound " ++ decimal node ++ codes " " ++ decimal words ++ line_end

-- a line for each node
abbrev pub bounds_text : PlanView → List ℕ
bounds_text p = flat_map (λ n. bound_line n (slice_index p.bounds n)) (below p.nodes)

-- the line of the positions that are moved: on one node, between nodes of one group, and between groups
abbrev pub traffic_line : ℕ → ℕ → ℕ → List ℕ
traffic_line local group across = codes "traffic local " ++ decimal local ++ codes " group " ++ decimal group ++ codes " across " ++ decimal across ++ line_end

-- the line of a plan's sizes
abbrev pub sizes_line : ℕ → ℕ → ℕ → ℕ → List ℕ
sizes_line nodes ops events units =
    codes "nodes " ++ decimal nodes ++ codes " ops " ++ decimal ops ++ codes " events " ++ decimal events ++ codes " units " ++ decimal units ++ line_end

-- what stands before the statements
abbrev pub head_text : PlanView → List (ℕ × ℕ) → List ℕ
head_text p events = codes "distal plan" ++ line_end ++ sizes_line p.nodes (length p.ops) (length events) (units_in p.ops)

-- what stands behind the statements
abbrev pub listing_text : PlanView → List (ℕ × ℕ) → List Part → List ℕ
listing_text p events parts = ops_text parts p.ops ++ flat_map event_line events ++ bounds_text p ++ traffic_line p.traffic.local p.traffic.group p.traffic.across

-- the whole text: sizes, statements, operations, events, bounds and traffic
unfoldable pub plan_text_of : PlanView → List (ℕ × ℕ) → List Part → List (List ℕ) → List ℕ
plan_text_of p events parts heads = head_text p events ++ parts_text parts heads ++ listing_text p events parts
