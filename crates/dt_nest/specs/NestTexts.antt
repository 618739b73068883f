-- The text of a schedule's nest, and of its derivations.
use Rattle.std.specs.Prelude.{ℕ, ◌-◌, ◌&&◌, Bool, true, false, List, [], ◌∷◌, ◌++◌, length, map, filter, Option, Some, None, if◌then◌else◌, nat_eq, nat_lt, codes}
use Rattle.std.specs.Fmt.{decimal}
use Rattle.std.specs.List.{flat_map, join_by}
use Rattle.dt_base.specs.Ranges.{below}
use Rattle.dt_nest.specs.declared.loops.Walk.{Walk}
use Rattle.dt_nest.specs.declared.loops.Kernel.{Kernel}
use Rattle.dt_nest.specs.declared.loops.Kernel.TheVariants.{Plain, Dot, Dot3}
use Rattle.dt_nest.specs.declared.derivations.Derive.{Derive}
use Rattle.dt_nest.specs.declared.derivations.Derive.TheVariants as how
use Rattle.dt_nest.specs.declared.derivations.Derived.{Derived}
use Rattle.dt_nest.specs.CommunicateLoops.{communicate_loop}
use Rattle.dt_nest.specs.PartNames.{name_of, tensor_name, work_name}
use Rattle.dt_nest.specs.Questions.{accesses_tensor}
use Rattle.dt_nest.specs.Schedule.{Schedule}
use Rattle.dt_nest.specs.Tree.{Tree, Loop, Pre, Leaf}

-- Nests -----------------------------------------------------------------------------------------------------------------

-- whether two places are one loop, or both the root
abbrev pub is_same_place : Option ℕ → Option ℕ → Bool
is_same_place None None = true
is_same_place None (Some v) = false
is_same_place (Some u) None = false
is_same_place (Some u) (Some v) = nat_eq u v

-- the tensors of the statement that are communicated at a loop, or at the root, in order of declaration
abbrev pub communicated_at : Schedule → Option ℕ → List ℕ
communicated_at s at = filter (λ t. accesses_tensor s.nest t && is_same_place (communicate_loop s t) at) (below (length s.tensors))

-- names in brackets, with this behind them; nothing without names
abbrev pub bracketed : List (List ℕ) → List ℕ → List ℕ
bracketed [] end = []
bracketed (n ∷ ns) end = codes "[" ++ join_by (λ w. w) (codes ",") (n ∷ ns) ++ codes "]" ++ end

-- the tensors that are communicated at a loop, or at the root
abbrev pub communicated_text : Schedule → Option ℕ → List ℕ → List ℕ
communicated_text s at end = bracketed (map (tensor_name s) (communicated_at s at)) end

-- a loop whose stored prefixes are walked
abbrev pub walk_text : Schedule → Option Walk → List ℕ
walk_text s None = []
walk_text s (Some w) = codes "~" ++ tensor_name s w.tensor

-- a loop that is distributed
abbrev pub distributed_text : ℕ → List ℕ
distributed_text k = if nat_lt 0 k then codes "!" else []

-- a leaf, with its kernel where that is a stored one
abbrev pub leaf_text : Kernel → List ℕ
leaf_text Plain = codes "leaf"
leaf_text Dot = codes "leaf:dot"
leaf_text Dot3 = codes "leaf:dot3"

-- a tree whose first k loops are distributed
abbrev pub tree_text : Schedule → ℕ → Tree → List ℕ
tree_text s k (Loop v n walk body) =
    name_of s v ++ codes ":" ++ decimal n ++ distributed_text k ++ walk_text s walk ++ communicated_text s (Some v) [] ++ codes " " ++ tree_text s (k - 1) body
tree_text s k (Pre work pairs producer consumer) =
    codes "where " ++ work_name s work ++ codes " { " ++ tree_text s 0 producer ++ codes " } { " ++ tree_text s 0 consumer ++ codes " }"
tree_text s k (Leaf lhs terms guards kernel) = leaf_text kernel

-- what is communicated at the root, and the tree
abbrev pub nest_text : Schedule → List ℕ
nest_text s = communicated_text s None (codes " ") ++ tree_text s s.distributed s.nest

-- Derivations -----------------------------------------------------------------------------------------------------------

-- how a variable follows from others
abbrev pub form_text : Schedule → Derive → List ℕ
form_text s (how.Split outer inner factor) = name_of s outer ++ codes "*" ++ decimal factor ++ codes "+" ++ name_of s inner
form_text s (how.Quotient fused by) = name_of s fused ++ codes " div " ++ decimal by
form_text s (how.Rest fused by) = name_of s fused ++ codes " mod " ++ decimal by
form_text s (how.Rotate base by extent) = codes "(" ++ name_of s base ++ flat_map (λ v. codes "+" ++ name_of s v) by ++ codes ") mod " ++ decimal extent
form_text s (how.Pos tensor level base) = name_of s base ++ codes "." ++ decimal level ++ codes " of " ++ tensor_name s tensor

-- a variable that was replaced, with its form
abbrev pub derived_text : Schedule → Derived → List ℕ
derived_text s d = name_of s d.var ++ codes " = " ++ form_text s d.how
