-- A level of a tensor: for each parent the coordinates of its children. A parent is one of the coordinates that are stored with the levels before.
use Rattle.std.specs.Prelude.{ℕ, ◌+◌, ◌<◌, ◌^◌, ◌==◌, List, [], length, take, All, Option, position, nat_le, slice_index_or}
use Rattle.std.specs.List.{sum_by, position_or_len}
use Rattle.std.specs.List.Sorted.{IsStrictlyIncreasing}
use Rattle.std.specs.Option.{option_map}

-- the coordinates of a parent's children ascend, and all children can be numbered
pub record IsLevel (level : List (List ℕ)) : Type 0 where
  pub ascending : All IsStrictlyIncreasing level
  pub numbered : sum_by length level < 2 ^ 32

-- the coordinates of a parent's children
abbrev pub children_of : List (List ℕ) → ℕ → List ℕ
children_of level parent = slice_index_or level parent []

-- the number of a parent's first child, if it has one: how many children the parents before it have
abbrev pub first_child : List (List ℕ) → ℕ → ℕ
first_child level parent = sum_by length (take parent level)

-- the number of the child with this coordinate, where the parent has it
abbrev pub find_child : List (List ℕ) → ℕ → ℕ → Option ℕ
find_child level parent x = option_map (λ k. first_child level parent + k) (position (λ y. y == x) (children_of level parent))

-- the least k whose child has a coordinate of at least x, or the number of children
abbrev pub least_child : List (List ℕ) → ℕ → ℕ → ℕ
least_child level parent x = position_or_len (λ y. nat_le x y) (children_of level parent)
