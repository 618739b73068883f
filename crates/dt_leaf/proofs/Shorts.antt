-- No access of a schedule has more than sixteen variables.
use Rattle.std.proofs.Common.{◌+◌, length, ◌∷◌}
use Rattle.std.specs.List.{AllByRecursion}
use Rattle.dt_nest.specs.Tree.{Tree, Loop, Pre, Leaf, read_accesses}
use Rattle.dt_nest.specs.Schedule.{Schedule}
use Rattle.dt_nest.specs.Lawful.{AccessBelow, IsNamed}
use Rattle.dt_nest.specs.Visits.{LeafNode, Item, IsReset, IsVisit, visits_of}
use Rattle.dt_nest.proofs.Each.{all_map}
use Rattle.dt_leaf.specs.AtVisit.{IsShort}
use Rattle.dt_leaf.specs.NodeWords.{IsShortItem, ItemsAreShort}
use Rattle.dt_leaf.proofs.EachLeaf.{EachLeaf, OfLeaf, visited_leaves}

-- each access of a leaf is short
abbrev Short : LeafNode → Type 0
Short leaf = AllByRecursion IsShort (leaf.lhs ∷ read_accesses leaf.terms)

leaves_short : (s : Schedule) (tree : Tree) → IsNamed s tree → EachLeaf Short tree
leaves_short s (Loop v n walk body) h = leaves_short s body h.3
leaves_short s (Pre work pairs producer consumer) h = (leaves_short s producer h.2, leaves_short s consumer h.3)
leaves_short s (Leaf lhs terms guards kernel) h = all_map (AccessBelow (length s.names) (length s.tensors + length s.works)) IsShort (λ a k. k.1) (lhs ∷ read_accesses terms) h.0

short_item : (item : Item) → OfLeaf Short item → IsShortItem item
short_item (IsReset work) h = tt
short_item (IsVisit visit) h = h

pub items_short : ItemsAreShort
items_short stored s path lawful = all_map (OfLeaf Short) IsShortItem short_item (visits_of stored s path) (visited_leaves Short stored s path (leaves_short s s.nest lawful.named))
