-- How proofs tell trees apart: a tree is written as a list of its nodes, children first.
use Rattle.std.specs.Prelude.{◌≡◌, ℕ, List, [], ◌∷◌, ◌++◌, Option, refl}
use Rattle.std.proofs.Common.{ap, ◌∙◌, append_assoc}
use Rattle.std.specs.Coded.{Coded, code_by, coded_list}
use Rattle.dt_model.specs.declared.stmt.Access.{Access}
use Rattle.dt_model.specs.declared.stmt.Term.{Term}
use Rattle.dt_nest.specs.declared.loops.Pair.{Pair}
use Rattle.dt_nest.specs.declared.loops.Walk.{Walk}
use Rattle.dt_nest.specs.declared.loops.Kernel.{Kernel}
use Rattle.dt_nest.specs.declared.loops.Kernel.TheVariants.{Plain}
use Rattle.dt_nest.specs.Tree.{Tree, Loop, Pre, Leaf}

pub data Node : Type 0 where
  LoopNode : (var extent : ℕ) (walk : Option Walk) → Node
  PreNode : (work : ℕ) (pairs : List Pair) → Node
  LeafNode : (lhs : Access) (terms : List Term) (guards : List ℕ) (kernel : Kernel) → Node

abbrev pub nodes_of : Tree → List Node
nodes_of (Loop v n walk body) = nodes_of body ++ LoopNode v n walk ∷ []
nodes_of (Pre work pairs producer consumer) = nodes_of producer ++ (nodes_of consumer ++ PreNode work pairs ∷ [])
nodes_of (Leaf lhs terms guards kernel) = LeafNode lhs terms guards kernel ∷ []

abbrev pub grow : Node → List Tree → List Tree
grow (LoopNode v n walk) [] = []
grow (LoopNode v n walk) (body ∷ trees) = Loop v n walk body ∷ trees
grow (PreNode work pairs) [] = []
grow (PreNode work pairs) (consumer ∷ []) = []
grow (PreNode work pairs) (consumer ∷ producer ∷ trees) = Pre work pairs producer consumer ∷ trees
grow (LeafNode lhs terms guards kernel) trees = Leaf lhs terms guards kernel ∷ trees

abbrev pub grown : List Node → List Tree → List Tree
grown [] trees = trees
grown (node ∷ nodes) trees = grown nodes (grow node trees)

abbrev pub first_tree : List Tree → Tree
first_tree [] = Leaf (record { tensor = 0; vars = [] }) [] [] Plain
first_tree (t ∷ trees) = t

abbrev pub tree_from : List Node → Tree
tree_from nodes = first_tree (grown nodes [])

grown-nodes_of : (t : Tree) (more : List Node) (trees : List Tree) → grown (nodes_of t ++ more) trees ≡ grown more (t ∷ trees)
grown-nodes_of (Loop v n walk body) more trees =
    ap (λ l. grown l trees) (append_assoc (nodes_of body) (LoopNode v n walk ∷ []) more) ∙ grown-nodes_of body (LoopNode v n walk ∷ more) trees
grown-nodes_of (Pre work pairs producer consumer) more trees =
    ap (λ l. grown l trees) (append_assoc (nodes_of producer) (nodes_of consumer ++ PreNode work pairs ∷ []) more)
    ∙ grown-nodes_of producer ((nodes_of consumer ++ PreNode work pairs ∷ []) ++ more) trees
    ∙ ap (λ l. grown l (producer ∷ trees)) (append_assoc (nodes_of consumer) (PreNode work pairs ∷ []) more)
    ∙ grown-nodes_of consumer (PreNode work pairs ∷ more) (producer ∷ trees)
grown-nodes_of (Leaf lhs terms guards kernel) more trees = refl

pub tree_from-nodes_of : (t : Tree) → tree_from (nodes_of t) ≡ t
tree_from-nodes_of t = ap (λ l. tree_from l) (append_nil (nodes_of t)) ∙ ap first_tree (grown-nodes_of t [] [])
  where
    append_nil : (l : List Node) → l ≡ l ++ []
    append_nil [] = refl
    append_nil (x ∷ l) = ap (λ m. x ∷ m) (append_nil l)

abbrev pub tree_code : Coded Node → Coded Tree
tree_code node = code_by (List Node) (coded_list node) nodes_of tree_from tree_from-nodes_of
