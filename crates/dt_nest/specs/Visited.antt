-- What is kept beside a run over visits: its leaf, the loops that turn, and the values of variables.
use Rattle.std.specs.Prelude.{◌≡◌, ℕ, ◌<◌, Bool, true, false, List, [], Option, Some, None, length, slice_set}
use Rattle.std.specs.List.{AllByRecursion}
use Rattle.dt_model.specs.Positions.{StoredTensor}
use Rattle.dt_nest.specs.declared.branches.Substituted.{Substituted}
use Rattle.dt_nest.specs.declared.derivations.Derived.{Derived}
use Rattle.dt_nest.specs.declared.loops.Pair.{Pair}
use Rattle.dt_nest.specs.Meaning.{World}
use Rattle.dt_nest.specs.declared.progress.Progress.{Progress}
use Rattle.dt_nest.specs.declared.progress.Progress.TheVariants.{On}
use Rattle.dt_nest.specs.declared.steps.Outcome.{Outcome}
use Rattle.dt_nest.specs.declared.steps.Outcome.TheVariants.{Comes, Passes, Ends}
use Rattle.dt_nest.specs.declared.visited.VisitedLeaf.{VisitedLeaf}
use Rattle.dt_nest.specs.declared.inner_loops.InnerLoops.{InnerLoops}
use Rattle.dt_nest.specs.Tree.{Tree, tree_of}
use Rattle.dt_nest.specs.Schedule.{Schedule}
use Rattle.dt_nest.specs.World.{world_of}
use Rattle.dt_nest.specs.Lawful.{is_replaced}
use Rattle.dt_nest.specs.Visits.{Tests}
use Rattle.dt_nest.specs.Search.{pairs_at}
use Rattle.dt_nest.specs.Branch.{leaf_at, substituted_at}
use Rattle.dt_nest.specs.ValueTables.{IsLeafTable}
use Rattle.dt_nest.specs.InnerLoops.{AreDependents, AreInnerLoops, last_node, turned}
use Rattle.dt_nest.specs.Run.{CanGoOn, Moves, Stands, left_of, run_tests}

-- The leaf of a tree with this number, and the substituted loop around it.
pub record IsVisited (tree : Tree) (leaf : ℕ) (v : VisitedLeaf) : Type 0 where
  pub nest : tree_of v.nest.now ≡ leaf_at tree leaf
  pub substituted : v.substituted ≡ substituted_at tree leaf

-- where a loop is substituted, the list has the value of each variable at a leaf and a value of that loop, as in a leaf's table
abbrev pub HasLaneTable : World → List Derived → List Pair → List Pair → List ℕ → Option Substituted → ℕ → List (Option ℕ) → Type 0
HasLaneTable w ds outer inner slots None x values = Unit {0}
HasLaneTable w ds outer inner slots (Some loop) x values = IsLeafTable w ds outer inner (slice_set slots loop.var x) values

-- What is kept beside a run: the inner loops, and at each visit of a leaf the values of all variables.
pub record IsKept (stored : List StoredTensor) (s : Schedule) (path slots : List ℕ) (p : Progress) (w : InnerLoops) (values : List (Option ℕ)) : Type 0 where
  pub inner_loops : AreInnerLoops s path w
  pub room : length values ≡ length s.names
  pub table : (leaf : ℕ) → p ≡ On leaf → IsLeafTable (world_of stored s) s.derived [] (pairs_at s.nest leaf) slots values

-- What the inner loops need to turn: each loop has a slot and was not replaced, and has the derivations that follow from it; the
-- guards are those of the last leaf.
pub record CanTurn (s : Schedule) (w : InnerLoops) : Type 0 where
  pub within : AllByRecursion (λ inner_loop. inner_loop.var < length s.names) w.items.items
  pub loops : AllByRecursion (λ inner_loop. is_replaced s.derived inner_loop.var ≡ false) w.items.items
  pub count : length w.derived.items ≡ length w.items.items
  pub derived : AreDependents s.derived w.items.items w.derived.items
  pub guards : w.guards.items ≡ (last_node s.nest).guards

-- what a step of the inner loops came to
abbrev pub StepIs : Tests → Tree → InnerLoops → List ℕ → List ℕ → Outcome → Type 0
StepIs t tree w old new Comes = (turned w.items.items old ≡ Some new) × (t.holds (last_node tree) [] new ≡ true)
StepIs t tree w old new Passes = (turned w.items.items old ≡ Some new) × (t.holds (last_node tree) [] new ≡ false)
StepIs t tree w old new Ends = new ≡ old

-- what steps of the inner loops came to: the next visit of their leaf, or none, with the same items left
abbrev pub TurnIs : List StoredTensor → Schedule → List ℕ → InnerLoops → List ℕ → List ℕ → Bool → Type 0
TurnIs stored s path w old new true =
    Moves (run_tests stored s) s.nest path (left_of (run_tests stored s) s.nest path old (On w.leaf)) new (On w.leaf) × Stands s.nest new (On w.leaf)
TurnIs stored s path w old new false =
    CanGoOn stored s path new (On w.leaf)
    × (left_of (run_tests stored s) s.nest path old (On w.leaf) ≡ left_of (run_tests stored s) s.nest path new (On w.leaf))
