-- The schedule that a statement starts with: one loop for each variable, in order, around one leaf.
use Rattle.std.specs.Prelude.{◌≡◌, ℕ, suc, ◌-◌, ◌<◌, ◌≤◌, ◌^◌, List, [], ◌∷◌, length, None}
use Rattle.std.specs.List.{AllByRecursion, IsDistinct}
use Rattle.std.specs.Str.{bytes_eq}
use Rattle.dt_base.specs.Ranges.{below}
use Rattle.dt_model.specs.WholeTensor.{WholeTensor}
use Rattle.dt_model.specs.Positions.{StoredTensor}
use Rattle.dt_model.specs.Stmts.{shapes_of, IsIndex}
use Rattle.dt_model.specs.Value.{value_of}
use Rattle.dt_model.specs.declared.stmt.Access.{Access}
use Rattle.dt_model.specs.declared.stmt.Stmt.{Stmt}
use Rattle.dt_nest.specs.declared.loops.Kernel.TheVariants.{Plain}
use Rattle.dt_nest.specs.Tree.{Tree, Loop, Leaf, read_accesses}
use Rattle.dt_nest.specs.Schedule.{Schedule}
use Rattle.dt_nest.specs.World.{Fits, sum_of}

-- loops with these extents over the variables from v on, around a tree
abbrev pub chain : ℕ → List ℕ → Tree → Tree
chain v [] tree = tree
chain v (n ∷ ns) tree = Loop v n None (chain (suc v) ns tree)

-- the schedule of a statement before any command
unfoldable pub stmt_schedule : Stmt → List (List ℕ) → List (List ℕ) → Schedule
stmt_schedule s vars tensors =
    record { nest = chain 0 s.extents (Leaf s.lhs s.terms [] Plain); derived = []; distributed = 0; moved = []; tensors = tensors; names = vars; extents = s.extents; works = [] }

-- an access of one of n tensors at no more than four of the first k variables
abbrev pub IsAccessOf : ℕ → ℕ → Access → Type 0
IsAccessOf k n a = (a.tensor < n) × (length a.vars ≤ 4) × AllByRecursion (λ u. u < k) a.vars

-- A statement with at most eight variables, those of the left side first and in order, and with one name for each
-- variable and each tensor.
pub record IsSchedulable (s : Stmt) (vars tensors : List (List ℕ)) : Type 0 where
  pub few : length s.extents ≤ 8
  pub left : s.lhs.vars ≡ below (length s.lhs.vars)
  pub accesses : AllByRecursion (IsAccessOf (length s.extents) (length tensors)) (s.lhs ∷ read_accesses s.terms)
  pub named : length vars ≡ length s.extents
  pub differ : IsDistinct bytes_eq vars
  pub tensors_differ : IsDistinct bytes_eq tensors
  pub few_tensors : length tensors < 2 ^ 32 - 1

-- at each index of the left tensor, for all tensors that fit, the schedule adds what the statement means
abbrev pub MeansStmt : Stmt → Schedule → Type 0
MeansStmt s sched =
    (stored : List StoredTensor) (tensors : List WholeTensor) (c : List ℕ) → Fits stored tensors sched → IsIndex (shapes_of tensors) s c
    → sum_of stored tensors sched c ≡ value_of s tensors c
