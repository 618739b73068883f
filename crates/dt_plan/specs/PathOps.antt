-- The operations on a path, from the words of its scratch.
use Rattle.std.specs.Prelude.{ℕ, ◌<◌, ◌^◌, List, [], ◌++◌, length, map, if◌then◌else◌, nat_eq, slice_index_or}
use Rattle.std.specs.List.{AllByRecursion, flat_map}
use Rattle.dt_copy.specs.declared.piece_list.Piece.{Piece}
use Rattle.dt_copy.specs.Sources.{pieces_of, shares_of}
use Rattle.dt_plan.specs.declared.kind.Kind.TheVariants.{Alloc, Copy, Fold, Free}
use Rattle.dt_plan.specs.declared.needs.Need.{Need}
use Rattle.dt_plan.specs.declared.ops.Op.{Op}
use Rattle.dt_plan.specs.Operations.{op_on}

-- a path of a statement on a node, the statement's left tensor, and the homes of the tensors by node
pub record PathView : Type 0 where
  pub stmt : ℕ
  pub node : ℕ
  pub path : List ℕ
  pub output : ℕ
  pub homes : List (List (List ℕ))

-- each tensor has a home on the node
abbrev pub IsOnNode : PathView → Type 0
IsOnNode v = AllByRecursion (λ (homes : List (List ℕ)). (v.node < length homes) × (length homes < 2 ^ 32)) v.homes

-- the operation that opens scratch, and the one that closes it
abbrev pub alloc_of : PathView → Need → Op
alloc_of v x = op_on Alloc v.stmt v.node v.path x.tensor v.node x.words 1

abbrev pub free_of : PathView → Need → Op
free_of v x = op_on Free v.stmt v.node v.path x.tensor v.node x.words 1

-- a piece of a tensor that is copied, and one that is folded
abbrev pub copy_of : PathView → ℕ → Piece → Op
copy_of v t piece = op_on Copy v.stmt v.node v.path t piece.node piece.words (length piece.words)

abbrev pub fold_of : PathView → ℕ → Piece → Op
fold_of v t piece = op_on Fold v.stmt v.node v.path t piece.node piece.words (length piece.words)

-- the copies into scratch, unless it is the left tensor's
abbrev pub copies_of : PathView → Need → List Op
copies_of v x = if nat_eq x.tensor v.output then [] else map (copy_of v x.tensor) (pieces_of x.words (slice_index_or v.homes x.tensor []) v.node)

-- the folds from the left tensor's scratch
abbrev pub folds_of : PathView → Need → List Op
folds_of v x = if nat_eq x.tensor v.output then map (fold_of v x.tensor) (shares_of x.words (slice_index_or v.homes x.tensor [])) else []

-- what comes before all that is deeper, and what comes after it
abbrev pub opened_of : PathView → List Need → List Op
opened_of v needs = map (alloc_of v) needs ++ flat_map (copies_of v) needs

abbrev pub closed_of : PathView → List Need → List Op
closed_of v needs = flat_map (folds_of v) needs ++ map (free_of v) needs
