-- The schedule of a statement over tensors fits them.
use Rattle.std.proofs.Common.{◌≡◌, ℕ, zero, suc, ◌<◌, List, [], ◌∷◌, length, map, Some, All, refl, sym, subst, arith}
use Rattle.std.specs.Prelude.{slice_get, slice_index}
use Rattle.std.specs.List.{AllByRecursion, flat_map}
use Rattle.dt_model.specs.Positions.{StoredTensor, IsStored, tensor_at}
use Rattle.dt_model.specs.Stmts.{IsFactor, IsTerm, IsStmt}
use Rattle.dt_model.specs.declared.stmt.Access.{Access}
use Rattle.dt_model.specs.declared.stmt.Factor.{Factor}
use Rattle.dt_model.specs.declared.stmt.Factor.TheVariants.{Read, Literal}
use Rattle.dt_model.specs.declared.stmt.Stmt.{Stmt}
use Rattle.dt_model.specs.declared.stmt.Term.{Term}
use Rattle.dt_nest.specs.declared.loops.Kernel.TheVariants.{Plain}
use Rattle.dt_nest.specs.Chain.{chain, stmt_schedule}
use Rattle.dt_nest.proofs.Each.{all_flat, all_map, all_of}
use Rattle.dt_nest.specs.FitsStored.{FitsStored}
use Rattle.dt_nest.specs.Tree.{Tree, Leaf, accesses_of, factor_accesses, read_accesses}
use Rattle.dt_nest.specs.Schedule.{Schedule}
use Rattle.dt_nest.proofs.ChainLawful.{accesses-chain}

-- the extents of the tensor with a number
shape_of : (stored : List StoredTensor) (k : ℕ) (x : List ℕ) → slice_get (map (λ (t : StoredTensor). t.extents) stored) k ≡ Some x → (tensor_at stored k).extents ≡ x
shape_of [] k x e = absurd (cc)
shape_of (t ∷ stored) zero x e = cc
shape_of (t ∷ stored) (suc k) x e = shape_of stored k x e

-- an access has its tensor's extents at its variables
abbrev Fitting : List StoredTensor → List ℕ → Access → Type 0
Fitting stored extents a = (tensor_at stored a.tensor).extents ≡ map (λ v. slice_index extents v) a.vars

-- so have those of a factor
factor_fits : (stored : List StoredTensor) (extents : List ℕ) (f : Factor) → IsFactor (map (λ (t : StoredTensor). t.extents) stored) extents f → AllByRecursion (Fitting stored extents) (factor_accesses f)
factor_fits stored extents (Read a) h = (shape_of stored a.tensor (map (λ v. slice_index extents v) a.vars) h.fits, tt)
factor_fits stored extents (Literal n) h = tt

-- so have all accesses of a statement
accesses_fit : (stored : List StoredTensor) (s : Stmt) → IsStmt (map (λ (t : StoredTensor). t.extents) stored) s → AllByRecursion (Fitting stored s.extents) (s.lhs ∷ read_accesses s.terms)
accesses_fit stored s h =
    let shapes : List (List ℕ) = map (λ (t : StoredTensor). t.extents) stored in (
      shape_of stored s.lhs.tensor (map (λ v. slice_index s.extents v) s.lhs.vars) h.target.fits,
      all_flat (IsTerm shapes s.extents) (Fitting stored s.extents) (λ (t : Term). flat_map factor_accesses t.factors)
          (λ t k. all_flat (IsFactor shapes s.extents) (Fitting stored s.extents) factor_accesses (factor_fits stored s.extents) t.factors (all_of (IsFactor shapes s.extents) t.factors k))
          s.terms (all_of (IsTerm shapes s.extents) s.terms h.terms),
    )

-- the schedule of a statement over tensors fits them, where each stores what its levels ask for
pub stmt_fits : (stored : List StoredTensor) (s : Stmt) (vars names : List (List ℕ)) → IsStmt (map (λ (t : StoredTensor). t.extents) stored) s → length stored ≡ length names → AllByRecursion IsStored stored
    → FitsStored stored (stmt_schedule s vars names)
unfolding stmt_schedule
stmt_fits stored s vars names h count levels = record {
  count = count;
  levels = levels;
  accesses = all_map (Fitting stored s.extents) (λ a. a.tensor < length names → (tensor_at stored a.tensor).extents ≡ map (λ v. slice_index s.extents v) a.vars) (λ a e l. e)
      (accesses_of (chain 0 s.extents (Leaf s.lhs s.terms [] Plain)))
      (subst (λ (l : List Access). AllByRecursion (Fitting stored s.extents) l) (sym (accesses-chain 0 s.extents (Leaf s.lhs s.terms [] Plain))) (accesses_fit stored s h));
  positions = tt;
}
