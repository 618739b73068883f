-- A statement over tensors has a schedule.
use Rattle.std.proofs.Common.{◌≡◌, ℕ, zero, suc, ◌-◌, ◌<◌, ◌^◌, List, [], ◌∷◌, length, Some, arith, All, subst}
use Rattle.std.specs.Prelude.{slice_get}
use Rattle.std.specs.List.{AllByRecursion, IsDistinct, flat_map}
use Rattle.std.specs.Str.{bytes_eq}
use Rattle.dt_model.specs.Stmts.{IsAccess, IsFactor, IsTerm, IsStmt}
use Rattle.dt_model.specs.declared.stmt.Access.{Access}
use Rattle.dt_model.specs.declared.stmt.Factor.{Factor}
use Rattle.dt_model.specs.declared.stmt.Factor.TheVariants.{Read, Literal}
use Rattle.dt_model.specs.declared.stmt.Stmt.{Stmt}
use Rattle.dt_nest.proofs.Each.{all_flat, all_of}
use Rattle.dt_nest.specs.Tree.{factor_accesses, read_accesses}
use Rattle.dt_nest.specs.Chain.{IsAccessOf, IsSchedulable}

-- a number that has an element is one of a place
pub get_exists : {X : Type 0} (xs : List X) (k : ℕ) (y : X) → slice_get xs k ≡ Some y → k < length xs
get_exists [] k y e = absurd (cc)
get_exists (x ∷ xs) zero y e = omega arith
get_exists (x ∷ xs) (suc k) y e = let l = get_exists xs k y e in omega arith

access_of : (shapes : List (List ℕ)) (extents : List ℕ) (a : Access) → IsAccess shapes extents a → IsAccessOf (length extents) (length shapes) a
access_of shapes extents a h = (get_exists shapes a.tensor _ h.fits, h.variables.0, all_of (λ u. u < length extents) a.vars h.variables.1)

factor_of : (shapes : List (List ℕ)) (extents : List ℕ) (f : Factor) → IsFactor shapes extents f → AllByRecursion (IsAccessOf (length extents) (length shapes)) (factor_accesses f)
factor_of shapes extents (Read a) h = (access_of shapes extents a h, tt)
factor_of shapes extents (Literal n) h = tt

-- a statement over as many tensors as there are names, with one name for each variable, has a schedule
pub schedulable : (shapes : List (List ℕ)) (s : Stmt) (vars tensors : List (List ℕ)) → IsStmt shapes s → length shapes ≡ length tensors → length vars ≡ length s.extents
    → IsDistinct bytes_eq vars → IsDistinct bytes_eq tensors → length tensors < 2 ^ 32 - 1 → IsSchedulable s vars tensors
schedulable shapes s vars tensors h e named differ tensors_differ few = record {
  few = h.few;
  left = h.left;
  accesses = subst (λ (k : ℕ). AllByRecursion (IsAccessOf (length s.extents) k) (s.lhs ∷ read_accesses s.terms)) e (
    access_of shapes s.extents s.lhs h.target,
    all_flat (IsTerm shapes s.extents) (IsAccessOf (length s.extents) (length shapes)) (λ t. flat_map factor_accesses t.factors)
        (λ t k. all_flat (IsFactor shapes s.extents) (IsAccessOf (length s.extents) (length shapes)) factor_accesses (factor_of shapes s.extents) t.factors (all_of (IsFactor shapes s.extents) t.factors k))
        s.terms (all_of (IsTerm shapes s.extents) s.terms h.terms),
  );
  named = named;
  differ = differ;
  tensors_differ = tensors_differ;
  few_tensors = few;
}
