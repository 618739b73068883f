-- What a lawful statement is known to be.
use Rattle.std.proofs.Common.{◌≡◌, ℕ, zero, suc, ◌<◌, ◌≤◌, List, [], ◌∷◌, ◌++◌, length, get_or, map, ap, sym, ◌∙◌, arith, Option, Some, None, unwrap_or, slice_get, slice_index, All, IsSome, subst, ◌≢◌, length-append, inl, inr}
use Rattle.std.proofs.Math.Seq.{get_or-append_seam}
use Rattle.std.proofs.lemmas.Bool.{cases_eq}
use Rattle.std.proofs.lemmas.List.{length-map}
use Rattle.dt_base.specs.Ranges.{below}
use Rattle.dt_base.specs.Rows.{row_major}
use Rattle.dt_base.proofs.Ranges.{length-below}
use Rattle.dt_base.proofs.Rows.{row_major-count}
use Rattle.dt_model.specs.Stmts.{IsStmt, IsIndex, IsFactor, HasFactorVariables}
use Rattle.dt_model.specs.declared.stmt.Factor.{Factor}
use Rattle.dt_model.specs.declared.stmt.Factor.TheVariants.{Read, Literal}
use Rattle.dt_model.specs.declared.stmt.Stmt.{Stmt}

-- where the numbers below n are below m, n is at most m
all_below : (n m : ℕ) → All (λ v. v < m) (below n) → n ≤ m
all_below zero m h = omega arith
all_below (suc n) m h =
    let there : n < length (below n ++ n ∷ []) = rw length-append (omega (arith, length-below n)) in
    let last : get_or (below n ++ n ∷ []) n 0 ≡ n = ap (λ (i : ℕ). get_or (below n ++ n ∷ []) i 0) (sym (length-below n)) ∙ get_or-append_seam (below n) n [] 0 in
    let small : get_or (below n ++ n ∷ []) n 0 < m = h n 0 there in
    omega arith

different : (ns c : List ℕ) → IsSome (row_major ns c) → length ns ≢ length c → ⊥
different ns c h other = (let none : row_major ns c ≡ None = row_major-count ns c other in let found : IsSome {T = ℕ} None = subst (λ (o : Option ℕ). IsSome o) none h in cc)

-- an index has as many coordinates as extents
indexed_count : (ns c : List ℕ) → IsSome (row_major ns c) → length ns ≡ length c
indexed_count ns c h = elim (cases_eq (length ns) (length c)) [ inl same ↦ same | inr other ↦ absurd (different ns c h other) ]

-- an index of the left tensor has no more coordinates than the statement has variables
pub index_fits : (shapes : List (List ℕ)) (s : Stmt) (c : List ℕ) → IsStmt shapes s → IsIndex shapes s c → length c ≤ length s.extents
index_fits shapes s c h k =
    let found : slice_get shapes s.lhs.tensor ≡ Some (map (λ v. slice_index s.extents v) s.lhs.vars) = h.target.fits in
    let index : IsSome (row_major (map (λ v. slice_index s.extents v) s.lhs.vars) c) = subst (λ (o : Option (List ℕ)). IsSome (row_major (unwrap_or o []) c)) found k in
    let count : length (map (λ v. slice_index s.extents v) s.lhs.vars) ≡ length c = indexed_count (map (λ v. slice_index s.extents v) s.lhs.vars) c index in
    let known : All (λ v. v < length s.extents) (below (length s.lhs.vars)) = subst (λ (vs : List ℕ). All (λ v. v < length s.extents) vs) h.left h.target.variables.1 in
    omega (arith, all_below (length s.lhs.vars) (length s.extents) known, length-map s.lhs.vars (λ v. slice_index s.extents v), count)

-- the variables of a lawful factor
pub factor_variables : (shapes : List (List ℕ)) (extents : List ℕ) (f : Factor) → IsFactor shapes extents f → HasFactorVariables (length extents) f
factor_variables shapes extents (Read a) h = h.variables
factor_variables shapes extents (Literal n) h = tt
