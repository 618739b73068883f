-- The parts of statements: the first one, and those that commands make of it.
use Rattle.std.proofs.Common.{◌≡◌, ℕ, zero, suc, ◌<◌, Bool, true, false, ◌||◌, List, [], ◌∷◌, map, refl, ap, sym, ◌∙◌, subst, arith, length, inl}
use Rattle.std.specs.Prelude.{nat_eq}
use Rattle.std.proofs.lemmas.Option.{slice_get_within}
use Rattle.std.specs.List.{AllByRecursion, flat_map, list_any}
use Rattle.std.proofs.lemmas.List.{length-map}
use Rattle.std.proofs.lemmas.List.Folds.{list_any-append}
use Rattle.dt_model.specs.Positions.{StoredTensor, IsStored, tensor_at}
use Rattle.dt_model.specs.Stmts.{IsStmt}
use Rattle.dt_model.specs.declared.stmt.Access.{Access}
use Rattle.dt_model.specs.declared.stmt.Factor.{Factor}
use Rattle.dt_model.specs.declared.stmt.Factor.TheVariants.{Read, Literal}
use Rattle.dt_model.specs.declared.stmt.Stmt.{Stmt}
use Rattle.dt_model.specs.declared.stmt.Term.{Term}
use Rattle.dt_index.specs.Known.{is_dense_at}
use Rattle.dt_index.specs.Reads.{factor_reads, term_reads, right_side_reads}
use Rattle.dt_nest.specs.Chain.{chain, stmt_schedule, MeansStmt}
use Rattle.dt_nest.specs.Outputs.{output_of, reads_of}
use Rattle.dt_nest.specs.Tree.{Tree, factor_accesses, read_accesses}
use Rattle.dt_nest.proofs.StmtFits.{stmt_fits}
use Rattle.dt_tensor.specs.Packed.{stored_of}
use Rattle.dt_job.specs.Contents.{Contents, extents_of_all, known_of, names_of, stored_of_all}
use Rattle.dt_job.specs.Jobs.{IsJobStmt}
use Rattle.dt_job.specs.PartsOf.{IsPartOf}
use Rattle.dt_job.proofs.JobTensorFacts.{declared_dense}

-- loops around a tree write what it writes
output_chain : (v : ℕ) (ns : List ℕ) (tree : Tree) → output_of (chain v ns tree) ≡ output_of tree
output_chain v [] tree = refl
output_chain v (n ∷ ns) tree = output_chain (suc v) ns tree

-- and read what it reads
reads_chain : (v : ℕ) (ns : List ℕ) (tree : Tree) → reads_of (chain v ns tree) ≡ reads_of tree
reads_chain v [] tree = refl
reads_chain v (n ∷ ns) tree = reads_chain (suc v) ns tree

-- whether some access is one of the tensor with this number
abbrev has_access : ℕ → List Access → Bool
has_access k list = list_any (λ a. nat_eq a.tensor k) list

factor_has : (k : ℕ) (f : Factor) → has_access k (factor_accesses f) ≡ factor_reads k f
factor_has k (Read a) = last (nat_eq a.tensor k)
  where
    last : (b : Bool) → (b || false) ≡ b
    last true = refl
    last false = refl
factor_has k (Literal n) = refl

-- some part has an access of the tensor where some access of the parts is one
parts_have : {A : Type 0} (k : ℕ) (f : A → List Access) (p : A → Bool) → ((x : A) → has_access k (f x) ≡ p x) → (xs : List A) → has_access k (flat_map f xs) ≡ list_any p xs
parts_have k f p h [] = refl
parts_have k f p h (x ∷ xs) =
    list_any-append (λ (a : Access). nat_eq a.tensor k) (f x) (flat_map f xs) ∙ ap (λ (b : Bool). b || has_access k (flat_map f xs)) (h x) ∙ ap (λ (b : Bool). p x || b) (parts_have k f p h xs)

-- the terms of a statement access what its right side reads
terms_have : (k : ℕ) (s : Stmt) → has_access k (read_accesses s.terms) ≡ right_side_reads k s
terms_have k s = parts_have k (λ (t : Term). flat_map factor_accesses t.factors) (term_reads k) (λ t. parts_have k factor_accesses (factor_reads k) (factor_has k) t.factors) s.terms

-- what the tensors store has their extents
stored_extents : (tensors : Contents) → map (λ (t : StoredTensor). t.extents) (stored_of_all tensors) ≡ extents_of_all tensors
stored_extents [] = refl
stored_extents (t ∷ ts) = ap (λ (l : List (List ℕ)). t.1.packed.extents ∷ l) (stored_extents ts)

-- the schedule that a statement starts with makes a part of it
pub first_part : (dims : List ℕ) (tensors : Contents) (s : Stmt) (vars : List (List ℕ)) → MeansStmt s (stmt_schedule s vars (names_of tensors)) → IsJobStmt (extents_of_all tensors) s → AllByRecursion IsStored (stored_of_all tensors)
    → is_dense_at (known_of tensors) s.lhs.tensor ≡ true
    → IsPartOf dims (stored_of_all tensors) (names_of tensors) s (record { sched = stmt_schedule s vars (names_of tensors); adds = s.adds; segment = 0 })
unfolding stmt_schedule
first_part dims tensors s vars means h levels left = record {
  means = means;
  adds = refl;
  tensors = refl;
  fits = stmt_fits (stored_of_all tensors) s vars (names_of tensors) (subst (λ (l : List (List ℕ)). IsStmt l s) (sym (stored_extents tensors)) h.stands)
      (length-map tensors (λ t. stored_of t.1.packed) ∙ sym (length-map tensors (λ t. t.0))) levels;
  grid = inl refl;
  output = output_chain 0 s.extents _;
  dense = declared_dense tensors s.lhs.tensor (omega (arith, slice_get_within (extents_of_all tensors) s.lhs.tensor _ h.stands.target.fits, length-map tensors (λ t. t.1.packed.extents))) levels left;
  unread = ap (λ (l : List Access). has_access s.lhs.tensor l) (reads_chain 0 s.extents _) ∙ terms_have s.lhs.tensor s ∙ h.unread;
}
