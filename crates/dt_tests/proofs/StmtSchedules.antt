-- Letters as names of loops, and packed tensors under the schedule of a statement over them.
use Rattle.std.proofs.Common.{◌≡◌, ℕ, zero, suc, ◌+◌, ◌<◌, Bool, true, false, ◌&&◌, List, [], ◌∷◌, ◌++◌, length, map, refl, ap, sym, ◌∙◌, subst, arith}
use Rattle.std.specs.List.{AllByRecursion, IsDistinct, range_with_len}
use Rattle.std.specs.Str.{bytes_eq}
use Rattle.std.proofs.lemmas.Bool.{ne_eqb}
use Rattle.std.proofs.lemmas.List.{length-map}
use Rattle.std.proofs.lemmas.List.FromFn.{map-range_with_len_more}
use Rattle.dt_model.specs.Positions.{StoredTensor, IsStored}
use Rattle.dt_model.specs.Stmts.{IsStmt, shapes_of}
use Rattle.dt_model.specs.WholeTensor.{WholeTensor}
use Rattle.dt_model.specs.declared.stmt.Stmt.{Stmt}
use Rattle.dt_nest.specs.Chain.{stmt_schedule}
use Rattle.dt_nest.proofs.Each.{all_made}
use Rattle.dt_nest.specs.FitsStored.{FitsStored}
use Rattle.dt_nest.specs.Schedule.{Schedule}
use Rattle.dt_nest.proofs.StmtFits.{stmt_fits}
use Rattle.dt_tensor.specs.Packed.{Packed, IsPacked, stored_of}

-- Names ------------------------------------------------------------------------------------------------------------------

-- a letter differs from later ones
later_letters : (a b n : ℕ) → a < b → AllByRecursion (λ y. bytes_eq (a ∷ []) y ≡ false) (map (λ i. i ∷ []) (range_with_len b n))
later_letters a b zero l = tt
later_letters a b (suc n) l = (ap (λ (c : Bool). c && true) (ne_eqb a b (λ e. omega arith)), later_letters a (b + 1) n (omega arith))

-- letters in order differ
pub letters_differ : (a n : ℕ) → IsDistinct bytes_eq (map (λ i. i ∷ []) (range_with_len a n))
unfolding IsDistinct
letters_differ a zero = tt
letters_differ a (suc n) = (later_letters a (a + 1) n (omega arith), letters_differ (a + 1) n)

-- one more letter
pub letters_more : (a n : ℕ) (names after : List (List ℕ)) (name : List ℕ) → names ≡ map (λ i. i ∷ []) (range_with_len a n) → name ≡ (a + n) ∷ [] → after ≡ names ++ name ∷ []
    → after ≡ map (λ i. i ∷ []) (range_with_len a (n + 1))
letters_more a n names after name e f g =
    g ∙ ap (λ (l : List (List ℕ)). l ++ name ∷ []) e ∙ ap (λ (x : List ℕ). map (λ i. i ∷ []) (range_with_len a n) ++ x ∷ []) f ∙ sym (map-range_with_len_more (λ i. i ∷ []) a n (a + n) refl)

-- Packed tensors ---------------------------------------------------------------------------------------------------------

-- packed tensors and what they store have the same extents
stored_shapes : (ps : List Packed) → map (λ (p : Packed). p.extents) ps ≡ map (λ (t : StoredTensor). t.extents) (map stored_of ps)
stored_shapes [] = refl
stored_shapes (p ∷ ps) = ap (λ (l : List (List ℕ)). p.extents ∷ l) (stored_shapes ps)

-- packed tensors fit the schedule of a statement over them
pub packed_fit : (ps tensors : List Packed) (wholes given counted : List WholeTensor) (s : Stmt) (vars names : List (List ℕ)) (sched : Schedule) → ps ≡ tensors
    → map (λ (w : WholeTensor). w.extents) wholes ≡ map (λ (p : Packed). p.extents) ps → AllByRecursion IsPacked ps → given ≡ wholes → IsStmt (shapes_of given) s
    → counted ≡ wholes → length names ≡ length counted → sched ≡ stmt_schedule s vars names → FitsStored (map stored_of tensors) sched
packed_fit ps tensors wholes given counted s vars names sched e m packed eg h ec n q =
    let same : map (λ (w : WholeTensor). w.extents) wholes ≡ map (λ (p : Packed). p.extents) tensors = m ∙ ap (λ (l : List Packed). map (λ (p : Packed). p.extents) l) e in
    let shapes : shapes_of given ≡ map (λ (t : StoredTensor). t.extents) (map stored_of tensors) = ap (λ (l : List WholeTensor). shapes_of l) eg ∙ same ∙ stored_shapes tensors in
    let stmt : IsStmt (map (λ (t : StoredTensor). t.extents) (map stored_of tensors)) s = subst (λ (l : List (List ℕ)). IsStmt l s) shapes h in
    let lengths : length wholes ≡ length tensors = sym (length-map wholes (λ (w : WholeTensor). w.extents)) ∙ ap length same ∙ length-map tensors (λ (p : Packed). p.extents) in
    let count : length (map stored_of tensors) ≡ length names = length-map tensors stored_of ∙ sym (n ∙ ap length ec ∙ lengths) in
    let levels : AllByRecursion IsStored (map stored_of tensors) = all_made IsPacked IsStored stored_of (λ p k. k.stored) tensors (subst (λ (l : List Packed). AllByRecursion IsPacked l) e packed) in
    subst (λ (x : Schedule). FitsStored (map stored_of tensors) x) (sym q) (stmt_fits (map stored_of tensors) s vars names stmt count levels)
