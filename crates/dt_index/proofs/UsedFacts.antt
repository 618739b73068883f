-- Which variables a statement by numbers has where.
use Rattle.std.proofs.Common.{◌≡◌, ℕ, ◌<◌, ◌≤◌, List, [], ◌∷◌, ◌++◌, length, get_or, map, refl, ap, sym, ◌∙◌, subst, arith, Bool, true, false, not, ◌&&◌, ◌||◌, None, nat_eq, nat_lt, nat_le, inl, inr}
use Rattle.std.specs.Prelude.{find}
use Rattle.std.specs.List.{AllPass, filter_map, flat_map, list_all, list_any}
use Rattle.std.specs.Str.{bytes_eq}
use Rattle.std.proofs.Math.Bool.{or-true}
use Rattle.std.proofs.lemmas.Bool.{and_parts, leb-true, lt-ltb}
use Rattle.std.proofs.lemmas.List.{length-map, map-append, append_assoc, get_or_default}
use Rattle.std.proofs.lemmas.List.Elements.{All-map}
use Rattle.std.proofs.lemmas.List.Folds.{list_any-append}
use Rattle.std.proofs.lemmas.List.Sums.{AllPass-from_list_all}
use Rattle.dt_base.specs.Ranges.{below}
use Rattle.dt_text.proofs.WordLemmas.{bool_cases}
use Rattle.dt_model.specs.Stmts.{AreEven, AreUsed, factor_vars, term_vars, stmt_vars}
use Rattle.dt_model.specs.declared.stmt.Stmt.{Stmt}
use Rattle.dt_index.specs.Known.{Known}
use Rattle.dt_index.specs.Resolve.{IsSmall, access_in, accesses_of, right_accesses, term_accesses, extent_of, factor_has, has_few_terms, is_uneven, lhs_repeats, number_in, numbered_factor, numbered_term, occurrences, stmt_by, stmt_of, term_has, uneven_reduction, variables_of}
use Rattle.dt_index.specs.declared.form.Form.{Form}
use Rattle.dt_index.specs.declared.form.NamedAccess.{NamedAccess}
use Rattle.dt_index.specs.declared.form.NamedFactor.{NamedFactor}
use Rattle.dt_index.specs.declared.form.NamedFactor.TheVariants as named
use Rattle.dt_index.specs.declared.form.NamedTerm.{NamedTerm}
use Rattle.dt_index.specs.declared.occurrence_list.Occurrence.{Occurrence}
use Rattle.dt_base.proofs.Ranges.{length-below, get_or-below}
use Rattle.dt_index.proofs.NameFacts.{has, place, has-distinct, has-at, distinct-differ, number-at, number_in-place, place-in-front, numbers-have}
use Rattle.dt_index.proofs.OccurrenceFacts.{any_at, find_none, not_not, option_map-none}
use Rattle.dt_index.proofs.LawfulStmt.{left_first}

-- the names in accesses
abbrev pub names_in : List NamedAccess → List (List ℕ)
names_in accesses = flat_map (λ a. a.vars) accesses

names_in-append : (front rest : List NamedAccess) → names_in (front ++ rest) ≡ names_in front ++ names_in rest
names_in-append [] rest = refl
names_in-append (a ∷ front) rest = ap (λ (ns : List (List ℕ)). a.vars ++ ns) (names_in-append front rest) ∙ sym (append_assoc a.vars (names_in front) (names_in rest))

factors_numbered : (tensors : List Known) (vs : List (List ℕ)) (fs : List NamedFactor) → flat_map factor_vars (map (numbered_factor tensors vs) fs) ≡ map (number_in vs) (names_in (filter_map access_in fs))
factors_numbered tensors vs [] = refl
factors_numbered tensors vs (named.Read a ∷ fs) =
    ap (λ (ns : List ℕ). map (number_in vs) a.vars ++ ns) (factors_numbered tensors vs fs) ∙ sym (map-append (number_in vs) a.vars (names_in (filter_map access_in fs)))
factors_numbered tensors vs (named.Literal n ∷ fs) = factors_numbered tensors vs fs

-- the variables of a term by numbers
term_numbered : (tensors : List Known) (vs : List (List ℕ)) (t : NamedTerm) → term_vars (numbered_term tensors vs t) ≡ map (number_in vs) (names_in (term_accesses t))
term_numbered tensors vs t = factors_numbered tensors vs t.factors

terms_numbered : (tensors : List Known) (vs : List (List ℕ)) (ts : List NamedTerm) → flat_map term_vars (map (numbered_term tensors vs) ts) ≡ map (number_in vs) (names_in (flat_map term_accesses ts))
terms_numbered tensors vs [] = refl
terms_numbered tensors vs (t ∷ ts) =
    ap (λ (ns : List ℕ). ns ++ flat_map term_vars (map (numbered_term tensors vs) ts)) (term_numbered tensors vs t) ∙ ap (λ (ns : List ℕ). map (number_in vs) (names_in (term_accesses t)) ++ ns) (terms_numbered tensors vs ts)
    ∙ sym (map-append (number_in vs) (names_in (term_accesses t)) (names_in (flat_map term_accesses ts))) ∙ ap (λ (ns : List (List ℕ)). map (number_in vs) ns) (sym (names_in-append (term_accesses t) (flat_map term_accesses ts)))

-- the variables of a statement by numbers
stmt_numbered : (tensors : List Known) (f : Form) → stmt_vars (stmt_of tensors f) ≡ map (number_in (variables_of f)) (names_in (accesses_of f))
stmt_numbered tensors f =
    ap (λ (ns : List ℕ). map (number_in (variables_of f)) f.lhs.vars ++ ns) (terms_numbered tensors (variables_of f) f.terms)
    ∙ sym (map-append (number_in (variables_of f)) f.lhs.vars (names_in (right_accesses f)))

-- the variable with a number
variable_at : (f : Form) (k : ℕ) → k < length (variables_of f) → number_in (variables_of f) (get_or (variables_of f) k []) ≡ k
variable_at f k l = number-at (variables_of f) k [] (distinct-differ (names_in (accesses_of f))) l

-- each of the first n numbers passes a test that each number below n passes
all_below : (p : ℕ → Bool) (n : ℕ) → ((k : ℕ) → k < n → p k ≡ true) → AllPass p (below n)
all_below p n h k d l = (let inside : k < n = omega (arith, length-below n) in subst (λ (x : ℕ). p x ≡ true) (sym (get_or-below n k d inside)) (h k inside))

extent_count : (tensors : List Known) (f : Form) → length (map (extent_of (occurrences tensors f)) (variables_of f)) ≡ length (variables_of f)
extent_count tensors f = length-map (variables_of f) (extent_of (occurrences tensors f))

-- each of the names by which variables are numbered has an extent
pub extents_named : (tensors : List Known) (names : List (List ℕ)) (os : List Occurrence) (f : Form) (s : Stmt) → s ≡ stmt_by tensors names os f → length names ≡ length s.extents
extents_named tensors names os f s e = sym (length-map names (extent_of os)) ∙ ap (λ (t : Stmt). length t.extents) (sym e)

used_at : (tensors : List Known) (f : Form) (k : ℕ) → k < length (variables_of f) → list_any (nat_eq k) (stmt_vars (stmt_of tensors f)) ≡ true
used_at tensors f k l =
    let vs : List (List ℕ) = variables_of f in
    let name : List ℕ = get_or vs k [] in
    let there : has (names_in (accesses_of f)) name ≡ true = sym (has-distinct (names_in (accesses_of f)) name) ∙ has-at vs k [] l in
    subst (λ (ns : List ℕ). list_any (nat_eq k) ns ≡ true) (sym (stmt_numbered tensors f))
    (subst (λ (j : ℕ). list_any (nat_eq j) (map (number_in vs) (names_in (accesses_of f))) ≡ true) (variable_at f k l) (numbers-have vs (names_in (accesses_of f)) name there))

-- each variable stands in some access
pub used_stmt : (tensors : List Known) (f : Form) → AreUsed (stmt_of tensors f)
used_stmt tensors f = subst (λ (n : ℕ). AllPass (λ v. list_any (nat_eq v) (stmt_vars (stmt_of tensors f))) (below n)) (sym (extent_count tensors f)) (all_below _ (length (variables_of f)) (used_at tensors f))

-- a term has the names that stand in its accesses
factors_have : (w : List ℕ) (fs : List NamedFactor) → has (names_in (filter_map access_in fs)) w ≡ list_any (factor_has w) fs
factors_have w [] = refl
factors_have w (named.Read a ∷ fs) = list_any-append (λ v. bytes_eq v w) a.vars (names_in (filter_map access_in fs)) ∙ ap (λ (b : Bool). has a.vars w || b) (factors_have w fs)
factors_have w (named.Literal n ∷ fs) = factors_have w fs

lacks_none : (b c : Bool) → b ≡ false → (not b && c) ≡ false → c ≡ false
lacks_none true c t h = cc
lacks_none false c t h = h

even_at : (tensors : List Known) (f : Form) → lhs_repeats f ≡ None → uneven_reduction f (variables_of f) ≡ None → (t : NamedTerm) (j k : ℕ) → j < length f.terms → t ≡ get_or f.terms j t → k < length (variables_of f)
    → (nat_lt k (length (map (number_in (variables_of f)) f.lhs.vars)) || list_any (nat_eq k) (term_vars (numbered_term tensors (variables_of f) t))) ≡ true
even_at tensors f r u t j k lj e l =
    let vs : List (List ℕ) = variables_of f in
    let name : List ℕ = get_or vs k [] in
    let even : is_uneven f name ≡ false = find_none (is_uneven f) vs k [] (option_map-none _ (find (is_uneven f) vs) u) l in
    elim (bool_cases (has f.lhs.vars name)) [
      | inl h ↦
          (let front = left_first f r in
          let inside : place vs name < length f.lhs.vars = subst (λ (xs : List (List ℕ)). place xs name < length f.lhs.vars) (sym front.1) (place-in-front f.lhs.vars front.0 name h) in
          let same : k ≡ place vs name = sym (variable_at f k l) ∙ number_in-place vs name (has-at vs k [] l) in
          let less : k < length (map (number_in vs) f.lhs.vars) = omega (arith, same, inside, length-map f.lhs.vars (number_in vs)) in
          rw (lt-ltb k (length (map (number_in vs) f.lhs.vars)) less) refl)
      | inr h ↦
          (let none_lacks : list_any (λ t. not (term_has name t)) f.terms ≡ false = lacks_none (has f.lhs.vars name) (list_any (λ t. not (term_has name t)) f.terms) h even in
          let this : not (term_has name (get_or f.terms j t)) ≡ false = any_at (λ t. not (term_has name t)) f.terms j t none_lacks lj in
          let stands : term_has name t ≡ true = ap (λ (x : NamedTerm). term_has name x) e ∙ not_not (term_has name (get_or f.terms j t)) this in
          let there : has (names_in (term_accesses t)) name ≡ true = factors_have name t.factors ∙ stands in
          let number : list_any (nat_eq k) (term_vars (numbered_term tensors vs t)) ≡ true =
          subst (λ (ns : List ℕ). list_any (nat_eq k) ns ≡ true) (sym (term_numbered tensors vs t))
          (subst (λ (i : ℕ). list_any (nat_eq i) (map (number_in vs) (names_in (term_accesses t))) ≡ true) (variable_at f k l) (numbers-have vs (names_in (term_accesses t)) name there)) in
          rw number (or-true (nat_lt k (length (map (number_in vs) f.lhs.vars)))))
    ]

-- each term has each reduction variable
pub even_stmt : (tensors : List Known) (f : Form) → lhs_repeats f ≡ None → uneven_reduction f (variables_of f) ≡ None → AreEven (stmt_of tensors f)
even_stmt tensors f r u =
    let vs : List (List ℕ) = variables_of f in
    let left : ℕ = length (map (number_in vs) f.lhs.vars) in
    All-map (λ t. AllPass (λ v. nat_lt v left || list_any (nat_eq v) (term_vars t)) (below (length (stmt_of tensors f).extents))) (numbered_term tensors vs) f.terms
    (λ j d l. subst (λ (n : ℕ). AllPass (λ v. nat_lt v left || list_any (nat_eq v) (term_vars (numbered_term tensors vs (get_or f.terms j d)))) (below n)) (sym (extent_count tensors f))
    (all_below _ (length vs) (λ k m. even_at tensors f r u (get_or f.terms j d) j k l (item_again f.terms j d l) m)))
  where
    item_again : {X : Type 0} (xs : List X) (j : ℕ) (d : X) → j < length xs → get_or xs j d ≡ get_or xs j (get_or xs j d)
    item_again xs j d l = get_or_default xs j d (get_or xs j d) l

-- few terms, with few factors each
pub small_stmt : (tensors : List Known) (f : Form) → has_few_terms f ≡ true → IsSmall (stmt_of tensors f)
small_stmt tensors f h =
    let parts = and_parts (nat_le (length f.terms) 16) (list_all (λ t. nat_le (length t.factors) 8) f.terms) h in
    let vs : List (List ℕ) = variables_of f in
    record {
      terms = omega (arith, length-map f.terms (numbered_term tensors vs), leb-true (length f.terms) 16 parts.0);
      factors = All-map (λ t. length t.factors ≤ 8) (numbered_term tensors vs) f.terms
          (λ j d l. omega (arith, length-map (get_or f.terms j d).factors (numbered_factor tensors vs), leb-true (length (get_or f.terms j d).factors) 8 (AllPass-from_list_all (λ t. nat_le (length t.factors) 8) f.terms parts.1 j d l)));
    }
