-- The numbers of a statement lead back to its names.
use Rattle.std.proofs.Common.{◌≡◌, ℕ, List, [], ◌∷◌, ◌++◌, length, get_or, map, Bool, true, false, cond, ◌||◌, nat_le, Option, Some, None, Result, Ok, refl, ap, sym, ◌∙◌, is_none, unwrap_or, option_map}
use Rattle.std.specs.Prelude.{find}
use Rattle.std.specs.List.{AllByRecursion, filter_map, flat_map}
use Rattle.std.specs.Str.{bytes_eq}
use Rattle.std.proofs.lemmas.Bool.{or_left, or_right}
use Rattle.std.proofs.lemmas.List.{get_or-map}
use Rattle.std.proofs.lemmas.List.Folds.{list_any-append}
use Rattle.std.proofs.lemmas.List.Quantifiers.{position-Some}
use Rattle.std.proofs.lemmas.List.Sums.{passes_at_first}
use Rattle.dt_model.specs.declared.cause.Cause.{Cause}
use Rattle.dt_model.specs.declared.cause.Cause.TheVariants as cause
use Rattle.dt_model.specs.Steps.{◌>>=◌, need, none}
use Rattle.dt_model.proofs.StepFacts.{first_ok, same_ok}
use Rattle.dt_index.specs.Known.{Known, place_of}
use Rattle.dt_index.specs.Printed.{form_text, name_at, named_access, named_factor, named_stmt, named_term, stmt_text}
use Rattle.dt_index.specs.Resolve.{Resolved, access_in, accesses_of, extent_clash, has_dense_output, has_few_terms, has_good_literals, lhs_repeats, number_in, numbered, numbered_factor, numbered_term, occurrences, output_read, resolved_of, stmt_of, term_accesses, uneven_reduction, unknown_tensor, variables_of, wrong_order}
use Rattle.dt_index.specs.declared.form.Form.{Form}
use Rattle.dt_index.specs.declared.form.NamedAccess.{NamedAccess}
use Rattle.dt_index.specs.declared.form.NamedFactor.{NamedFactor}
use Rattle.dt_index.specs.declared.form.NamedFactor.TheVariants as factor
use Rattle.dt_index.specs.declared.form.NamedTerm.{NamedTerm}
use Rattle.dt_base.proofs.Firsts.{bytes_eq-is, bytes_eq-same}
use Rattle.dt_index.proofs.OccurrenceFacts.{option_map-none}
use Rattle.dt_index.proofs.NameFacts.{has, has-distinct, has-front, number_in-place, place, place-inside}
use Rattle.dt_index.proofs.PrintForms.{IsNumber, IsGoodFactor, IsGoodTerm, IsGoodForm, access_with, form_with, term_with}

-- Tensors and variables -----------------------------------------------------------------------------------------------

-- the names of tensors
abbrev pub names_of : List Known → List (List ℕ)
names_of tensors = map (λ t. t.name) tensors

-- any tensor
abbrev pub nobody : Known
nobody = record { name = []; extents = []; dense = true }

tensor_at : (tensors : List Known) (name : List ℕ) (k : ℕ) → place_of name tensors ≡ Some k → get_or (names_of tensors) k [] ≡ name
tensor_at tensors name k h =
    let there = position-Some (λ t. bytes_eq t.name name) tensors k nobody h in
    get_or-map (λ t. t.name) tensors k nobody [] there.0 ∙ bytes_eq-is (get_or tensors k nobody).name name there.1

tensor_by : (tensors : List Known) (name : List ℕ) (o : Option ℕ) → place_of name tensors ≡ o → is_none o ≡ false → get_or (names_of tensors) (unwrap_or o 0) [] ≡ name
tensor_by tensors name None e h = cc
tensor_by tensors name (Some k) e h = tensor_at tensors name k e

-- the number of a known tensor has its name
tensor_back : (tensors : List Known) (name : List ℕ) → is_none (place_of name tensors) ≡ false → name_at (names_of tensors) (unwrap_or (place_of name tensors) 0) ≡ name
tensor_back tensors name h = tensor_by tensors name (place_of name tensors) refl h

-- the number of a variable of the list has its name
var_back : (vs : List (List ℕ)) (v : List ℕ) → has vs v ≡ true → name_at vs (number_in vs v) ≡ v
var_back vs v h =
    ap (λ (k : ℕ). get_or vs k []) (number_in-place vs v h) ∙ bytes_eq-is (get_or vs (place vs v) []) v (passes_at_first (λ w. bytes_eq w v) vs [] (place-inside vs v h))

vars_back : (vs us : List (List ℕ)) → AllByRecursion (λ v. has vs v ≡ true) us → map (name_at vs) (map (number_in vs) us) ≡ us
vars_back vs [] h = refl
vars_back vs (u ∷ us) h = ap (λ (w : List ℕ). w ∷ map (name_at vs) (map (number_in vs) us)) (var_back vs u h.0) ∙ ap (λ (ws : List (List ℕ)). u ∷ ws) (vars_back vs us h.1)

-- Accesses, factors, terms --------------------------------------------------------------------------------------------

-- the tensor of the access is known, and the list has its variables
pub record IsNumbered (tensors : List Known) (vs : List (List ℕ)) (a : NamedAccess) : Type 0 where
  pub known : is_none (place_of a.tensor tensors) ≡ false
  pub vars : AllByRecursion (λ v. has vs v ≡ true) a.vars

access_back : (tensors : List Known) (vs : List (List ℕ)) (a : NamedAccess) → IsNumbered tensors vs a → named_access vs (names_of tensors) (numbered tensors vs a) ≡ a
access_back tensors vs a h =
    let t : name_at (names_of tensors) (unwrap_or (place_of a.tensor tensors) 0) ≡ a.tensor = tensor_back tensors a.tensor h.known in
    let w : map (name_at vs) (map (number_in vs) a.vars) ≡ a.vars = vars_back vs a.vars h.vars in
    ap (λ (x : List ℕ). access_with x (map (name_at vs) (map (number_in vs) a.vars))) t ∙ ap (λ (x : List (List ℕ)). access_with a.tensor x) w

-- the factor reads such an access, or is a literal
abbrev pub IsNumberedFactor : List Known → List (List ℕ) → NamedFactor → Type 0
IsNumberedFactor tensors vs (factor.Read a) = IsNumbered tensors vs a
IsNumberedFactor tensors vs (factor.Literal n) = Unit {0}

literal_back : (n : Option ℕ) → IsNumber n → factor.Literal (Some (unwrap_or n 0)) ≡ factor.Literal n
literal_back None g = absurd g
literal_back (Some n) g = refl

factor_back : (tensors : List Known) (vs : List (List ℕ)) (g : NamedFactor) → IsNumberedFactor tensors vs g → IsGoodFactor IsNumber g → named_factor vs (names_of tensors) (numbered_factor tensors vs g) ≡ g
factor_back tensors vs (factor.Read a) h good = ap factor.Read (access_back tensors vs a h)
factor_back tensors vs (factor.Literal n) h good = literal_back n good

factors_back : (tensors : List Known) (vs : List (List ℕ)) (gs : List NamedFactor) → AllByRecursion (IsNumberedFactor tensors vs) gs → AllByRecursion (IsGoodFactor IsNumber) gs
    → map (named_factor vs (names_of tensors)) (map (numbered_factor tensors vs) gs) ≡ gs
factors_back tensors vs [] h good = refl
factors_back tensors vs (g ∷ gs) h good =
    let first : named_factor vs (names_of tensors) (numbered_factor tensors vs g) ≡ g = factor_back tensors vs g h.0 good.0 in
    let others : map (named_factor vs (names_of tensors)) (map (numbered_factor tensors vs) gs) ≡ gs = factors_back tensors vs gs h.1 good.1 in
    ap (λ (x : NamedFactor). x ∷ map (named_factor vs (names_of tensors)) (map (numbered_factor tensors vs) gs)) first ∙ ap (λ (xs : List NamedFactor). g ∷ xs) others

terms_back : (tensors : List Known) (vs : List (List ℕ)) (ts : List NamedTerm) → AllByRecursion (λ t. AllByRecursion (IsNumberedFactor tensors vs) t.factors) ts → AllByRecursion (IsGoodTerm IsNumber) ts
    → map (named_term vs (names_of tensors)) (map (numbered_term tensors vs) ts) ≡ ts
terms_back tensors vs [] h good = refl
terms_back tensors vs (t ∷ ts) h good =
    let first : map (named_factor vs (names_of tensors)) (map (numbered_factor tensors vs) t.factors) ≡ t.factors = factors_back tensors vs t.factors h.0 good.0.1 in
    let others : map (named_term vs (names_of tensors)) (map (numbered_term tensors vs) ts) ≡ ts = terms_back tensors vs ts h.1 good.1 in
    ap (λ (x : List NamedFactor). term_with t.minus x ∷ map (named_term vs (names_of tensors)) (map (numbered_term tensors vs) ts)) first ∙ ap (λ (xs : List NamedTerm). t ∷ xs) others

-- a statement by numbers, by names again
form_back : (tensors : List Known) (f : Form) → IsNumbered tensors (variables_of f) f.lhs
    → AllByRecursion (λ t. AllByRecursion (IsNumberedFactor tensors (variables_of f)) t.factors) f.terms → IsGoodForm IsNumber f
    → named_stmt (variables_of f) (names_of tensors) (stmt_of tensors f) ≡ f
form_back tensors f l h good =
    let left : named_access (variables_of f) (names_of tensors) (numbered tensors (variables_of f) f.lhs) ≡ f.lhs = access_back tensors (variables_of f) f.lhs l in
    let right : map (named_term (variables_of f) (names_of tensors)) (map (numbered_term tensors (variables_of f)) f.terms) ≡ f.terms = terms_back tensors (variables_of f) f.terms h good.terms in
    ap (λ (x : NamedAccess). form_with x f.adds (map (named_term (variables_of f) (names_of tensors)) (map (numbered_term tensors (variables_of f)) f.terms))) left
    ∙ ap (λ (x : List NamedTerm). form_with f.lhs f.adds x) right

-- Accesses of a form --------------------------------------------------------------------------------------------------

covered_vars : (vs us : List (List ℕ)) → ((v : List ℕ) → has us v ≡ true → has vs v ≡ true) → AllByRecursion (λ v. has vs v ≡ true) us
covered_vars vs [] k = tt
covered_vars vs (u ∷ us) k =
    let here : has (u ∷ us) u ≡ true = ap (λ (b : Bool). b || has us u) (bytes_eq-same u) in
    (k u here, covered_vars vs us (λ v h. k v (or_right (bytes_eq u v) (has us v) h)))

-- the variables of these accesses
abbrev pub vars_in : List NamedAccess → List (List ℕ)
vars_in accesses = flat_map (λ a. a.vars) accesses

in_back : (xs ys : List (List ℕ)) (v : List ℕ) → has ys v ≡ true → has (xs ++ ys) v ≡ true
in_back xs ys v h = list_any-append (λ w. bytes_eq w v) xs ys ∙ or_right (has xs v) (has ys v) h

not_none : {A : Type 0} (b : Bool) (x : A) (o : Option A) → cond b (Some x) o ≡ None → (b ≡ false) × (o ≡ None)
not_none true x o h = cc
not_none false x o h = (refl, h)

numbered_accesses : (tensors : List Known) (vs : List (List ℕ)) (more : List NamedAccess) → find (λ a. is_none (place_of a.tensor tensors)) more ≡ None
    → ((v : List ℕ) → has (vars_in more) v ≡ true → has vs v ≡ true) → AllByRecursion (IsNumbered tensors vs) more
numbered_accesses tensors vs [] h k = tt
numbered_accesses tensors vs (a ∷ more) h k =
    let here : (is_none (place_of a.tensor tensors) ≡ false) × (find (λ a. is_none (place_of a.tensor tensors)) more ≡ None) =
    not_none (is_none (place_of a.tensor tensors)) a (find (λ a. is_none (place_of a.tensor tensors)) more) h in
    let first : IsNumbered tensors vs a = record { known = here.0; vars = covered_vars vs a.vars (λ v t. k v (has-front a.vars (vars_in more) v t)) } in
    (first, numbered_accesses tensors vs more here.1 (λ v t. k v (in_back a.vars (vars_in more) v t)))

factors_apart : (tensors : List Known) (vs : List (List ℕ)) (gs : List NamedFactor) (rest : List NamedAccess) → AllByRecursion (IsNumbered tensors vs) (filter_map access_in gs ++ rest)
    → AllByRecursion (IsNumberedFactor tensors vs) gs × AllByRecursion (IsNumbered tensors vs) rest
factors_apart tensors vs [] rest h = (tt, h)
factors_apart tensors vs (factor.Read a ∷ gs) rest h = (let others = factors_apart tensors vs gs rest h.1 in ((h.0, others.0), others.1))
factors_apart tensors vs (factor.Literal n ∷ gs) rest h = (let others = factors_apart tensors vs gs rest h in ((tt, others.0), others.1))

terms_apart : (tensors : List Known) (vs : List (List ℕ)) (ts : List NamedTerm) → AllByRecursion (IsNumbered tensors vs) (flat_map term_accesses ts)
    → AllByRecursion (λ t. AllByRecursion (IsNumberedFactor tensors vs) t.factors) ts
terms_apart tensors vs [] h = tt
terms_apart tensors vs (t ∷ ts) h = (let parts = factors_apart tensors vs t.factors (flat_map term_accesses ts) h in (parts.0, terms_apart tensors vs ts parts.1))

-- What resolving gives ------------------------------------------------------------------------------------------------

-- these tests, and then this answer
abbrev pub after : {A : Type 0} → List (Result (Unit {0}) Cause) → Result A Cause → Result A Cause
after [] answer = answer
after (test ∷ tests) answer = test >>= λ _. after tests answer

after_ok : {A : Type 0} (tests : List (Result (Unit {0}) Cause)) (answer : Result A Cause) (y : A) → after tests answer ≡ Ok y → AllByRecursion (λ test. test ≡ Ok tt) tests × (answer ≡ Ok y)
after_ok [] answer y h = (tt, h)
after_ok {A} (test ∷ tests) answer y h =
    let here = first_ok test (λ _. after tests answer) y h in
    let others = after_ok tests answer y here.2 in
    ((here.1, others.0), others.1)

need_true : (b : Bool) (c : Cause) → need b c ≡ Ok tt → b ≡ true
need_true true c h = refl
need_true false c h = cc

none_none : (o : Option Cause) → none o ≡ Ok tt → o ≡ None
none_none None h = refl
none_none (Some c) h = cc

-- the literals are numbers, the tensors are known, and the statement is the form by numbers
record Resolves (tensors : List Known) (f : Form) (r : Resolved) : Type 0 where
  literals : has_good_literals f ≡ true
  known : unknown_tensor tensors f ≡ None
  same : record { stmt = stmt_of tensors f; variables = variables_of f } ≡ r

resolves : (tensors : List Known) (f : Form) (r : Resolved) → resolved_of tensors f ≡ Ok r → Resolves tensors f r
unfolding resolved_of
resolves tensors f r h =
    let answer : Resolved = record { stmt = stmt_of tensors f; variables = variables_of f } in
    let tests : List (Result (Unit {0}) Cause) = need (has_good_literals f) cause.BadNumber ∷ none (unknown_tensor tensors f) ∷ none (wrong_order tensors f) ∷ none (lhs_repeats f) ∷ none (output_read f)
    ∷ need (has_dense_output tensors f) (cause.OutputFormat f.lhs.tensor) ∷ none (extent_clash (occurrences tensors f) (variables_of f)) ∷ none (uneven_reduction f (variables_of f))
    ∷ need (has_few_terms f) cause.TooManyTerms ∷ need (nat_le (length (variables_of f)) 8) cause.TooManyLoops ∷ [] in
    let all = after_ok tests (Ok answer) r h in
    record {
      literals = need_true (has_good_literals f) cause.BadNumber all.0.0;
      known = none_none (unknown_tensor tensors f) all.0.1.0;
      same = same_ok answer r all.1;
    }

known_there : (tensors : List Known) (f : Form) → unknown_tensor tensors f ≡ None → AllByRecursion (IsNumbered tensors (variables_of f)) (accesses_of f)
known_there tensors f h =
    numbered_accesses tensors (variables_of f) (accesses_of f)
    (option_map-none (λ a. cause.UnknownTensor a.tensor) (find (λ a. is_none (place_of a.tensor tensors)) (accesses_of f)) h)
    (λ v t. has-distinct (vars_in (accesses_of f)) v ∙ t)

-- the literals of a form that is resolved are numbers
pub resolved_literals : (tensors : List Known) (f : Form) (r : Resolved) → resolved_of tensors f ≡ Ok r → has_good_literals f ≡ true
resolved_literals tensors f r h = (resolves tensors f r h).literals

-- the statement of a form is printed as the form
pub printed_form : (tensors : List Known) (f : Form) (r : Resolved) → resolved_of tensors f ≡ Ok r → IsGoodForm IsNumber f → stmt_text r.stmt r.variables (names_of tensors) ≡ form_text f
printed_form tensors f r h good =
    let facts : Resolves tensors f r = resolves tensors f r h in
    let all : AllByRecursion (IsNumbered tensors (variables_of f)) (accesses_of f) = known_there tensors f facts.known in
    ap (λ (x : Resolved). stmt_text x.stmt x.variables (names_of tensors)) (sym facts.same)
    ∙ ap (λ (x : Form). form_text x) (form_back tensors f all.0 (terms_apart tensors (variables_of f) f.terms all.1) good)
