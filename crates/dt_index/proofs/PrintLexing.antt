-- A printed form is read as its symbols.
use Rattle.std.proofs.Common.{◌≡◌, ℕ, List, [], ◌∷◌, ◌++◌, Bool, true, false, Option, Some, None, codes, refl, ap, sym, ◌∙◌, subst, append_assoc, append-nil}
use Rattle.std.specs.List.{AllByRecursion, flat_map, join_by}
use Rattle.dt_index.specs.Symbols.{starts_word}
use Rattle.dt_index.specs.Printed.{access_text, assignment_text, factor_text, first_sign, form_text, literal_text, next_sign, term_text, terms_text, vars_text}
use Rattle.dt_index.specs.declared.form.Form.{Form}
use Rattle.dt_index.specs.declared.form.NamedAccess.{NamedAccess}
use Rattle.dt_index.specs.declared.form.NamedFactor.{NamedFactor}
use Rattle.dt_index.specs.declared.form.NamedFactor.TheVariants as factor
use Rattle.dt_index.specs.declared.form.NamedTerm.{NamedTerm}
use Rattle.dt_index.specs.declared.symbol_list.Symbol.{Symbol}
use Rattle.dt_index.specs.declared.symbol_list.Symbol.TheVariants as symbol
use Rattle.dt_index.proofs.PrintForms.{IsName, IsNumber, IsGoodAccess, IsGoodFactor, IsGoodTerm, IsGoodForm, access_symbols, assignment_symbol, factor_symbols, factors_symbols, first_symbols, form_symbols, listed, more_factors, more_terms, sign_symbol, terms_symbols, vars_symbols}
use Rattle.dt_index.proofs.PrintPieces.{Reads, nothing_reads, open_reads, close_reads, comma_reads, times_reads, plus_reads, minus_reads, equals_reads, plus_equals_reads, name_reads, number_reads}

-- the same text, grouped otherwise, has the same symbols
regrouped : (text other : List ℕ) (ss : List Symbol) → text ≡ other → Reads other ss → Reads text ss
regrouped text other ss e r = subst (λ (t : List ℕ). Reads t ss) (sym e) r

-- the same symbols, grouped otherwise
resorted : (text : List ℕ) (ss others : List Symbol) → ss ≡ others → Reads text others → Reads text ss
resorted text ss others e r = subst (λ (s : List Symbol). Reads text s) (sym e) r

-- Accesses ------------------------------------------------------------------------------------------------------------

-- variables behind the first one
abbrev pub more_vars : List (List ℕ) → List ℕ
more_vars vs = flat_map (λ w. codes "," ++ w) vs

listed_reads : (v : List ℕ) (vs : List (List ℕ)) (rest : List ℕ) (ss : List Symbol) → IsName v → AllByRecursion IsName vs → Reads rest ss → Reads (v ++ (more_vars vs ++ (41 ∷ rest))) (listed v vs ++ ss)
listed_reads v [] rest ss h all r = name_reads v (41 ∷ rest) (symbol.Close ∷ ss) h refl (close_reads rest ss r)
listed_reads v (w ∷ ws) rest ss h all r =
    let behind : Reads ((w ++ more_vars ws) ++ (41 ∷ rest)) (listed w ws ++ ss) =
    regrouped ((w ++ more_vars ws) ++ (41 ∷ rest)) (w ++ (more_vars ws ++ (41 ∷ rest))) (listed w ws ++ ss) (append_assoc w (more_vars ws) (41 ∷ rest)) (listed_reads w ws rest ss all.0 all.1 r) in
    name_reads v (44 ∷ ((w ++ more_vars ws) ++ (41 ∷ rest))) (symbol.Comma ∷ (listed w ws ++ ss)) h refl (comma_reads ((w ++ more_vars ws) ++ (41 ∷ rest)) (listed w ws ++ ss) behind)

vars_grouped : (t v m rest : List ℕ) → (t ++ (40 ∷ ((v ++ m) ++ (41 ∷ [])))) ++ rest ≡ t ++ (40 ∷ (v ++ (m ++ (41 ∷ rest))))
vars_grouped t v m rest = simp append_assoc

named_reads : (t : List ℕ) (vs : List (List ℕ)) (rest : List ℕ) (ss : List Symbol) → IsName t → AllByRecursion IsName vs → starts_word rest ≡ false → Reads rest ss
    → Reads ((t ++ vars_text vs) ++ rest) (symbol.Name t ∷ (vars_symbols vs ++ ss))
named_reads t [] rest ss h all s r = regrouped ((t ++ []) ++ rest) (t ++ rest) (symbol.Name t ∷ ss) (ap (λ (x : List ℕ). x ++ rest) (append-nil t)) (name_reads t rest ss h s r)
named_reads t (v ∷ vs) rest ss h all s r =
    let inner : Reads (v ++ (more_vars vs ++ (41 ∷ rest))) (listed v vs ++ ss) = listed_reads v vs rest ss all.0 all.1 r in
    regrouped ((t ++ vars_text (v ∷ vs)) ++ rest) (t ++ (40 ∷ (v ++ (more_vars vs ++ (41 ∷ rest))))) (symbol.Name t ∷ symbol.Open ∷ (listed v vs ++ ss)) (vars_grouped t v (more_vars vs) rest)
    (name_reads t (40 ∷ (v ++ (more_vars vs ++ (41 ∷ rest)))) (symbol.Open ∷ (listed v vs ++ ss)) h refl (open_reads (v ++ (more_vars vs ++ (41 ∷ rest))) (listed v vs ++ ss) inner))

access_reads : (a : NamedAccess) (rest : List ℕ) (ss : List Symbol) → IsGoodAccess a → starts_word rest ≡ false → Reads rest ss → Reads (access_text a ++ rest) (access_symbols a ++ ss)
access_reads a rest ss g s r = named_reads a.tensor a.vars rest ss g.0 g.1 s r

-- Factors -------------------------------------------------------------------------------------------------------------

literal_reads : (n : Option ℕ) (rest : List ℕ) (ss : List Symbol) → IsNumber n → starts_word rest ≡ false → Reads rest ss → Reads (literal_text n ++ rest) (symbol.Number n ∷ ss)
literal_reads None rest ss g s r = absurd g
literal_reads (Some n) rest ss g s r = number_reads n rest ss g s r

factor_reads : (g : NamedFactor) (rest : List ℕ) (ss : List Symbol) → IsGoodFactor IsNumber g → starts_word rest ≡ false → Reads rest ss → Reads (factor_text g ++ rest) (factor_symbols g ++ ss)
factor_reads (factor.Read a) rest ss g s r = access_reads a rest ss g s r
factor_reads (factor.Literal n) rest ss g s r = literal_reads n rest ss g s r

-- factors behind the first one
abbrev pub factors_behind : List NamedFactor → List ℕ
factors_behind gs = flat_map (λ g. codes " * " ++ factor_text g) gs

factors_stop_words : (gs : List NamedFactor) (rest : List ℕ) → starts_word rest ≡ false → starts_word (factors_behind gs ++ rest) ≡ false
factors_stop_words [] rest s = s
factors_stop_words (g ∷ gs) rest s = refl

more_factors_read : (gs : List NamedFactor) (rest : List ℕ) (ss : List Symbol) → AllByRecursion (IsGoodFactor IsNumber) gs → starts_word rest ≡ false → Reads rest ss
    → Reads (factors_behind gs ++ rest) (more_factors gs ++ ss)
more_factors_read [] rest ss all s r = r
more_factors_read (g ∷ gs) rest ss all s r =
    let behind : Reads (factor_text g ++ (factors_behind gs ++ rest)) (factor_symbols g ++ (more_factors gs ++ ss)) =
    factor_reads g (factors_behind gs ++ rest) (more_factors gs ++ ss) all.0 (factors_stop_words gs rest s) (more_factors_read gs rest ss all.1 s r) in
    let grouped : Reads ((factor_text g ++ factors_behind gs) ++ rest) ((factor_symbols g ++ more_factors gs) ++ ss) =
    resorted ((factor_text g ++ factors_behind gs) ++ rest) ((factor_symbols g ++ more_factors gs) ++ ss) (factor_symbols g ++ (more_factors gs ++ ss)) (append_assoc (factor_symbols g) (more_factors gs) ss)
    (regrouped ((factor_text g ++ factors_behind gs) ++ rest) (factor_text g ++ (factors_behind gs ++ rest)) (factor_symbols g ++ (more_factors gs ++ ss)) (append_assoc (factor_text g) (factors_behind gs) rest) behind) in
    times_reads ((factor_text g ++ factors_behind gs) ++ rest) ((factor_symbols g ++ more_factors gs) ++ ss) grouped

-- factors, joined
abbrev pub factors_text : List NamedFactor → List ℕ
factors_text gs = join_by factor_text (codes " * ") gs

factors_read : (gs : List NamedFactor) (rest : List ℕ) (ss : List Symbol) → AllByRecursion (IsGoodFactor IsNumber) gs → starts_word rest ≡ false → Reads rest ss
    → Reads (factors_text gs ++ rest) (factors_symbols gs ++ ss)
factors_read [] rest ss all s r = r
factors_read (g ∷ gs) rest ss all s r =
    let behind : Reads (factor_text g ++ (factors_behind gs ++ rest)) (factor_symbols g ++ (more_factors gs ++ ss)) =
    factor_reads g (factors_behind gs ++ rest) (more_factors gs ++ ss) all.0 (factors_stop_words gs rest s) (more_factors_read gs rest ss all.1 s r) in
    resorted ((factor_text g ++ factors_behind gs) ++ rest) ((factor_symbols g ++ more_factors gs) ++ ss) (factor_symbols g ++ (more_factors gs ++ ss)) (append_assoc (factor_symbols g) (more_factors gs) ss)
    (regrouped ((factor_text g ++ factors_behind gs) ++ rest) (factor_text g ++ (factors_behind gs ++ rest)) (factor_symbols g ++ (more_factors gs ++ ss)) (append_assoc (factor_text g) (factors_behind gs) rest) behind)

-- Terms ---------------------------------------------------------------------------------------------------------------

next_sign_reads : (minus : Bool) (rest : List ℕ) (ss : List Symbol) → Reads rest ss → Reads (next_sign minus ++ rest) (sign_symbol minus ∷ ss)
next_sign_reads true rest ss r = minus_reads rest ss r
next_sign_reads false rest ss r = plus_reads rest ss r

first_sign_reads : (minus : Bool) (rest : List ℕ) (ss : List Symbol) → Reads rest ss → Reads (first_sign minus ++ rest) (first_symbols minus ++ ss)
first_sign_reads true rest ss r = minus_reads rest ss r
first_sign_reads false rest ss r = r

-- terms behind the first one
abbrev pub terms_behind : List NamedTerm → List ℕ
terms_behind ts = flat_map (λ u. next_sign u.minus ++ term_text u) ts

sign_stops_words : (minus : Bool) (rest : List ℕ) → starts_word (next_sign minus ++ rest) ≡ false
sign_stops_words true rest = refl
sign_stops_words false rest = refl

no_word_behind : (ts : List NamedTerm) → starts_word (terms_behind ts) ≡ false
no_word_behind [] = refl
no_word_behind (t ∷ ts) =
    ap (λ (x : List ℕ). starts_word x) (append_assoc (next_sign t.minus) (term_text t) (terms_behind ts)) ∙ sign_stops_words t.minus (term_text t ++ terms_behind ts)

more_terms_read : (ts : List NamedTerm) → AllByRecursion (IsGoodTerm IsNumber) ts → Reads (terms_behind ts) (more_terms ts)
more_terms_read [] all = nothing_reads
more_terms_read (t ∷ ts) all =
    let behind : Reads (term_text t ++ terms_behind ts) (factors_symbols t.factors ++ more_terms ts) =
    factors_read t.factors (terms_behind ts) (more_terms ts) all.0.1 (no_word_behind ts) (more_terms_read ts all.1) in
    regrouped ((next_sign t.minus ++ term_text t) ++ terms_behind ts) (next_sign t.minus ++ (term_text t ++ terms_behind ts)) (sign_symbol t.minus ∷ (factors_symbols t.factors ++ more_terms ts))
    (append_assoc (next_sign t.minus) (term_text t) (terms_behind ts)) (next_sign_reads t.minus (term_text t ++ terms_behind ts) (factors_symbols t.factors ++ more_terms ts) behind)

terms_read : (ts : List NamedTerm) → AllByRecursion (IsGoodTerm IsNumber) ts → Reads (terms_text ts) (terms_symbols ts)
terms_read [] all = nothing_reads
terms_read (t ∷ ts) all =
    let behind : Reads (term_text t ++ terms_behind ts) (factors_symbols t.factors ++ more_terms ts) =
    factors_read t.factors (terms_behind ts) (more_terms ts) all.0.1 (no_word_behind ts) (more_terms_read ts all.1) in
    regrouped ((first_sign t.minus ++ term_text t) ++ terms_behind ts) (first_sign t.minus ++ (term_text t ++ terms_behind ts)) (first_symbols t.minus ++ (factors_symbols t.factors ++ more_terms ts))
    (append_assoc (first_sign t.minus) (term_text t) (terms_behind ts)) (first_sign_reads t.minus (term_text t ++ terms_behind ts) (factors_symbols t.factors ++ more_terms ts) behind)

-- Statements ----------------------------------------------------------------------------------------------------------

assignment_reads : (adds : Bool) (rest : List ℕ) (ss : List Symbol) → Reads rest ss → Reads (assignment_text adds ++ rest) (assignment_symbol adds ∷ ss)
assignment_reads true rest ss r = plus_equals_reads rest ss r
assignment_reads false rest ss r = equals_reads rest ss r

assignment_stops_words : (adds : Bool) (rest : List ℕ) → starts_word (assignment_text adds ++ rest) ≡ false
assignment_stops_words true rest = refl
assignment_stops_words false rest = refl

-- the text of a form has the form's symbols
pub form_reads : (f : Form) → IsGoodForm IsNumber f → Reads (form_text f) (form_symbols f)
form_reads f g =
    let behind : Reads (assignment_text f.adds ++ terms_text f.terms) (assignment_symbol f.adds ∷ terms_symbols f.terms) =
    assignment_reads f.adds (terms_text f.terms) (terms_symbols f.terms) (terms_read f.terms g.terms) in
    regrouped ((access_text f.lhs ++ assignment_text f.adds) ++ terms_text f.terms) (access_text f.lhs ++ (assignment_text f.adds ++ terms_text f.terms)) (form_symbols f)
    (append_assoc (access_text f.lhs) (assignment_text f.adds) (terms_text f.terms))
    (access_reads f.lhs (assignment_text f.adds ++ terms_text f.terms) (assignment_symbol f.adds ∷ terms_symbols f.terms) g.lhs (assignment_stops_words f.adds (terms_text f.terms)) behind)
