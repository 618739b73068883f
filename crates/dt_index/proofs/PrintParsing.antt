-- The symbols of a form have that form.
use Rattle.std.proofs.Common.{◌≡◌, ℕ, ◌+◌, List, [], ◌∷◌, ◌++◌, length, drop, Bool, true, false, Option, Some, Ok, refl, ap, sym, ◌∙◌, arith, append-nil, append_assoc, length-append}
use Rattle.std.specs.Prelude.{find}
use Rattle.std.specs.List.{AllByRecursion, position_or_len, before_first, after_first}
use Rattle.std.proofs.lemmas.List.{take_at, drop_at}
use Rattle.dt_index.specs.Form.{access_of, factor_of, factor_parts, factors_in, form_of, is_assignment, is_minus, is_plus_equals, is_plus_or_minus, is_times, right_side_of, term_parts, terms_in, vars_behind, vars_of, SignedPart}
use Rattle.dt_index.specs.declared.form.Form.{Form}
use Rattle.dt_index.specs.declared.form.NamedAccess.{NamedAccess}
use Rattle.dt_index.specs.declared.form.NamedFactor.{NamedFactor}
use Rattle.dt_index.specs.declared.form.NamedFactor.TheVariants as factor
use Rattle.dt_index.specs.declared.form.NamedTerm.{NamedTerm}
use Rattle.dt_index.specs.declared.symbol_list.Symbol.{Symbol}
use Rattle.dt_index.specs.declared.symbol_list.Symbol.TheVariants as symbol
use Rattle.dt_index.proofs.PrintForms.{HasSome, IsGoodTerm, IsGoodForm, access_symbols, assignment_symbol, factor_symbols, factors_symbols, first_symbols, form_symbols, listed, more_factors, more_terms, sign_symbol, terms_symbols, vars_symbols}

-- Signs that don't stand in a factor ----------------------------------------------------------------------------------

-- no symbol is this sign
abbrev pub Lacks : (Symbol → Bool) → List Symbol → Type 0
Lacks p ss = AllByRecursion (λ s. p s ≡ false) ss

-- the test fails at the symbols of factors
record FailsInFactors (p : Symbol → Bool) : Type 0 where
  names : (n : List ℕ) → p (symbol.Name n) ≡ false
  numbers : (n : Option ℕ) → p (symbol.Number n) ≡ false
  open_sign : p symbol.Open ≡ false
  close_sign : p symbol.Close ≡ false
  comma : p symbol.Comma ≡ false

times_outside : FailsInFactors is_times
times_outside = record { names = λ n. refl; numbers = λ n. refl; open_sign = refl; close_sign = refl; comma = refl }

plus_outside : FailsInFactors is_plus_or_minus
plus_outside = record { names = λ n. refl; numbers = λ n. refl; open_sign = refl; close_sign = refl; comma = refl }

assignment_outside : FailsInFactors is_assignment
assignment_outside = record { names = λ n. refl; numbers = λ n. refl; open_sign = refl; close_sign = refl; comma = refl }

listed_lacks : (p : Symbol → Bool) (v : List ℕ) (vs : List (List ℕ)) → FailsInFactors p → Lacks p (listed v vs)
listed_lacks p v [] f = (f.names v, (f.close_sign, tt))
listed_lacks p v (w ∷ ws) f = (f.names v, (f.comma, listed_lacks p w ws f))

vars_lack : (p : Symbol → Bool) (vs : List (List ℕ)) → FailsInFactors p → Lacks p (vars_symbols vs)
vars_lack p [] f = tt
vars_lack p (v ∷ vs) f = (f.open_sign, listed_lacks p v vs f)

access_lacks : (p : Symbol → Bool) (a : NamedAccess) → FailsInFactors p → Lacks p (access_symbols a)
access_lacks p a f = (f.names a.tensor, vars_lack p a.vars f)

factor_lacks : (p : Symbol → Bool) (g : NamedFactor) → FailsInFactors p → Lacks p (factor_symbols g)
factor_lacks p (factor.Read a) f = access_lacks p a f
factor_lacks p (factor.Literal n) f = (f.numbers n, tt)

append_lacks : (p : Symbol → Bool) (ss others : List Symbol) → Lacks p ss → Lacks p others → Lacks p (ss ++ others)
append_lacks p [] others h k = k
append_lacks p (s ∷ ss) others h k = (h.0, append_lacks p ss others h.1 k)

more_factors_lack : (p : Symbol → Bool) (gs : List NamedFactor) → FailsInFactors p → p symbol.Times ≡ false → Lacks p (more_factors gs)
more_factors_lack p [] f t = tt
more_factors_lack p (g ∷ gs) f t = (t, append_lacks p (factor_symbols g) (more_factors gs) (factor_lacks p g f) (more_factors_lack p gs f t))

factors_lack : (p : Symbol → Bool) (gs : List NamedFactor) → FailsInFactors p → p symbol.Times ≡ false → Lacks p (factors_symbols gs)
factors_lack p [] f t = tt
factors_lack p (g ∷ gs) f t = append_lacks p (factor_symbols g) (more_factors gs) (factor_lacks p g f) (more_factors_lack p gs f t)

-- Accesses and factors ------------------------------------------------------------------------------------------------

listed_parses : (v : List ℕ) (vs : List (List ℕ)) → vars_of (listed v vs) ≡ Ok (v ∷ vs)
unfolding vars_of
listed_parses v [] = refl
listed_parses v (w ∷ ws) = rw (listed_parses w ws) refl

vars_parse : (vs : List (List ℕ)) → vars_behind (vars_symbols vs) ≡ Ok vs
unfolding vars_behind
vars_parse [] = refl
vars_parse (v ∷ vs) = listed_parses v vs

access_parses : (a : NamedAccess) → access_of (access_symbols a) ≡ Ok a
unfolding access_of
access_parses a = rw (vars_parse a.vars) refl

factor_parses : (g : NamedFactor) → factor_of (factor_symbols g) ≡ Ok g
unfolding factor_of
factor_parses (factor.Read a) = rw (access_parses a) refl
factor_parses (factor.Literal n) = refl

-- Terms ---------------------------------------------------------------------------------------------------------------

part_later : (s : Symbol) (ss front : List Symbol) (parts : List (List Symbol)) → is_times s ≡ false → factor_parts ss ≡ front ∷ parts → factor_parts (s ∷ ss) ≡ (s ∷ front) ∷ parts
part_later s ss front parts h e = rw (h, e) refl

one_part : (front : List Symbol) → Lacks is_times front → factor_parts front ≡ front ∷ []
one_part [] h = refl
one_part (s ∷ ss) h = part_later s ss ss [] h.0 (one_part ss h.1)

first_part : (front rest : List Symbol) → Lacks is_times front → factor_parts (front ++ (symbol.Times ∷ rest)) ≡ front ∷ factor_parts rest
first_part [] rest h = refl
first_part (s ∷ ss) rest h = part_later s (ss ++ (symbol.Times ∷ rest)) ss (factor_parts rest) h.0 (first_part ss rest h.1)

factors_in-nil : factors_in [] ≡ Ok []
unfolding factors_in
factors_in-nil = refl

factors_in-ok : (part : List Symbol) (parts : List (List Symbol)) (g : NamedFactor) (gs : List NamedFactor) → factor_of part ≡ Ok g → factors_in parts ≡ Ok gs → factors_in (part ∷ parts) ≡ Ok (g ∷ gs)
unfolding factors_in
factors_in-ok part parts g gs h r = rw (h, r) refl

factors_parse : (g : NamedFactor) (gs : List NamedFactor) → factors_in (factor_parts (factors_symbols (g ∷ gs))) ≡ Ok (g ∷ gs)
factors_parse g [] =
    ap (λ (ss : List Symbol). factors_in (factor_parts ss)) (append-nil (factor_symbols g)) ∙ ap (λ (ps : List (List Symbol)). factors_in ps) (one_part (factor_symbols g) (factor_lacks is_times g times_outside))
    ∙ factors_in-ok (factor_symbols g) [] g [] (factor_parses g) factors_in-nil
factors_parse g (h ∷ hs) =
    ap (λ (ps : List (List Symbol)). factors_in ps) (first_part (factor_symbols g) (factors_symbols (h ∷ hs)) (factor_lacks is_times g times_outside))
    ∙ factors_in-ok (factor_symbols g) (factor_parts (factors_symbols (h ∷ hs))) g (h ∷ hs) (factor_parses g) (factors_parse h hs)

some_factors_parse : (gs : List NamedFactor) → HasSome gs → factors_in (factor_parts (factors_symbols gs)) ≡ Ok gs
some_factors_parse [] h = absurd h
some_factors_parse (g ∷ gs) h = factors_parse g gs

signed_later : (m : Bool) (s : Symbol) (ss : List Symbol) (part : SignedPart) (parts : List SignedPart) → is_plus_or_minus s ≡ false → term_parts m ss ≡ part ∷ parts
    → term_parts m (s ∷ ss) ≡ record { minus = part.minus; symbols = s ∷ part.symbols } ∷ parts
signed_later m s ss part parts h e = rw (h, e) refl

one_signed : (m : Bool) (front : List Symbol) → Lacks is_plus_or_minus front → term_parts m front ≡ record { minus = m; symbols = front } ∷ []
one_signed m [] h = refl
one_signed m (s ∷ ss) h = signed_later m s ss (record { minus = m; symbols = ss }) [] h.0 (one_signed m ss h.1)

first_signed : (m : Bool) (front : List Symbol) (sign : Symbol) (rest : List Symbol) → Lacks is_plus_or_minus front → is_plus_or_minus sign ≡ true
    → term_parts m (front ++ (sign ∷ rest)) ≡ record { minus = m; symbols = front } ∷ term_parts (is_minus sign) rest
first_signed m [] sign rest h p = rw p refl
first_signed m (s ∷ ss) sign rest h p = signed_later m s (ss ++ (sign ∷ rest)) (record { minus = m; symbols = ss }) (term_parts (is_minus sign) rest) h.0 (first_signed m ss sign rest h.1 p)

terms_in-nil : terms_in [] ≡ Ok []
unfolding terms_in
terms_in-nil = refl

terms_in-ok : (part : SignedPart) (parts : List SignedPart) (gs : List NamedFactor) (ts : List NamedTerm) → factors_in (factor_parts part.symbols) ≡ Ok gs → terms_in parts ≡ Ok ts
    → terms_in (part ∷ parts) ≡ Ok (record { minus = part.minus; factors = gs } ∷ ts)
unfolding terms_in
terms_in-ok part parts gs ts h r = rw (h, r) refl

sign_parts : (m : Bool) → is_plus_or_minus (sign_symbol m) ≡ true
sign_parts true = refl
sign_parts false = refl

sign_means : (m : Bool) → is_minus (sign_symbol m) ≡ m
sign_means true = refl
sign_means false = refl

terms_parse : (L : Option ℕ → Type 0) (m : Bool) (gs : List NamedFactor) (ts : List NamedTerm) → HasSome gs → AllByRecursion (IsGoodTerm L) ts
    → terms_in (term_parts m (factors_symbols gs ++ more_terms ts)) ≡ Ok (record { minus = m; factors = gs } ∷ ts)
terms_parse L m gs [] h all =
    ap (λ (ss : List Symbol). terms_in (term_parts m ss)) (append-nil (factors_symbols gs)) ∙ ap (λ (ps : List SignedPart). terms_in ps) (one_signed m (factors_symbols gs) (factors_lack is_plus_or_minus gs plus_outside refl))
    ∙ terms_in-ok (record { minus = m; symbols = factors_symbols gs }) [] gs [] (some_factors_parse gs h) terms_in-nil
terms_parse L m gs (t ∷ ts) h all =
    let rest : List Symbol = factors_symbols t.factors ++ more_terms ts in
    let behind : terms_in (term_parts (is_minus (sign_symbol t.minus)) rest) ≡ Ok (t ∷ ts) =
    ap (λ (b : Bool). terms_in (term_parts b rest)) (sign_means t.minus) ∙ terms_parse L t.minus t.factors ts all.0.0 all.1 in
    ap (λ (ps : List SignedPart). terms_in ps) (first_signed m (factors_symbols gs) (sign_symbol t.minus) rest (factors_lack is_plus_or_minus gs plus_outside refl) (sign_parts t.minus))
    ∙ terms_in-ok (record { minus = m; symbols = factors_symbols gs }) (term_parts (is_minus (sign_symbol t.minus)) rest) gs (t ∷ ts) (some_factors_parse gs h) behind

-- Statements ----------------------------------------------------------------------------------------------------------

no_minus_first : (g : NamedFactor) (rest : List Symbol) → right_side_of (factor_symbols g ++ rest) ≡ terms_in (term_parts false (factor_symbols g ++ rest))
unfolding right_side_of
no_minus_first (factor.Read a) rest = refl
no_minus_first (factor.Literal n) rest = refl

minus_first : (rest : List Symbol) → right_side_of (symbol.Minus ∷ rest) ≡ terms_in (term_parts true rest)
unfolding right_side_of
minus_first rest = refl

first_term_parses : (m : Bool) (gs : List NamedFactor) (rest : List Symbol) → HasSome gs → right_side_of (first_symbols m ++ (factors_symbols gs ++ rest)) ≡ terms_in (term_parts m (factors_symbols gs ++ rest))
first_term_parses m [] rest h = absurd h
first_term_parses true (g ∷ gs) rest h = minus_first (factors_symbols (g ∷ gs) ++ rest)
first_term_parses false (g ∷ gs) rest h =
    let e : factors_symbols (g ∷ gs) ++ rest ≡ factor_symbols g ++ (more_factors gs ++ rest) = append_assoc (factor_symbols g) (more_factors gs) rest in
    ap (λ (ss : List Symbol). right_side_of ss) e ∙ no_minus_first g (more_factors gs ++ rest) ∙ ap (λ (ss : List Symbol). terms_in (term_parts false ss)) (sym e)

right_side_parses : (L : Option ℕ → Type 0) (ts : List NamedTerm) → HasSome ts → AllByRecursion (IsGoodTerm L) ts → right_side_of (terms_symbols ts) ≡ Ok ts
right_side_parses L [] h all = absurd h
right_side_parses L (t ∷ ts) h all = first_term_parses t.minus t.factors (more_terms ts) all.0.0 ∙ terms_parse L t.minus t.factors ts all.0.0 all.1

place_behind : (p : Symbol → Bool) (front rest : List Symbol) (s : Symbol) → Lacks p front → p s ≡ true → position_or_len p (front ++ (s ∷ rest)) ≡ length front
place_behind p [] rest s h k = rw k refl
place_behind p (x ∷ xs) rest s h k = rw (h.0, place_behind p xs rest s h.1 k) (omega arith)

find_behind : (p : Symbol → Bool) (front rest : List Symbol) (s : Symbol) → Lacks p front → p s ≡ true → find p (front ++ (s ∷ rest)) ≡ Some s
find_behind p [] rest s h k = rw k refl
find_behind p (x ∷ xs) rest s h k = rw h.0 (find_behind p xs rest s h.1 k)

before_behind : (p : Symbol → Bool) (front rest : List Symbol) (s : Symbol) → Lacks p front → p s ≡ true → before_first p (front ++ (s ∷ rest)) ≡ front
before_behind p front rest s h k = take_at front (s ∷ rest) (position_or_len p (front ++ (s ∷ rest))) (sym (place_behind p front rest s h k))

after_behind : (p : Symbol → Bool) (front rest : List Symbol) (s : Symbol) → Lacks p front → p s ≡ true → after_first p (front ++ (s ∷ rest)) ≡ rest
after_behind p front rest s h k =
    let e : length (front ++ (s ∷ [])) ≡ position_or_len p (front ++ (s ∷ rest)) + 1 = length-append front (s ∷ []) ∙ ap (λ (n : ℕ). n + 1) (sym (place_behind p front rest s h k)) in
    ap (λ (ss : List Symbol). drop (position_or_len p (front ++ (s ∷ rest)) + 1) ss) (sym (append_assoc front (s ∷ []) rest)) ∙ drop_at (front ++ (s ∷ [])) rest (position_or_len p (front ++ (s ∷ rest)) + 1) e

assignment_assigns : (adds : Bool) → is_assignment (assignment_symbol adds) ≡ true
assignment_assigns true = refl
assignment_assigns false = refl

assignment_adds : (adds : Bool) → is_plus_equals (assignment_symbol adds) ≡ adds
assignment_adds true = refl
assignment_adds false = refl

form_from : (symbols left right : List Symbol) (sign : Symbol) (a : NamedAccess) (ts : List NamedTerm) (adds : Bool) → find is_assignment symbols ≡ Some sign → before_first is_assignment symbols ≡ left
    → after_first is_assignment symbols ≡ right → access_of left ≡ Ok a → right_side_of right ≡ Ok ts → is_plus_equals sign ≡ adds → form_of symbols ≡ Ok (record { lhs = a; adds = adds; terms = ts })
unfolding form_of
form_from symbols left right sign a ts adds f b e l r p = rw (f, b, e, l, r, p) refl

-- the symbols of a form with terms are read as the form
pub form_parses : (L : Option ℕ → Type 0) (f : Form) → IsGoodForm L f → form_of (form_symbols f) ≡ Ok f
form_parses L f g =
    let sign : Symbol = assignment_symbol f.adds in
    let assigns : is_assignment sign ≡ true = assignment_assigns f.adds in
    let front : Lacks is_assignment (access_symbols f.lhs) = access_lacks is_assignment f.lhs assignment_outside in
    form_from (form_symbols f) (access_symbols f.lhs) (terms_symbols f.terms) sign f.lhs f.terms f.adds (find_behind is_assignment (access_symbols f.lhs) (terms_symbols f.terms) sign front assigns)
    (before_behind is_assignment (access_symbols f.lhs) (terms_symbols f.terms) sign front assigns) (after_behind is_assignment (access_symbols f.lhs) (terms_symbols f.terms) sign front assigns)
    (access_parses f.lhs) (right_side_parses L f.terms g.some g.terms) (assignment_adds f.adds)
