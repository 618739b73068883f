-- What a text is read as can be printed.
use Rattle.std.proofs.Common.{◌≡◌, ℕ, zero, suc, ◌+◌, ◌<◌, ◌^◌, List, [], ◌∷◌, length, take, drop, Bool, true, false, cond, ◌&&◌, ◌==◌, nat_le, nat_lt, Option, Some, None, Result, Ok, Err, refl, subst, is_none, if◌then◌else◌}
use Rattle.std.specs.Prelude.{find}
use Rattle.std.specs.List.{AllByRecursion, list_all, list_any, position_or_len, before_first, after_first}
use Rattle.std.proofs.lemmas.Bool.{and_parts, or_parts, ltb-true, not-true}
use Rattle.dt_text.specs.Names.{is_name}
use Rattle.dt_text.specs.Numbers.{digits_value, is_digit, is_numeral, number_of}
use Rattle.dt_model.specs.declared.cause.Cause.{Cause}
use Rattle.dt_model.specs.declared.cause.Cause.TheVariants as cause
use Rattle.dt_model.specs.Steps.{◌>>=◌, found, need}
use Rattle.dt_model.proofs.StepFacts.{GivesSame, first_ok, same_ok}
use Rattle.dt_index.specs.Form.{access_of, factor_of, factor_parts, factors_in, form_of, is_assignment, is_close, is_comma, is_minus, is_open, is_plus_equals, is_plus_or_minus, is_times, name_of, onto_first_part, onto_first_signed, right_side_of, term_parts, terms_in, vars_behind, vars_of, SignedPart}
use Rattle.dt_index.specs.Resolve.{has_good_literals, is_bad_literal}
use Rattle.dt_index.specs.Symbols.{pieces_of, sign_of, symbol_of, symbols_from, symbols_of}
use Rattle.dt_index.specs.declared.form.Form.{Form}
use Rattle.dt_index.specs.declared.form.NamedAccess.{NamedAccess}
use Rattle.dt_index.specs.declared.form.NamedFactor.{NamedFactor}
use Rattle.dt_index.specs.declared.form.NamedFactor.TheVariants as factor
use Rattle.dt_index.specs.declared.form.NamedTerm.{NamedTerm}
use Rattle.dt_index.specs.declared.symbol_list.Symbol.{Symbol}
use Rattle.dt_index.specs.declared.symbol_list.Symbol.TheVariants as symbol
use Rattle.dt_index.proofs.PrintForms.{HasSome, IsName, IsNumber, IsSmallNumber, IsGoodAccess, IsGoodFactor, IsGoodTerm, IsGoodForm, access_with, form_with, term_with}

found_some : {A : Type 0} (o : Option A) (c : Cause) (x : A) → found o c ≡ Ok x → o ≡ Some x
found_some None c x h = cc
found_some (Some y) c x h = cc

-- Symbols -------------------------------------------------------------------------------------------------------------

-- the symbol is a name, a number below 2 ^ 64 or one that is none, or a sign
abbrev pub IsGoodSymbol : Symbol → Type 0
IsGoodSymbol (symbol.Name n) = IsName n
IsGoodSymbol (symbol.Number n) = IsSmallNumber n
IsGoodSymbol _ = Unit {0}

-- all symbols are such
abbrev pub AreGood : List Symbol → Type 0
AreGood ss = AllByRecursion IsGoodSymbol ss

good_same : (t s : Symbol) → Some t ≡ Some s → IsGoodSymbol t → IsGoodSymbol s
good_same t s e g = (let same : t ≡ s = cc in subst (λ (x : Symbol). IsGoodSymbol x) same g)

choice : (b : Bool) (t s : Symbol) (o : Option Symbol) → IsGoodSymbol t → (o ≡ Some s → IsGoodSymbol s) → cond b (Some t) o ≡ Some s → IsGoodSymbol s
choice true t s o g k h = good_same t s h g
choice false t s o g k h = k h

no_symbol : (s : Symbol) → None ≡ Some s → IsGoodSymbol s
no_symbol s h = cc

sign_good : (piece : List ℕ) (s : Symbol) → sign_of piece ≡ Some s → IsGoodSymbol s
sign_good [] s h = cc
sign_good (b ∷ []) s h =
    choice (b == 40) symbol.Open s _ tt (choice (b == 41) symbol.Close s _ tt (choice (b == 44) symbol.Comma s _ tt (choice (b == 42) symbol.Times s _ tt
    (choice (b == 43) symbol.Plus s _ tt (choice (b == 45) symbol.Minus s _ tt (choice (b == 61) symbol.Equals s None tt (no_symbol s))))))) h
sign_good (b ∷ c ∷ []) s h = choice (b == 43 && c == 61) symbol.PlusEquals s None tt (no_symbol s) h
sign_good (b ∷ c ∷ d ∷ ds) s h = cc

small_by : (b : Bool) (n : ℕ) → (b ≡ true → n < 2 ^ 64) → IsSmallNumber (cond b (Some n) None)
small_by true n k = k refl
small_by false n k = tt

number_small : (ds : List ℕ) → IsSmallNumber (number_of ds)
number_small ds =
    small_by (nat_le 1 (length ds) && nat_le (length ds) 20 && list_all is_digit ds && nat_lt (digits_value ds) (2 ^ 64)) (digits_value ds)
    (λ h. ltb-true (digits_value ds) (2 ^ 64) (and_parts (nat_le 1 (length ds) && nat_le (length ds) 20 && list_all is_digit ds) (nat_lt (digits_value ds) (2 ^ 64)) h).1)

symbol_good_by : (b c : Bool) (piece : List ℕ) (s : Symbol) → is_name piece ≡ b → cond b (Some (symbol.Name piece)) (cond c (Some (symbol.Number (number_of piece))) (sign_of piece)) ≡ Some s → IsGoodSymbol s
symbol_good_by true c piece s e h = good_same (symbol.Name piece) s h e
symbol_good_by false true piece s e h = good_same (symbol.Number (number_of piece)) s h (number_small piece)
symbol_good_by false false piece s e h = sign_good piece s h

symbol_good : (piece : List ℕ) (s : Symbol) → symbol_of piece ≡ Some s → IsGoodSymbol s
symbol_good piece s h = symbol_good_by (is_name piece) (is_numeral piece) piece s refl h

symbols_good : (pieces : List (List ℕ)) (ss : List Symbol) → symbols_from pieces ≡ Ok ss → AreGood ss
unfolding symbols_from
symbols_good [] ss h = (let e : [] ≡ ss = same_ok [] ss h in subst (λ (x : List Symbol). AreGood x) e tt)
symbols_good (piece ∷ pieces) ss h =
    let first : (s : Symbol) × (found (symbol_of piece) cause.Syntax ≡ Ok s) × ((symbols_from pieces >>= λ rest. Ok (s ∷ rest)) ≡ Ok ss) =
    first_ok (found (symbol_of piece) cause.Syntax) (λ s. symbols_from pieces >>= λ rest. Ok (s ∷ rest)) ss h in
    let behind : (rest : List Symbol) × (symbols_from pieces ≡ Ok rest) × GivesSame (first.0 ∷ rest) ss = first_ok (symbols_from pieces) (λ rest. Ok (first.0 ∷ rest)) ss first.2 in
    let e : first.0 ∷ behind.0 ≡ ss = same_ok (first.0 ∷ behind.0) ss behind.2 in
    subst (λ (x : List Symbol). AreGood x) e (symbol_good piece first.0 (found_some (symbol_of piece) cause.Syntax first.0 first.1), symbols_good pieces behind.0 behind.1)

-- the symbols of a text are names, numbers and signs
pub text_good : (text : List ℕ) (ss : List Symbol) → symbols_of text ≡ Ok ss → AreGood ss
text_good text ss h = symbols_good (pieces_of text) ss h

-- Parts ---------------------------------------------------------------------------------------------------------------

take_good : (n : ℕ) (ss : List Symbol) → AreGood ss → AreGood (take n ss)
take_good zero ss g = tt
take_good (suc n) [] g = tt
take_good (suc n) (s ∷ ss) g = (g.0, take_good n ss g.1)

drop_good : (n : ℕ) (ss : List Symbol) → AreGood ss → AreGood (drop n ss)
drop_good zero ss g = g
drop_good (suc n) [] g = tt
drop_good (suc n) (s ∷ ss) g = drop_good n ss g.1

onto_good : (s : Symbol) (parts : List (List Symbol)) → IsGoodSymbol s → AllByRecursion AreGood parts → AllByRecursion AreGood (onto_first_part s parts)
onto_good s [] g h = ((g, tt), tt)
onto_good s (part ∷ parts) g h = ((g, h.0), h.1)

part_step : (b : Bool) (s : Symbol) (parts : List (List Symbol)) → IsGoodSymbol s → AllByRecursion AreGood parts → AllByRecursion AreGood (cond b ([] ∷ parts) (onto_first_part s parts))
part_step true s parts g h = (tt, h)
part_step false s parts g h = onto_good s parts g h

parts_good : (ss : List Symbol) → AreGood ss → AllByRecursion AreGood (factor_parts ss)
parts_good [] g = (tt, tt)
parts_good (s ∷ ss) g = part_step (is_times s) s (factor_parts ss) g.0 (parts_good ss g.1)

onto_some : (s : Symbol) (parts : List (List Symbol)) → HasSome (onto_first_part s parts)
onto_some s [] = tt
onto_some s (part ∷ parts) = tt

some_step : (b : Bool) (s : Symbol) (parts : List (List Symbol)) → HasSome (cond b ([] ∷ parts) (onto_first_part s parts))
some_step true s parts = tt
some_step false s parts = onto_some s parts

parts_some : (ss : List Symbol) → HasSome (factor_parts ss)
parts_some [] = tt
parts_some (s ∷ ss) = some_step (is_times s) s (factor_parts ss)

-- the parts of a right side have good symbols
abbrev pub AreGoodParts : List SignedPart → Type 0
AreGoodParts parts = AllByRecursion (λ p. AreGood p.symbols) parts

onto_signed_good : (s : Symbol) (parts : List SignedPart) → IsGoodSymbol s → AreGoodParts parts → AreGoodParts (onto_first_signed s parts)
onto_signed_good s [] g h = tt
onto_signed_good s (part ∷ parts) g h = ((g, h.0), h.1)

signed_step : (b m : Bool) (s : Symbol) (next parts : List SignedPart) → IsGoodSymbol s → AreGoodParts next → AreGoodParts parts → AreGoodParts (cond b (record { minus = m; symbols = [] } ∷ next) (onto_first_signed s parts))
signed_step true m s next parts g k h = (tt, k)
signed_step false m s next parts g k h = onto_signed_good s parts g h

signed_good : (m : Bool) (ss : List Symbol) → AreGood ss → AreGoodParts (term_parts m ss)
signed_good m [] g = (tt, tt)
signed_good m (s ∷ ss) g = signed_step (is_plus_or_minus s) m s (term_parts (is_minus s) ss) (term_parts m ss) g.0 (signed_good (is_minus s) ss g.1) (signed_good m ss g.1)

onto_signed_some : (s : Symbol) (parts : List SignedPart) → HasSome parts → HasSome (onto_first_signed s parts)
onto_signed_some s [] h = absurd h
onto_signed_some s (part ∷ parts) h = tt

signed_some_step : (b m : Bool) (s : Symbol) (next parts : List SignedPart) → HasSome parts → HasSome (cond b (record { minus = m; symbols = [] } ∷ next) (onto_first_signed s parts))
signed_some_step true m s next parts h = tt
signed_some_step false m s next parts h = onto_signed_some s parts h

signed_some : (m : Bool) (ss : List Symbol) → HasSome (term_parts m ss)
signed_some m [] = tt
signed_some m (s ∷ ss) = signed_some_step (is_plus_or_minus s) m s (term_parts (is_minus s) ss) (term_parts m ss) (signed_some m ss)

-- Accesses ------------------------------------------------------------------------------------------------------------

name_good : (s : Symbol) (n : List ℕ) → name_of s ≡ Some n → IsGoodSymbol s → IsName n
name_good (symbol.Name m) n h g = (let e : m ≡ n = cc in subst (λ (x : List ℕ). IsName x) e g)
name_good s n h g = cc

vars_step : (b c : Bool) (v : List ℕ) (rest : List Symbol) (vs : List (List ℕ)) → IsName v → ((ws : List (List ℕ)) → vars_of rest ≡ Ok ws → AllByRecursion IsName ws)
    → cond b (vars_of rest >>= λ ws. Ok (v ∷ ws)) (need c cause.Syntax >>= λ _. Ok (v ∷ [])) ≡ Ok vs → AllByRecursion IsName vs
vars_step true c v rest vs g k h =
    let more : (ws : List (List ℕ)) × (vars_of rest ≡ Ok ws) × GivesSame (v ∷ ws) vs = first_ok (vars_of rest) (λ ws. Ok (v ∷ ws)) vs h in
    subst (λ (x : List (List ℕ)). AllByRecursion IsName x) (same_ok (v ∷ more.0) vs more.2) (g, k more.0 more.1)
vars_step false c v rest vs g k h =
    let last : (u : Unit {0}) × (need c cause.Syntax ≡ Ok u) × GivesSame (v ∷ []) vs = first_ok (need c cause.Syntax) (λ _. Ok (v ∷ [])) vs h in
    subst (λ (x : List (List ℕ)). AllByRecursion IsName x) (same_ok (v ∷ []) vs last.2) (g, tt)

vars_good : (ss : List Symbol) (vs : List (List ℕ)) → vars_of ss ≡ Ok vs → AreGood ss → AllByRecursion IsName vs
unfolding vars_of
vars_good [] vs h g = cc
vars_good (s ∷ []) vs h g = cc
vars_good (s ∷ sign ∷ rest) vs h g =
    let rest_of : List ℕ → Result (List (List ℕ)) Cause = λ v. if is_comma sign then (vars_of rest >>= λ ws. Ok (v ∷ ws)) else (need (is_close sign && length rest == 0) cause.Syntax >>= λ _. Ok (v ∷ [])) in
    let first : (v : List ℕ) × (found (name_of s) cause.Syntax ≡ Ok v) × (rest_of v ≡ Ok vs) = first_ok (found (name_of s) cause.Syntax) rest_of vs h in
    vars_step (is_comma sign) (is_close sign && length rest == 0) first.0 rest vs (name_good s first.0 (found_some (name_of s) cause.Syntax first.0 first.1) g.0) (λ ws e. vars_good rest ws e g.1.1) first.2

behind_good : (ss : List Symbol) (vs : List (List ℕ)) → vars_behind ss ≡ Ok vs → AreGood ss → AllByRecursion IsName vs
unfolding vars_behind
behind_good [] vs h g = subst (λ (x : List (List ℕ)). AllByRecursion IsName x) (same_ok [] vs h) tt
behind_good (s ∷ rest) vs h g =
    let opened : (u : Unit {0}) × (need (is_open s) cause.Syntax ≡ Ok u) × (vars_of rest ≡ Ok vs) = first_ok (need (is_open s) cause.Syntax) (λ _. vars_of rest) vs h in
    vars_good rest vs opened.2 g.1

access_good : (ss : List Symbol) (a : NamedAccess) → access_of ss ≡ Ok a → AreGood ss → IsGoodAccess a
unfolding access_of
access_good [] a h g = cc
access_good (s ∷ rest) a h g =
    let first : (t : List ℕ) × (found (name_of s) cause.Syntax ≡ Ok t) × ((vars_behind rest >>= λ vs. Ok (access_with t vs)) ≡ Ok a) =
    first_ok (found (name_of s) cause.Syntax) (λ t. vars_behind rest >>= λ vs. Ok (access_with t vs)) a h in
    let vars : (vs : List (List ℕ)) × (vars_behind rest ≡ Ok vs) × GivesSame (access_with first.0 vs) a = first_ok (vars_behind rest) (λ vs. Ok (access_with first.0 vs)) a first.2 in
    subst (λ (x : NamedAccess). IsGoodAccess x) (same_ok (access_with first.0 vars.0) a vars.2)
    (name_good s first.0 (found_some (name_of s) cause.Syntax first.0 first.1) g.0, behind_good rest vars.0 vars.1 g.1)

-- Factors -------------------------------------------------------------------------------------------------------------

read_good : (ss : List Symbol) (g : NamedFactor) → (access_of ss >>= λ a. Ok (factor.Read a)) ≡ Ok g → AreGood ss → IsGoodFactor IsSmallNumber g
read_good ss g h good =
    let read : (a : NamedAccess) × (access_of ss ≡ Ok a) × GivesSame (factor.Read a) g = first_ok (access_of ss) (λ a. Ok (factor.Read a)) g h in
    subst (λ (x : NamedFactor). IsGoodFactor IsSmallNumber x) (same_ok (factor.Read read.0) g read.2) (access_good ss read.0 read.1 good)

factor_good : (ss : List Symbol) (g : NamedFactor) → factor_of ss ≡ Ok g → AreGood ss → IsGoodFactor IsSmallNumber g
unfolding factor_of
factor_good (symbol.Number n ∷ []) g h good = subst (λ (x : NamedFactor). IsGoodFactor IsSmallNumber x) (same_ok (factor.Literal n) g h) good.0
factor_good ss g h good = read_good ss g h good

factors_apart : (part : List Symbol) (parts : List (List Symbol)) (gs : List NamedFactor) → factors_in (part ∷ parts) ≡ Ok gs
    → (g : NamedFactor) × (factor_of part ≡ Ok g) × ((rest : List NamedFactor) × (factors_in parts ≡ Ok rest) × (g ∷ rest ≡ gs))
unfolding factors_in
factors_apart part parts gs h =
    let first : (g : NamedFactor) × (factor_of part ≡ Ok g) × ((factors_in parts >>= λ rest. Ok (g ∷ rest)) ≡ Ok gs) = first_ok (factor_of part) (λ g. factors_in parts >>= λ rest. Ok (g ∷ rest)) gs h in
    let behind : (rest : List NamedFactor) × (factors_in parts ≡ Ok rest) × GivesSame (first.0 ∷ rest) gs = first_ok (factors_in parts) (λ rest. Ok (first.0 ∷ rest)) gs first.2 in
    (first.0, first.1, (behind.0, behind.1, same_ok (first.0 ∷ behind.0) gs behind.2))

no_factors : (gs : List NamedFactor) → factors_in [] ≡ Ok gs → [] ≡ gs
unfolding factors_in
no_factors gs h = same_ok [] gs h

factors_good : (parts : List (List Symbol)) (gs : List NamedFactor) → factors_in parts ≡ Ok gs → AllByRecursion AreGood parts → AllByRecursion (IsGoodFactor IsSmallNumber) gs
factors_good [] gs h good = subst (λ (x : List NamedFactor). AllByRecursion (IsGoodFactor IsSmallNumber) x) (no_factors gs h) tt
factors_good (part ∷ parts) gs h good =
    let apart = factors_apart part parts gs h in
    subst (λ (x : List NamedFactor). AllByRecursion (IsGoodFactor IsSmallNumber) x) apart.2.2 (factor_good part apart.0 apart.1 good.0, factors_good parts apart.2.0 apart.2.1 good.1)

factors_some : (parts : List (List Symbol)) (gs : List NamedFactor) → factors_in parts ≡ Ok gs → HasSome parts → HasSome gs
factors_some [] gs h some = absurd some
factors_some (part ∷ parts) gs h some =
    let apart = factors_apart part parts gs h in
    subst (λ (x : List NamedFactor). HasSome x) apart.2.2 tt

-- Terms ---------------------------------------------------------------------------------------------------------------

terms_apart : (part : SignedPart) (parts : List SignedPart) (ts : List NamedTerm) → terms_in (part ∷ parts) ≡ Ok ts
    → (gs : List NamedFactor) × (factors_in (factor_parts part.symbols) ≡ Ok gs) × ((rest : List NamedTerm) × (terms_in parts ≡ Ok rest) × (term_with part.minus gs ∷ rest ≡ ts))
unfolding terms_in
terms_apart part parts ts h =
    let first : (gs : List NamedFactor) × (factors_in (factor_parts part.symbols) ≡ Ok gs) × ((terms_in parts >>= λ rest. Ok (term_with part.minus gs ∷ rest)) ≡ Ok ts) =
    first_ok (factors_in (factor_parts part.symbols)) (λ gs. terms_in parts >>= λ rest. Ok (term_with part.minus gs ∷ rest)) ts h in
    let behind : (rest : List NamedTerm) × (terms_in parts ≡ Ok rest) × GivesSame (term_with part.minus first.0 ∷ rest) ts = first_ok (terms_in parts) (λ rest. Ok (term_with part.minus first.0 ∷ rest)) ts first.2 in
    (first.0, first.1, (behind.0, behind.1, same_ok (term_with part.minus first.0 ∷ behind.0) ts behind.2))

no_terms : (ts : List NamedTerm) → terms_in [] ≡ Ok ts → [] ≡ ts
unfolding terms_in
no_terms ts h = same_ok [] ts h

terms_good : (parts : List SignedPart) (ts : List NamedTerm) → terms_in parts ≡ Ok ts → AreGoodParts parts → AllByRecursion (IsGoodTerm IsSmallNumber) ts
terms_good [] ts h good = subst (λ (x : List NamedTerm). AllByRecursion (IsGoodTerm IsSmallNumber) x) (no_terms ts h) tt
terms_good (part ∷ parts) ts h good =
    let apart = terms_apart part parts ts h in
    subst (λ (x : List NamedTerm). AllByRecursion (IsGoodTerm IsSmallNumber) x) apart.2.2
    ((factors_some (factor_parts part.symbols) apart.0 apart.1 (parts_some part.symbols), factors_good (factor_parts part.symbols) apart.0 apart.1 (parts_good part.symbols good.0)), terms_good parts apart.2.0 apart.2.1 good.1)

terms_some : (parts : List SignedPart) (ts : List NamedTerm) → terms_in parts ≡ Ok ts → HasSome parts → HasSome ts
terms_some [] ts h some = absurd some
terms_some (part ∷ parts) ts h some =
    let apart = terms_apart part parts ts h in
    subst (λ (x : List NamedTerm). HasSome x) apart.2.2 tt

-- a right side has terms, which can be printed
abbrev pub IsGoodSide : List NamedTerm → Type 0
IsGoodSide ts = HasSome ts × AllByRecursion (IsGoodTerm IsSmallNumber) ts

side_good : (m : Bool) (ss : List Symbol) (ts : List NamedTerm) → terms_in (term_parts m ss) ≡ Ok ts → AreGood ss → IsGoodSide ts
side_good m ss ts h good = (terms_some (term_parts m ss) ts h (signed_some m ss), terms_good (term_parts m ss) ts h (signed_good m ss good))

right_side_good : (ss : List Symbol) (ts : List NamedTerm) → right_side_of ss ≡ Ok ts → AreGood ss → IsGoodSide ts
unfolding right_side_of
right_side_good (symbol.Minus ∷ rest) ts h good = side_good true rest ts h good.1
right_side_good ss ts h good = side_good false ss ts h good

-- Statements ----------------------------------------------------------------------------------------------------------

-- the form that symbols have can be printed, but for literals without a value
pub form_good : (ss : List Symbol) (f : Form) → form_of ss ≡ Ok f → AreGood ss → IsGoodForm IsSmallNumber f
unfolding form_of
form_good ss f h good =
    let left : List Symbol = before_first is_assignment ss in
    let right : List Symbol = after_first is_assignment ss in
    let signed : (sign : Symbol) × (found (find is_assignment ss) cause.Syntax ≡ Ok sign) × ((access_of left >>= λ a. right_side_of right >>= λ ts. Ok (form_with a (is_plus_equals sign) ts)) ≡ Ok f) =
    first_ok (found (find is_assignment ss) cause.Syntax) (λ sign. access_of left >>= λ a. right_side_of right >>= λ ts. Ok (form_with a (is_plus_equals sign) ts)) f h in
    let lhs : (a : NamedAccess) × (access_of left ≡ Ok a) × ((right_side_of right >>= λ ts. Ok (form_with a (is_plus_equals signed.0) ts)) ≡ Ok f) =
    first_ok (access_of left) (λ a. right_side_of right >>= λ ts. Ok (form_with a (is_plus_equals signed.0) ts)) f signed.2 in
    let rhs : (ts : List NamedTerm) × (right_side_of right ≡ Ok ts) × GivesSame (form_with lhs.0 (is_plus_equals signed.0) ts) f =
    first_ok (right_side_of right) (λ ts. Ok (form_with lhs.0 (is_plus_equals signed.0) ts)) f lhs.2 in
    let side : IsGoodSide rhs.0 = right_side_good right rhs.0 rhs.1 (drop_good (position_or_len is_assignment ss + 1) ss good) in
    let whole : IsGoodForm IsSmallNumber (form_with lhs.0 (is_plus_equals signed.0) rhs.0) =
    record { lhs = access_good left lhs.0 lhs.1 (take_good (position_or_len is_assignment ss) ss good); some = side.0; terms = side.1 } in
    subst (λ (x : Form). IsGoodForm IsSmallNumber x) (same_ok (form_with lhs.0 (is_plus_equals signed.0) rhs.0) f rhs.2) whole

-- Literals ------------------------------------------------------------------------------------------------------------

number_there : (n : Option ℕ) → IsSmallNumber n → is_none n ≡ false → IsNumber n
number_there None g h = cc
number_there (Some n) g h = g

literal_there : (g : NamedFactor) → IsGoodFactor IsSmallNumber g → is_bad_literal g ≡ false → IsGoodFactor IsNumber g
literal_there (factor.Read a) good h = good
literal_there (factor.Literal n) good h = number_there n good h

literals_there : (gs : List NamedFactor) → AllByRecursion (IsGoodFactor IsSmallNumber) gs → list_any is_bad_literal gs ≡ false → AllByRecursion (IsGoodFactor IsNumber) gs
literals_there [] good h = tt
literals_there (g ∷ gs) good h =
    let parts : (is_bad_literal g ≡ false) × (list_any is_bad_literal gs ≡ false) = or_parts (is_bad_literal g) (list_any is_bad_literal gs) h in
    (literal_there g good.0 parts.0, literals_there gs good.1 parts.1)

terms_there : (ts : List NamedTerm) → AllByRecursion (IsGoodTerm IsSmallNumber) ts → list_any (λ t. list_any is_bad_literal t.factors) ts ≡ false → AllByRecursion (IsGoodTerm IsNumber) ts
terms_there [] good h = tt
terms_there (t ∷ ts) good h =
    let parts : (list_any is_bad_literal t.factors ≡ false) × (list_any (λ t. list_any is_bad_literal t.factors) ts ≡ false) =
    or_parts (list_any is_bad_literal t.factors) (list_any (λ t. list_any is_bad_literal t.factors) ts) h in
    ((good.0.0, literals_there t.factors good.0.1 parts.0), terms_there ts good.1 parts.1)

-- a form whose literals are numbers can be printed
pub form_there : (f : Form) → IsGoodForm IsSmallNumber f → has_good_literals f ≡ true → IsGoodForm IsNumber f
form_there f g h = record { lhs = g.lhs; some = g.some; terms = terms_there f.terms g.terms (not-true (list_any (λ t. list_any is_bad_literal t.factors) f.terms) h) }
