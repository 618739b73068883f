-- Forms that can be printed, and their symbols.
use Rattle.std.proofs.Common.{◌≡◌, ℕ, ◌<◌, ◌^◌, List, [], ◌∷◌, ◌++◌, Bool, true, cond, Option, Some, None}
use Rattle.std.specs.List.{AllByRecursion}
use Rattle.dt_text.specs.Names.{is_name}
use Rattle.dt_index.specs.declared.form.Form.{Form}
use Rattle.dt_index.specs.declared.form.NamedAccess.{NamedAccess}
use Rattle.dt_index.specs.declared.form.NamedFactor.{NamedFactor}
use Rattle.dt_index.specs.declared.form.NamedFactor.TheVariants as factor
use Rattle.dt_index.specs.declared.form.NamedTerm.{NamedTerm}
use Rattle.dt_index.specs.declared.symbol_list.Symbol.{Symbol}
use Rattle.dt_index.specs.declared.symbol_list.Symbol.TheVariants as symbol

-- What can be printed -------------------------------------------------------------------------------------------------

-- the bytes are a name
abbrev pub IsName : List ℕ → Type 0
IsName n = is_name n ≡ true

-- the literal has a value below 2 ^ 64
abbrev pub IsNumber : Option ℕ → Type 0
IsNumber None = ⊥
IsNumber (Some n) = n < 2 ^ 64

-- if the literal has a value, it is below 2 ^ 64
abbrev pub IsSmallNumber : Option ℕ → Type 0
IsSmallNumber None = Unit {0}
IsSmallNumber (Some n) = n < 2 ^ 64

-- the access has names
abbrev pub IsGoodAccess : NamedAccess → Type 0
IsGoodAccess a = IsName a.tensor × AllByRecursion IsName a.vars

-- the factor has names, or a literal of this kind
abbrev pub IsGoodFactor : (Option ℕ → Type 0) → NamedFactor → Type 0
IsGoodFactor L (factor.Read a) = IsGoodAccess a
IsGoodFactor L (factor.Literal n) = L n

-- the list is not empty
abbrev pub HasSome : {A : Type 0} → List A → Type 0
HasSome [] = ⊥
HasSome (x ∷ xs) = Unit {0}

-- the term has factors, all of this kind
abbrev pub IsGoodTerm : (Option ℕ → Type 0) → NamedTerm → Type 0
IsGoodTerm L t = HasSome t.factors × AllByRecursion (IsGoodFactor L) t.factors

-- the form has terms, and all names and literals in it are of this kind
pub record IsGoodForm (L : Option ℕ → Type 0) (f : Form) : Type 0 where
  pub lhs : IsGoodAccess f.lhs
  pub some : HasSome f.terms
  pub terms : AllByRecursion (IsGoodTerm L) f.terms

-- an access of these names
abbrev pub access_with : List ℕ → List (List ℕ) → NamedAccess
access_with t vs = record { tensor = t; vars = vs }

-- a term of these factors
abbrev pub term_with : Bool → List NamedFactor → NamedTerm
term_with minus gs = record { minus = minus; factors = gs }

-- a form of these parts
abbrev pub form_with : NamedAccess → Bool → List NamedTerm → Form
form_with a adds ts = record { lhs = a; adds = adds; terms = ts }

-- Symbols -------------------------------------------------------------------------------------------------------------

-- a variable and those behind it, up to the closing parenthesis
abbrev pub listed : List ℕ → List (List ℕ) → List Symbol
listed v [] = symbol.Name v ∷ symbol.Close ∷ []
listed v (w ∷ ws) = symbol.Name v ∷ symbol.Comma ∷ listed w ws

-- variables in parentheses
abbrev pub vars_symbols : List (List ℕ) → List Symbol
vars_symbols [] = []
vars_symbols (v ∷ vs) = symbol.Open ∷ listed v vs

-- an access
abbrev pub access_symbols : NamedAccess → List Symbol
access_symbols a = symbol.Name a.tensor ∷ vars_symbols a.vars

-- a factor
abbrev pub factor_symbols : NamedFactor → List Symbol
factor_symbols (factor.Read a) = access_symbols a
factor_symbols (factor.Literal n) = symbol.Number n ∷ []

-- factors, `*` before each
abbrev pub more_factors : List NamedFactor → List Symbol
more_factors [] = []
more_factors (g ∷ gs) = symbol.Times ∷ (factor_symbols g ++ more_factors gs)

-- factors, `*` between each two
abbrev pub factors_symbols : List NamedFactor → List Symbol
factors_symbols [] = []
factors_symbols (g ∷ gs) = factor_symbols g ++ more_factors gs

-- `-` or `+`
abbrev pub sign_symbol : Bool → Symbol
sign_symbol minus = cond minus symbol.Minus symbol.Plus

-- terms, a sign before each
abbrev pub more_terms : List NamedTerm → List Symbol
more_terms [] = []
more_terms (t ∷ ts) = sign_symbol t.minus ∷ (factors_symbols t.factors ++ more_terms ts)

-- `-` or nothing
abbrev pub first_symbols : Bool → List Symbol
first_symbols minus = cond minus (symbol.Minus ∷ []) []

-- a right side
abbrev pub terms_symbols : List NamedTerm → List Symbol
terms_symbols [] = []
terms_symbols (t ∷ ts) = first_symbols t.minus ++ (factors_symbols t.factors ++ more_terms ts)

-- `+=` or `=`
abbrev pub assignment_symbol : Bool → Symbol
assignment_symbol adds = cond adds symbol.PlusEquals symbol.Equals

-- a statement
abbrev pub form_symbols : Form → List Symbol
form_symbols f = access_symbols f.lhs ++ (assignment_symbol f.adds ∷ terms_symbols f.terms)
