-- Statements as they are printed.
use Rattle.std.specs.Prelude.{◌≡◌, ℕ, List, [], ◌∷◌, ◌++◌, map, codes, slice_index_or, Bool, if◌then◌else◌, Option, Some, None, Ok}
use Rattle.std.specs.Fmt.{decimal}
use Rattle.std.specs.List.{flat_map, join_by}
use Rattle.dt_model.specs.declared.stmt.Access.{Access}
use Rattle.dt_model.specs.declared.stmt.Factor.{Factor}
use Rattle.dt_model.specs.declared.stmt.Factor.TheVariants as factor
use Rattle.dt_model.specs.declared.stmt.Term.{Term}
use Rattle.dt_model.specs.declared.stmt.Stmt.{Stmt}
use Rattle.dt_index.specs.Known.{Known}
use Rattle.dt_index.specs.Resolve.{Resolved, parsed_of}
use Rattle.dt_index.specs.declared.form.Form.{Form}
use Rattle.dt_index.specs.declared.form.NamedAccess.{NamedAccess}
use Rattle.dt_index.specs.declared.form.NamedFactor.{NamedFactor}
use Rattle.dt_index.specs.declared.form.NamedFactor.TheVariants as named
use Rattle.dt_index.specs.declared.form.NamedTerm.{NamedTerm}

-- Names ---------------------------------------------------------------------------------------------------------------

-- the name with this number, and the empty one past the list
abbrev pub name_at : List (List ℕ) → ℕ → List ℕ
name_at names k = slice_index_or names k []

-- an access by names
abbrev pub named_access : List (List ℕ) → List (List ℕ) → Access → NamedAccess
named_access variables tensors a = record { tensor = name_at tensors a.tensor; vars = map (name_at variables) a.vars }

-- a factor by names
abbrev pub named_factor : List (List ℕ) → List (List ℕ) → Factor → NamedFactor
named_factor variables tensors (factor.Read a) = named.Read (named_access variables tensors a)
named_factor variables tensors (factor.Literal n) = named.Literal (Some n)

-- a term by names
abbrev pub named_term : List (List ℕ) → List (List ℕ) → Term → NamedTerm
named_term variables tensors t = record { minus = t.minus; factors = map (named_factor variables tensors) t.factors }

-- a statement by names
abbrev pub named_stmt : List (List ℕ) → List (List ℕ) → Stmt → Form
named_stmt variables tensors s = record {
  lhs = named_access variables tensors s.lhs;
  adds = s.adds;
  terms = map (named_term variables tensors) s.terms;
}

-- Texts ---------------------------------------------------------------------------------------------------------------

-- variables in parentheses, and nothing where there are none
abbrev pub vars_text : List (List ℕ) → List ℕ
vars_text [] = []
vars_text (v ∷ vs) = codes "(" ++ join_by (λ w. w) (codes ",") (v ∷ vs) ++ codes ")"

-- a tensor's name and its variables
abbrev pub access_text : NamedAccess → List ℕ
access_text a = a.tensor ++ vars_text a.vars

-- a literal in decimal
abbrev pub literal_text : Option ℕ → List ℕ
literal_text (Some n) = decimal n
literal_text None = []

-- a factor
abbrev pub factor_text : NamedFactor → List ℕ
factor_text (named.Read a) = access_text a
factor_text (named.Literal n) = literal_text n

-- factors with `*` between each two
abbrev pub term_text : NamedTerm → List ℕ
term_text t = join_by factor_text (codes " * ") t.factors

-- the sign before the first term: `-`, or nothing for `+`
abbrev pub first_sign : Bool → List ℕ
first_sign minus = if minus then codes "- " else []

-- the sign between two terms
abbrev pub next_sign : Bool → List ℕ
next_sign minus = if minus then codes " - " else codes " + "

-- terms with their signs
abbrev pub terms_text : List NamedTerm → List ℕ
terms_text [] = []
terms_text (t ∷ ts) = first_sign t.minus ++ term_text t ++ flat_map (λ u. next_sign u.minus ++ term_text u) ts

-- `+=` or `=`
abbrev pub assignment_text : Bool → List ℕ
assignment_text adds = if adds then codes " += " else codes " = "

-- a statement by names, as text
abbrev pub form_text : Form → List ℕ
form_text f = access_text f.lhs ++ assignment_text f.adds ++ terms_text f.terms

-- a statement whose variables and tensors have these names, as text
abbrev pub stmt_text : Stmt → List (List ℕ) → List (List ℕ) → List ℕ
stmt_text s variables tensors = form_text (named_stmt variables tensors s)

-- a statement that a text gave is given by its printed text again, with the same names of its variables
abbrev pub PrintingLaw : Type 0
PrintingLaw = (tensors : List Known) (text : List ℕ) (r : Resolved) → parsed_of tensors text ≡ Ok r
    → parsed_of tensors (stmt_text r.stmt r.variables (map (λ t. t.name) tensors)) ≡ Ok r
