-- What a statement says of the tensors that are known, or the first cause against it.
use Rattle.std.specs.Prelude.{ℕ, ◌≤◌, All, List, [], ◌∷◌, length, map, filter, count_by, find, position, Bool, false, not, ◌&&◌, nat_le, ◌==◌, Option, Some, None, option_map, unwrap_or, is_none, Result, Ok}
use Rattle.std.specs.List.{filter_map, list_all, list_any, flat_map, zip}
use Rattle.std.specs.Str.{bytes_eq}
use Rattle.dt_model.specs.declared.cause.Cause.{Cause}
use Rattle.dt_model.specs.declared.cause.Cause.TheVariants as cause
use Rattle.dt_model.specs.declared.stmt.Access.{Access}
use Rattle.dt_model.specs.declared.stmt.Factor.{Factor}
use Rattle.dt_model.specs.declared.stmt.Factor.TheVariants as factor
use Rattle.dt_model.specs.declared.stmt.Term.{Term}
use Rattle.dt_model.specs.declared.stmt.Stmt.{Stmt}
use Rattle.dt_model.specs.Steps.{◌>>=◌, need, none}
use Rattle.dt_index.specs.Known.{Known, place_of, known_extents, is_dense_at}
use Rattle.dt_index.specs.Form.{form_of}
use Rattle.dt_index.specs.Symbols.{symbols_of}
use Rattle.dt_index.specs.declared.form.Form.{Form}
use Rattle.dt_index.specs.declared.form.NamedAccess.{NamedAccess}
use Rattle.dt_index.specs.declared.form.NamedFactor.{NamedFactor}
use Rattle.dt_index.specs.declared.form.NamedFactor.TheVariants as named
use Rattle.dt_index.specs.declared.form.NamedTerm.{NamedTerm}
use Rattle.dt_index.specs.declared.occurrence_list.Occurrence.{Occurrence}

-- the access that a factor is
abbrev pub access_in : NamedFactor → Option NamedAccess
access_in (named.Read a) = Some a
access_in (named.Literal n) = None

-- the accesses of a term, from the left
abbrev pub term_accesses : NamedTerm → List NamedAccess
term_accesses t = filter_map access_in t.factors

-- the accesses of the right side, from the left
abbrev pub right_accesses : Form → List NamedAccess
right_accesses f = flat_map term_accesses f.terms

-- the accesses of a statement, from the left
abbrev pub accesses_of : Form → List NamedAccess
accesses_of f = f.lhs ∷ right_accesses f

-- the extents of the tensor with this name
abbrev pub named_extents : List Known → List ℕ → List ℕ
named_extents tensors name = unwrap_or (option_map (known_extents tensors) (place_of name tensors)) []

-- the variables of an access where they stand
abbrev pub access_occurrences : List Known → NamedAccess → List Occurrence
access_occurrences tensors a = map (λ p. record { name = p.0; extent = p.1 }) (zip a.vars (named_extents tensors a.tensor))

-- the variables of a statement where they stand, from the left
abbrev pub occurrences : List Known → Form → List Occurrence
occurrences tensors f = flat_map (access_occurrences tensors) (accesses_of f)

-- names without those that stood before
abbrev pub distinct : List (List ℕ) → List (List ℕ)
distinct [] = []
distinct (v ∷ vs) = v ∷ filter (λ w. not (bytes_eq w v)) (distinct vs)

-- the variables of a statement, by first occurrence
abbrev pub variables_of : Form → List (List ℕ)
variables_of f = distinct (flat_map (λ a. a.vars) (accesses_of f))

-- the extent of a variable where it first stands
abbrev pub extent_of : List Occurrence → List ℕ → ℕ
extent_of os v = unwrap_or (option_map (λ o. o.extent) (find (λ o. bytes_eq o.name v) os)) 0

-- the first access whose tensor is not known
abbrev pub unknown_tensor : List Known → Form → Option Cause
unknown_tensor tensors f = option_map (λ a. cause.UnknownTensor a.tensor) (find (λ a. is_none (place_of a.tensor tensors)) (accesses_of f))

-- the first access that has not as many variables as its tensor has dimensions
abbrev pub wrong_order : List Known → Form → Option Cause
wrong_order tensors f = option_map (λ a. cause.WrongOrder a.tensor) (find (λ a. not (length a.vars == length (named_extents tensors a.tensor))) (accesses_of f))

-- the first variable that stands twice on the left side
abbrev pub lhs_repeats : Form → Option Cause
lhs_repeats f = option_map cause.LhsRepeats (find (λ v. nat_le 2 (count_by (λ w. bytes_eq w v) f.lhs.vars)) f.lhs.vars)

-- the left tensor on the right side
abbrev pub output_read : Form → Option Cause
output_read f = option_map (λ a. cause.OutputRead a.tensor) (find (λ a. bytes_eq a.tensor f.lhs.tensor) (right_accesses f))

-- whether the left tensor is dense
abbrev pub has_dense_output : List Known → Form → Bool
has_dense_output tensors f = unwrap_or (option_map (is_dense_at tensors) (place_of f.lhs.tensor tensors)) false

-- whether a variable stands at dimensions of different extents
abbrev pub clashes : List Occurrence → List ℕ → Bool
clashes os v = list_any (λ o. bytes_eq o.name v && not (o.extent == extent_of os v)) os

-- the first variable that stands at dimensions of different extents
abbrev pub extent_clash : List Occurrence → List (List ℕ) → Option Cause
extent_clash os variables = option_map cause.ExtentClash (find (clashes os) variables)

-- whether a variable stands in a factor
abbrev pub factor_has : List ℕ → NamedFactor → Bool
factor_has v (named.Read a) = list_any (λ w. bytes_eq w v) a.vars
factor_has v (named.Literal n) = false

-- whether a variable stands in a term
abbrev pub term_has : List ℕ → NamedTerm → Bool
term_has v t = list_any (factor_has v) t.factors

-- whether a variable is summed over, and some term lacks it
abbrev pub is_uneven : Form → List ℕ → Bool
is_uneven f v = not (list_any (λ w. bytes_eq w v) f.lhs.vars) && list_any (λ t. not (term_has v t)) f.terms

-- the first reduction variable that some term lacks
abbrev pub uneven_reduction : Form → List (List ℕ) → Option Cause
uneven_reduction f variables = option_map cause.UnevenReduction (find (is_uneven f) variables)

-- a literal whose digits are no number below 2 ^ 64
abbrev pub is_bad_literal : NamedFactor → Bool
is_bad_literal (named.Read a) = false
is_bad_literal (named.Literal n) = is_none n

-- whether each literal is a number
abbrev pub has_good_literals : Form → Bool
has_good_literals f = not (list_any (λ t. list_any is_bad_literal t.factors) f.terms)

-- at most 16 terms, with at most 8 factors each
abbrev pub has_few_terms : Form → Bool
has_few_terms f = nat_le (length f.terms) 16 && list_all (λ t. nat_le (length t.factors) 8) f.terms

-- the number of a variable
abbrev pub number_in : List (List ℕ) → List ℕ → ℕ
number_in variables v = unwrap_or (position (λ w. bytes_eq w v) variables) 0

-- an access by numbers
abbrev pub numbered : List Known → List (List ℕ) → NamedAccess → Access
numbered tensors variables a = record { tensor = unwrap_or (place_of a.tensor tensors) 0; vars = map (number_in variables) a.vars }

-- a factor by numbers
abbrev pub numbered_factor : List Known → List (List ℕ) → NamedFactor → Factor
numbered_factor tensors variables (named.Read a) = factor.Read (numbered tensors variables a)
numbered_factor tensors variables (named.Literal n) = factor.Literal (unwrap_or n 0)

-- a term by numbers
abbrev pub numbered_term : List Known → List (List ℕ) → NamedTerm → Term
numbered_term tensors variables t = record { minus = t.minus; factors = map (numbered_factor tensors variables) t.factors }

-- the statement whose variables have these names, and stand at these dimensions
abbrev pub stmt_by : List Known → List (List ℕ) → List Occurrence → Form → Stmt
stmt_by tensors variables os f = record {
  lhs = numbered tensors variables f.lhs;
  adds = f.adds;
  terms = map (numbered_term tensors variables) f.terms;
  extents = map (extent_of os) variables;
}

-- the statement by numbers
abbrev pub stmt_of : List Known → Form → Stmt
stmt_of tensors f = stmt_by tensors (variables_of f) (occurrences tensors f) f

-- a statement over known tensors, with the names of its variables
pub record Resolved : Type 0 where
  pub stmt : Stmt
  pub variables : List (List ℕ)

-- at most 16 terms of at most 8 factors
pub record IsSmall (s : Stmt) : Type 0 where
  pub terms : length s.terms ≤ 16
  pub factors : All (λ t. length t.factors ≤ 8) s.terms

-- the statement, or the first of these causes
unfoldable pub resolved_of : List Known → Form → Result Resolved Cause
resolved_of tensors f = do
  _ ← need (has_good_literals f) cause.BadNumber
  _ ← none (unknown_tensor tensors f)
  _ ← none (wrong_order tensors f)
  _ ← none (lhs_repeats f)
  _ ← none (output_read f)
  _ ← need (has_dense_output tensors f) (cause.OutputFormat f.lhs.tensor)
  _ ← none (extent_clash (occurrences tensors f) (variables_of f))
  _ ← none (uneven_reduction f (variables_of f))
  _ ← need (has_few_terms f) cause.TooManyTerms
  _ ← need (nat_le (length (variables_of f)) 8) cause.TooManyLoops
  Ok (record { stmt = stmt_of tensors f; variables = variables_of f })

-- the statement that a text is, or its first cause
unfoldable pub parsed_of : List Known → List ℕ → Result Resolved Cause
parsed_of tensors text = do
  symbols ← symbols_of text
  form ← form_of symbols
  resolved_of tensors form
