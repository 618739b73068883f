-- Which tensors a statement reads, by number.
use Rattle.std.specs.Prelude.{ℕ, Bool, false, nat_eq}
use Rattle.std.specs.List.{list_any}
use Rattle.dt_model.specs.declared.stmt.Factor.{Factor}
use Rattle.dt_model.specs.declared.stmt.Factor.TheVariants.{Read, Literal}
use Rattle.dt_model.specs.declared.stmt.Term.{Term}
use Rattle.dt_model.specs.declared.stmt.Stmt.{Stmt}

-- whether a factor reads the tensor with this number
abbrev pub factor_reads : ℕ → Factor → Bool
factor_reads k (Read a) = nat_eq a.tensor k
factor_reads k (Literal n) = false

-- whether a term reads the tensor with this number
abbrev pub term_reads : ℕ → Term → Bool
term_reads k t = list_any (factor_reads k) t.factors

-- whether the right side of a statement reads the tensor with this number
abbrev pub right_side_reads : ℕ → Stmt → Bool
right_side_reads k s = list_any (term_reads k) s.terms
