-- How a list of variables goes on.
use Rattle.std.specs.Prelude.{◌≡◌, ◌<◌, List, [], ◌∷◌, length, Ok, Err}
use Rattle.dt_model.specs.declared.cause.Cause.TheVariants as cause
use Rattle.dt_model.specs.Steps.{◌>>=◌}
use Rattle.dt_index.specs.Form.{vars_of}
use Rattle.dt_index.specs.declared.form_reading.NextVar.{NextVar}
use Rattle.dt_index.specs.declared.form_reading.NextVar.TheVariants.{Last, More, Wrong}
use Rattle.dt_index.specs.declared.symbol_list.Symbol.{Symbol}

-- the symbols are no list of variables, or its last one, or one of them and the symbols of more
abbrev pub IsNextVar : List Symbol → NextVar → Type 0
IsNextVar symbols Wrong = vars_of symbols ≡ Err cause.Syntax
IsNextVar symbols (Last v) = vars_of symbols ≡ Ok (v.now ∷ [])
IsNextVar symbols (More v rest) = (vars_of symbols ≡ (vars_of rest.now >>= λ vs. Ok (v.now ∷ vs))) × (length rest.now < length symbols)
