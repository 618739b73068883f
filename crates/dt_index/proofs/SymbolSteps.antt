-- Reading symbols, one piece after another.
use Rattle.std.proofs.Common.{◌≡◌, ℕ, List, [], ◌∷◌, ◌++◌, Some, None, Result, Ok, Err, refl, ap, sym, ◌∙◌}
use Rattle.dt_model.specs.declared.cause.Cause.{Cause}
use Rattle.dt_model.specs.declared.cause.Cause.TheVariants as cause
use Rattle.dt_model.specs.Steps.{◌>>=◌}
use Rattle.dt_model.proofs.Fronts.{with_front, with_front-push, with_front-end}
use Rattle.dt_index.specs.declared.symbol_list.Symbol.{Symbol}
use Rattle.dt_index.specs.Symbols.{pieces_of, symbol_of, symbols_from, symbols_of}

symbols_from-nil : symbols_from [] ≡ Ok []
unfolding symbols_from
symbols_from-nil = refl

symbols_from-some : (piece : List ℕ) (pieces : List (List ℕ)) (s : Symbol) → Some s ≡ symbol_of piece → symbols_from (piece ∷ pieces) ≡ (symbols_from pieces >>= λ ss. Ok (s ∷ ss))
unfolding symbols_from
symbols_from-some piece pieces s e = rw (← e) refl

symbols_from-none : (piece : List ℕ) (pieces : List (List ℕ)) → None ≡ symbol_of piece → symbols_from (piece ∷ pieces) ≡ Err cause.Syntax
unfolding symbols_from
symbols_from-none piece pieces e = rw (← e) refl

-- no piece is left
pub read_end : (rest : List ℕ) (symbols : List Symbol) (whole : Result (List Symbol) Cause) → pieces_of rest ≡ [] → with_front symbols (symbols_of rest) ≡ whole → whole ≡ Ok symbols
read_end rest symbols whole p h =
    sym h ∙ ap (λ (ps : List (List ℕ)). with_front symbols (symbols_from ps)) p ∙ ap (λ (r : Result (List Symbol) Cause). with_front symbols r) symbols_from-nil ∙ with_front-end symbols

-- the next piece is no symbol
pub read_stop : (rest piece behind : List ℕ) (symbols : List Symbol) (whole : Result (List Symbol) Cause) → pieces_of rest ≡ piece ∷ pieces_of behind → None ≡ symbol_of piece
    → with_front symbols (symbols_of rest) ≡ whole → whole ≡ Err cause.Syntax
read_stop rest piece behind symbols whole p e h =
    sym h ∙ ap (λ (ps : List (List ℕ)). with_front symbols (symbols_from ps)) p ∙ ap (λ (r : Result (List Symbol) Cause). with_front symbols r) (symbols_from-none piece (pieces_of behind) e)

-- the next piece is a symbol
pub read_more : (rest piece behind : List ℕ) (symbols after : List Symbol) (s : Symbol) (whole : Result (List Symbol) Cause) → pieces_of rest ≡ piece ∷ pieces_of behind → Some s ≡ symbol_of piece
    → after ≡ symbols ++ s ∷ [] → with_front symbols (symbols_of rest) ≡ whole → with_front after (symbols_of behind) ≡ whole
read_more rest piece behind symbols after s whole p e a h =
    ap (λ (f : List Symbol). with_front f (symbols_of behind)) a ∙ with_front-push symbols s (symbols_of behind)
    ∙ ap (λ (r : Result (List Symbol) Cause). with_front symbols r) (sym (symbols_from-some piece (pieces_of behind) s e))
    ∙ ap (λ (ps : List (List ℕ)). with_front symbols (symbols_from ps)) (sym p) ∙ h
