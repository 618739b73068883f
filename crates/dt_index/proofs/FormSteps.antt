-- Reading factors and terms, one part after another.
use Rattle.std.proofs.Common.{◌≡◌, List, [], ◌∷◌, ◌++◌, Bool, Result, Ok, Err, refl, ap, sym, ◌∙◌}
use Rattle.dt_model.specs.declared.cause.Cause.{Cause}
use Rattle.dt_model.specs.declared.cause.LineEnd.{LineEnd}
use Rattle.dt_model.specs.declared.cause.LineEnd.TheVariants as ends
use Rattle.dt_model.specs.Steps.{◌>>=◌, Fails}
use Rattle.dt_model.proofs.Fronts.{with_front, with_front-push, with_front-end}
use Rattle.dt_index.specs.declared.symbol_list.Symbol.{Symbol}
use Rattle.dt_index.specs.declared.form.NamedFactor.{NamedFactor}
use Rattle.dt_index.specs.declared.form.NamedTerm.{NamedTerm}
use Rattle.dt_index.specs.Form.{factor_of, factor_parts, factors_in, term_parts, terms_in, SignedPart}
use Rattle.dt_index.specs.NextPart.{IsOnePart}

-- what factors are read as
abbrev pub Factors : Type 0
Factors = Result (List NamedFactor) Cause

-- what terms are read as
abbrev pub Terms : Type 0
Terms = Result (List NamedTerm) Cause

factors_in-nil : factors_in [] ≡ Ok []
unfolding factors_in
factors_in-nil = refl

factors_in-ok : (part : List Symbol) (parts : List (List Symbol)) (f : NamedFactor) → factor_of part ≡ Ok f → factors_in (part ∷ parts) ≡ (factors_in parts >>= λ fs. Ok (f ∷ fs))
unfolding factors_in
factors_in-ok part parts f h = rw h refl

factors_in-err : (part : List Symbol) (parts : List (List Symbol)) (c : Cause) → factor_of part ≡ Err c → factors_in (part ∷ parts) ≡ Err c
unfolding factors_in
factors_in-err part parts c h = rw h refl

-- a part that is no factor ends the reading
pub factor_stops : (front : List NamedFactor) (symbols part : List Symbol) (parts : List (List Symbol)) (end : LineEnd) (whole : Factors) → with_front front (factors_in (factor_parts symbols)) ≡ whole
    → factor_parts symbols ≡ part ∷ parts → Fails end (factor_of part) → Fails end whole
factor_stops front symbols part parts ends.NoMemory whole h p f = tt
factor_stops front symbols part parts (ends.Refused c) whole h p f =
    sym h ∙ ap (λ (ps : List (List Symbol)). with_front front (factors_in ps)) p ∙ ap (λ (r : Factors). with_front front r) (factors_in-err part parts c f)

-- one more factor is read
pub factor_goes_on : (front after : List NamedFactor) (symbols part : List Symbol) (parts : List (List Symbol)) (f : NamedFactor) (whole : Factors) → with_front front (factors_in (factor_parts symbols)) ≡ whole
    → factor_parts symbols ≡ part ∷ parts → factor_of part ≡ Ok f → after ≡ front ++ f ∷ [] → with_front after (factors_in parts) ≡ whole
factor_goes_on front after symbols part parts f whole h p e a =
    ap (λ (fs : List NamedFactor). with_front fs (factors_in parts)) a ∙ with_front-push front f (factors_in parts) ∙ ap (λ (r : Factors). with_front front r) (sym (factors_in-ok part parts f e))
    ∙ ap (λ (ps : List (List Symbol)). with_front front (factors_in ps)) (sym p) ∙ h

-- the last factor is read
pub factor_ends : (front after : List NamedFactor) (symbols part : List Symbol) (f : NamedFactor) (whole : Factors) → with_front front (factors_in (factor_parts symbols)) ≡ whole
    → factor_parts symbols ≡ part ∷ [] → factor_of part ≡ Ok f → after ≡ front ++ f ∷ [] → whole ≡ Ok after
factor_ends front after symbols part f whole h p e a =
    sym (factor_goes_on front after symbols part [] f whole h p e a) ∙ ap (λ (r : Factors). with_front after r) factors_in-nil ∙ with_front-end after

terms_in-nil : terms_in [] ≡ Ok []
unfolding terms_in
terms_in-nil = refl

terms_in-ok : (part : SignedPart) (parts : List SignedPart) (fs : List NamedFactor) → factors_in (factor_parts part.symbols) ≡ Ok fs → terms_in (part ∷ parts) ≡ (terms_in parts >>= λ ts. Ok (record { minus = part.minus; factors = fs } ∷ ts))
unfolding terms_in
terms_in-ok part parts fs h = rw h refl

terms_in-err : (part : SignedPart) (parts : List SignedPart) (c : Cause) → factors_in (factor_parts part.symbols) ≡ Err c → terms_in (part ∷ parts) ≡ Err c
unfolding terms_in
terms_in-err part parts c h = rw h refl

-- a part that is no term ends the reading
term_stops : (front : List NamedTerm) (parts rest : List SignedPart) (part : SignedPart) (end : LineEnd) (whole : Terms) → with_front front (terms_in parts) ≡ whole
    → parts ≡ part ∷ rest → Fails end (factors_in (factor_parts part.symbols)) → Fails end whole
term_stops front parts rest part ends.NoMemory whole h p f = tt
term_stops front parts rest part (ends.Refused c) whole h p f =
    sym h ∙ ap (λ (ps : List SignedPart). with_front front (terms_in ps)) p ∙ ap (λ (r : Terms). with_front front r) (terms_in-err part rest c f)

-- one more term is read
pub term_goes_on : (front after : List NamedTerm) (parts rest : List SignedPart) (part : SignedPart) (fs : List NamedFactor) (whole : Terms) → with_front front (terms_in parts) ≡ whole
    → parts ≡ part ∷ rest → factors_in (factor_parts part.symbols) ≡ Ok fs → after ≡ front ++ record { minus = part.minus; factors = fs } ∷ [] → with_front after (terms_in rest) ≡ whole
term_goes_on front after parts rest part fs whole h p e a =
    ap (λ (ts : List NamedTerm). with_front ts (terms_in rest)) a ∙ with_front-push front (record { minus = part.minus; factors = fs }) (terms_in rest) ∙ ap (λ (r : Terms). with_front front r) (sym (terms_in-ok part rest fs e))
    ∙ ap (λ (ps : List SignedPart). with_front front (terms_in ps)) (sym p) ∙ h

-- the last term is read
pub term_ends : (front after : List NamedTerm) (parts : List SignedPart) (part : SignedPart) (fs : List NamedFactor) (whole : Terms) → with_front front (terms_in parts) ≡ whole
    → parts ≡ part ∷ [] → factors_in (factor_parts part.symbols) ≡ Ok fs → after ≡ front ++ record { minus = part.minus; factors = fs } ∷ [] → whole ≡ Ok after
term_ends front after parts part fs whole h p e a =
    sym (term_goes_on front after parts [] part fs whole h p e a) ∙ ap (λ (r : Terms). with_front after r) terms_in-nil ∙ with_front-end after

-- the first of several terms ends the reading
pub first_term_stops : (front : List NamedTerm) (minus next : Bool) (symbols part behind : List Symbol) (end : LineEnd) (whole : Terms) → with_front front (terms_in (term_parts minus symbols)) ≡ whole
    → ((m : Bool) → term_parts m symbols ≡ record { minus = m; symbols = part } ∷ term_parts next behind) → Fails end (factors_in (factor_parts part)) → Fails end whole
first_term_stops front minus next symbols part behind end whole h p f = term_stops front (term_parts minus symbols) (term_parts next behind) (record { minus = minus; symbols = part }) end whole h (p minus) f

-- the only term ends the reading
pub last_term_stops : (front : List NamedTerm) (minus : Bool) (symbols : List Symbol) (end : LineEnd) (whole : Terms) → with_front front (terms_in (term_parts minus symbols)) ≡ whole
    → IsOnePart symbols → Fails end (factors_in (factor_parts symbols)) → Fails end whole
last_term_stops front minus symbols end whole h p f = term_stops front (term_parts minus symbols) [] (record { minus = minus; symbols = symbols }) end whole h (p minus) f
