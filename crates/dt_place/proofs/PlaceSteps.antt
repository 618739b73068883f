-- Reading a `place` line from the front.
use Rattle.std.proofs.Common.{◌≡◌, ℕ, ◌+◌, ◌<◌, ◌≤◌, List, [], ◌∷◌, ◌++◌, length, take, drop, get_or, refl, ap, sym, ◌∙◌, append_assoc, append-nil, Option, Some, None, Bool, true, false, cond, Result, Ok, Err}
use Rattle.std.proofs.lemmas.List.{drop_more, drop_all, take_more}
use Rattle.dt_model.specs.declared.cause.Cause.{Cause}
use Rattle.dt_model.specs.declared.cause.LineEnd.{LineEnd}
use Rattle.dt_model.specs.declared.cause.LineEnd.TheVariants as ends
use Rattle.dt_model.specs.Steps.{◌>>=◌, Fails}
use Rattle.dt_model.proofs.Fronts.{with_front, with_front-push, with_front-end}
use Rattle.dt_runs.specs.Sets.{contains}
use Rattle.dt_place.specs.PlaceLine.{level_symbols, repeated_after, symbol_of, symbols_of}
use Rattle.dt_place.specs.declared.placements.Symbol.{Symbol}

opened : (ls : List ℕ) (i : ℕ) → i < length ls → repeated_after (take i ls) (drop i ls) ≡ repeated_after (take i ls) (get_or ls i 0 ∷ drop (i + 1) ls)
opened ls i h = ap (λ (l : List ℕ). repeated_after (take i ls) l) (drop_more ls i 0 h)

-- the next letter has stood already
pub repeated_here : (ls : List ℕ) (i : ℕ) (whole : Option ℕ) → i < length ls → contains (take i ls) (get_or ls i 0) ≡ true → repeated_after (take i ls) (drop i ls) ≡ whole → Some (get_or ls i 0) ≡ whole
repeated_here ls i whole h t k =
    sym (opened ls i h ∙ ap (λ (b : Bool). cond b (Some (get_or ls i 0)) (repeated_after (take i ls ++ get_or ls i 0 ∷ []) (drop (i + 1) ls))) t) ∙ k

-- the next letter has not stood yet
pub repeated_more : (ls : List ℕ) (i : ℕ) (whole : Option ℕ) → i < length ls → contains (take i ls) (get_or ls i 0) ≡ false → repeated_after (take i ls) (drop i ls) ≡ whole → repeated_after (take (i + 1) ls) (drop (i + 1) ls) ≡ whole
repeated_more ls i whole h t k =
    ap (λ (l : List ℕ). repeated_after l (drop (i + 1) ls)) (take_more ls i 0 h)
    ∙ sym (opened ls i h ∙ ap (λ (b : Bool). cond b (Some (get_or ls i 0)) (repeated_after (take i ls ++ get_or ls i 0 ∷ []) (drop (i + 1) ls))) t) ∙ k

-- no letter has
pub repeated_end : (ls : List ℕ) (i : ℕ) (whole : Option ℕ) → length ls ≤ i → repeated_after (take i ls) (drop i ls) ≡ whole → None ≡ whole
repeated_end ls i whole h k = sym (ap (λ (l : List ℕ). repeated_after (take i ls) l) (drop_all i ls h)) ∙ k

-- what ends a part of a line ends the whole
pub ends_whole : {A B : Type 0} (end : LineEnd) (part : Result A Cause) (whole : Result B Cause) → Fails end part → ((c : Cause) → part ≡ Err c → whole ≡ Err c) → Fails end whole
ends_whole ends.NoMemory part whole f h = tt
ends_whole (ends.Refused c) part whole f h = h c f

level_opened : (letters level : List ℕ) (i : ℕ) → i < length level → level_symbols letters (take i level) (drop i level) ≡ level_symbols letters (take i level) (get_or level i 0 ∷ drop (i + 1) level)
level_opened letters level i h = ap (λ (l : List ℕ). level_symbols letters (take i level) l) (drop_more level i 0 h)

level-stop : (letters seen : List ℕ) (x : ℕ) (xs : List ℕ) (c : Cause) → symbol_of letters seen x ≡ Err c → level_symbols letters seen (x ∷ xs) ≡ Err c
unfolding level_symbols
level-stop letters seen x xs c e = rw e refl

level-next : (letters seen : List ℕ) (x : ℕ) (xs : List ℕ) (s : Symbol) → symbol_of letters seen x ≡ Ok s → level_symbols letters seen (x ∷ xs) ≡ (level_symbols letters (seen ++ x ∷ []) xs >>= λ ss. Ok (s ∷ ss))
unfolding level_symbols
level-next letters seen x xs s e = rw e refl

level-nil : (letters seen : List ℕ) → level_symbols letters seen [] ≡ Ok []
unfolding level_symbols
level-nil letters seen = refl

-- a symbol of a level has a cause
pub level_stops : (letters level : List ℕ) (i : ℕ) (front : List Symbol) (whole : Result (List Symbol) Cause) (c : Cause) → i < length level → symbol_of letters (take i level) (get_or level i 0) ≡ Err c
    → with_front front (level_symbols letters (take i level) (drop i level)) ≡ whole → whole ≡ Err c
level_stops letters level i front whole c h e k =
    sym k ∙ ap (λ (r : Result (List Symbol) Cause). with_front front r) (level_opened letters level i h ∙ level-stop letters (take i level) (get_or level i 0) (drop (i + 1) level) c e)

-- one more symbol of a level
pub level_more : (letters level : List ℕ) (i : ℕ) (s : Symbol) (front after : List Symbol) (whole : Result (List Symbol) Cause) → i < length level → symbol_of letters (take i level) (get_or level i 0) ≡ Ok s → after ≡ front ++ s ∷ []
    → with_front front (level_symbols letters (take i level) (drop i level)) ≡ whole → with_front after (level_symbols letters (take (i + 1) level) (drop (i + 1) level)) ≡ whole
level_more letters level i s front after whole h e a k =
    ap (λ (l : List ℕ). with_front after (level_symbols letters l (drop (i + 1) level))) (take_more level i 0 h)
    ∙ ap (λ (f : List Symbol). with_front f (level_symbols letters (take i level ++ get_or level i 0 ∷ []) (drop (i + 1) level))) a
    ∙ with_front-push front s (level_symbols letters (take i level ++ get_or level i 0 ∷ []) (drop (i + 1) level))
    ∙ ap (λ (r : Result (List Symbol) Cause). with_front front r) (sym (level_opened letters level i h ∙ level-next letters (take i level) (get_or level i 0) (drop (i + 1) level) s e)) ∙ k

-- all symbols of a level
pub level_end : (letters level : List ℕ) (i : ℕ) (front : List Symbol) (whole : Result (List Symbol) Cause) → length level ≤ i → with_front front (level_symbols letters (take i level) (drop i level)) ≡ whole → whole ≡ Ok front
level_end letters level i front whole h k =
    sym k ∙ ap (λ (r : Result (List Symbol) Cause). with_front front r) (ap (λ (l : List ℕ). level_symbols letters (take i level) l) (drop_all i level h) ∙ level-nil letters (take i level)) ∙ with_front-end front

symbols-stop : (letters level : List ℕ) (levels : List (List ℕ)) (c : Cause) → level_symbols letters [] level ≡ Err c → symbols_of letters (level ∷ levels) ≡ Err c
unfolding symbols_of
symbols-stop letters level levels c e = rw e refl

symbols-next : (letters level : List ℕ) (levels : List (List ℕ)) (ss : List Symbol) → level_symbols letters [] level ≡ Ok ss → symbols_of letters (level ∷ levels) ≡ (symbols_of letters levels >>= λ more. Ok (ss ++ more))
unfolding symbols_of
symbols-next letters level levels ss e = rw e refl

symbols-nil : (letters : List ℕ) → symbols_of letters [] ≡ Ok []
unfolding symbols_of
symbols-nil letters = refl

with_front-append : {A : Type 0} (front xs : List A) (r : Result (List A) Cause) → with_front (front ++ xs) r ≡ with_front front (r >>= λ more. Ok (xs ++ more))
with_front-append front xs (Ok more) = ap Ok (append_assoc front xs more)
with_front-append front xs (Err e) = refl

levels_opened : (letters : List ℕ) (levels : List (List ℕ)) (i : ℕ) (level : List ℕ) → i < length levels → level ≡ get_or levels i level → symbols_of letters (drop i levels) ≡ symbols_of letters (level ∷ drop (i + 1) levels)
levels_opened letters levels i level h e =
    ap (λ (l : List (List ℕ)). symbols_of letters l) (drop_more levels i level h) ∙ ap (λ (x : List ℕ). symbols_of letters (x ∷ drop (i + 1) levels)) (sym e)

-- a level has a cause
pub levels_stop : (letters : List ℕ) (levels : List (List ℕ)) (i : ℕ) (level : List ℕ) (front : List Symbol) (whole : Result (List Symbol) Cause) (c : Cause) → i < length levels → level ≡ get_or levels i level → level_symbols letters [] level ≡ Err c
    → with_front front (symbols_of letters (drop i levels)) ≡ whole → whole ≡ Err c
levels_stop letters levels i level front whole c h at e k =
    sym k ∙ ap (λ (r : Result (List Symbol) Cause). with_front front r) (levels_opened letters levels i level h at ∙ symbols-stop letters level (drop (i + 1) levels) c e)

-- one more level
pub levels_more : (letters : List ℕ) (levels : List (List ℕ)) (i : ℕ) (level : List ℕ) (ss front after : List Symbol) (whole : Result (List Symbol) Cause) → i < length levels → level ≡ get_or levels i level → level_symbols letters [] level ≡ Ok ss → after ≡ front ++ ss
    → with_front front (symbols_of letters (drop i levels)) ≡ whole → with_front after (symbols_of letters (drop (i + 1) levels)) ≡ whole
levels_more letters levels i level ss front after whole h at e a k =
    ap (λ (f : List Symbol). with_front f (symbols_of letters (drop (i + 1) levels))) a
    ∙ with_front-append front ss (symbols_of letters (drop (i + 1) levels))
    ∙ ap (λ (r : Result (List Symbol) Cause). with_front front r) (sym (levels_opened letters levels i level h at ∙ symbols-next letters level (drop (i + 1) levels) ss e)) ∙ k

-- all levels
pub levels_end : (letters : List ℕ) (levels : List (List ℕ)) (i : ℕ) (front : List Symbol) (whole : Result (List Symbol) Cause) → length levels ≤ i → with_front front (symbols_of letters (drop i levels)) ≡ whole → whole ≡ Ok front
levels_end letters levels i front whole h k =
    sym k ∙ ap (λ (r : Result (List Symbol) Cause). with_front front r) (ap (λ (l : List (List ℕ)). symbols_of letters l) (drop_all i levels h) ∙ symbols-nil letters) ∙ with_front-end front
