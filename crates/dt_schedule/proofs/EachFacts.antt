-- Reading each of a list from the front.
use Rattle.std.proofs.Common.{◌≡◌, ℕ, suc, ◌+◌, ◌≤◌, ◌<◌, List, [], ◌∷◌, length, drop, map, get_or, Result, Ok, Err, ap, sym, ◌∙◌, add-one}
use Rattle.std.proofs.lemmas.List.{drop_all}
use Rattle.std.proofs.Math.Seq.{drop-cons}
use Rattle.dt_text.specs.Spans.{token_in}
use Rattle.dt_text.specs.declared.token_list.Token.{Token}
use Rattle.dt_model.specs.declared.cause.Cause.{Cause}
use Rattle.dt_model.specs.declared.cause.LineEnd.{LineEnd}
use Rattle.dt_model.specs.declared.cause.LineEnd.TheVariants as ends
use Rattle.dt_model.specs.Steps.{◌>>=◌, Fails}
use Rattle.dt_model.proofs.Fronts.{with_front, with_front-end}
use Rattle.dt_schedule.specs.NamesOf.{each}

-- the next element, and those behind it
pub drop-next : {A : Type 0} (xs : List A) (i : ℕ) (x : A) → i < length xs → x ≡ get_or xs i x → drop i xs ≡ x ∷ drop (i + 1) xs
drop-next xs i x h e = rw add-one (drop-cons xs i x h ∙ ap (λ y. y ∷ drop (suc i) xs) (sym e))

each-none : {A B : Type 0} (f : A → Result B Cause) (x : A) (xs : List A) (cause : Cause) → f x ≡ Err cause → each f (x ∷ xs) ≡ Err cause
each-none f x xs cause e = ap (λ r. r >>= λ y. each f xs >>= λ ys. Ok (y ∷ ys)) e

-- the next is refused
pub each_stop : {A B : Type 0} (f : A → Result B Cause) (rest after : List A) (x : A) (cause : Cause) (front : List B) (whole : Result (List B) Cause) → rest ≡ x ∷ after → f x ≡ Err cause
    → with_front front (each f rest) ≡ whole → whole ≡ Err cause
each_stop f rest after x cause front whole r e k = sym k ∙ ap (λ xs. with_front front (each f xs)) r ∙ ap (with_front front) (each-none f x after cause e)

-- so, or memory runs out
pub each_fails : {A B : Type 0} (f : A → Result B Cause) (rest after : List A) (x : A) (end : LineEnd) (front : List B) (whole : Result (List B) Cause) → rest ≡ x ∷ after → Fails end (f x)
    → with_front front (each f rest) ≡ whole → Fails end whole
each_fails f rest after x ends.NoMemory front whole r e k = tt
each_fails f rest after x (ends.Refused cause) front whole r e k = each_stop f rest after x cause front whole r e k

-- each is read
pub each_end : {A B : Type 0} (f : A → Result B Cause) (rest : List A) (front : List B) (whole : Result (List B) Cause) → rest ≡ [] → with_front front (each f rest) ≡ whole → whole ≡ Ok front
each_end f rest front whole r k = sym k ∙ ap (λ xs. with_front front (each f xs)) r ∙ with_front-end front
