-- Facts of the first elements of a list, one more at a time.
use Rattle.std.proofs.Common.{◌≡◌, ℕ, ◌+◌, ◌<◌, Bool, List, [], ◌∷◌, ◌++◌, length, map, take, get_or, ap, sym, ◌∙◌, subst}
use Rattle.std.specs.Prelude.{filter, if◌then◌else◌}
use Rattle.std.specs.List.{AllByRecursion}
use Rattle.std.proofs.lemmas.List.{map-append, take_more}
use Rattle.std.proofs.lemmas.List.Elements.{filter-append}
use Rattle.dt_nest.proofs.Each.{all_append}

-- what holds of each
pub all_more : {X : Type 0} (P : X → Type 0) (xs : List X) (k : ℕ) (x : X) → k < length xs → x ≡ get_or xs k x → AllByRecursion P (take k xs) → P x → AllByRecursion P (take (k + 1) xs)
all_more {X} P xs k x l e h p =
    subst (λ (ys : List X). AllByRecursion P ys) (sym (take_more xs k x l))
    (all_append P (take k xs) (get_or xs k x ∷ []) h (subst P e p, tt))

-- what is made of each
pub map_more : {X Y : Type 0} (f : X → Y) (xs : List X) (k : ℕ) (x : X) → k < length xs → x ≡ get_or xs k x → map f (take (k + 1) xs) ≡ map f (take k xs) ++ f x ∷ []
map_more {X} {Y} f xs k x l e =
    ap (map f) (take_more xs k x l) ∙ map-append f (take k xs) (get_or xs k x ∷ []) ∙ ap (λ (y : X). map f (take k xs) ++ f y ∷ []) (sym e)

-- those that pass
pub filter_more : {X : Type 0} (p : X → Bool) (xs : List X) (k : ℕ) (x : X) → k < length xs → x ≡ get_or xs k x → filter p (take (k + 1) xs) ≡ filter p (take k xs) ++ (if p x then x ∷ [] else [])
filter_more {X} p xs k x l e =
    ap (filter p) (take_more xs k x l) ∙ filter-append p (take k xs) (get_or xs k x ∷ []) ∙ ap (λ (y : X). filter p (take k xs) ++ (if p y then y ∷ [] else [])) (sym e)
