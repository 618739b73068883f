-- Walks over a list that stands for another, element by element.
use Rattle.std.proofs.Common.{◌≡◌, ℕ, ◌+◌, ◌<◌, ◌≤◌, List, [], ◌∷◌, ◌++◌, length, get_or, map, take, drop, append_assoc, refl, ap, sym, ◌∙◌, subst, arith, Bool, true, false, cond, All, Option, Some, None}
use Rattle.std.specs.Prelude.{find}
use Rattle.std.specs.List.{filter_map, flat_map}
use Rattle.std.proofs.lemmas.List.{take_all, take-append-drop, take_more, length-map, flat_map_more}
use Rattle.std.proofs.Math.ListN.{get_or-map}
use Rattle.std.proofs.lemmas.List.Elements.{All-more, filter_map-append}
use Rattle.std.proofs.lemmas.List.Folds.{find-append}

-- the next element is that of the list it stands for
pub next_item : {X Y : Type 0} (f : X → Y) (xs : List X) (i : ℕ) (x : X) → x ≡ get_or xs i x → f x ≡ get_or (map f xs) i (f x)
next_item f xs i x e = ap f e ∙ sym (get_or-map f xs i x)

-- the front grows by that element
pub next_front : {X Y : Type 0} (f : X → Y) (xs : List X) (i : ℕ) (x : X) → i < length xs → x ≡ get_or xs i x → take (i + 1) (map f xs) ≡ take i (map f xs) ++ f x ∷ []
next_front {X} {Y} f xs i x l e =
    take_more (map f xs) i (f x) (omega (arith, length-map xs f)) ∙ ap (λ (y : Y). take i (map f xs) ++ y ∷ []) (sym (next_item f xs i x e))

joined_front : {Y : Type 0} (p : Y → Bool) (front : List Y) (y : Y) (b : Bool) → find p front ≡ None → p y ≡ b → find p (front ++ y ∷ []) ≡ cond b (Some y) None
joined_front p front y true h t = find-append p front (y ∷ []) ∙ rw (h, t) refl
joined_front p front y false h t = find-append p front (y ∷ []) ∙ rw (h, t) refl

-- an element that fails leaves the search without an answer
pub passed_by : {X Y : Type 0} (f : X → Y) (p : Y → Bool) (xs : List X) (i : ℕ) (x : X) → i < length xs → x ≡ get_or xs i x → find p (take i (map f xs)) ≡ None → p (f x) ≡ false → find p (take (i + 1) (map f xs)) ≡ None
passed_by {X} {Y} f p xs i x l e h t = ap (λ (ys : List Y). find p ys) (next_front f xs i x l e) ∙ joined_front p (take i (map f xs)) (f x) false h t

-- a search that passed all elements has no answer
pub passed_all : {X Y : Type 0} (f : X → Y) (p : Y → Bool) (xs : List X) (i : ℕ) → length xs ≤ i → find p (take i (map f xs)) ≡ None → find p (map f xs) ≡ None
passed_all {X} {Y} f p xs i l h = ap (λ (ys : List Y). find p ys) (sym (take_all i (map f xs) (omega (arith, length-map xs f)))) ∙ h

found_in_front : {Y : Type 0} (p : Y → Bool) (ys : List Y) (i : ℕ) (y : Y) → find p (take i ys) ≡ Some y → find p ys ≡ Some y
found_in_front {Y} p ys i y h =
    ap (λ (zs : List Y). find p zs) (sym (take-append-drop i ys)) ∙ find-append p (take i ys) (drop i ys) ∙ rw h refl

-- the first element that passes is the answer
pub found_here : {X Y : Type 0} (f : X → Y) (p : Y → Bool) (xs : List X) (i : ℕ) (x : X) → i < length xs → x ≡ get_or xs i x → find p (take i (map f xs)) ≡ None → p (f x) ≡ true → find p (map f xs) ≡ Some (f x)
found_here {X} {Y} f p xs i x l e h t = found_in_front p (map f xs) (i + 1) (f x) (ap (λ (ys : List Y). find p ys) (next_front f xs i x l e) ∙ joined_front p (take i (map f xs)) (f x) true h t)

-- what is joined grows by what the next element gives
pub joined_next : {X Y A : Type 0} (f : X → Y) (h : Y → List A) (xs : List X) (i : ℕ) (x : X) (old new : List A) → i < length xs → x ≡ get_or xs i x → old ≡ flat_map h (take i (map f xs)) → new ≡ old ++ h (f x) → new ≡ flat_map h (take (i + 1) (map f xs))
joined_next {X} {Y} {A} f h xs i x old new l e o n =
    n ∙ ap (λ (z : List A). z ++ h (f x)) o ∙ flat_map_more h [] (take i (map f xs)) (f x) ∙ ap (λ (ys : List Y). flat_map h ys) (sym (next_front f xs i x l e))

-- what holds of a front holds of the longer one
pub all_next : {X Y : Type 0} (f : X → Y) (P : Y → Type 0) (xs : List X) (i : ℕ) (x : X) → i < length xs → x ≡ get_or xs i x → All P (take i (map f xs)) → P (f x) → All P (take (i + 1) (map f xs))
all_next f P xs i x l e h p = All-more P (map f xs) i (f x) (omega (arith, length-map xs f)) h (subst P (next_item f xs i x e) p)

-- chosen elements of a longer front
pub chosen_next : {Y A : Type 0} (h : Y → Option A) (front : List A) (xs : List Y) (i : ℕ) (y : Y) (old new more : List A) → i < length xs → y ≡ get_or xs i y → old ≡ front ++ filter_map h (take i xs) → new ≡ old ++ more → filter_map h (y ∷ []) ≡ more
    → new ≡ front ++ filter_map h (take (i + 1) xs)
chosen_next {Y} {A} h front xs i y old new more l e o n m =
    n ∙ ap (λ (z : List A). z ++ more) o ∙ append_assoc front (filter_map h (take i xs)) more ∙ ap (λ (z : List A). front ++ (filter_map h (take i xs) ++ z)) (sym m)
    ∙ ap (λ (z : List A). front ++ z) (sym (filter_map-append h (take i xs) (y ∷ []))) ∙ ap (λ (z : List Y). front ++ filter_map h z) (sym (take_more xs i y l ∙ ap (λ (z : Y). take i xs ++ z ∷ []) (sym e)))
