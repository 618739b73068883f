-- What is made of the elements of a list with their numbers, one after the other.
use Rattle.std.proofs.Common.{◌≡◌, ℕ, ◌+◌, ◌<◌, ◌≤◌, List, ◌++◌, length, take, get_or, ap, sym, ◌∙◌, append_assoc, arith}
use Rattle.std.specs.List.{flat_map, zip}
use Rattle.std.proofs.lemmas.List.{take_all}
use Rattle.std.proofs.lemmas.Slice.Zip.{get_or-zip, length-zip}
use Rattle.dt_base.specs.Ranges.{below}
use Rattle.dt_base.proofs.Ranges.{length-below, get_or-below}
use Rattle.dt_plan.proofs.PathFacts.{flat_step}

abbrev pub enumerated : {X : Type 0} → List X → List (ℕ × X)
enumerated xs = zip (below (length xs)) xs

length-enumerated : {X : Type 0} (xs : List X) → length (enumerated xs) ≡ length xs
length-enumerated xs = let e = length-zip (below (length xs)) xs in let m = length-below (length xs) in omega (arith, e, m)

-- the element with its number
get_or-enumerated : {X : Type 0} (xs : List X) (k : ℕ) (x : X) → k < length xs → x ≡ get_or xs k x → get_or (enumerated xs) k (k, x) ≡ (k, x)
get_or-enumerated {X} xs k x l e =
    get_or-zip (below (length xs)) xs k (k, x) (let m = length-below (length xs) in omega (arith, l, m)) l
    ∙ ap (λ (i : ℕ). (i, get_or xs k x)) (get_or-below (length xs) k k l) ∙ ap (λ (y : X). (k, y)) (sym e)

-- what is put behind other things for one element more
pub made_more : {X Y : Type 0} (f : ℕ × X → List Y) (xs : List X) (k : ℕ) (x : X) (front old new : List Y) → k < length xs → x ≡ get_or xs k x → old ≡ front ++ flat_map f (take k (enumerated xs)) → new ≡ old ++ f (k, x)
    → new ≡ front ++ flat_map f (take (k + 1) (enumerated xs))
made_more {X} {Y} f xs k x front old new l e a b =
    let step = flat_step f (enumerated xs) k (k, x) (let m = length-enumerated xs in omega (arith, l, m)) ∙ ap (λ (y : ℕ × X). flat_map f (take k (enumerated xs)) ++ f y) (get_or-enumerated xs k x l e) in
    b ∙ ap (λ (ys : List Y). ys ++ f (k, x)) a ∙ append_assoc front (flat_map f (take k (enumerated xs))) (f (k, x)) ∙ ap (λ (ys : List Y). front ++ ys) (sym step)

-- and for all elements
pub made_whole : {X Y : Type 0} (f : ℕ × X → List Y) (xs : List X) (k : ℕ) (front now : List Y) → length xs ≤ k → now ≡ front ++ flat_map f (take k (enumerated xs)) → now ≡ front ++ flat_map f (enumerated xs)
made_whole {X} {Y} f xs k front now l a =
    a ∙ ap (λ (es : List (ℕ × X)). front ++ flat_map f es) (take_all k (enumerated xs) (let m = length-enumerated xs in omega (arith, l, m)))

-- two lists of one length, side by side
pub length-paired : {X Y : Type 0} (xs : List X) (ys : List Y) → length ys ≡ length xs → length (zip xs ys) ≡ length xs
length-paired xs ys e = let m = length-zip xs ys in omega (arith, e, m)

-- the two elements at one place
pub get_or-paired : {X Y : Type 0} (xs : List X) (ys : List Y) (k : ℕ) (x : X) (y : Y) → k < length xs → k < length ys → x ≡ get_or xs k x → y ≡ get_or ys k y → (x, y) ≡ get_or (zip xs ys) k (x, y)
get_or-paired {X} {Y} xs ys k x y l m e h =
    ap (λ (a : X). (a, y)) e ∙ ap (λ (b : Y). (get_or xs k x, b)) h ∙ sym (get_or-zip xs ys k (x, y) l m)
