-- Lists that ascend strictly by a key, and sorting by keys.
use Rattle.std.specs.Prelude.{◌≡◌, ◌⊎◌, ℕ, true, List, [], ◌∷◌, if◌then◌else◌}
use Rattle.std.specs.List.{AllByRecursion}
use Rattle.dt_model.specs.PositionLaws.{is_before}

-- x is in the list
abbrev pub IsIn : {A : Type 0} → A → List A → Type 0
IsIn x [] = ⊥
IsIn x (y ∷ ys) = (x ≡ y) ⊎ IsIn x ys

-- each key comes before all later ones
abbrev pub Ascends : {A : Type 0} → (A → List ℕ) → List A → Type 0
Ascends key [] = Unit {0}
Ascends key (x ∷ xs) = AllByRecursion (λ y. is_before (key x) (key y) ≡ true) xs × Ascends key xs

-- an element put before the first one with a later key, unless its key is there
abbrev pub put_in : {A : Type 0} → (A → List ℕ) → A → List A → List A
put_in key o [] = o ∷ []
put_in key o (p ∷ ps) = if is_before (key o) (key p) then o ∷ p ∷ ps else if is_before (key p) (key o) then p ∷ put_in key o ps else p ∷ ps

-- one element of each key, in ascending order
abbrev pub listed : {A : Type 0} → (A → List ℕ) → List A → List A
listed key [] = []
listed key (o ∷ os) = put_in key o (listed key os)
