-- Runs of lists, and the two kinds of change: cells that are set, and cells that grow.
use Rattle.std.proofs.Common.{◌≡◌, ℕ, ◌+◌, ◌%◌, ◌^◌, ◌<◌, Bool, true, false, ◌||◌, List, [], ◌∷◌, Option, Some, None, is_some, refl, sym, ap, ◌∙◌, arith, if◌then◌else◌}
use Rattle.std.specs.Prelude.{sum_by}
use Rattle.std.specs.List.{AllByRecursion, list_any}
use Rattle.std.proofs.lemmas.List.Sums.{sum_by-cons}
use Rattle.dt_argument.specs.Frames.{grown}
use Rattle.dt_events.specs.State.{Cell, State}
use Rattle.dt_events.proofs.BlockPlans.{grow_all, AreSmall}
use Rattle.dt_events.proofs.ListRuns.{run_all}
use Rattle.dt_argument.proofs.OperationRuns.{and_then}

-- the cells that pass the test are set
abbrev pub fill : (Cell → Option ℕ) → (Cell → Bool) → State → State
fill v d s c = if d c then v c else s c

if_or : {A : Type 0} (a b : Bool) (x y : A) → (if b then x else (if a then x else y)) ≡ (if a || b then x else y)
if_or true true x y = refl
if_or true false x y = refl
if_or false true x y = refl
if_or false false x y = refl

-- each of the elements before has this relation to each after
abbrev pub Pairwise : {X : Type 0} → (X → X → Type 0) → List X → Type 0
Pairwise R [] = Unit {0}
Pairwise R (x ∷ xs) = AllByRecursion (R x) xs × Pairwise R xs

-- what holds of everything
pub all_each : {X : Type 0} (P : X → Type 0) → ((x : X) → P x) → (xs : List X) → AllByRecursion P xs
all_each P f [] = tt
all_each P f (x ∷ xs) = (f x, all_each P f xs)

-- what holds of any two
pub pairwise_each : {X : Type 0} (R : X → X → Type 0) → ((x y : X) → R x y) → (xs : List X) → Pairwise R xs
pairwise_each R f [] = tt
pairwise_each R f (x ∷ xs) = (all_each (R x) (f x) xs, pairwise_each R f xs)

all_with : {X : Type 0} (P Q R : X → Type 0) (xs : List X) → ((x : X) → P x → Q x → R x) → AllByRecursion P xs → AllByRecursion Q xs → AllByRecursion R xs
all_with P Q R [] f p q = tt
all_with P Q R (x ∷ xs) f p q = (f x p.0 q.0, all_with P Q R xs f p.1 q.1)

-- from one fact of each element to another
pub all_turned : {X : Type 0} (P Q : X → Type 0) (xs : List X) → ((x : X) → P x → Q x) → AllByRecursion P xs → AllByRecursion Q xs
all_turned P Q [] f h = tt
all_turned P Q (x ∷ xs) f h = (f x h.0, all_turned P Q xs f h.1)

-- steps that each set some cells, one after another
pub fills_all : {X : Type 0} (v : Cell → Option ℕ) (step : X → State → Option State) (d : X → Cell → Bool) (Pre : X → State → Type 0) (xs : List X)
    → Pairwise (λ x y. (s : State) → Pre y s → Pre y (fill v (d x) s)) xs
    → AllByRecursion (λ x. (s : State) → Pre x s → step x s ≡ Some (fill v (d x) s)) xs
    → (s : State) → AllByRecursion (λ x. Pre x s) xs → run_all step xs s ≡ Some (fill v (λ c. list_any (λ x. d x c) xs) s)
fills_all v step d Pre [] k f s p = refl
fills_all v step d Pre (x ∷ xs) k f s p =
    let one : step x s ≡ Some (fill v (d x) s) = f.0 s p.0 in
    let rest : run_all step xs (fill v (d x) s) ≡ Some (fill v (λ c. list_any (λ y. d y c) xs) (fill v (d x) s)) =
    fills_all v step d Pre xs k.1 f.1 (fill v (d x) s) (all_with (λ y. (u : State) → Pre y u → Pre y (fill v (d x) u)) (λ y. Pre y s) (λ y. Pre y (fill v (d x) s)) xs (λ y g q. g s q) k.0 p.1) in
    ap (λ o. and_then o (run_all step xs)) one
    ∙ rest
    ∙ ap Some (λ i c. if_or (d x c) (list_any (λ y. d y c) xs) (v c) (s c) i)

-- growing by equal amounts modulo 2 ^ 64
pub grown_like : (a b : ℕ) (x : Option ℕ) → a % 2 ^ 64 ≡ b % 2 ^ 64 → grown a x ≡ grown b x
grown_like a b None h = refl
grown_like a b (Some v) h = let e : (v + a) % 2 ^ 64 ≡ (v + b) % 2 ^ 64 = omega (arith, h) in ap Some e

-- growing twice
pub grown_twice : (a b : ℕ) (x : Option ℕ) → grown b (grown a x) ≡ grown (a + b) x
grown_twice a b None = refl
grown_twice a b (Some v) = let e : ((v + a) % 2 ^ 64 + b) % 2 ^ 64 ≡ (v + (a + b)) % 2 ^ 64 = omega arith in ap Some e

-- growing by nothing
pub grown_none : (a : ℕ) (x : Option ℕ) → ((v : ℕ) → x ≡ Some v → v < 2 ^ 64) → a % 2 ^ 64 ≡ 0 → grown a x ≡ x
grown_none a None h e = refl
grown_none a (Some v) h e = let l : v < 2 ^ 64 = h v refl in let g : (v + a) % 2 ^ 64 ≡ v = omega (arith, l, e) in ap Some g

-- growing keeps presence
pub grown_there : (a : ℕ) (x : Option ℕ) → is_some (grown a x) ≡ is_some x
grown_there a None = refl
grown_there a (Some v) = refl

-- what has grown is below 2 ^ 64
pub grown_small : (a : ℕ) (x : Option ℕ) (v : ℕ) → grown a x ≡ Some v → v < 2 ^ 64
grown_small a None v h = cc
grown_small a (Some u) v h = let e : (u + a) % 2 ^ 64 ≡ v = some_same ((u + a) % 2 ^ 64) v h in omega (arith, e)
  where
    some_same : (p q : ℕ) → Some p ≡ Some q → p ≡ q
    some_same p q e = cc

-- steps that each let cells grow, one after another, from a state of which a fact stays
pub grows_all : {X : Type 0} (step : X → State → Option State) (g : X → Cell → ℕ) (P : State → Type 0) (xs : List X)
    → ((s : State) → P s → AreSmall s)
    → ((x : X) (s : State) → P s → P (grow_all (g x) s))
    → AllByRecursion (λ x. (s : State) → P s → step x s ≡ Some (grow_all (g x) s)) xs
    → (s : State) → P s → run_all step xs s ≡ Some (grow_all (λ c. sum_by (λ x. g x c) xs) s)
grows_all step g P [] small stays f s p = ap Some (λ i c. sym (grown_none 0 (s c) (small s p c) refl) i)
grows_all step g P (x ∷ xs) small stays f s p =
    let one : step x s ≡ Some (grow_all (g x) s) = f.0 s p in
    let rest : run_all step xs (grow_all (g x) s) ≡ Some (grow_all (λ c. sum_by (λ y. g y c) xs) (grow_all (g x) s)) = grows_all step g P xs small stays f.1 (grow_all (g x) s) (stays x s p) in
    ap (λ o. and_then o (run_all step xs)) one
    ∙ rest
    ∙ ap Some (λ i c. (grown_twice (g x c) (sum_by (λ y. g y c) xs) (s c) ∙ ap (λ n. grown n (s c)) (sym (sum_by-cons (λ y. g y c) x xs))) i)
