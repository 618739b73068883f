-- Runs of lists of operations, each with all its units.
use Rattle.std.proofs.Common.{◌≡◌, ℕ, zero, suc, ◌<◌, ◌≤◌, Bool, List, [], ◌∷◌, ◌++◌, length, map, filter, take, Option, Some, None, refl, sym, ap, ◌∙◌, subst, arith, append_assoc, length-append, if◌then◌else◌, true, false}
use Rattle.std.specs.Prelude.{slice_get}
use Rattle.std.specs.List.{AllByRecursion, flat_map}
use Rattle.std.proofs.lemmas.List.Concat.{flat_map-cons}
use Rattle.dt_argument.specs.Orders.{run_along, listing_order}
use Rattle.dt_argument.proofs.OperationRuns.{and_then, units_run, ops_run, in_turn_runs}
use Rattle.dt_plan.specs.declared.ops.Op.{Op}
use Rattle.dt_plan.specs.Layouts.{Layout}
use Rattle.dt_plan.specs.Operations.{units_of}
use Rattle.dt_events.specs.State.{State}
use Rattle.dt_events.specs.Units.{of_unit, can_do, next_of}
use Rattle.dt_events.specs.Jobs.{op_at, listing_over}

-- Lists of steps -----------------------------------------------------------------------------------------------------------

-- one step for each element of a list, none where one is undefined
abbrev pub run_all : {X : Type 0} → (X → State → Option State) → List X → State → Option State
run_all step [] s = Some s
run_all step (x ∷ xs) s = and_then (step x s) (run_all step xs)

-- one more step
pub then_then : (o : Option State) (f g h : State → Option State) → ((u : State) → h u ≡ and_then (f u) g) → and_then o h ≡ and_then (and_then o f) g
then_then None f g h e = refl
then_then (Some u) f g h e = e u

-- two lists, one after the other
pub run_append : {X : Type 0} (step : X → State → Option State) (xs ys : List X) (s : State) → run_all step (xs ++ ys) s ≡ and_then (run_all step xs s) (run_all step ys)
run_append step [] ys s = refl
run_append step (x ∷ xs) ys s = then_then (step x s) (run_all step xs) (run_all step ys) (run_all step (xs ++ ys)) (λ u. run_append step xs ys u)

-- the second from where the first ends
pub chain : {X : Type 0} (step : X → State → Option State) (xs ys : List X) (s t : State) (r : Option State) → run_all step xs s ≡ Some t → run_all step ys t ≡ r → run_all step (xs ++ ys) s ≡ r
chain step xs ys s t r h k = run_append step xs ys s ∙ ap (λ o. and_then o (run_all step ys)) h ∙ k

-- lists that are joined
pub run_flat : {X Y : Type 0} (step : X → State → Option State) (f : Y → List X) (ys : List Y) (s : State) → run_all step (flat_map f ys) s ≡ run_all (λ y. run_all step (f y)) ys s
run_flat step f [] s = refl
run_flat step f (y ∷ ys) s =
    ap (λ l. run_all step l s) (flat_map-cons f y ys)
    ∙ run_append step (f y) (flat_map f ys) s
    ∙ ap (and_then (run_all step (f y) s)) (λ i u. run_flat step f ys u i)

-- a mapped list
pub run_map : {X Y : Type 0} (step : X → State → Option State) (f : Y → X) (ys : List Y) (s : State) → run_all step (map f ys) s ≡ run_all (λ y. step (f y)) ys s
run_map step f [] s = refl
run_map step f (y ∷ ys) s = ap (and_then (step (f y) s)) (λ i u. run_map step f ys u i)

-- steps that are the same in each state
pub run_same : {X : Type 0} (f g : X → State → Option State) → ((x : X) (s : State) → f x s ≡ g x s) → (xs : List X) (s : State) → run_all f xs s ≡ run_all g xs s
run_same f g e [] s = refl
run_same f g e (x ∷ xs) s = ap (λ o. and_then o (run_all f xs)) (e x s) ∙ ap (and_then (g x s)) (λ i u. run_same f g e xs u i)

-- so it is where they are the same for each of these elements
pub run_alike : {X : Type 0} (f g : X → State → Option State) (xs : List X) → AllByRecursion (λ x. (s : State) → f x s ≡ g x s) xs → (s : State) → run_all f xs s ≡ run_all g xs s
run_alike f g [] e s = refl
run_alike f g (x ∷ xs) e s = ap (λ o. and_then o (run_all f xs)) (e.0 s) ∙ ap (and_then (g x s)) (λ i u. run_alike f g xs e.1 u i)

-- steps that do nothing at the elements that fail a test
pub run_filter : {X : Type 0} (c : X → Bool) (f g : X → State → Option State) (xs : List X) → AllByRecursion (λ x. (s : State) → f x s ≡ (if c x then g x s else Some s)) xs
    → (s : State) → run_all f xs s ≡ run_all g (filter c xs) s
run_filter c f g [] e s = refl
run_filter {X} c f g (x ∷ xs) e s = ap (λ o. and_then o (run_all f xs)) (e.0 s) ∙ go (c x) (λ u. run_filter c f g xs e.1 u)
  where
    go : (b : Bool) → ((u : State) → run_all f xs u ≡ run_all g (filter c xs) u) → and_then (if b then g x s else Some s) (run_all f xs) ≡ run_all g (if b then x ∷ filter c xs else filter c xs) s
    go true again = ap (and_then (g x s)) (λ i u. again u i)
    go false again = again s

-- nothing after a state
pub then_some : (o : Option State) → and_then o (λ s. Some s) ≡ o
then_some None = refl
then_some (Some s) = refl

-- Units --------------------------------------------------------------------------------------------------------------------

-- so many steps after the first i, by their numbers
abbrev pub steps_run : (ℕ → State → Option State) → ℕ → ℕ → State → Option State
steps_run step i zero s = Some s
steps_run step i (suc k) s = and_then (step (suc i) s) (steps_run step (suc i) k)

-- unit i of an operation
abbrev pub unit_step : Layout → Op → ℕ → State → Option State
unit_step l o i s = if can_do l o i s then Some (next_of l o i s) else None

-- all its units
abbrev pub op_run : Layout → Op → State → Option State
op_run l o s = steps_run (unit_step l o) 0 (units_of l o) s

-- what is behind a list
behind : {X : Type 0} (vs ws : List X) (w : X) → slice_get (vs ++ w ∷ ws) (length vs) ≡ Some w
behind [] ws w = refl
behind (v ∷ vs) ws w = behind vs ws w

-- steps over the elements of a list, which their numbers name
words_run : {X : Type 0} (step : Option X → State → Option State) (vs ws : List X) (s : State)
    → steps_run (λ i. step (of_unit (vs ++ ws) i)) (length vs) (length ws) s ≡ run_all (λ w. step (Some w)) ws s
words_run step vs [] s = refl
words_run {X} step vs (w ∷ ws) s =
    ap (λ o. and_then (step o s) (steps_run (λ i. step (of_unit (vs ++ w ∷ ws) i)) (suc (length vs)) (length ws))) (behind vs ws w)
    ∙ ap (and_then (step (Some w) s)) (λ i t. later t (words_run step (vs ++ w ∷ []) ws t) i)
  where
    later : (t : State) → steps_run (λ i. step (of_unit ((vs ++ w ∷ []) ++ ws) i)) (length (vs ++ w ∷ [])) (length ws) t ≡ run_all (λ w. step (Some w)) ws t
        → steps_run (λ i. step (of_unit (vs ++ w ∷ ws) i)) (suc (length vs)) (length ws) t ≡ run_all (λ w. step (Some w)) ws t
    later t h =
        let n : length (vs ++ w ∷ []) ≡ suc (length vs) = let e = length-append vs (w ∷ []) in omega (arith, e) in
        subst (λ (zs : List X). steps_run (λ i. step (of_unit zs i)) (suc (length vs)) (length ws) t ≡ run_all (λ w. step (Some w)) ws t) (append_assoc vs (w ∷ []) ws)
        (subst (λ (m : ℕ). steps_run (λ i. step (of_unit ((vs ++ w ∷ []) ++ ws) i)) m (length ws) t ≡ run_all (λ w. step (Some w)) ws t) n h)

-- from the first one on
pub each_run : {X : Type 0} (step : Option X → State → Option State) (ws : List X) (s : State) → steps_run (λ i. step (of_unit ws i)) 0 (length ws) s ≡ run_all (λ w. step (Some w)) ws s
each_run step ws s = words_run step [] ws s

-- The listing --------------------------------------------------------------------------------------------------------------

module _ (l : Layout) (ops : List Op) (event : ℕ → ℕ → Bool) (opening : State) where
  -- units in the list are those of its operations
  units_same : (a i k : ℕ) (s : State) → units_run (listing_over l ops event opening) a i k s ≡ steps_run (unit_step l (op_at ops a)) i k s
  units_same a i zero s = refl
  units_same a i (suc k) s = ap (and_then (unit_step l (op_at ops a) (suc i) s)) (λ j t. units_same a (suc i) k t j)

  -- the first n + 1 operations
  take_next : (n : ℕ) (os : List Op) → n < length os → take (suc n) os ≡ take n os ++ op_at os n ∷ []
  take_next n [] h = absurd (omega arith)
  take_next zero (o ∷ os) h = refl
  take_next (suc n) (o ∷ os) h = ap (λ r. o ∷ r) (take_next n os (omega arith))

  take_all : (os : List Op) → take (length os) os ≡ os
  take_all [] = refl
  take_all (o ∷ os) = ap (λ r. o ∷ r) (take_all os)

  -- the first n operations of the list run one after another
  ops_same : (n : ℕ) → n ≤ length ops → ops_run (listing_over l ops event opening) n ≡ run_all (op_run l) (take n ops) opening
  ops_same zero h = refl
  ops_same (suc n) h =
      ap (λ o. and_then o (units_run (listing_over l ops event opening) n 0 (units_of l (op_at ops n)))) (ops_same n (omega arith))
      ∙ ap (and_then (run_all (op_run l) (take n ops) opening)) (λ j s. (units_same n 0 (units_of l (op_at ops n)) s ∙ sym (then_some (op_run l (op_at ops n) s))) j)
      ∙ sym (run_append (op_run l) (take n ops) (op_at ops n ∷ []) opening)
      ∙ ap (λ r. run_all (op_run l) r opening) (sym (take_next n ops (omega arith)))

  -- the run in the order of the list is that of its operations, one after another
  pub listing_runs : run_along (listing_over l ops event opening) (listing_order (listing_over l ops event opening)) ≡ run_all (op_run l) ops opening
  listing_runs =
      in_turn_runs (listing_over l ops event opening) (length ops)
      ∙ ops_same (length ops) (omega arith)
      ∙ ap (λ r. run_all (op_run l) r opening) (take_all ops)
