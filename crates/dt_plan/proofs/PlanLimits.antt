-- The numbers of a plan against their limits.
use Rattle.std.proofs.Common.{◌≡◌, ℕ, ◌+◌, ◌<◌, ◌≤◌, Bool, true, false, List, [], ◌∷◌, ◌++◌, length, map, take, get_or, refl, ap, sym, ◌∙◌, arith}
use Rattle.std.specs.Prelude.{if◌then◌else◌, nat_lt, sum, sum_by, Ok, Err}
use Rattle.std.specs.List.{zip}
use Rattle.std.proofs.lemmas.Bool.{ltb-true, ltb-false}
use Rattle.std.proofs.lemmas.List.{get_or_default, take_all}
use Rattle.std.proofs.lemmas.List.Sums.{sum_by-cons}
use Rattle.std.proofs.lemmas.Slice.Zip.{get_or-zip, length-zip}
use Rattle.dt_base.specs.Ranges.{below}
use Rattle.dt_model.specs.Positions.{StoredTensor, tensor_at}
use Rattle.dt_place.specs.Homes.{homes_on}
use Rattle.dt_place.specs.Machines.{MachineView, nodes_of}
use Rattle.dt_place.specs.declared.placements.Placement.{Placement}
use Rattle.dt_plan.specs.declared.ops.Op.{Op}
use Rattle.dt_plan.specs.declared.plan_end.PlanEnd.TheVariants as ends
use Rattle.dt_plan.specs.Bounds.{bound_of}
use Rattle.dt_plan.specs.Keeps.{Keeps, op_limit}
use Rattle.dt_plan.specs.Layouts.{Layout}
use Rattle.dt_plan.specs.Limits.{bound_sum, bounds_within, ops_within}
use Rattle.dt_plan.specs.NodeWords.{capped, row_of, word_limit}
use Rattle.dt_plan.specs.Operations.{ops_of}
use Rattle.dt_plan.proofs.Taken.{map_more}

-- Words -----------------------------------------------------------------------------------------------------------------

-- a sum of numbers that are counted to the limit, counted to the limit
capped_sum : {X : Type 0} (f : X → ℕ) (xs : List X) → capped (sum (map (λ x. capped (f x)) xs)) ≡ capped (sum_by f xs)
capped_sum f [] = refl
capped_sum f (x ∷ xs) =
    let a = sum_by-cons (λ n. n) (capped (f x)) (map (λ y. capped (f y)) xs) in
    let b = capped_sum f xs in
    let c = sum_by-cons f x xs in
    omega (arith, a, b, c)

-- numbers whose sum is within the limit are counted whole
counted_whole : {X : Type 0} (f : X → ℕ) (xs : List X) → sum_by f xs ≤ word_limit → map (λ x. capped (f x)) xs ≡ map f xs
counted_whole f [] l = refl
counted_whole f (x ∷ xs) l =
    let c = sum_by-cons f x xs in
    let e : capped (f x) ≡ f x = omega (arith, c, l) in
    ap (λ n. n ∷ map (λ y. capped (f y)) xs) e ∙ ap (λ ns. f x ∷ ns) (counted_whole f xs (omega (arith, c, l)))

module _ (l : Layout) (row : List ℕ) (is : row ≡ row_of (nodes_of l.machine) (bound_of l)) where
  total : capped (sum row) ≡ capped (bound_sum l)
  total = ap (λ (r : List ℕ). capped (sum r)) is ∙ capped_sum (bound_of l) (below (nodes_of l.machine))

  -- too many words
  pub words_many : word_limit < capped (sum row) → bounds_within l ≡ Err ends.TooManyWords
  words_many h = go (nat_lt word_limit (bound_sum l)) refl
    where
      go : (b : Bool) → nat_lt word_limit (bound_sum l) ≡ b → (if b then Err ends.TooManyWords else Ok (map (bound_of l) (below (nodes_of l.machine)))) ≡ Err ends.TooManyWords
      go true e = refl
      go false e = let a = ltb-false word_limit (bound_sum l) e in let t = total in absurd (omega (arith, a, h, t))

  -- no more than the limit
  pub words_few : capped (sum row) ≤ word_limit → bounds_within l ≡ Ok row
  words_few h = go (nat_lt word_limit (bound_sum l)) refl
    where
      go : (b : Bool) → nat_lt word_limit (bound_sum l) ≡ b → (if b then Err ends.TooManyWords else Ok (map (bound_of l) (below (nodes_of l.machine)))) ≡ Ok row
      go true e = let a = ltb-true word_limit (bound_sum l) e in let t = total in absurd (omega (arith, a, h, t))
      go false e = ap (λ (r : List ℕ). Ok r) (sym (is ∙ counted_whole (bound_of l) (below (nodes_of l.machine)) (ltb-false word_limit (bound_sum l) e)))

-- Operations ------------------------------------------------------------------------------------------------------------

module _ (l : Layout) (ops : List Op) (kept : Keeps [] (ops_of l) ops) where
  -- too many operations
  pub ops_many : op_limit < length ops → ops_within l ≡ Err ends.TooManyOps
  ops_many h = go (nat_lt op_limit (length (ops_of l))) refl
    where
      go : (b : Bool) → nat_lt op_limit (length (ops_of l)) ≡ b → (if b then Err ends.TooManyOps else Ok (ops_of l)) ≡ Err ends.TooManyOps
      go true e = refl
      go false e = let a = ltb-false op_limit (length (ops_of l)) e in let m = kept.many h in absurd (omega (arith, a, m))

  -- no more than the limit
  pub ops_few : length ops ≤ op_limit → ops_within l ≡ Ok ops
  ops_few h = go (nat_lt op_limit (length (ops_of l))) refl
    where
      go : (b : Bool) → nat_lt op_limit (length (ops_of l)) ≡ b → (if b then Err ends.TooManyOps else Ok (ops_of l)) ≡ Ok ops
      go true e = let a = ltb-true op_limit (length (ops_of l)) e in let m = ap (λ (r : List Op). length r) (kept.all h) in absurd (omega (arith, a, m, h))
      go false e = ap (λ (r : List Op). Ok r) (sym (kept.all h))

-- Homes -----------------------------------------------------------------------------------------------------------------

module _ (m : MachineView) (places : List Placement) (stored : List StoredTensor) where
  abbrev homes_by : Placement × StoredTensor → List (List ℕ)
  homes_by x = homes_on x.0 m x.1

  module _ (e : length places ≡ length stored) where
    zipped : length (zip places stored) ≡ length places
    zipped = let z = length-zip places stored in omega (arith, e, z)

    -- the homes of one tensor more
    pub homes_more : (k : ℕ) (p : Placement) (homes : List (List ℕ)) (old new : List (List (List ℕ))) → k < length places → p ≡ get_or places k p → homes ≡ homes_on p m (tensor_at stored k)
        → old ≡ map homes_by (take k (zip places stored)) → new ≡ old ++ homes ∷ [] → new ≡ map homes_by (take (k + 1) (zip places stored))
    homes_more k p homes old new l is h a b =
        b ∙ ap (λ (hs : List (List (List ℕ))). hs ++ homes ∷ []) a ∙ ap (λ (x : List (List ℕ)). map homes_by (take k (zip places stored)) ++ x ∷ []) h
        ∙ sym (map_more homes_by (zip places stored) k (p, tensor_at stored k) (let z = zipped in omega (arith, l, z)) (sym there))
      where
        default : StoredTensor
        default = record { extents = []; compressed = []; coords = [] }

        there : get_or (zip places stored) k (p, tensor_at stored k) ≡ (p, tensor_at stored k)
        there =
            get_or-zip places stored k (p, tensor_at stored k) l (omega (arith, e, l)) ∙ ap (λ (q : Placement). (q, get_or stored k (tensor_at stored k))) (sym is)
            ∙ ap (λ (t : StoredTensor). (p, t)) (get_or_default stored k (tensor_at stored k) default (omega (arith, e, l)))

    -- and of all
    pub homes_all : (k : ℕ) (all : List (List (List ℕ))) → length places ≤ k → all ≡ map homes_by (take k (zip places stored)) → all ≡ map homes_by (zip places stored)
    homes_all k all l a = a ∙ ap (map homes_by) (take_all k (zip places stored) (let z = zipped in omega (arith, l, z)))
