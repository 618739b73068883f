-- Numbers that are put one after another into an array.
use Rattle.std.proofs.Common.{◌≡◌, ℕ, Bool, false, subst, ◌+◌, ◌<◌, ◌≤◌, List, [], ◌∷◌, ◌++◌, length, take, drop, Option, Some, None, refl, sym, ap, ◌∙◌, arith, append_assoc}
use Rattle.std.proofs.Math.ListN.{set, length-set}
use Rattle.std.proofs.lemmas.List.{take_more_set, take-take, take_at, drop_at, drop_all, length-take, take-append-drop}
use Rattle.dt_nest.specs.Values.{with_first, all_inside}
use Rattle.std.specs.Prelude.{if◌then◌else◌}
use Rattle.dt_nest.specs.Meaning.{take_through}
use Rattle.dt_nest.specs.Prefix.{Filled}

-- nothing more is put
pub filled_end : (at : ℕ) (c : List ℕ) → at ≤ length c → Filled (Some []) at c c (Some at)
filled_end at c le =
    let l : length (take at c) ≤ at = omega (arith, length-take {A = ℕ}) in
    record { fills = (le, omega arith, ap Some (sym (drop_all at (take at c) l)), refl) }

-- one number is put, and it is the last
pub filled_one : (at x : ℕ) (c : List ℕ) → at < length c → Filled (Some (x ∷ [])) at c (set c at x) (Some (at + 1))
filled_one at x c lt =
    let l : length (take at c) ≡ at = omega (arith, length-take {A = ℕ}) in
    let t : take (at + 1) (set c at x) ≡ take at c ++ x ∷ [] = take_more_set c at x lt in
    record {
      fills = (
        omega (arith, length-set c at x),
        omega arith,
        ap Some (sym (ap (drop at) t ∙ drop_at (take at c) (x ∷ []) at l)),
        sym (take-take at (at + 1) (set c at x) (omega arith)) ∙ ap (take at) t ∙ take_at (take at c) (x ∷ []) at l,
      );
    }

-- one number is put before more
pub filled_more : (list : Option (List ℕ)) (at x : ℕ) (c new : List ℕ) (found : Option ℕ) → at < length c → Filled list (at + 1) (set c at x) new found → Filled (with_first (Some x) list) at c new found
filled_more None at x c new None lt f = record { fills = refl }
filled_more (Some xs) at x c new None lt f = let h : Some xs ≡ None = f.fills in absurd (cc)
filled_more None at x c new (Some n) lt f = let h : None ≡ Some (drop (at + 1) (take n new)) = f.fills.2 in absurd (cc)
filled_more (Some xs) at x c new (Some n) lt f =
    let h = f.fills in
    let l : length (take at c) ≡ at = omega (arith, length-take {A = ℕ}) in
    let t : take (at + 1) new ≡ take at c ++ x ∷ [] = h.3 ∙ take_more_set c at x lt in
    let whole : take n new ≡ take at c ++ x ∷ drop (at + 1) (take n new) =
    sym (take-append-drop (at + 1) (take n new)) ∙ ap (λ (y : List ℕ). y ++ drop (at + 1) (take n new)) (take-take (at + 1) n new h.1 ∙ t) ∙ append_assoc (take at c) (x ∷ []) (drop (at + 1) (take n new)) in
    let e : xs ≡ drop (at + 1) (take n new) = some_is xs (drop (at + 1) (take n new)) h.2 in
    record {
      fills = (
        h.0,
        omega (arith, h.1),
        ap (λ (y : List ℕ). Some (x ∷ y)) e ∙ ap Some (sym (drop_at (take at c) (x ∷ drop (at + 1) (take n new)) at l)) ∙ ap (λ (y : List ℕ). Some (drop at y)) (sym whole),
        sym (take-take at (at + 1) new (omega arith)) ∙ ap (take at) t ∙ take_at (take at c) (x ∷ []) at l,
      );
    }
  where
    some_is : (a b : List ℕ) → Some a ≡ Some b → a ≡ b
    some_is a b e = cc

-- the first variable of a walked access is not the loop itself
pub prefix_step : (val : ℕ → Option ℕ) (p : ℕ → Bool) (vars rest : List ℕ) (u at x : ℕ) (c new : List ℕ) (found : Option ℕ) → vars ≡ u ∷ rest → p u ≡ false → val u ≡ Some x → at < length c
    → Filled (all_inside val (take_through p rest)) (at + 1) (set c at x) new found → Filled (all_inside val (take_through p vars)) at c new found
prefix_step val p vars rest u at x c new found e q v lt f =
    let list : all_inside val (take_through p vars) ≡ with_first (Some x) (all_inside val (take_through p rest)) =
    ap (λ (l : List ℕ). all_inside val (take_through p l)) e
    ∙ ap (λ (b : Bool). with_first (val u) (all_inside val (if b then [] else take_through p rest))) q
    ∙ ap (λ (o : Option ℕ). with_first o (all_inside val (take_through p rest))) v in
    subst (λ (l : Option (List ℕ)). Filled l at c new found) (sym list) (filled_more (all_inside val (take_through p rest)) at x c new found lt f)
