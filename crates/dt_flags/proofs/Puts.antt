-- A number that another one replaces.
use Rattle.std.proofs.Common.{◌≡◌, ℕ, ◌<◌, ◌^◌, List, [], ◌∷◌, length, get_or, slice_set, ap, ◌∙◌, arith, sum}
use Rattle.dt_flags.specs.Sums.{CanReplace, IsTree, lowest, replaced, replaced_in}
use Rattle.dt_flags.proofs.Halves.{can_replace, first_lowest, put_is, tree_replaced}

some_level : (levels : List (List ℕ)) (i : ℕ) → i < length (lowest levels) → 0 < length levels
some_level [] i h = absurd (omega arith)
some_level (ys ∷ levels) i h = omega arith

module _ (levels : List (List ℕ)) (ys : List ℕ) (i old new : ℕ) (t : IsTree levels) (h : i < length (lowest levels)) (read : ys ≡ get_or levels 0 ys) (o : old ≡ get_or ys i 0) where
  old_is : old ≡ get_or (lowest levels) i 0
  old_is = o ∙ ap (λ (xs : List ℕ). get_or xs i 0) (first_lowest levels ys (some_level levels i h) read)

  pub can_put : sum (slice_set (lowest levels) i new) < 2 ^ 32 → CanReplace levels i old new
  can_put f =
      let same : replaced_in (lowest levels) i old new ≡ slice_set (lowest levels) i new = ap (λ (n : ℕ). replaced_in (lowest levels) i n new) old_is ∙ put_is (lowest levels) i new in
      can_replace levels (lowest levels) i old new t.halves h (omega (arith, old_is)) (rw same f)

  pub tree_put : IsTree (replaced levels i old new)
  tree_put = tree_replaced levels i old new t h (omega (arith, old_is))
