-- What the coordinates of a whole tensor find.
use Rattle.std.proofs.Common.{◌≡◌, ℕ, ◌<◌, List, length, get_or, refl, ap, sym, Option, Some, None, is_some, slice_get}
use Rattle.std.specs.Option.{option_and_then}
use Rattle.std.proofs.lemmas.Option.{slice_get-get_or}
use Rattle.dt_base.specs.Rows.{product, row_major}
use Rattle.dt_base.proofs.Rows.{row_major-below}
use Rattle.dt_model.specs.WholeTensor.{WholeTensor, number_at, IsWhole}

found_there : (values : List ℕ) (r : Option ℕ) → ((k : ℕ) → r ≡ Some k → k < length values) → is_some (option_and_then (λ k. slice_get values k) r) ≡ is_some r
found_there values None below_all = refl
found_there values (Some k) below_all = ap (λ (o : Option ℕ). is_some o) (slice_get-get_or values k 0 (below_all k refl))

-- each index of a whole tensor has a number
pub number_at-found : (t : WholeTensor) (c : List ℕ) → IsWhole t → is_some (number_at t c) ≡ is_some (row_major t.extents c)
number_at-found t c h = found_there t.values (row_major t.extents c) (λ k e. rw h (row_major-below t.extents c k e))

-- the number of an index is a place of the values
pub index_inside : (extents values c : List ℕ) (k : ℕ) → length values ≡ product extents → Some k ≡ row_major extents c → k < length values
index_inside extents values c k h e = rw h (row_major-below extents c k (sym e))

-- the number at an index is the value at its place
pub number_there : (extents values c : List ℕ) (k : ℕ) → length values ≡ product extents → Some k ≡ row_major extents c
    → Some (get_or values k 0) ≡ option_and_then (λ j. slice_get values j) (row_major extents c)
number_there extents values c k h e = rw (← e) (sym (slice_get-get_or values k 0 (index_inside extents values c k h e)))
