-- The worked product is ready to run.
use Rattle.std.proofs.Common.{◌≡◌, ℕ, zero, suc, ◌^◌, ◌<◌, ◌≤◌, true, List, [], ◌∷◌, length, Option, Some, None, refl, sym, ◌∙◌, arith}
use Rattle.std.specs.Prelude.{option_map, slice_get, slice_index, slice_index_or, unwrap_or}
use Rattle.std.specs.Option.{option_and_then}
use Rattle.std.specs.List.{AllByRecursion, list_any}
use Rattle.std.proofs.lemmas.Bool.{ltb-true}
use Rattle.dt_base.specs.Ranges.{below}
use Rattle.dt_base.specs.Rows.{row_major}
use Rattle.dt_base.proofs.Assignments.{position-assignments}
use Rattle.dt_runs.specs.Sets.{contains}
use Rattle.dt_runs.proofs.BelowSets.{contains-below}
use Rattle.dt_model.specs.Positions.{IsStored, coords_at, place_in, tensor_at}
use Rattle.dt_model.specs.WholeTensor.{WholeTensor, zero_tensor}
use Rattle.dt_nest.specs.World.{Fits, entries_of}
use Rattle.dt_bounds.proofs.PathInside.{visits_have_left}
use Rattle.dt_copy.specs.Sources.{home_at}
use Rattle.dt_plan.specs.Layouts.{homes_at}
use Rattle.dt_plan.specs.ListingLaws.{IsLayout}
use Rattle.dt_plan.proofs.WorkedPlans.{matrix}
use Rattle.dt_events.specs.ListingRuns.{IsReady}
use Rattle.dt_events.specs.Placed.{IsPlaced, AreNumbers}
use Rattle.dt_events.specs.Worked.{product_schedule, product_layout, given_rows, given_numbers}
use Rattle.dt_events.proofs.WorkedLaws.{product_lawful, product_runnable}

-- a matrix has no position where its rows have no number
unplaced : (c : List ℕ) → place_in (matrix 2) c ≡ None → row_major (2 ∷ 2 ∷ []) c ≡ None
unplaced c e = sym (position-assignments (2 ∷ 2 ∷ []) c) ∙ e

-- Numbers --------------------------------------------------------------------------------------------------------------------

-- what is small in a list is small at each place
pub each_small : (vs : List ℕ) → AllByRecursion (λ v. v < 2 ^ 64) vs → (i : ℕ) → slice_index vs i < 2 ^ 64
each_small [] h i = omega arith
each_small (v ∷ vs) h zero = h.0
each_small (v ∷ vs) h (suc i) = each_small vs h.1 i

rows_small : (t : ℕ) → AllByRecursion (λ v. v < 2 ^ 64) (slice_index_or given_rows t [])
rows_small zero = (omega arith, (omega arith, (omega arith, (omega arith, tt))))
rows_small (suc zero) = (omega arith, (omega arith, (omega arith, (omega arith, tt))))
rows_small (suc (suc zero)) = (omega arith, (omega arith, (omega arith, (omega arith, tt))))
rows_small (suc (suc (suc t))) = tt

-- of no number comes 0
of_none : (f : ℕ → ℕ) (o : Option ℕ) → o ≡ None → unwrap_or (option_map f o) 0 ≡ 0
of_none f None e = refl
of_none f (Some v) e = cc

pub product_numbers : AreNumbers product_layout given_numbers
product_numbers = record {
  small = λ t c. go t (row_major (2 ∷ 2 ∷ []) c);
  zeros = zeros_at;
  others = λ t c h. far t h (row_major (2 ∷ 2 ∷ []) c);
}
  where
    go : (t : ℕ) (o : Option ℕ) → unwrap_or (option_map (slice_index (slice_index_or given_rows t [])) o) 0 < 2 ^ 64
    go t None = omega arith
    go t (Some i) = each_small (slice_index_or given_rows t []) (rows_small t) i

    far : (t : ℕ) → 3 ≤ t → (o : Option ℕ) → unwrap_or (option_map (slice_index (slice_index_or given_rows t [])) o) 0 ≡ 0
    far zero h o = absurd (omega (arith, h))
    far (suc zero) h o = absurd (omega (arith, h))
    far (suc (suc zero)) h o = absurd (omega (arith, h))
    far (suc (suc (suc t))) h None = refl
    far (suc (suc (suc t))) h (Some i) = refl

    zeros_at : (t : ℕ) (c : List ℕ) → place_in (tensor_at product_layout.stored t) c ≡ None → given_numbers t c ≡ 0
    zeros_at zero c e = of_none (slice_index (slice_index_or given_rows 0 [])) (row_major (2 ∷ 2 ∷ []) c) (unplaced c e)
    zeros_at (suc zero) c e = of_none (slice_index (slice_index_or given_rows 1 [])) (row_major (2 ∷ 2 ∷ []) c) (unplaced c e)
    zeros_at (suc (suc zero)) c e = of_none (slice_index (slice_index_or given_rows 2 [])) (row_major (2 ∷ 2 ∷ []) c) (unplaced c e)
    zeros_at (suc (suc (suc t))) c e = far (suc (suc (suc t))) (omega arith) (row_major (2 ∷ 2 ∷ []) c)

-- Homes ----------------------------------------------------------------------------------------------------------------------

-- the only home of a tensor has all four positions
product_placed : IsPlaced product_layout
product_placed = record { nodes = nodes_at; covered = covered_at; positions = positions_at; place = place_at }
  where
    nodes_at : (t : ℕ) → t < 3 → length (homes_at product_layout t) ≡ 1
    nodes_at zero h = refl
    nodes_at (suc zero) h = refl
    nodes_at (suc (suc zero)) h = refl
    nodes_at (suc (suc (suc t))) h = absurd (omega (arith, h))

    in_home : (w : ℕ) → w < 4 → list_any (λ home. contains home w) (below 4 ∷ []) ≡ true
    in_home zero h = refl
    in_home (suc zero) h = refl
    in_home (suc (suc zero)) h = refl
    in_home (suc (suc (suc zero))) h = refl
    in_home (suc (suc (suc (suc w)))) h = absurd (omega (arith, h))

    covered_at : (t w : ℕ) → t < 3 → w < length (tensor_at product_layout.stored t).coords → list_any (λ home. contains home w) (homes_at product_layout t) ≡ true
    covered_at zero w h k = in_home w k
    covered_at (suc zero) w h k = in_home w k
    covered_at (suc (suc zero)) w h k = in_home w k
    covered_at (suc (suc (suc t))) w h k = absurd (omega (arith, h))

    home_small : (m w : ℕ) → contains (home_at (below 4 ∷ []) m) w ≡ true → w < 4
    home_small zero w h = ltb-true w 4 (sym (contains-below 4 w) ∙ h)
    home_small (suc m) w h = cc

    positions_at : (t m w : ℕ) → contains (home_at (homes_at product_layout t) m) w ≡ true → w < length (tensor_at product_layout.stored t).coords
    positions_at zero m w h = home_small m w h
    positions_at (suc zero) m w h = home_small m w h
    positions_at (suc (suc zero)) m w h = home_small m w h
    positions_at (suc (suc (suc t))) m w h = cc

    in_matrix : (w : ℕ) → w < 4 → place_in (matrix 2) (coords_at (matrix 2) w) ≡ Some w
    in_matrix zero h = refl
    in_matrix (suc zero) h = refl
    in_matrix (suc (suc zero)) h = refl
    in_matrix (suc (suc (suc zero))) h = refl
    in_matrix (suc (suc (suc (suc w)))) h = absurd (omega (arith, h))

    place_at : (t w : ℕ) → w < length (tensor_at product_layout.stored t).coords → place_in (tensor_at product_layout.stored t) (coords_at (tensor_at product_layout.stored t) w) ≡ Some w
    place_at zero w h = in_matrix w h
    place_at (suc zero) w h = in_matrix w h
    place_at (suc (suc zero)) w h = in_matrix w h
    place_at (suc (suc (suc t))) w h = absurd (omega (arith, h))

-- Parts ----------------------------------------------------------------------------------------------------------------------

-- three tensors of zeros, which fit the schedule
no_numbers : List WholeTensor
no_numbers = zero_tensor (2 ∷ 2 ∷ []) ∷ zero_tensor (2 ∷ 2 ∷ []) ∷ zero_tensor (2 ∷ 2 ∷ []) ∷ []

matrix_stored : IsStored (matrix 2)
matrix_stored = record { shape = refl; levels = refl; stored = refl }

product_fits : Fits product_layout.stored no_numbers product_schedule
unfolding no_numbers
product_fits = record {
  count = refl;
  shapes = refl;
  whole = (refl, (refl, (refl, tt)));
  levels = (matrix_stored, (matrix_stored, (matrix_stored, tt)));
  zeros = zeros_at;
  accesses = ((λ h. refl), ((λ h. refl), ((λ h. refl), tt)));
  positions = tt;
}
  where
    nothing : (vs : List ℕ) (o : Option ℕ) → o ≡ None → unwrap_or (option_and_then (λ k. slice_get vs k) o) 0 ≡ 0
    nothing vs None e = refl
    nothing vs (Some v) e = cc

    zeros_at : (t : ℕ) (c : List ℕ) → place_in (tensor_at product_layout.stored t) c ≡ None
        → entries_of (zero_tensor (2 ∷ 2 ∷ []) ∷ zero_tensor (2 ∷ 2 ∷ []) ∷ zero_tensor (2 ∷ 2 ∷ []) ∷ []) t c ≡ 0
    zeros_at zero c e = nothing (zero_tensor (2 ∷ 2 ∷ [])).values (row_major (2 ∷ 2 ∷ []) c) (unplaced c e)
    zeros_at (suc zero) c e = nothing (zero_tensor (2 ∷ 2 ∷ [])).values (row_major (2 ∷ 2 ∷ []) c) (unplaced c e)
    zeros_at (suc (suc zero)) c e = nothing (zero_tensor (2 ∷ 2 ∷ [])).values (row_major (2 ∷ 2 ∷ []) c) (unplaced c e)
    zeros_at (suc (suc (suc t))) c e = refl

product_ready_layout : IsLayout product_layout
product_ready_layout = record { machine = refl; lawful = (product_lawful, tt); visits = omega arith }

-- what is asked of the layout
pub product_ready : IsReady product_layout
product_ready = record {
  layout = product_ready_layout;
  runnable = product_runnable;
  placed = product_placed;
  parts = (record { workless = refl; room = λ path h. visits_have_left product_schedule product_layout.stored no_numbers path product_lawful product_fits h unplaced }, tt);
}
