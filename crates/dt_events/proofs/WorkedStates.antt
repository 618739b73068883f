-- The states of the worked product, by hand.
use Rattle.std.proofs.Common.{◌≡◌, ℕ, List, [], ◌∷◌, ◌++◌, Option, Some, None, refl, map}
use Rattle.std.specs.Prelude.{option_map, slice_index}
use Rattle.dt_nest.specs.Meaning.{known}
use Rattle.dt_nest.specs.Unit as own
use Rattle.dt_nest.specs.Visits.{visits_of, needed_of}
use Rattle.dt_argument.specs.Orders.{listing_order, times}
use Rattle.dt_plan.specs.declared.touches.Buffer.TheVariants.{Home, Scratch}
use Rattle.dt_plan.specs.Operations.{ops_of}
use Rattle.dt_plan.specs.Limits.{plan_view}
use Rattle.dt_events.specs.State.{State}
use Rattle.dt_events.specs.Jobs.{listing_of, run_of, at_of}
use Rattle.dt_events.specs.JobLaws.{IsListingDefined}
use Rattle.dt_events.specs.Worked.{product_layout, given_numbers, row_of, result_of}

-- those of the home of A and of the three scratches
abbrev seen : State → List (List (Option ℕ))
seen s = map (λ b. row_of b s) (Home 0 ∷ Scratch 0 0 ∷ Scratch 0 1 ∷ Scratch 0 2 ∷ [])

-- four words with these numbers, or none
abbrev held : ℕ → ℕ → ℕ → ℕ → List (Option ℕ)
held a b c d = Some a ∷ Some b ∷ Some c ∷ Some d ∷ []

abbrev absent : List (Option ℕ)
absent = None ∷ None ∷ None ∷ None ∷ []

-- the state after so many units of each operation
abbrev after : List ℕ → List (List (Option ℕ))
after counts = seen (at_of product_layout given_numbers (slice_index counts))

-- at the opening the homes are present and nothing else
opening : after [] ≡ held 9 9 9 9 ∷ absent ∷ absent ∷ absent ∷ []
unfolding plan_view ops_of visits_of needed_of known own.can_do own.unit_of
opening = refl

-- the zero and the three allocs
opened : after (1 ∷ 1 ∷ 1 ∷ 1 ∷ []) ≡ held 0 0 0 0 ∷ held 0 0 0 0 ∷ held 0 0 0 0 ∷ held 0 0 0 0 ∷ []
unfolding plan_view ops_of visits_of needed_of known own.can_do own.unit_of
opened = refl

-- the copies of B, and two of the four of C
copied : after (1 ∷ 1 ∷ 1 ∷ 1 ∷ 4 ∷ 2 ∷ []) ≡ held 0 0 0 0 ∷ held 0 0 0 0 ∷ held 1 2 3 4 ∷ held 5 6 0 0 ∷ []
unfolding plan_view ops_of visits_of needed_of known own.can_do own.unit_of
copied = refl

-- three of the eight visits: 1 * 5 + 2 * 7, and 1 * 6
visited : after (1 ∷ 1 ∷ 1 ∷ 1 ∷ 4 ∷ 4 ∷ 3 ∷ []) ≡ held 0 0 0 0 ∷ held 19 6 0 0 ∷ held 1 2 3 4 ∷ held 5 6 7 8 ∷ []
unfolding plan_view ops_of visits_of needed_of known own.can_do own.unit_of
visited = refl

-- all visits, and two of the four folds
folded : after (1 ∷ 1 ∷ 1 ∷ 1 ∷ 4 ∷ 4 ∷ 8 ∷ 2 ∷ []) ≡ held 19 22 0 0 ∷ held 19 22 43 50 ∷ held 1 2 3 4 ∷ held 5 6 7 8 ∷ []
unfolding plan_view ops_of visits_of needed_of known own.can_do own.unit_of
folded = refl

-- all units
closed : after (1 ∷ 1 ∷ 1 ∷ 1 ∷ 4 ∷ 4 ∷ 8 ∷ 4 ∷ 1 ∷ 1 ∷ 1 ∷ []) ≡ held 19 22 43 50 ∷ absent ∷ absent ∷ absent ∷ []
unfolding plan_view ops_of visits_of needed_of known own.can_do own.unit_of
closed = refl

-- what a list of units leaves
abbrev left_by : List ℕ → Option (List (List (Option ℕ)))
left_by u = option_map seen (run_of product_layout given_numbers u)

-- the listing's own order is defined at each of its 27 units; so is one in which copies come before the zero, and the copies of B
-- and C change places
listing_leaves : left_by (listing_order (listing_of product_layout given_numbers)) ≡ Some (held 19 22 43 50 ∷ absent ∷ absent ∷ absent ∷ [])
unfolding plan_view ops_of visits_of needed_of known own.can_do own.unit_of
listing_leaves = refl

other_order : left_by (3 ∷ times 4 5 ++ 2 ∷ times 4 4 ++ 1 ∷ times 8 6 ++ 0 ∷ 9 ∷ times 4 7 ++ 10 ∷ 8 ∷ []) ≡ Some (held 19 22 43 50 ∷ absent ∷ absent ∷ absent ∷ [])
unfolding plan_view ops_of visits_of needed_of known own.can_do own.unit_of
other_order = refl

-- a copy without its alloc is undefined, as is a second alloc
undefined : left_by (4 ∷ []) ∷ left_by (1 ∷ 1 ∷ []) ∷ [] ≡ None ∷ None ∷ []
unfolding plan_view ops_of visits_of needed_of known own.can_do own.unit_of
undefined = refl

-- what the listing's own order leaves in the home of A
pub listing_result : result_of (run_of product_layout given_numbers (listing_order (listing_of product_layout given_numbers))) ≡ held 19 22 43 50
unfolding plan_view ops_of visits_of needed_of known own.can_do own.unit_of
listing_result = refl

-- so it is defined
pub listing_defined : IsListingDefined product_layout given_numbers
unfolding plan_view ops_of visits_of needed_of known own.can_do own.unit_of
listing_defined = refl
