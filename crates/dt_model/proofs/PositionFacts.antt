-- The positions of a tensor that stores what its levels ask for.
use Rattle.std.proofs.Common.{◌≡◌, ℕ, ◌<◌, List, [], length, ap, sym, ◌∙◌, subst, true, false, inl, inr}
use Rattle.std.specs.List.{AllPairs}
use Rattle.std.specs.Str.{bytes_eq}
use Rattle.std.proofs.lemmas.Bool.{cases_order, false≢true}
use Rattle.std.proofs.lemmas.List.Kept.{AllPairs-filter}
use Rattle.std.proofs.lemmas.List.Quantifiers.{position-Some}
use Rattle.std.proofs.lemmas.Slice.Eq.{bytes_eq-Decides}
use Rattle.dt_base.specs.Ranges.{assignments}
use Rattle.dt_model.specs.Positions.{StoredTensor, IsStored, is_followed, coords_at}
use Rattle.dt_model.specs.PositionLaws.{is_before, HasOrderedPositions}
use Rattle.dt_base.proofs.Firsts.{bytes_eq-same, bytes_eq-apart, position-is}
use Rattle.dt_model.proofs.Lexicographic.{is_before-itself, is_before-turned, assignments_ascend}

-- stored coordinates ascend
pub coords_ascend : (t : StoredTensor) → IsStored t → AllPairs (λ c d. is_before c d ≡ true) t.coords
coords_ascend t h =
    subst (λ (cs : List (List ℕ)). AllPairs (λ c d. is_before c d ≡ true) cs) (sym h.stored)
    (AllPairs-filter (λ c d. is_before c d ≡ true) (is_followed t.compressed t.coords) (assignments t.extents) (assignments_ascend t.extents))

never : (c d : List ℕ) → is_before c d ≡ true → is_before c d ≡ false → ⊥
never c d p q = false≢true (sym q ∙ p)

-- stored coordinates at two positions differ
coords_differ : (t : StoredTensor) → IsStored t → (j k : ℕ) → j < k → k < length t.coords → bytes_eq (coords_at t j) (coords_at t k) ≡ false
coords_differ t h j k lt within =
    bytes_eq-apart (coords_at t j) (coords_at t k)
    (λ e. never (coords_at t k) (coords_at t k) (ap (λ (c : List ℕ). is_before c (coords_at t k)) (sym e) ∙ coords_ascend t h j k [] lt within) (is_before-itself (coords_at t k)))

-- coordinates ascend where positions do
order_tells : (t : StoredTensor) → IsStored t → (j k : ℕ) → j < length t.coords → is_before (coords_at t j) (coords_at t k) ≡ true → j < k
order_tells t h j k within before = elim (cases_order j k) [
  | inl same ↦ absurd (never (coords_at t k) (coords_at t k) (ap (λ (i : ℕ). is_before (coords_at t i) (coords_at t k)) (sym same) ∙ before) (is_before-itself (coords_at t k)))
  | inr apart ↦ elim apart [
    | inl lt ↦ lt
    | inr gt ↦ absurd (never (coords_at t j) (coords_at t k) before (is_before-turned (coords_at t k) (coords_at t j) (coords_ascend t h k j [] gt within)))
  ]
]

pub ordered_positions : (t : StoredTensor) → IsStored t → HasOrderedPositions t
ordered_positions t h = record {
  placed = λ k within. position-is (λ d. bytes_eq d (coords_at t k)) t.coords k [] within (bytes_eq-same (coords_at t k)) (λ j lt. coords_differ t h j k lt within);
  found = λ c k e. let parts = position-Some (λ d. bytes_eq d c) t.coords k [] e in ((bytes_eq-Decides (coords_at t k) c).0 parts.1, parts.0);
  ordered = λ j k left right. (λ before. order_tells t h j k left before, λ lt. coords_ascend t h j k [] lt right);
}
