-- The tensors that a job declares.
use Rattle.std.specs.Prelude.{ℕ, List, length, map, Bool, true, false, not, Option, Some, is_some, option_map, unwrap_or, slice_get}
use Rattle.std.specs.List.{list_all}
use Rattle.dt_model.specs.Positions.{StoredTensor}
use Rattle.dt_index.specs.Known.{Known}
use Rattle.dt_tensor.specs.Packed.{Packed, packed_with, stored_of}
use Rattle.dt_place.specs.declared.placements.Placement.{Placement}
use Rattle.dt_place.specs.declared.placements.Placement.TheVariants.{FirstNode}
use Rattle.indexmap.specs.Layout.{set_value_at}

-- a packed tensor, whether a line has given its numbers, and its placement where a line says it
pub record Content : Type 0 where
  pub packed : Packed
  pub given : Bool
  pub placement : Option Placement

-- tensors by name, in order of declaration
abbrev pub Contents : Type 0
Contents = List (List ℕ × Content)

-- the tensors' names
abbrev pub names_of : Contents → List (List ℕ)
names_of tensors = map (λ t. t.0) tensors

-- the extents of each tensor
abbrev pub extents_of_all : Contents → List (List ℕ)
extents_of_all tensors = map (λ t. t.1.packed.extents) tensors

-- whether each level of a tensor is dense
abbrev pub has_dense_levels : Packed → Bool
has_dense_levels t = list_all not t.compressed

-- a tensor as statements know it
abbrev pub known_of : Contents → List Known
known_of tensors = map (λ t. record { name = t.0; extents = t.1.packed.extents; dense = has_dense_levels t.1.packed }) tensors

-- what each tensor stores
abbrev pub stored_of_all : Contents → List StoredTensor
stored_of_all tensors = map (λ t. stored_of t.1.packed) tensors

-- the tensors with their numbers
abbrev pub tensors_of : Contents → List Packed
tensors_of tensors = map (λ t. t.1.packed) tensors

-- the placement of a tensor: node 0 holds it whole where no line says more
abbrev pub placement_of : Content → Placement
placement_of c = unwrap_or c.placement FirstNode

-- the placements of the tensors
abbrev pub places_of : Contents → List Placement
places_of tensors = map (λ t. placement_of t.1) tensors

-- whether a line has given the numbers of the tensor at this place
abbrev pub is_given : Contents → ℕ → Bool
is_given tensors k = unwrap_or (option_map (λ t. t.1.given) (slice_get tensors k)) false

-- whether a line has placed the tensor at this place
abbrev pub is_placed : Contents → ℕ → Bool
is_placed tensors k = unwrap_or (option_map (λ t. is_some t.1.placement) (slice_get tensors k)) false

-- how many dimensions the tensor at this place has
abbrev pub order_of : Contents → ℕ → ℕ
order_of tensors k = unwrap_or (option_map (λ t. length t.1.packed.extents) (slice_get tensors k)) 0

-- how many positions the tensor at this place has
abbrev pub position_count_of : Contents → ℕ → ℕ
position_count_of tensors k = unwrap_or (option_map (λ t. length t.1.packed.coords) (slice_get tensors k)) 0

-- the tensor at this place has these numbers, in order of position
abbrev pub with_values : Contents → ℕ → List ℕ → Contents
with_values tensors k values = unwrap_or (option_map (λ t. set_value_at tensors k (record t.1 { packed = packed_with (stored_of t.1.packed) values; given = true })) (slice_get tensors k)) tensors

-- the tensor at this place has this placement
abbrev pub with_placement : Contents → ℕ → Placement → Contents
with_placement tensors k p = unwrap_or (option_map (λ t. set_value_at tensors k (record t.1 { placement = Some p })) (slice_get tensors k)) tensors
