-- Whole tensors over stored ones.
use Rattle.std.proofs.Common.{◌≡◌, ℕ, zero, suc, ◌<◌, List, [], ◌∷◌, length, get_or, map, Option, Some, None, sym, ap, ◌∙◌, subst, arith, inl, inr, slice_get, slice_set, unwrap_or, option_map}
use Rattle.std.specs.List.{AllByRecursion}
use Rattle.std.specs.Option.{option_and_then}
use Rattle.std.proofs.Math.Seq.{map-set_same}
use Rattle.std.proofs.lemmas.Bool.{cases_eq}
use Rattle.std.proofs.lemmas.Option.{slice_get-get_or, slice_get-map, slice_get_within, same_Some}
use Rattle.dt_model.specs.WholeTensor.{WholeTensor, number_at, IsWhole}
use Rattle.dt_model.specs.Positions.{StoredTensor, place_in, tensor_at}
use Rattle.dt_model.specs.Stmts.{shapes_of}
use Rattle.dt_nest.specs.FitsStored.{FitsStored}
use Rattle.dt_nest.proofs.Inside.{length_shapes}
use Rattle.dt_nest.specs.Schedule.{Schedule}
use Rattle.dt_nest.specs.World.{Fits, entries_of}
use Rattle.dt_run.specs.Running.{AreOver}
use Rattle.dt_run.proofs.WholeSets.{slice_get-set_same, slice_get-set_other}

-- stored tensors that fit a schedule do so with whole ones over them
pub fits_over : (stored : List StoredTensor) (ts : List WholeTensor) (s : Schedule) → FitsStored stored s → AreOver stored ts → Fits stored ts s
fits_over stored ts s f o = record {
  count = sym (length_shapes stored ts o.shapes) ∙ f.count;
  shapes = o.shapes;
  whole = o.whole;
  levels = f.levels;
  zeros = o.zeros;
  accesses = f.accesses;
  positions = f.positions;
}

-- tensors that fit a schedule are over the stored ones
pub over_fitting : (stored : List StoredTensor) (ts : List WholeTensor) (s : Schedule) → Fits stored ts s → AreOver stored ts
over_fitting stored ts s f = record { shapes = f.shapes; whole = f.whole; zeros = f.zeros }

-- What stays where one of some tensors is set ----------------------------------------------------------------------------

all_set : (P : WholeTensor → Type 0) (ts : List WholeTensor) (t : ℕ) (x : WholeTensor) → P x → AllByRecursion P ts → AllByRecursion P (slice_set ts t x)
all_set P [] t x h a = tt
all_set P (y ∷ ts) zero x h a = (h, a.1)
all_set P (y ∷ ts) (suc t) x h a = (a.0, all_set P ts t x h a.1)

module _ (ts : List WholeTensor) (t : ℕ) (left new : WholeTensor) (found : slice_get ts t ≡ Some left) (same : new.extents ≡ left.extents) where
  inside : t < length ts
  inside = slice_get_within ts t left found

  there : slice_get (slice_set ts t new) t ≡ Some new
  there = slice_get-set_same ts t new inside

  -- each tensor has its extents
  pub set_shapes : shapes_of (slice_set ts t new) ≡ shapes_of ts
  set_shapes =
      let item : get_or ts t left ≡ left = same_Some (get_or ts t left) left (sym (slice_get-get_or ts t left inside) ∙ found) in
      map-set_same (λ (x : WholeTensor). x.extents) ts t new left (same ∙ ap (λ (x : WholeTensor). x.extents) (sym item))

  -- the tensors are over the stored ones if the new one is
  pub set_over : (stored : List StoredTensor) → AreOver stored ts → IsWhole new → ((c : List ℕ) → place_in (tensor_at stored t) c ≡ None → ◌≡◌ {A = ℕ} (unwrap_or (number_at new c) 0) 0) → AreOver stored (slice_set ts t new)
  set_over stored o whole zeros = record {
    shapes = o.shapes ∙ sym set_shapes;
    whole = all_set IsWhole ts t new whole o.whole;
    zeros = λ u c e. elim (cases_eq u t) [
      | inl here ↦ ap (λ (v : ℕ). entries_of (slice_set ts t new) v c) here ∙ ap (λ (x : Option WholeTensor). unwrap_or (option_and_then (λ y. number_at y c) x) 0) there
          ∙ zeros c (subst (λ (v : ℕ). place_in (tensor_at stored v) c ≡ None) here e)
      | inr apart ↦ ap (λ (x : Option WholeTensor). unwrap_or (option_and_then (λ y. number_at y c) x) 0) (slice_get-set_other ts t u new apart) ∙ o.zeros u c e
    ];
  }

-- a stored tensor has the extents of the whole one
pub stored_extents : (stored : List StoredTensor) (ts : List WholeTensor) (t : ℕ) (left : WholeTensor) → map (λ x. x.extents) stored ≡ shapes_of ts → slice_get ts t ≡ Some left → (tensor_at stored t).extents ≡ left.extents
stored_extents stored ts t left e found =
    let room : t < length stored = omega (arith, slice_get_within ts t left found, length_shapes stored ts e) in
    same_Some (tensor_at stored t).extents left.extents
    (ap (option_map (λ (x : StoredTensor). x.extents)) (sym (slice_get-get_or stored t (record { extents = []; compressed = []; coords = [] }) room)) ∙ sym (slice_get-map (λ (x : StoredTensor). x.extents) stored t)
    ∙ ap (λ (l : List (List ℕ)). slice_get l t) e ∙ slice_get-map (λ (x : WholeTensor). x.extents) ts t ∙ ap (option_map (λ (x : WholeTensor). x.extents)) found)
