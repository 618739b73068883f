-- The tensors of a job as they are given, over what they store.
use Rattle.std.proofs.Common.{◌≡◌, ℕ, zero, suc, List, [], ◌∷◌, map, Option, Some, None, refl, ap, ◌∙◌, arith, slice_get, slice_index, unwrap_or, option_map}
use Rattle.std.specs.List.{AllByRecursion}
use Rattle.std.specs.Option.{option_and_then}
use Rattle.std.proofs.lemmas.Option.{unwrap_or-slice_get}
use Rattle.dt_base.specs.Rows.{row_major}
use Rattle.dt_model.specs.WholeTensor.{number_at, IsWhole}
use Rattle.dt_model.specs.Positions.{StoredTensor, place_in, tensor_at}
use Rattle.dt_model.specs.Stmts.{shapes_of}
use Rattle.dt_nest.specs.World.{entries_of}
use Rattle.dt_tensor.specs.Packed.{Packed, stored_of, whole_of, number_in}
use Rattle.dt_tensor.proofs.Tables.{length-table, table-there}
use Rattle.dt_run.specs.Running.{AreOver}
use Rattle.dt_run.proofs.WholeSets.{entries_past}

given_shapes : (ts : List Packed) → map (λ (t : StoredTensor). t.extents) (map stored_of ts) ≡ shapes_of (map whole_of ts)
given_shapes [] = refl
given_shapes (t ∷ ts) = ap (λ (ns : List (List ℕ)). t.extents ∷ ns) (given_shapes ts)

given_wholes : (ts : List Packed) → AllByRecursion IsWhole (map whole_of ts)
given_wholes [] = tt
given_wholes (t ∷ ts) = (length-table (number_in t) t.extents, given_wholes ts)

-- the number is 0 where nothing is stored
not_stored : (t : Packed) (c : List ℕ) → place_in (stored_of t) c ≡ None → ◌≡◌ {A = ℕ} (unwrap_or (number_at (whole_of t) c) 0) 0
not_stored t c e = go (row_major t.extents c) refl
  where
    go : (r : Option ℕ) → row_major t.extents c ≡ r → ◌≡◌ {A = ℕ} (unwrap_or (number_at (whole_of t) c) 0) 0
    go None r = rw r refl
    go (Some k) r =
        ap (λ (o : Option ℕ). unwrap_or (option_and_then (λ j. slice_get (whole_of t).values j) o) 0) r
        ∙ unwrap_or-slice_get (whole_of t).values k 0
        ∙ table-there (number_in t) t.extents c k 0 r
        ∙ ap (λ (o : Option ℕ). unwrap_or (option_map (slice_index t.values) o) 0) e

given_zeros : (ts : List Packed) (t : ℕ) (c : List ℕ) → place_in (tensor_at (map stored_of ts) t) c ≡ None → entries_of (map whole_of ts) t c ≡ 0
given_zeros [] t c e = entries_past [] t c (omega arith)
given_zeros (x ∷ ts) zero c e = not_stored x c e
given_zeros (x ∷ ts) (suc t) c e = given_zeros ts t c e

-- tensors as they are given are over what they store
pub given_over : (ts : List Packed) → AreOver (map stored_of ts) (map whole_of ts)
given_over ts = record { shapes = given_shapes ts; whole = given_wholes ts; zeros = given_zeros ts }
