-- Whole tensors as they are stored with dense levels.
use Rattle.std.proofs.Common.{◌≡◌, ℕ, suc, ◌<◌, List, [], ◌∷◌, length, map, All, Option, refl, sym, ap, ◌∙◌, arith, slice_get, unwrap_or}
use Rattle.std.specs.List.{AllByRecursion, zip}
use Rattle.std.specs.Option.{option_and_then}
use Rattle.std.proofs.lemmas.List.{length-map, get_or-map, ext_get_or}
use Rattle.std.proofs.lemmas.Option.{unwrap_or-slice_get}
use Rattle.dt_base.specs.Ranges.{assignments}
use Rattle.dt_base.proofs.Assignments.{length-assignments, row_major-assignment}
use Rattle.dt_model.specs.Positions.{StoredTensor}
use Rattle.dt_model.specs.Stmts.{shapes_of}
use Rattle.dt_model.specs.WholeTensor.{WholeTensor, IsWhole, number_at}
use Rattle.dt_tensor.specs.Packed.{Packed, dense_levels, dense_tensor, stored_of}
use Rattle.dt_job.specs.JobTensors.{IsJobTensor}
use Rattle.dt_run.specs.Outcome.{packed_with}
use Rattle.dt_run.specs.TensorText.{dense_of}

-- a whole tensor has these numbers, index by index
whole_numbers : (w : WholeTensor) → IsWhole w → map (λ c. unwrap_or (number_at w c) 0) (assignments w.extents) ≡ w.values
whole_numbers w whole =
    ext_get_or 0 (map (λ c. unwrap_or (number_at w c) 0) (assignments w.extents)) w.values
    (length-map (assignments w.extents) (λ c. unwrap_or (number_at w c) 0) ∙ length-assignments w.extents ∙ sym whole)
    (λ k h.
    let room : k < length (assignments w.extents) = omega (arith, h, length-map (assignments w.extents) (λ c. unwrap_or (number_at w c) 0)) in
    get_or-map (λ c. unwrap_or (number_at w c) 0) (assignments w.extents) k [] 0 room
    ∙ ap (λ (r : Option ℕ). unwrap_or (option_and_then (λ j. slice_get w.values j) r) 0) (row_major-assignment w.extents k (omega (arith, room, length-assignments w.extents)))
    ∙ unwrap_or-slice_get w.values k 0)

-- where a dense tensor stores, a whole one of its extents has each of its numbers
stored_dense : (t : Packed) (w : WholeTensor) → IsJobTensor t → t.extents ≡ w.extents → IsWhole w → packed_with (stored_of t) w ≡ dense_of w
stored_dense t w h e whole =
    ap (λ (s : StoredTensor). packed_with s w) (ap stored_of h.dense ∙ ap dense_levels e) ∙ ap (dense_tensor w.extents) (whole_numbers w whole)

-- so it is with each of a list
pub ends_dense : (ts : List Packed) (ws : List WholeTensor) → All IsJobTensor ts → map (λ (s : StoredTensor). s.extents) (map stored_of ts) ≡ shapes_of ws → AllByRecursion IsWhole ws
    → map (λ p. packed_with p.0 p.1) (zip (map stored_of ts) ws) ≡ map dense_of ws
ends_dense [] [] h e a = refl
ends_dense [] (w ∷ ws) h e a = cc
ends_dense (t ∷ ts) [] h e a = cc
ends_dense (t ∷ ts) (w ∷ ws) h e a =
    let head : t.extents ≡ w.extents = cc in
    let rest : map (λ (s : StoredTensor). s.extents) (map stored_of ts) ≡ shapes_of ws = cc in
    ap (λ (x : Packed). x ∷ map (λ p. packed_with p.0 p.1) (zip (map stored_of ts) ws)) (stored_dense t w (h 0 t (omega arith)) head a.0)
    ∙ ap (λ (l : List Packed). dense_of w ∷ l) (ends_dense ts ws (λ k d l. h (suc k) d (omega (arith, l))) rest a.1)
