-- Tensors of a job: their levels are dense.
use Rattle.std.proofs.Common.{◌≡◌, ℕ, zero, suc, ◌+◌, ◌<◌, ◌≤◌, ◌==◌, Bool, true, false, cond, not, List, [], ◌∷◌, length, map, replicate, take, nat_eq, nat_lt, if◌then◌else◌, IsSome, Option, Result, Ok, Err, refl, ap, sym, subst, ◌∙◌, arith}
use Rattle.std.specs.List.{AllByRecursion, count_by, list_all}
use Rattle.std.proofs.lemmas.List.{length-map, length-replicate}
use Rattle.std.proofs.lemmas.List.Sums.{sum_by-cons}
use Rattle.std.proofs.lemmas.Bool.{ltb-false, ne_eqb}
use Rattle.dt_base.specs.Ranges.{assignments}
use Rattle.dt_base.specs.Rows.{product}
use Rattle.dt_base.proofs.Assignments.{length-assignments}
use Rattle.dt_model.specs.Positions.{StoredTensor, IsStored, cost_of, stored_coords, tensor_at}
use Rattle.dt_model.specs.Shape.{dims, IsShape, shape_of_extents}
use Rattle.dt_model.specs.declared.shape.Shape.{Shape}
use Rattle.dt_model.proofs.ShapeFacts.{shape_facts}
use Rattle.dt_index.specs.Known.{is_dense_at}
use Rattle.dt_tensor.specs.Packed.{Packed, dense_levels, dense_tensor, packed_with, stored_of}
use Rattle.dt_tensor.specs.Packing.{given_at, IsPack, pack_of}
use Rattle.dt_tensor.specs.declared.entry.Given.{Given}
use Rattle.dt_tensor.specs.declared.packing.PackEnd.{PackEnd}
use Rattle.dt_tensor.specs.declared.packing.PackEnd.TheVariants as ends
use Rattle.dt_tensor.proofs.DenseTensors.{stored_coords-dense}
use Rattle.dt_tensor.proofs.PackLemmas.{levels-dense}
use Rattle.dt_job.specs.Contents.{Contents, has_dense_levels, known_of, stored_of_all}
use Rattle.dt_job.specs.JobTensors.{IsJobTensor}
use Rattle.dt_job.specs.Stops.{Stops, stop_of_pack}
use Rattle.dt_job.specs.TensorLine.{packed_or_cause}

-- there are as many positions as indices
pub job_positions : (t : Packed) → IsJobTensor t → length t.coords ≡ product t.extents
job_positions t h = ap (λ (p : Packed). length p.coords) h.dense ∙ length-assignments t.extents

-- with other numbers it is the dense tensor that has them
pub renumbered : (t : Packed) (values : List ℕ) → IsJobTensor t → packed_with (stored_of t) values ≡ dense_tensor t.extents values
renumbered t values h = ap (λ (p : Packed). packed_with (stored_of p) values) h.dense

-- a dense tensor that is not too large
pub dense_job : (ns values : List ℕ) → IsSome (shape_of_extents ns) → length values ≡ product ns → product ns ≤ 1048576 → IsJobTensor (dense_tensor ns values)
dense_job ns values s f l = record { shape = s; dense = refl; full = f; few = l }

-- it stores what its levels ask for
pub job_stored : (t : Packed) → IsJobTensor t → IsStored (stored_of t)
job_stored t h = subst (λ (p : Packed). IsStored (stored_of p)) (sym h.dense) (record {
  shape = h.shape;
  levels = length-replicate (length t.extents) false;
  stored = sym (stored_coords-dense t.extents (length t.extents) (assignments t.extents));
})

same_ok : (x y : Packed) → ◌≡◌ {A = Result Packed PackEnd} (Ok x) (Ok y) → x ≡ y
same_ok x y e = cc

-- what is packed with dense levels and without entries is a tensor of a job
pub packed_job : (ns : List ℕ) (t : Packed) → IsSome (shape_of_extents ns) → pack_of ns (replicate (length ns) false) [] ≡ Ok t → IsJobTensor t
unfolding pack_of
packed_job ns t s e = go (nat_lt 1048576 (length coords)) refl e
  where
    coords : List (List ℕ)
    coords = stored_coords ns (replicate (length ns) false) []

    made : List (List ℕ) → Packed
    made cs = record { extents = ns; compressed = replicate (length ns) false; coords = cs; values = map (given_at []) cs }

    all : coords ≡ assignments ns
    all = stored_coords-dense ns (length ns) []

    go : (b : Bool) → nat_lt 1048576 (length coords) ≡ b → (if b then Err ends.TooManyStored else Ok (made coords)) ≡ Ok t → IsJobTensor t
    go true l h = absurd (cc)
    go false l h =
        let few : product ns ≤ 1048576 = omega (arith, ltb-false 1048576 (length coords) l, ap length all, length-assignments ns) in
        subst IsJobTensor (same_ok (made coords) t h) (subst (λ (cs : List (List ℕ)). IsJobTensor (made cs)) (sym all)
        (dense_job ns (map (given_at []) (assignments ns)) s (length-map (assignments ns) (given_at []) ∙ length-assignments ns) few))

-- the levels of a shape, all of them dense
pub zero_levels : (shape : Shape) → IsShape shape → take shape.order (false ∷ false ∷ false ∷ false ∷ []) ≡ replicate (length (dims shape)) false
zero_levels shape h = levels-dense shape.order (shape_facts shape h).order ∙ ap (λ (n : ℕ). replicate n false) (sym (shape_facts shape h).used)

-- what is packed without entries
pub no_entries : (shape : Shape) (entries : List Given) → IsShape shape → entries ≡ [] → pack_of (dims shape) (take shape.order (false ∷ false ∷ false ∷ false ∷ [])) entries ≡ pack_of (dims shape) (replicate (length (dims shape)) false) []
no_entries shape entries h e = ap (λ (bs : List Bool). pack_of (dims shape) bs entries) (zero_levels shape h) ∙ ap (λ (es : List Given). pack_of (dims shape) (replicate (length (dims shape)) false) es) e

pub some_shape : (shape : Shape) → IsShape shape → IsSome (shape_of_extents (dims shape))
some_shape shape h = subst (λ (o : Option Shape). IsSome o) (sym h) refl

-- where nothing is packed, the line has the cause of that
pub pack_stops : (end : PackEnd) (given : Result Packed PackEnd) → IsPack (Err end) given → Stops (stop_of_pack end) (packed_or_cause given)
pack_stops ends.NoMemory given h = tt
pack_stops (ends.OutOfShape k) given h = ap packed_or_cause h
pack_stops (ends.Repeated k) given h = ap packed_or_cause h
pack_stops ends.TooManyStored given h = ap packed_or_cause h

-- a position costs one word exactly where no level is compressed
pub cost_tells : (bs : List Bool) → nat_eq (1 + count_by (λ b. b) bs) 1 ≡ list_all not bs
cost_tells [] = refl
cost_tells (true ∷ bs) = (let more : count_by (λ b. b) (true ∷ bs) ≡ 1 + count_by (λ b. b) bs = sum_by-cons (λ b. cond b 1 0) true bs in ne_eqb (1 + count_by (λ b. b) (true ∷ bs)) 1 (λ e. omega (arith, e, more)))
cost_tells (false ∷ bs) = cost_tells bs

none_compressed : (bs : List Bool) → list_all not bs ≡ true → bs ≡ replicate (length bs) false
none_compressed [] h = refl
none_compressed (true ∷ bs) h = absurd (cc)
none_compressed (false ∷ bs) h = ap (λ (l : List Bool). false ∷ l) (none_compressed bs h)

-- dense levels are
pub dense_levels_are : (n : ℕ) → list_all not (replicate n false) ≡ true
dense_levels_are zero = refl
dense_levels_are (suc n) = dense_levels_are n

-- a tensor without compressed levels stores each index
dense_stored : (t : StoredTensor) → IsStored t → list_all not t.compressed ≡ true → t ≡ dense_levels t.extents
dense_stored t h d =
    let levels : t.compressed ≡ replicate (length t.extents) false = none_compressed t.compressed d ∙ ap (λ (n : ℕ). replicate n false) h.levels in
    let coords : t.coords ≡ assignments t.extents = h.stored ∙ ap (λ (bs : List Bool). stored_coords t.extents bs t.coords) levels ∙ stored_coords-dense t.extents (length t.extents) t.coords in
    λ i. record { extents = t.extents; compressed = levels i; coords = coords i }

-- so does a declared one
pub declared_dense : (tensors : Contents) (k : ℕ) → k < length tensors → AllByRecursion IsStored (stored_of_all tensors) → is_dense_at (known_of tensors) k ≡ true
    → tensor_at (stored_of_all tensors) k ≡ dense_levels (tensor_at (stored_of_all tensors) k).extents
declared_dense [] k l h d = absurd (omega (arith, l))
declared_dense (t ∷ ts) zero l h d = dense_stored (stored_of t.1.packed) h.0 d
declared_dense (t ∷ ts) (suc k) l h d = declared_dense ts k (omega (arith, l)) h.1 d
