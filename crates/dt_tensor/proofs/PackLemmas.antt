-- What entries give where no level is compressed.
use Rattle.std.proofs.Common.{◌≡◌, ℕ, zero, suc, ◌<◌, ◌≤◌, List, [], ◌∷◌, length, take, map, refl, ap, sym, ◌∙◌, arith, Option, Some, None, Result, Ok, Err, Bool, true, false, nat_lt, replicate, if◌then◌else◌}
use Rattle.std.proofs.lemmas.Bool.{lt-ltb, le-ltb}
use Rattle.dt_base.specs.Ranges.{assignments}
use Rattle.dt_base.specs.Rows.{product}
use Rattle.dt_model.specs.Positions.{stored_coords}
use Rattle.dt_model.specs.Shape.{dims, IsShape}
use Rattle.dt_model.specs.declared.shape.Shape.{Shape}
use Rattle.dt_model.proofs.ShapeFacts.{shape_facts}
use Rattle.dt_tensor.specs.Packed.{Packed, dense_tensor, whole_of}
use Rattle.dt_tensor.specs.Packing.{given_at, first_offence, packed_by, packed_or, pack_of, IsPack}
use Rattle.dt_tensor.specs.declared.entry.Given.{Given}
use Rattle.dt_tensor.specs.declared.packing.PackEnd.{PackEnd}
use Rattle.dt_tensor.specs.declared.packing.PackEnd.TheVariants as ends
use Rattle.dt_base.proofs.Assignments.{length-assignments}
use Rattle.dt_tensor.proofs.DenseTensors.{stored_coords-dense, whole_of-dense, whole_with}
use Rattle.dt_tensor.proofs.Tables.{length-table}

-- the first levels of a tensor with no compressed one
pub levels-dense : (n : ℕ) → n ≤ 4 → take n (false ∷ false ∷ false ∷ false ∷ []) ≡ replicate n false
levels-dense zero h = refl
levels-dense (suc zero) h = refl
levels-dense (suc (suc zero)) h = refl
levels-dense (suc (suc (suc zero))) h = refl
levels-dense (suc (suc (suc (suc zero)))) h = refl
levels-dense (suc (suc (suc (suc (suc n))))) h = absurd (omega arith)

-- an entry is wrong
pub pack_of-offence : (ns : List ℕ) (levels : List Bool) (entries : List Given) (end : PackEnd) → Some end ≡ first_offence ns entries → IsPack (Err end) (pack_of ns levels entries)
unfolding pack_of
pack_of-offence ns levels entries end e =
    itself end (packed_or (first_offence ns entries) (packed_by ns levels entries (stored_coords ns levels (map (λ g. g.at) entries))))
    (ap (λ (o : Option PackEnd). packed_or o (packed_by ns levels entries (stored_coords ns levels (map (λ g. g.at) entries)))) (sym e))
  where
    itself : (end : PackEnd) (given : Result Packed PackEnd) → given ≡ Err end → IsPack (Err end) given
    itself (ends.OutOfShape k) given e = e
    itself (ends.Repeated k) given e = e
    itself ends.TooManyStored given e = e
    itself ends.NoMemory given e = tt

packed_by-dense : (ns : List ℕ) (entries : List Given) (coords : List (List ℕ)) (big : Bool) → nat_lt 1048576 (product ns) ≡ big → coords ≡ assignments ns
    → packed_by ns (replicate (length ns) false) entries coords ≡ (if big then Err ends.TooManyStored else Ok (dense_tensor ns (map (given_at entries) (assignments ns))))
packed_by-dense ns entries coords big e all =
    ap (λ (cs : List (List ℕ)). packed_by ns (replicate (length ns) false) entries cs) all
    ∙ ap (λ (b : Bool). if b then Err ends.TooManyStored else Ok (dense_tensor ns (map (given_at entries) (assignments ns)))) (ap (λ (n : ℕ). nat_lt 1048576 n) (length-assignments ns) ∙ e)

-- no entry is wrong
pack_of-lawful : (ns : List ℕ) (levels : List Bool) (entries : List Given) (big : Bool) → None ≡ first_offence ns entries → levels ≡ replicate (length ns) false → nat_lt 1048576 (product ns) ≡ big
    → pack_of ns levels entries ≡ (if big then Err ends.TooManyStored else Ok (dense_tensor ns (map (given_at entries) (assignments ns))))
unfolding pack_of
pack_of-lawful ns levels entries big e dense t =
    ap (λ (o : Option PackEnd). packed_or o (packed_by ns levels entries (stored_coords ns levels (map (λ g. g.at) entries)))) (sym e)
    ∙ ap (λ (ls : List Bool). packed_by ns ls entries (stored_coords ns ls (map (λ g. g.at) entries))) dense
    ∙ packed_by-dense ns entries (stored_coords ns (replicate (length ns) false) (map (λ g. g.at) entries)) big t (stored_coords-dense ns (length ns) (map (λ g. g.at) entries))

pub pack_of-many : (ns : List ℕ) (levels : List Bool) (entries : List Given) → None ≡ first_offence ns entries → levels ≡ replicate (length ns) false → 1048576 < product ns
    → pack_of ns levels entries ≡ Err ends.TooManyStored
pack_of-many ns levels entries e dense big = pack_of-lawful ns levels entries true e dense (lt-ltb 1048576 (product ns) big)

pub pack_of-dense : (ns : List ℕ) (levels : List Bool) (entries : List Given) (values : List ℕ) → None ≡ first_offence ns entries → levels ≡ replicate (length ns) false → product ns ≤ 1048576
    → values ≡ map (given_at entries) (assignments ns) → pack_of ns levels entries ≡ Ok (dense_tensor ns values)
pack_of-dense ns levels entries values e dense few same =
    pack_of-lawful ns levels entries false e dense (le-ltb 1048576 (product ns) few) ∙ ap (λ (vs : List ℕ). Ok (dense_tensor ns vs)) (sym same)

-- the whole tensor of a packed one
pub whole_of-packed : (ns : List ℕ) (entries : List Given) (values : List ℕ) (t : Packed) → values ≡ map (given_at entries) (assignments ns) → t ≡ dense_tensor ns values
    → whole_of t ≡ record { extents = ns; values = map (given_at entries) (assignments ns) }
whole_of-packed ns entries values t same is =
    ap (λ (p : Packed). whole_of p) is ∙ whole_of-dense ns values (ap length same ∙ length-table (given_at entries) ns) ∙ ap (whole_with ns) same

-- the levels of a shape, none of them compressed
pub levels_are : (shape : Shape) (levels : List Bool) → IsShape shape → levels ≡ replicate shape.order false → levels ≡ replicate (length (dims shape)) false
levels_are shape levels h e = e ∙ ap (λ (n : ℕ). replicate n false) (sym (shape_facts shape h).used)
