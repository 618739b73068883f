-- A tensor that was written is read back.
use Rattle.std.proofs.Common.{◌≡◌, ℕ, ◌+◌, ◌-◌, ◌^◌, ◌<◌, ◌≤◌, List, [], ◌∷◌, ◌++◌, length, get_or, map, replicate, refl, ap, sym, ◌∙◌, subst, arith, Option, Some, None, IsSome, is_some, Ok, Bool, true, false, cond, ◌&&◌, nat_le}
use Rattle.std.specs.List.{All, AllByRecursion, flat_map, list_all}
use Rattle.std.proofs.lemmas.List.Elements.{All-filter, All-from_get_or, All-from_recursion, All-get_or, All-same, recursion_from_All}
use Rattle.dt_base.specs.Ranges.{below, assignments}
use Rattle.dt_base.proofs.Ranges.{length-below, get_or-below}
use Rattle.dt_base.specs.Rows.{product}
use Rattle.dt_model.specs.Positions.{StoredTensor, IsStored, is_followed, stored_coords}
use Rattle.dt_model.specs.Shape.{are_extents, is_extent, shape_of_extents}
use Rattle.dt_model.specs.declared.shape.Shape.{Shape}
use Rattle.dt_model.proofs.ShapeFacts.{both, extent_most}
use Rattle.dt_tensor.specs.Packed.{Packed, IsPacked, stored_of}
use Rattle.dt_tensor.specs.declared.entry.Given.{Given}
use Rattle.dt_tensor.proofs.IndexNumbers.{coords_length}
use Rattle.dt_files.specs.Rows.{given_with, rows_read}
use Rattle.dt_files.specs.Written.{rows_text, stored_entries}
use Rattle.dt_files.proofs.ReadBack.{IsFine, list_back}
use Rattle.dt_files.proofs.RowLemmas.{entry_at_place, entry_count}

abbrev Small : List ℕ → Type 0
Small c = AllByRecursion (λ x. x < 2 ^ 32) c

joined : (xs ys : List (List ℕ)) → AllByRecursion Small xs → AllByRecursion Small ys → AllByRecursion Small (xs ++ ys)
joined [] ys h k = k
joined (x ∷ xs) ys h k = (h.0, joined xs ys h.1 k)

extended : (i : ℕ) (cs : List (List ℕ)) → i < 2 ^ 32 → AllByRecursion Small cs → AllByRecursion Small (map (λ a. i ∷ a) cs)
extended i [] h k = tt
extended i (a ∷ cs) h k = ((h, k.0), extended i cs h k.1)

each_extended : (is : List ℕ) (cs : List (List ℕ)) → AllByRecursion (λ i. i < 2 ^ 32) is → AllByRecursion Small cs → AllByRecursion Small (flat_map (λ i. map (λ a. i ∷ a) cs) is)
each_extended [] cs h k = tt
each_extended (i ∷ is) cs h k = joined (map (λ a. i ∷ a) cs) (flat_map (λ i. map (λ a. i ∷ a) cs) is) (extended i cs h.0 k) (each_extended is cs h.1 k)

few_below : (n : ℕ) → n ≤ 4096 → AllByRecursion (λ i. i < 2 ^ 32) (below n)
few_below n h = recursion_from_All (λ i. i < 2 ^ 32) (below n) (λ i d lt. let room : i < n = omega (arith, length-below n) in subst (λ (x : ℕ). x < 2 ^ 32) (sym (get_or-below n i d room)) (omega arith))

indices_small : (ns : List ℕ) → AllByRecursion (λ n. n ≤ 4096) ns → AllByRecursion Small (assignments ns)
indices_small [] h = (tt, tt)
indices_small (n ∷ ns) h = each_extended (below n) (assignments ns) (few_below n h.0) (indices_small ns h.1)

extents_most : (ns : List ℕ) → list_all is_extent ns ≡ true → AllByRecursion (λ n. n ≤ 4096) ns
extents_most [] h = tt
extents_most (n ∷ ns) h = let parts = both (is_extent n) (list_all is_extent ns) h in (extent_most n parts.0, extents_most ns parts.1)

abbrev record_of : List ℕ → Shape
record_of ns = record { order = length ns; extents = ns ++ replicate (4 - length ns) 1 }

lawful : (ns : List ℕ) → IsSome (shape_of_extents ns) → are_extents ns ≡ true
lawful ns h = by_test (are_extents ns) refl h
  where
    by_test : (b : Bool) → are_extents ns ≡ b → IsSome (cond b (Some (record_of ns)) None) → are_extents ns ≡ true
    by_test true e k = e
    by_test false e k = absurd (cc)

stored_small : (t : StoredTensor) → IsStored t → All Small t.coords
stored_small t h =
    let parts = both (nat_le (length t.extents) 4 && list_all is_extent t.extents) (nat_le (product t.extents) 16777216) (lawful t.extents h.shape) in
    let each = both (nat_le (length t.extents) 4) (list_all is_extent t.extents) parts.0 in
    All-same Small t.coords (stored_coords t.extents t.compressed t.coords) h.stored
    (All-filter (is_followed t.compressed t.coords) Small (assignments t.extents) (All-from_recursion Small (assignments t.extents) (indices_small t.extents (extents_most t.extents each.1))))

-- each stored entry is one that a file can hold
entries_fine : (t : Packed) → IsPacked t → All (λ v. v < 2 ^ 64) t.values → AllByRecursion (IsFine (length t.extents)) (stored_entries t)
entries_fine t h values = recursion_from_All (IsFine (length t.extents)) (stored_entries t) (All-from_get_or (IsFine (length t.extents)) (stored_entries t) (given_with [] 0) (λ i lt. fine i (omega (arith, entry_count t h.full))))
  where
    fine : (i : ℕ) → i < length t.coords → IsFine (length t.extents) (get_or (stored_entries t) i (given_with [] 0))
    fine i lt = subst (λ (e : Given). IsFine (length t.extents) e) (sym (entry_at_place t i h.full lt))
        (coords_length (stored_of t) i h.stored lt, stored_small (stored_of t) h.stored i [] lt, values i 0 (omega (arith, h.full)))

pub tensor_back : (t : Packed) → IsPacked t → All (λ v. v < 2 ^ 64) t.values → rows_read (length t.extents) (rows_text t) ≡ Ok (stored_entries t)
unfolding rows_text
tensor_back t h values = list_back (length t.extents) (stored_entries t) (entries_fine t h values)
