-- A part of a job makes of the tensors what its statement means.
use Rattle.std.proofs.Common.{◌≡◌, ℕ, ◌+◌, ◌%◌, ◌^◌, ◌<◌, Bool, true, false, List, [], length, get_or, map, replicate, Option, Some, None, Result, is_some, refl, sym, ap, ◌∙◌, subst, arith, slice_get, slice_set, unwrap_or, option_map}
use Rattle.std.specs.Prelude.{OnOk, Ok, Err, if◌then◌else◌}
use Rattle.std.specs.Option.{option_and_then}
use Rattle.std.proofs.Math.Nat.{mod-mod}
use Rattle.std.proofs.lemmas.List.{length-map, length-replicate, get_or-map, same_lists, set-set}
use Rattle.std.proofs.lemmas.Option.{slice_get-get_or, slice_get-map, unwrap_or-slice_get}
use Rattle.dt_base.specs.Ranges.{assignments}
use Rattle.dt_base.specs.Rows.{product, row_major}
use Rattle.dt_model.specs.Ring.{ring_add}
use Rattle.dt_model.specs.WholeTensor.{WholeTensor, number_at, zero_tensor}
use Rattle.dt_model.specs.Positions.{StoredTensor}
use Rattle.dt_model.specs.Stmts.{shapes_of, IsIndex}
use Rattle.dt_model.specs.Value.{number_after, left_after, tensors_after, value_of}
use Rattle.dt_model.specs.declared.stmt.Stmt.{Stmt}
use Rattle.dt_nest.specs.Tree.{Tree, Loop, Pre, Leaf}
use Rattle.dt_nest.specs.Schedule.{Schedule}
use Rattle.dt_nest.proofs.Inside.{fits_stored}
use Rattle.dt_nest.specs.World.{world_of, entries_of, sum_of}
use Rattle.dt_nest.specs.Lawful.{IsNamed, IsLawful}
use Rattle.dt_nest.specs.Outputs.{output_of, reads_of}
use Rattle.dt_nest.proofs.Congruence.{like_same, is_read, reads_free, nest_sum-like}
use Rattle.dt_nest.proofs.OwnSlots.{zero_at}
use Rattle.dt_base.proofs.Assignments.{length-assignments, row_major-assignment}
use Rattle.dt_run.specs.Visiting.{IsRunnable, IsStmtOf, left_with_sum, tensors_with_sum, tensors_cleared}
use Rattle.dt_run.proofs.OverStored.{fits_over, over_fitting, set_shapes, set_over}
use Rattle.dt_run.proofs.WholeSets.{slice_get-set_same, slice_get-set_other}

-- what holds where a value is there
pub on_ok : {T E : Type 0} (r : Result T E) (P Q : Type 0) → (P → Q) → OnOk r P → OnOk r Q
on_ok (Ok x) P Q f h = f h
on_ok (Err e) P Q f h = h

-- tables that agree at each index
tables_agree : (f g : List ℕ → ℕ) (ns : List ℕ) → ((c : List ℕ) (k : ℕ) → row_major ns c ≡ Some k → f c ≡ g c) → map f (assignments ns) ≡ map g (assignments ns)
tables_agree f g ns h =
    same_lists (map f (assignments ns)) (map g (assignments ns)) (length-map (assignments ns) f ∙ sym (length-map (assignments ns) g))
    (λ k d l.
    let room : k < length (assignments ns) = omega (arith, l, length-map (assignments ns) f) in
    let small : k < product ns = omega (arith, room, length-assignments ns) in
    get_or-map f (assignments ns) k [] d room ∙ h (get_or (assignments ns) k []) k (row_major-assignment ns k small) ∙ sym (get_or-map g (assignments ns) k [] d room))

-- Tensors with zeros in one of them --------------------------------------------------------------------------------------

module _ (ts : List WholeTensor) (t : ℕ) (left : WholeTensor) (found : slice_get ts t ≡ Some left) (inside : t < length ts) where
  abbrev Cleared : List WholeTensor
  Cleared = slice_set ts t (zero_tensor left.extents)

  cleared_is : tensors_cleared t ts ≡ Cleared
  cleared_is = rw found refl

  zero_number : (c : List ℕ) → ◌≡◌ {A = ℕ} (unwrap_or (number_at (zero_tensor left.extents) c) 0) 0
  zero_number c = go (row_major left.extents c)
    where
      at : (n k : ℕ) → ◌≡◌ {A = ℕ} (unwrap_or (slice_get (replicate n 0) k) 0) 0
      at n k = unwrap_or-slice_get (replicate n 0) k 0 ∙ zero_at n k

      go : (r : Option ℕ) → ◌≡◌ {A = ℕ} (unwrap_or (option_and_then (λ k. slice_get (replicate (product left.extents) 0) k) r) 0) 0
      go None = refl
      go (Some k) = at (product left.extents) k

  cleared_there : slice_get Cleared t ≡ Some (zero_tensor left.extents)
  cleared_there = slice_get-set_same ts t (zero_tensor left.extents) inside

  cleared_apart : (u : ℕ) (c : List ℕ) → (u ≡ t → ⊥) → entries_of Cleared u c ≡ entries_of ts u c
  cleared_apart u c n = ap (λ (o : Option WholeTensor). unwrap_or (option_and_then (λ x. number_at x c) o) 0) (slice_get-set_other ts t u (zero_tensor left.extents) n)

-- tensors keep their shapes where one is cleared
pub shapes_cleared : (ts : List WholeTensor) (t : ℕ) → t < length ts → shapes_of (tensors_cleared t ts) ≡ shapes_of ts
shapes_cleared ts t inside = go (slice_get ts t) refl
  where
    go : (o : Option WholeTensor) → slice_get ts t ≡ o → shapes_of (tensors_cleared t ts) ≡ shapes_of ts
    go None e = ap (λ (o : Option WholeTensor). shapes_of (unwrap_or (option_map (λ left. slice_set ts t (zero_tensor left.extents)) o) ts)) e
    go (Some left) e = ap shapes_of (cleared_is ts t left e inside) ∙ set_shapes ts t left (zero_tensor left.extents) e refl

-- a schedule runs on its tensors with zeros in one
pub runs_cleared : (stored : List StoredTensor) (ts : List WholeTensor) (s : Schedule) (t : ℕ) → t < length ts → IsRunnable stored ts s → IsRunnable stored (tensors_cleared t ts) s
runs_cleared stored ts s t inside r = subst (λ (l : List WholeTensor). IsRunnable stored l s) (sym (cleared_is ts t left found inside)) (record {
  fits = fits_over stored (slice_set ts t (zero_tensor left.extents)) s (fits_stored stored ts s r.fits)
      (set_over ts t left (zero_tensor left.extents) found refl stored (over_fitting stored ts s r.fits) (length-replicate (product left.extents) 0) (λ c e. zero_number ts t left found inside c));
  workless = r.workless;
  unread = r.unread;
})
  where
    left : WholeTensor
    left = get_or ts t (zero_tensor [])

    found : slice_get ts t ≡ Some left
    found = slice_get-get_or ts t (zero_tensor []) inside

-- Statements -------------------------------------------------------------------------------------------------------------

module _ (s : Schedule) (workless : s.works ≡ []) where
  -- without workspaces what a tree reads freely some leaf reads
  free_read : (n u : ℕ) (tree : Tree) → IsNamed s tree → reads_free n u tree ≡ true → is_read u (reads_of tree) ≡ true
  free_read n u (Loop v m walk body) h e = free_read n u body h.3 e
  free_read n u (Pre work pairs p q) h e = let l = h.0 in let z = ap length workless in absurd (omega arith)
  free_read n u (Leaf lhs terms guards kernel) h e = e

module _ (stored : List StoredTensor) (s : Schedule) (before : List WholeTensor) (runs : IsRunnable stored before s) (inside : output_of s.nest < length before) (stmt : Stmt) where
  abbrev left : WholeTensor
  left = get_or before (output_of s.nest) (zero_tensor [])

  found : slice_get before (output_of s.nest) ≡ Some left
  found = slice_get-get_or before (output_of s.nest) (zero_tensor []) inside

  -- the left tensor with other numbers
  abbrev with_values : List ℕ → WholeTensor
  with_values values = record { extents = left.extents; values = values }

  -- what the statement makes of the tensors
  after_is : stmt.lhs.tensor ≡ output_of s.nest → tensors_after stmt before ≡ slice_set before (output_of s.nest) (left_after stmt before left)
  after_is e =
      ap (λ (t : ℕ). unwrap_or (option_map (λ l. slice_set before t (left_after stmt before l)) (slice_get before t)) before) e
      ∙ ap (λ (o : Option WholeTensor). unwrap_or (option_map (λ l. slice_set before (output_of s.nest) (left_after stmt before l)) o) before) found

  -- an index of the left tensor is one of the statement
  is_index : stmt.lhs.tensor ≡ output_of s.nest → (c : List ℕ) (k : ℕ) → row_major left.extents c ≡ Some k → IsIndex (shapes_of before) stmt c
  is_index e c k row =
      ap (λ (t : ℕ). is_some (row_major (unwrap_or (slice_get (shapes_of before) t) []) c)) e
      ∙ ap (λ (o : Option (List ℕ)). is_some (row_major (unwrap_or o []) c)) (slice_get-map (λ (t : WholeTensor). t.extents) before (output_of s.nest) ∙ ap (option_map (λ (t : WholeTensor). t.extents)) found)
      ∙ ap (λ (o : Option ℕ). is_some o) row

  -- a part that adds
  pub part_adds : IsStmtOf stmt s true → (after : List WholeTensor) → after ≡ tensors_with_sum stored s before → after ≡ tensors_after stmt before
  part_adds p after e =
      e ∙ ap (λ (o : Option WholeTensor). unwrap_or (option_map (λ l. slice_set before (output_of s.nest) (left_with_sum stored s before l)) o) before) found
      ∙ ap (slice_set before (output_of s.nest))
      (ap with_values
      (tables_agree (λ c. ring_add (unwrap_or (number_at left c) 0) (sum_of stored before s c)) (number_after stmt before left) left.extents
      (λ c k row.
      ap (ring_add (unwrap_or (number_at left c) 0)) (p.means stored before c runs.fits (is_index p.left c k row))
      ∙ ap (λ (b : Bool). if b then ring_add (unwrap_or (number_at left c) 0) (value_of stmt before c) else value_of stmt before c) (sym p.same))))
      ∙ sym (after_is p.left)

  -- the schedule's sum doesn't read the left tensor
  sum_cleared : IsLawful s → (c : List ℕ) → sum_of stored (slice_set before (output_of s.nest) (zero_tensor left.extents)) s c ≡ sum_of stored before s c
  sum_cleared lawful c =
      (nest_sum-like (world_of stored s) s.derived s.nest (entries_of (slice_set before (output_of s.nest) (zero_tensor left.extents))) (entries_of before) (λ u. u) (λ u. 0)
      (record { alike = λ u e d. like_same _ _ (cleared_apart before (output_of s.nest) left found inside u d (apart u (free_read s runs.workless (length s.tensors) u s.nest lawful.named e))) }) c).like
    where
      apart : (u : ℕ) → is_read u (reads_of s.nest) ≡ true → u ≡ output_of s.nest → ⊥
      apart u t e = let q : is_read (output_of s.nest) (reads_of s.nest) ≡ true = subst (λ (v : ℕ). is_read v (reads_of s.nest) ≡ true) e t in let n = runs.unread in cc

  -- a part that sets
  pub part_sets : IsLawful s → IsStmtOf stmt s false → (after : List WholeTensor) → after ≡ tensors_with_sum stored s (tensors_cleared (output_of s.nest) before) → after ≡ tensors_after stmt before
  part_sets lawful p after e =
      e ∙ ap (tensors_with_sum stored s) (cleared_is before (output_of s.nest) left found inside)
      ∙ ap (λ (o : Option WholeTensor). unwrap_or (option_map (λ l. slice_set (Cleared before (output_of s.nest) left found inside) (output_of s.nest) (left_with_sum stored s (Cleared before (output_of s.nest) left found inside) l)) o) (Cleared before (output_of s.nest) left found inside)) (cleared_there before (output_of s.nest) left found inside)
      ∙ set-set before (output_of s.nest) (zero_tensor left.extents) (left_with_sum stored s (Cleared before (output_of s.nest) left found inside) (zero_tensor left.extents))
      ∙ ap (slice_set before (output_of s.nest))
      (ap with_values
      (tables_agree (λ c. ring_add (unwrap_or (number_at (zero_tensor left.extents) c) 0) (sum_of stored (Cleared before (output_of s.nest) left found inside) s c)) (number_after stmt before left) left.extents
      (λ c k row.
      ap (λ (n : ℕ). ring_add n (sum_of stored (Cleared before (output_of s.nest) left found inside) s c)) (zero_number before (output_of s.nest) left found inside c)
      ∙ ap (ring_add 0) (sum_cleared lawful c)
      ∙ zero_add (sum_of stored before s c) (mod-mod _ (2 ^ 64))
      ∙ p.means stored before c runs.fits (is_index p.left c k row)
      ∙ ap (λ (b : Bool). if b then ring_add (unwrap_or (number_at left c) 0) (value_of stmt before c) else value_of stmt before c) (sym p.same))))
      ∙ sym (after_is p.left)
    where
      zero_add : (n : ℕ) → n % 2 ^ 64 ≡ n → ring_add 0 n ≡ n
      zero_add n e = let z : 0 + n ≡ n = omega arith in ap (λ (m : ℕ). m % 2 ^ 64) z ∙ e
