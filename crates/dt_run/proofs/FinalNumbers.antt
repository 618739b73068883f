-- The numbers after all parts are those of the tensors after all statements.
use Rattle.std.proofs.Common.{◌≡◌, ℕ, ◌+◌, ◌%◌, ◌^◌, ◌<◌, Bool, true, false, List, [], ◌∷◌, length, get_or, map, Option, Some, None, is_some, arith, refl, sym, ap, ◌∙◌, subst, eqb-true, eq-eqb, unwrap_or, option_map, slice_get, slice_set, nat_eq, if◌then◌else◌}
use Rattle.std.specs.Option.{option_and_then}
use Rattle.std.specs.List.{AllByRecursion}
use Rattle.std.proofs.Math.Path.{fun_ext}
use Rattle.std.proofs.lemmas.Option.{slice_get-get_or, slice_get-map, unwrap_or-slice_get}
use Rattle.dt_base.specs.Rows.{row_major}
use Rattle.dt_base.proofs.Assignments.{position-assignments}
use Rattle.dt_model.specs.Positions.{StoredTensor, place_in, tensor_at}
use Rattle.dt_model.specs.Stmts.{shapes_of, IsIndex}
use Rattle.dt_model.specs.Value.{final_of, left_after, number_after as number_of_stmt, tensors_after}
use Rattle.dt_model.specs.WholeTensor.{WholeTensor, number_at, zero_tensor}
use Rattle.dt_model.specs.declared.stmt.Stmt.{Stmt}
use Rattle.dt_nest.specs.Effects.{sum_over}
use Rattle.dt_nest.specs.Meaning.{Entries}
use Rattle.dt_nest.specs.Outputs.{output_of}
use Rattle.dt_nest.specs.World.{entries_of}
use Rattle.dt_nest.proofs.Inside.{length_shapes}
use Rattle.dt_nest.proofs.RootApart.{output_below}
use Rattle.dt_plan.specs.Layouts.{Layout}
use Rattle.dt_plan.specs.declared.parts.Part.{Part}
use Rattle.dt_events.specs.Placed.{IsPlaced, AreNumbers, numbers_after, numbers_after_all}
use Rattle.dt_events.proofs.JobRuns.{IsDone}
use Rattle.dt_events.proofs.JobSums.{numbers_go_on}
use Rattle.dt_tensor.specs.Packed.{dense_levels}
use Rattle.dt_tensor.proofs.Tables.{table-there}
use Rattle.dt_job.specs.PartsOf.{IsPartOf, ArePartsOf}
use Rattle.dt_run.specs.Running.{AreOver}
use Rattle.dt_run.proofs.OverStored.{fits_over, stored_extents}
use Rattle.dt_run.proofs.PartRuns.{after_over}
use Rattle.dt_run.proofs.WholeSets.{slice_get-set_same, slice_get-set_other}

-- One statement ----------------------------------------------------------------------------------------------------------------

module _ (l : Layout) (dims : List ℕ) (names : List (List ℕ)) (s : Stmt) (y : ℕ × Part) (done : IsDone l y) (placed : IsPlaced l) (is : IsPartOf dims l.stored names s y.1)
    (ts : List WholeTensor) (over : AreOver l.stored ts) (numbers : AreNumbers l (entries_of ts)) where
  abbrev p : Part
  p = y.1

  abbrev out : ℕ
  out = output_of p.sched.nest

  abbrev x : Entries
  x = entries_of ts

  -- what the part leaves are numbers
  after_numbers : AreNumbers l (numbers_after l.stored p x)
  after_numbers = numbers_go_on l y.0 p x done.fit placed numbers done.can done.outline

  inside : out < length ts
  inside = omega (arith, output_below (length p.sched.tensors) p.sched.nest [] done.fit.lawful.works.stand, done.fit.tensors, length_shapes l.stored ts over.shapes)

  abbrev left : WholeTensor
  left = get_or ts out (zero_tensor [])

  found : slice_get ts out ≡ Some left
  found = slice_get-get_or ts out (zero_tensor []) inside

  -- the tensors after the statement: the left one is another
  after_is : tensors_after s ts ≡ slice_set ts out (left_after s ts left)
  after_is =
      ap (λ (t : ℕ). unwrap_or (option_map (λ w. slice_set ts t (left_after s ts w)) (slice_get ts t)) ts) (sym is.output)
      ∙ ap (λ (o : Option WholeTensor). unwrap_or (option_map (λ w. slice_set ts out (left_after s ts w)) o) ts) found

  -- the other tensors have their numbers
  others : (t : ℕ) (c : List ℕ) → (t ≡ out → ⊥) → x t c ≡ entries_of (tensors_after s ts) t c
  others t c apart =
      ap (λ (o : Option WholeTensor). unwrap_or (option_and_then (λ w. number_at w c) o) 0) (sym (slice_get-set_other ts out t (left_after s ts left) apart))
      ∙ ap (λ (ws : List WholeTensor). entries_of ws t c) (sym after_is)

  -- a number of the left one
  left_number : (c : List ℕ) → entries_of (tensors_after s ts) out c ≡ unwrap_or (number_at (left_after s ts left) c) 0
  left_number c =
      ap (λ (ws : List WholeTensor). entries_of ws out c) after_is
      ∙ ap (λ (o : Option WholeTensor). unwrap_or (option_and_then (λ w. number_at w c) o) 0) (slice_get-set_same ts out (left_after s ts left) inside)

  same_rows : (c : List ℕ) → place_in (tensor_at l.stored out) c ≡ row_major left.extents c
  same_rows c =
      ap (λ (t : StoredTensor). place_in t c) (subst (λ (t : ℕ). tensor_at l.stored t ≡ dense_levels (tensor_at l.stored t).extents) (sym is.output) is.dense)
      ∙ position-assignments (tensor_at l.stored out).extents c
      ∙ ap (λ (ns : List ℕ). row_major ns c) (stored_extents l.stored ts out left over.shapes found)

  -- a number that has no place is 0 in both
  no_place : (c : List ℕ) → row_major left.extents c ≡ None → numbers_after l.stored p x out c ≡ entries_of (tensors_after s ts) out c
  no_place c e =
      after_numbers.zeros out c (same_rows c ∙ e)
      ∙ sym (left_number c ∙ ap (λ (r : Option ℕ). unwrap_or (option_and_then (λ k. slice_get (left_after s ts left).values k) r) 0) e)

  -- an index of the left tensor is one of the statement
  is_index : (c : List ℕ) (k : ℕ) → row_major left.extents c ≡ Some k → IsIndex (shapes_of ts) s c
  is_index c k row =
      ap (λ (t : ℕ). is_some (row_major (unwrap_or (slice_get (shapes_of ts) t) []) c)) (sym is.output)
      ∙ ap (λ (o : Option (List ℕ)). is_some (row_major (unwrap_or o []) c)) (slice_get-map (λ (t : WholeTensor). t.extents) ts out ∙ ap (option_map (λ (t : WholeTensor). t.extents)) found)
      ∙ ap (λ (o : Option ℕ). is_some o) row

  -- what the left tensor had
  old_number : (c : List ℕ) → x out c ≡ unwrap_or (number_at left c) 0
  old_number c = ap (λ (o : Option WholeTensor). unwrap_or (option_and_then (λ w. number_at w c) o) 0) found

  -- what a part makes of a number, by whether it is of the left tensor and whether the part adds
  abbrev made : Bool → Bool → ℕ → ℕ → ℕ
  made a b old sum = if a then if b then (old + sum) % 2 ^ 64 else sum else old

  at_place : (c : List ℕ) (k : ℕ) → row_major left.extents c ≡ Some k → numbers_after l.stored p x out c ≡ entries_of (tensors_after s ts) out c
  at_place c k row =
      ap (λ (a : Bool). made a p.adds (x out c) (sum_over l.stored p.sched x c)) (eq-eqb out out refl)
      ∙ ap (λ (b : Bool). made true b (x out c) (sum_over l.stored p.sched x c)) is.adds
      ∙ ap (λ (n : ℕ). made true s.adds n (sum_over l.stored p.sched x c)) (old_number c)
      ∙ ap (λ (n : ℕ). made true s.adds (unwrap_or (number_at left c) 0) n) (is.means l.stored ts c (fits_over l.stored ts p.sched is.fits over) (is_index c k row))
      ∙ sym (table-there (number_of_stmt s ts left) left.extents c k 0 row)
      ∙ sym (unwrap_or-slice_get (left_after s ts left).values k 0)
      ∙ sym (left_number c ∙ ap (λ (r : Option ℕ). unwrap_or (option_and_then (λ j. slice_get (left_after s ts left).values j) r) 0) row)

  at_left : (c : List ℕ) → numbers_after l.stored p x out c ≡ entries_of (tensors_after s ts) out c
  at_left c = go (row_major left.extents c) refl
    where
      go : (o : Option ℕ) → row_major left.extents c ≡ o → numbers_after l.stored p x out c ≡ entries_of (tensors_after s ts) out c
      go None e = no_place c e
      go (Some k) e = at_place c k e

  each : (t : ℕ) (c : List ℕ) → numbers_after l.stored p x t c ≡ entries_of (tensors_after s ts) t c
  each t c = go (nat_eq t out) refl
    where
      go : (a : Bool) → nat_eq t out ≡ a → numbers_after l.stored p x t c ≡ entries_of (tensors_after s ts) t c
      go true e = subst (λ (u : ℕ). numbers_after l.stored p x u c ≡ entries_of (tensors_after s ts) u c) (sym (eqb-true t out e)) (at_left c)
      go false e = ap (λ (a : Bool). made a p.adds (x t c) (sum_over l.stored p.sched x c)) e ∙ others t c (λ q. let z = eq-eqb t out q in cc)

  -- the numbers after the part are those of the tensors after the statement
  pub part_numbers : numbers_after l.stored p x ≡ entries_of (tensors_after s ts)
  part_numbers = fun_ext (λ t. fun_ext (λ c. each t c))

  -- these are numbers again
  pub numbers_too : AreNumbers l (entries_of (tensors_after s ts))
  numbers_too = subst (AreNumbers l) part_numbers after_numbers

-- All statements ---------------------------------------------------------------------------------------------------------------

-- the numbers after parts, one after another, are those of the tensors after their statements
pub all_numbers : (l : Layout) (dims : List ℕ) (names : List (List ℕ)) → IsPlaced l → (stmts : List Stmt) (ys : List (ℕ × Part)) → AllByRecursion (IsDone l) ys → ArePartsOf dims l.stored names stmts (map (λ (y : ℕ × Part). y.1) ys)
    → (ts : List WholeTensor) → AreOver l.stored ts → AreNumbers l (entries_of ts) → numbers_after_all l.stored (map (λ (y : ℕ × Part). y.1) ys) (entries_of ts) ≡ entries_of (final_of stmts ts)
all_numbers l dims names placed [] [] done h ts over numbers = refl
all_numbers l dims names placed [] (y ∷ ys) done h ts over numbers = absurd h
all_numbers l dims names placed (s ∷ stmts) [] done h ts over numbers = absurd h
all_numbers l dims names placed (s ∷ stmts) (y ∷ ys) done h ts over numbers =
    ap (λ (x : Entries). numbers_after_all l.stored (map (λ (z : ℕ × Part). z.1) ys) x) (part_numbers l dims names s y done.0 placed h.0 ts over numbers)
    ∙ all_numbers l dims names placed stmts ys done.1 h.1 (tensors_after s ts) (after_over l.stored ts s h.0.dense over) (numbers_too l dims names s y done.0 placed h.0 ts over numbers)
