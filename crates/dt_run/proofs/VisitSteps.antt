-- One item of a run after another, and what stands behind the last.
use Rattle.std.proofs.Common.{◌≡◌, ℕ, ◌+◌, ◌%◌, ◌^◌, ◌<◌, ◌&&◌, Bool, true, false, List, [], ◌∷◌, length, get_or, map, Option, Some, None, refl, sym, ap, ◌∙◌, subst, arith, slice_get, slice_set, unwrap_or, option_map}
use Rattle.std.specs.Prelude.{if◌then◌else◌, nat_eq, slice_index}
use Rattle.std.specs.List.{AllByRecursion}
use Rattle.std.specs.Option.{option_and_then}
use Rattle.std.specs.Str.{bytes_eq}
use Rattle.std.proofs.Math.Path.{fun_ext}
use Rattle.std.proofs.Math.Nat.{add-mod-mod, mod-eq_of_lt}
use Rattle.std.proofs.lemmas.Grind.{same_number_lists}
use Rattle.std.proofs.lemmas.List.{length-map, set-get_or}
use Rattle.std.proofs.lemmas.Option.{slice_get-get_or, slice_get-map, same_Some}
use Rattle.dt_base.specs.Ranges.{assignments}
use Rattle.dt_base.specs.Rows.{product, row_major}
use Rattle.dt_model.specs.Ring.{ring_add}
use Rattle.dt_model.specs.WholeTensor.{WholeTensor, number_at, IsWhole}
use Rattle.dt_model.specs.Positions.{StoredTensor}
use Rattle.dt_model.specs.Stmts.{shapes_of}
use Rattle.dt_model.specs.declared.stmt.Access.{Access}
use Rattle.dt_nest.specs.Schedule.{Schedule}
use Rattle.dt_nest.specs.Meaning.{Entries}
use Rattle.dt_nest.specs.World.{world_of, entries_of, sum_of}
use Rattle.dt_nest.specs.Lawful.{IsLawful}
use Rattle.dt_nest.specs.Outputs.{output_of}
use Rattle.dt_nest.specs.Visits.{LeafVisit, Item, IsVisit}
use Rattle.dt_nest.specs.Effects.{with_more, effect_of, visit_sum, entries_after, AddsItsSum}
use Rattle.dt_nest.specs.Run.{Run, SameNest, run_over}
use Rattle.dt_base.proofs.Assignments.{row_major-assignment}
use Rattle.dt_tensor.proofs.Tables.{length-table, table-there}
use Rattle.dt_nest.specs.Point.{visit_in, visit_of, env_at}
use Rattle.dt_run.specs.Visiting.{IsRunnable, left_with_sum, tensors_with_sum, IsItemOver, IsReady, HasGoneOn}
use Rattle.dt_run.proofs.VisitLeaves.{visits_over}
use Rattle.dt_run.proofs.WholeSets.{entries_there}

-- a number counts modulo 2 ^ 64
with_more_mod : (x : Entries) (t : ℕ) (c : List ℕ) (d : ℕ) → with_more x t c (d % 2 ^ 64) ≡ with_more x t c d
with_more_mod x t c d = fun_ext (λ u. fun_ext (λ e. go u e (nat_eq u t && bytes_eq c e)))
  where
    go : (u : ℕ) (e : List ℕ) (b : Bool) → (if b then (x u e + d % 2 ^ 64) % 2 ^ 64 else x u e) ≡ (if b then (x u e + d) % 2 ^ 64 else x u e)
    go u e true = add-mod-mod (x u e) d (2 ^ 64)
    go u e false = refl

-- the effect of a visit
pub visit_effect : (r : Run) (x after : Entries) (lhs : Access) (number : ℕ) → lhs ≡ (visit_of r).leaf.lhs → number ≡ visit_sum (world_of r.stored r.sched) r.sched.derived x (visit_of r) % 2 ^ 64
    → after ≡ with_more x lhs.tensor (map (env_at r None) lhs.vars) number → after ≡ effect_of (world_of r.stored r.sched) r.sched.derived (IsVisit (visit_of r)) x
unfolding env_at
visit_effect r x after lhs number l n e =
    e ∙ ap (λ (a : Access). with_more x a.tensor (map (env_at r None) a.vars) number) l
    ∙ ap (λ (k : ℕ). with_more x (visit_of r).leaf.lhs.tensor (map (env_at r None) (visit_of r).leaf.lhs.vars) k) n
    ∙ with_more_mod x (visit_of r).leaf.lhs.tensor (map (env_at r None) (visit_of r).leaf.lhs.vars) (visit_sum (world_of r.stored r.sched) r.sched.derived x (visit_of r))

-- tensors of equal shapes are as many
pub as_many : (xs ys : List WholeTensor) → shapes_of xs ≡ shapes_of ys → length xs ≡ length ys
as_many xs ys e = sym (length-map xs (λ (t : WholeTensor). t.extents)) ∙ ap length e ∙ length-map ys (λ (t : WholeTensor). t.extents)

-- a run goes on by a visit
pub visit_goes : (old new : Run) (before after : List WholeTensor) → IsReady old before → SameNest old new → ((visit : LeafVisit) × (old.left ≡ IsVisit visit ∷ new.left) × (new.last ≡ Some (IsVisit visit)))
    → entries_of after ≡ effect_of (world_of new.stored new.sched) new.sched.derived (IsVisit (visit_of new)) (entries_of before)
    → ((d : WholeTensor) → slice_set after (output_of new.sched.nest) d ≡ slice_set before (output_of new.sched.nest) d) → shapes_of after ≡ shapes_of before → HasGoneOn old new before after
visit_goes old new before after ready same (visit, left, last) effect others shapes = record {
  same = same;
  ready = record {
    small = subst (λ (s : Schedule). (u : ℕ) → slice_index s.extents u < 2 ^ 32) (sym same.0) ready.small;
    count = as_many after before shapes ∙ ready.count ∙ ap (λ (s : Schedule). length s.tensors) (sym same.0);
    items = subst (λ (s : Schedule). AllByRecursion (IsItemOver (shapes_of after) s) new.left) (sym same.0)
        (subst (λ (l : List (List ℕ)). AllByRecursion (IsItemOver l old.sched) new.left) (sym shapes) rest);
  };
  end = ap (λ (x : Entries). entries_after (world_of new.stored new.sched) new.sched.derived new.left x) effect
      ∙ ap (λ (o : Option Item). entries_after (world_of new.stored new.sched) new.sched.derived (IsVisit (visit_in o) ∷ new.left) (entries_of before)) last
      ∙ ap (λ (l : List Item). entries_after (world_of new.stored new.sched) new.sched.derived l (entries_of before)) (sym left)
      ∙ ap (λ (s : Schedule). entries_after (world_of new.stored s) s.derived old.left (entries_of before)) same.0
      ∙ ap (λ (l : List StoredTensor). entries_after (world_of l old.sched) old.sched.derived old.left (entries_of before)) same.1;
  others = λ d. subst (λ (s : Schedule). slice_set after (output_of s.nest) d ≡ slice_set before (output_of s.nest) d) same.0 (others d);
  shapes = shapes;
}
  where
    rest : AllByRecursion (IsItemOver (shapes_of before) old.sched) new.left
    rest = (subst (AllByRecursion (IsItemOver (shapes_of before) old.sched)) left ready.items).1

-- the run before its first item
pub starts : (stored : List StoredTensor) (s : Schedule) (before : List WholeTensor) (r : Run) → IsRunnable stored before s → IsLawful s → ((u : ℕ) → slice_index s.extents u < 2 ^ 32) → r ≡ run_over stored s [] → HasGoneOn (run_over stored s []) r before before
starts stored s before r runs lawful small e =
    subst (λ (v : Run). HasGoneOn (run_over stored s []) v before before) (sym e)
    (record { same = (refl, refl); ready = record { small = small; count = runs.fits.count; items = visits_over stored before s runs lawful }; end = refl; others = λ d. refl; shapes = refl })

-- a run that has gone on goes on
pub goes_on : (old mid new : Run) (before between after : List WholeTensor) → HasGoneOn old mid before between → HasGoneOn mid new between after → HasGoneOn old new before after
goes_on old mid new before between after h k = record {
  same = (k.same.0 ∙ h.same.0, k.same.1 ∙ h.same.1);
  ready = k.ready;
  end = k.end ∙ h.end;
  others = λ d. subst (λ (s : Schedule). slice_set after (output_of s.nest) d ≡ slice_set between (output_of s.nest) d) h.same.0 (k.others d) ∙ h.others d;
  shapes = k.shapes ∙ h.shapes;
}

-- Behind the last item the left tensor has the schedule's sum.
module _ (stored : List StoredTensor) (s : Schedule) (before after : List WholeTensor) (law : AddsItsSum stored s (entries_of before)) (d : WholeTensor) where
  abbrev Left : List WholeTensor → WholeTensor
  Left ts = get_or ts (output_of s.nest) d

  module _ (r : Run) (gone : HasGoneOn (run_over stored s []) r before after) (end : r.left ≡ []) (inside : output_of s.nest < length before) where
    there : output_of s.nest < length after
    there = omega (arith, inside, as_many after before gone.shapes)

    was : slice_get before (output_of s.nest) ≡ Some (Left before)
    was = slice_get-get_or before (output_of s.nest) d inside

    is : slice_get after (output_of s.nest) ≡ Some (Left after)
    is = slice_get-get_or after (output_of s.nest) d there

    extents : (Left after).extents ≡ (Left before).extents
    extents =
        same_Some (Left after).extents (Left before).extents
        (ap (option_map (λ (t : WholeTensor). t.extents)) (sym is) ∙ sym (slice_get-map (λ (t : WholeTensor). t.extents) after (output_of s.nest))
        ∙ ap (λ (l : List (List ℕ)). slice_get l (output_of s.nest)) gone.shapes
        ∙ slice_get-map (λ (t : WholeTensor). t.extents) before (output_of s.nest) ∙ ap (option_map (λ (t : WholeTensor). t.extents)) was)

    all_after : entries_of after ≡ entries_after (world_of stored s) s.derived (run_over stored s []).left (entries_of before)
    all_after = sym (ap (λ (l : List Item). entries_after (world_of r.stored r.sched) r.sched.derived l (entries_of after)) end) ∙ gone.end

    number : (c : List ℕ) (k : ℕ) → row_major (Left before).extents c ≡ Some k → get_or (Left after).values k 0 < 2 ^ 64
        → get_or (Left after).values k 0 ≡ ring_add (unwrap_or (number_at (Left before) c) 0) (sum_of stored before s c)
    number c k row small =
        let value : entries_of after (output_of s.nest) c ≡ get_or (Left after).values k 0 = entries_there after (output_of s.nest) (Left after) c k is (ap (λ (ns : List ℕ). row_major ns c) extents ∙ row) in
        let old : entries_of before (output_of s.nest) c ≡ unwrap_or (number_at (Left before) c) 0 = ap (λ (o : Option WholeTensor). unwrap_or (option_and_then (λ x. number_at x c) o) 0) was in
        sym (mod-eq_of_lt small) ∙ ap (λ (n : ℕ). n % 2 ^ 64) (sym value)
        ∙ ap (λ (x : Entries). x (output_of s.nest) c % 2 ^ 64) all_after ∙ law.sums c
        ∙ ap (λ (n : ℕ). (n + sum_of stored before s c) % 2 ^ 64) old

    values : IsWhole (Left after) → ((k : ℕ) → slice_index (Left after).values k < 2 ^ 64) → (Left after).values ≡ (left_with_sum stored s before (Left before)).values
    values whole small =
        same_number_lists (Left after).values (left_with_sum stored s before (Left before)).values
        (whole ∙ ap product extents ∙ sym (length-table (λ c. ring_add (unwrap_or (number_at (Left before) c) 0) (sum_of stored before s c)) (Left before).extents))
        (λ k l.
        let room : k < product (Left before).extents = omega (arith, l, whole, ap product extents) in
        let row : row_major (Left before).extents (get_or (assignments (Left before).extents) k []) ≡ Some k = row_major-assignment (Left before).extents k room in
        number (get_or (assignments (Left before).extents) k []) k row (small k)
        ∙ sym (table-there (λ c. ring_add (unwrap_or (number_at (Left before) c) 0) (sum_of stored before s c)) (Left before).extents (get_or (assignments (Left before).extents) k []) k 0 row))

    pub sum_added : IsWhole (Left after) → ((k : ℕ) → slice_index (Left after).values k < 2 ^ 64) → after ≡ tensors_with_sum stored s before
    sum_added whole small =
        sym (set-get_or after (output_of s.nest) d) ∙ gone.others (Left after)
        ∙ ap (λ (t : WholeTensor). slice_set before (output_of s.nest) t) (whole_same (values whole small))
        ∙ ap (λ (o : Option WholeTensor). unwrap_or (option_map (λ left. slice_set before (output_of s.nest) (left_with_sum stored s before left)) o) before) (sym was)
      where
        whole_same : (Left after).values ≡ (left_with_sum stored s before (Left before)).values → Left after ≡ left_with_sum stored s before (Left before)
        whole_same e =
            ap (λ (ns : List ℕ). record { extents = ns; values = (Left after).values }) extents
            ∙ ap (λ (l : List ℕ). record { extents = (Left before).extents; values = l }) e
