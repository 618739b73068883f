-- A job whose plan passes no limit is ready to run.
use Rattle.std.proofs.Common.{◌≡◌, ℕ, zero, suc, ◌<◌, ◌≤◌, ◌^◌, true, false, List, [], ◌∷◌, length, get_or, map, Option, Some, None, arith, refl, sym, ap, ◌∙◌, subst, inl, inr, unwrap_or, option_map, slice_get, slice_index}
use Rattle.std.specs.Option.{option_and_then}
use Rattle.std.specs.List.{AllByRecursion, zip, list_any}
use Rattle.std.proofs.lemmas.Bool.{cases_lt, ltb-false}
use Rattle.std.proofs.lemmas.List.{get_or_past, length-map}
use Rattle.std.proofs.lemmas.Option.{unwrap_or-slice_get}
use Rattle.dt_base.specs.Rows.{row_major}
use Rattle.dt_runs.specs.Sets.{contains}
use Rattle.dt_model.specs.Positions.{StoredTensor, IsStored, place_in, tensor_at}
use Rattle.dt_model.specs.WholeTensor.{WholeTensor, number_at}
use Rattle.dt_model.specs.declared.stmt.Stmt.{Stmt}
use Rattle.dt_model.proofs.PositionFacts.{ordered_positions}
use Rattle.dt_nest.specs.World.{entries_of}
use Rattle.dt_nest.specs.Lawful.{IsLawful}
use Rattle.dt_nest.specs.Outputs.{IsUnread}
use Rattle.dt_nest.proofs.Each.{all_get, all_of}
use Rattle.dt_bounds.proofs.PathInside.{visits_have_left}
use Rattle.dt_copy.specs.Sources.{home_at}
use Rattle.dt_place.specs.Homes.{homes_on}
use Rattle.dt_place.specs.HomeLaws.{CoverTogether}
use Rattle.dt_place.specs.Machines.{MachineView, IsMachine, dims_of}
use Rattle.dt_place.specs.Placements.{IsPlacement}
use Rattle.dt_place.specs.declared.placements.Placement.{Placement}
use Rattle.dt_place.specs.declared.placements.Placement.TheVariants.{FirstNode}
use Rattle.dt_place.proofs.HomeLists.{homes_cover}
use Rattle.dt_plan.specs.Layouts.{Layout, layout_of, homes_at}
use Rattle.dt_plan.specs.Limits.{visit_count, visit_limit}
use Rattle.dt_plan.specs.declared.parts.Part.{Part}
use Rattle.dt_events.specs.ListingRuns.{IsReady}
use Rattle.dt_events.specs.Placed.{IsPlaced, CanRun, AreNumbers}
use Rattle.dt_events.specs.StateLaws.{IsRunnable}
use Rattle.dt_events.proofs.WorkedRuns.{each_small}
use Rattle.dt_tensor.specs.Packed.{Packed, stored_of, whole_of, number_in}
use Rattle.dt_tensor.proofs.Tables.{table-there}
use Rattle.dt_job.specs.JobTensors.{IsJobTensor}
use Rattle.dt_job.specs.PartsOf.{IsPartOf, ArePartsOf}
use Rattle.dt_job.specs.Read.{StatedJob}
use Rattle.dt_job.proofs.JobTensorFacts.{job_stored}
use Rattle.dt_job.proofs.JobPlans.{job_placed}
use Rattle.dt_run.specs.EveryOrder.{AreWords, IsAccepted, given_numbers}
use Rattle.dt_run.specs.Outcome.{given_of}
use Rattle.dt_run.specs.Planning.{job_layout}
use Rattle.dt_run.specs.Running.{AreOver, AreWorkless}
use Rattle.dt_run.proofs.GivenTensors.{given_over}
use Rattle.dt_run.proofs.OverStored.{fits_over}
use Rattle.dt_run.proofs.PartRuns.{stores_all}
use Rattle.dt_run.proofs.PlanAnswers.{within_visits}
use Rattle.dt_run.proofs.WholeSets.{entries_past}

-- Homes ------------------------------------------------------------------------------------------------------------------------

module _ (m : MachineView) where
  abbrev homes_by : Placement × StoredTensor → List (List ℕ)
  homes_by x = homes_on x.0 m x.1

  -- the homes of a tensor are those of its placement
  homes_are : (places : List Placement) (stored : List StoredTensor) → length places ≡ length stored → (t : ℕ) → t < length stored
      → get_or (map homes_by (zip places stored)) t [] ≡ homes_on (get_or places t FirstNode) m (tensor_at stored t)
  homes_are [] [] e t h = absurd (omega (arith, h))
  homes_are [] (s ∷ stored) e t h = absurd (omega (arith, e))
  homes_are (p ∷ places) [] e t h = absurd (omega (arith, h))
  homes_are (p ∷ places) (s ∷ stored) e zero h = refl
  homes_are (p ∷ places) (s ∷ stored) e (suc t) h = homes_are places stored (omega (arith, e)) t (omega (arith, h))

  -- there are no homes of a tensor that isn't there
  homes_past : (places : List Placement) (stored : List StoredTensor) (t : ℕ) → length stored ≤ t → get_or (map homes_by (zip places stored)) t [] ≡ []
  homes_past [] stored t h = refl
  homes_past (p ∷ places) [] t h = refl
  homes_past (p ∷ places) (s ∷ stored) zero h = absurd (omega (arith, h))
  homes_past (p ∷ places) (s ∷ stored) (suc t) h = homes_past places stored t (omega (arith, h))

module _ (m : MachineView) (stored : List StoredTensor) (places : List Placement) (parts : List Part) (machine : IsMachine m)
    (placed : AllByRecursion (λ (p : Placement). IsPlacement p m) places) (levels : AllByRecursion IsStored stored) (same : length places ≡ length stored) where
  abbrev L : Layout
  L = layout_of m stored places parts

  -- the homes of a tensor that is there cover it
  cover_at : (t : ℕ) → t < length stored → CoverTogether (get_or places t FirstNode) m (tensor_at stored t)
  cover_at t h =
      homes_cover (get_or places t FirstNode) m (tensor_at stored t) machine
      (all_get (λ (p : Placement). IsPlacement p m) places t FirstNode placed (omega (arith, h, same)))
      (all_get IsStored stored t (record { extents = []; compressed = []; coords = [] }) levels h)

  -- no position is in a home of a tensor that isn't there
  none_past : (t n w : ℕ) → length stored ≤ t → contains (home_at (homes_at L t) n) w ≡ false
  none_past t n w h = ap (λ (homes : List (List ℕ)). contains (home_at homes n) w) (homes_past m places stored t h)

  -- the layout's tensors are placed
  pub layout_placed : IsPlaced L
  layout_placed = record {
    nodes = λ t h. ap length (homes_are m places stored same t h) ∙ (cover_at t h).count;
    covered = λ t w h k. ap (λ (homes : List (List ℕ)). list_any (λ home. contains home w) homes) (homes_are m places stored same t h) ∙ (cover_at t h).covered w k;
    positions = λ t n w e. elim (cases_lt t (length stored)) [
      | inl h ↦ (cover_at t h).within n w (subst (λ (homes : List (List ℕ)). contains (home_at homes n) w ≡ true) (homes_are m places stored same t h) e)
      | inr h ↦ (let z : false ≡ true = sym (none_past t n w h) ∙ e in absurd (cc))
    ];
    place = λ t w k. elim (cases_lt t (length stored)) [
      | inl h ↦ (ordered_positions (tensor_at stored t) (all_get IsStored stored t (record { extents = []; compressed = []; coords = [] }) levels h)).placed w k
      | inr h ↦ absurd (omega (arith, k, ap (λ (s : StoredTensor). length s.coords) (get_or_past stored t (record { extents = []; compressed = []; coords = [] }) h)))
    ];
  }

-- Parts ------------------------------------------------------------------------------------------------------------------------

module _ (l : Layout) (dims : List ℕ) (names : List (List ℕ)) (ts : List WholeTensor) (over : AreOver l.stored ts) where
  part_runnable : (s : Stmt) (p : Part) → IsPartOf dims l.stored names s p → IsLawful p.sched → IsRunnable l p
  part_runnable s p h lawful = record {
    lawful = lawful;
    unread = subst (λ (t : ℕ). IsUnread t p.sched.nest) (sym h.output) h.unread;
    tensors = sym h.fits.count;
  }

  part_can : (s : Stmt) (p : Part) → IsPartOf dims l.stored names s p → IsLawful p.sched → p.sched.works ≡ [] → CanRun l p
  part_can s p h lawful workless = record {
    workless = workless;
    room = λ path is_path. visits_have_left p.sched l.stored ts path lawful (fits_over l.stored ts p.sched h.fits over) is_path
        (subst (λ (t : ℕ). (c : List ℕ) → place_in (tensor_at l.stored t) c ≡ None → row_major (tensor_at l.stored t).extents c ≡ None) (sym h.output) (stores_all (tensor_at l.stored s.lhs.tensor) h.dense));
  }

  parts_runnable : (stmts : List Stmt) (parts : List Part) → ArePartsOf dims l.stored names stmts parts → AllByRecursion (λ (p : Part). IsLawful p.sched) parts → AllByRecursion (IsRunnable l) parts
  parts_runnable [] [] h lawful = tt
  parts_runnable [] (p ∷ parts) h lawful = absurd h
  parts_runnable (s ∷ stmts) [] h lawful = absurd h
  parts_runnable (s ∷ stmts) (p ∷ parts) h lawful = (part_runnable s p h.0 lawful.0, parts_runnable stmts parts h.1 lawful.1)

  parts_can : (stmts : List Stmt) (parts : List Part) → ArePartsOf dims l.stored names stmts parts → AllByRecursion (λ (p : Part). IsLawful p.sched) parts → AreWorkless parts → AllByRecursion (CanRun l) parts
  parts_can [] [] h lawful workless = tt
  parts_can [] (p ∷ parts) h lawful workless = absurd h
  parts_can (s ∷ stmts) [] h lawful workless = absurd h
  parts_can (s ∷ stmts) (p ∷ parts) h lawful workless = (part_can s p h.0 lawful.0 workless.0, parts_can stmts parts h.1 lawful.1 workless.1)

-- Numbers ----------------------------------------------------------------------------------------------------------------------

-- a tensor of small numbers has small ones at all coordinates
number_small : (t : Packed) → AllByRecursion (λ v. v < 2 ^ 64) t.values → (c : List ℕ) → number_in t c < 2 ^ 64
number_small t h c = go (place_in (stored_of t) c)
  where
    go : (o : Option ℕ) → unwrap_or (option_map (slice_index t.values) o) 0 < 2 ^ 64
    go None = omega arith
    go (Some k) = each_small t.values h k

-- so has the whole one
whole_small : (t : Packed) → AllByRecursion (λ v. v < 2 ^ 64) t.values → (c : List ℕ) → ◌<◌ (unwrap_or (number_at (whole_of t) c) 0) (2 ^ 64)
whole_small t h c = go (row_major t.extents c) refl
  where
    is : (k : ℕ) → row_major t.extents c ≡ Some k → ◌≡◌ {A = ℕ} (unwrap_or (number_at (whole_of t) c) 0) (number_in t c)
    is k r =
        ap (λ (o : Option ℕ). unwrap_or (option_and_then (λ j. slice_get (whole_of t).values j) o) 0) r
        ∙ unwrap_or-slice_get (whole_of t).values k 0
        ∙ table-there (number_in t) t.extents c k 0 r

    none : row_major t.extents c ≡ None → ◌≡◌ {A = ℕ} (unwrap_or (number_at (whole_of t) c) 0) 0
    none r = ap (λ (o : Option ℕ). unwrap_or (option_and_then (λ j. slice_get (whole_of t).values j) o) 0) r

    go : (o : Option ℕ) → row_major t.extents c ≡ o → unwrap_or (number_at (whole_of t) c) 0 < 2 ^ 64
    go None r = omega (arith, none r)
    go (Some k) r = omega (arith, is k r, number_small t h c)

numbers_small : (ts : List Packed) → AreWords ts → (t : ℕ) (c : List ℕ) → entries_of (map whole_of ts) t c < 2 ^ 64
numbers_small [] h t c = omega (arith, entries_past [] t c (omega arith))
numbers_small (x ∷ ts) h zero c = whole_small x h.0 c
numbers_small (x ∷ ts) h (suc t) c = numbers_small ts h.1 t c

-- Jobs -------------------------------------------------------------------------------------------------------------------------

all_stored : (ts : List Packed) → AllByRecursion IsJobTensor ts → AllByRecursion IsStored (map stored_of ts)
all_stored [] h = tt
all_stored (t ∷ ts) h = (job_stored t h.0, all_stored ts h.1)

module _ (s : StatedJob) (h : IsAccepted s) where
  -- the given numbers are numbers of the job's tensors
  pub job_numbers : AreNumbers (job_layout s.job) (given_numbers s)
  job_numbers = record {
    small = numbers_small s.job.tensors h.words;
    zeros = (given_over s.job.tensors).zeros;
    others = λ t c past. entries_past (given_of s.job) t c (omega (arith, past, length-map s.job.tensors stored_of, length-map s.job.tensors whole_of));
  }

  -- its layout is ready
  pub job_ready : IsReady (job_layout s.job)
  job_ready = record {
    layout = record { machine = h.machine; lawful = h.lawful; visits = ltb-false visit_limit (visit_count s.job.parts) (within_visits (job_layout s.job) h.limit) };
    runnable = parts_runnable (job_layout s.job) (dims_of s.job.machine) s.job.names (given_of s.job) (given_over s.job.tensors) s.stmts s.job.parts h.job.parts h.lawful;
    placed = layout_placed s.job.machine (map stored_of s.job.tensors) s.job.places s.job.parts h.machine
        (job_placed s.job (s.stmts, h.job))
        (all_stored s.job.tensors (all_of IsJobTensor s.job.tensors h.job.tensors))
        (h.job.placed ∙ sym (length-map s.job.tensors stored_of));
    parts = parts_can (job_layout s.job) (dims_of s.job.machine) s.job.names (given_of s.job) (given_over s.job.tensors) s.stmts s.job.parts h.job.parts h.lawful h.workless;
  }
