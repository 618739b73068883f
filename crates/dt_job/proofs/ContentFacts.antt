-- Drafts stay lawful as lines are read.
use Rattle.std.proofs.Common.{◌≡◌, ℕ, zero, suc, ◌+◌, ◌<◌, ◌≤◌, List, [], ◌∷◌, ◌++◌, length, map, get_or, slice_get, Bool, true, false, not, cond, nat_lt, Option, Some, None, is_some, IfSome, IsSome, option_map, unwrap_or, refl, ap, sym, ◌∙◌, arith, length-append, append-nil, All, subst}
use Rattle.std.specs.Prelude.{position, IsSortedBy}
use Rattle.std.specs.Str.{bytes_eq}
use Rattle.std.specs.List.{prefix_len, AllByRecursion, IsDistinct}
use Rattle.std.specs.Map.{lookup}
use Rattle.std.specs.Cmp.Lexicographic.{nat_list_eq_equiv}
use Rattle.std.proofs.lemmas.List.{get_or_append_left, map-append, length-map}
use Rattle.std.proofs.lemmas.List.Elements.{All-cons, All-map, All-push}
use Rattle.std.proofs.lemmas.Option.{slice_get-map}
use Rattle.std.proofs.Math.Seq.{get_or-append_seam}
use Rattle.dt_model.specs.Positions.{StoredTensor, IsStored, tensor_at}
use Rattle.dt_index.specs.Known.{Known, place_of, is_dense_at, shapes_of_known}
use Rattle.indexmap.specs.Layout.{set_value_at}
use Rattle.indexmap.proofs.MapLemmas.{some_index}
use Rattle.dt_job.specs.declared.outputs.Show.{Show}
use Rattle.dt_job.specs.declared.outputs.Show.TheVariants.{Print}
use Rattle.dt_place.specs.Machines.{MachineView, dims_of}
use Rattle.dt_place.specs.declared.placements.Placement.{Placement}
use Rattle.dt_place.specs.declared.placements.Placement.TheVariants.{FirstNode}
use Rattle.dt_job.specs.Contents.{Content, Contents, extents_of_all, has_dense_levels, known_of, names_of, placement_of, places_of, stored_of_all, tensors_of, with_placement, with_values}
use Rattle.dt_job.specs.Drafts.{DraftView, FitsMachine, IsDraft, IsPlaced, IsScheduled, grid_of, part_of, stated}
use Rattle.dt_job.specs.JobTensors.{IsJobTensor}
use Rattle.dt_job.specs.Jobs.{FitsOn, IsJob, IsJobStmt, ShowsBelow}
use Rattle.dt_job.specs.PartsOf.{ArePartsOf}
use Rattle.dt_job.specs.Phases.{is_past_declarations, knows_machine, open_stmt, takes_declaration, takes_machine}
use Rattle.dt_job.specs.Read.{job_on, stmts_of}
use Rattle.dt_job.specs.declared.phases.Phase.{Phase}
use Rattle.dt_job.specs.declared.phases.Phase.TheVariants as phases
use Rattle.dt_plan.specs.declared.parts.Part.{Part}
use Rattle.dt_job.specs.Scheduled.{ScheduledView}
use Rattle.dt_job.specs.declared.job.Job.{Job}
use Rattle.dt_job.proofs.PhaseFacts.{declaration_phase, machine_phase}
use Rattle.dt_tensor.specs.Packed.{Packed, packed_with, stored_of}

not_there : {A : Type 0} (x : A) → ◌≡◌ {A = Option A} None (Some x) → ⊥
not_there x e = cc

same_there : {A : Type 0} (x y : A) → ◌≡◌ {A = Option A} (Some x) (Some y) → x ≡ y
same_there x y e = cc

-- whether the levels of the tensor at a place are dense
pub dense_at : (tensors : Contents) (k : ℕ) (c : Content) → option_map (λ t. t.1) (slice_get tensors k) ≡ Some c → has_dense_levels c.packed ≡ is_dense_at (known_of tensors) k
dense_at [] k c g = absurd (not_there c g)
dense_at (t ∷ ts) zero c g = ap (λ (x : Content). has_dense_levels x.packed) (sym (same_there t.1 c g))
dense_at (t ∷ ts) (suc k) c g = dense_at ts k c g

front-map : {A B : Type 0} (p : B → Bool) (f : A → B) (xs : List A) → prefix_len p (map f xs) ≡ prefix_len (λ x. p (f x)) xs
front-map p f [] = refl
front-map p f (x ∷ xs) = ap (λ (n : ℕ). cond (p (f x)) (1 + n) 0) (front-map p f xs)

-- the first place in a mapped list
position-map : {A B : Type 0} (p : B → Bool) (f : A → B) (xs : List A) → position p (map f xs) ≡ position (λ x. p (f x)) xs
position-map p f xs =
    ap (λ (n : ℕ). cond (nat_lt n (length (map f xs))) (Some n) None) (front-map (λ y. not (p y)) f xs)
    ∙ ap (λ (m : ℕ). cond (nat_lt (prefix_len (λ x. not (p (f x))) xs) m) (Some (prefix_len (λ x. not (p (f x))) xs)) None) (length-map xs f)

-- the place of a name among names is that among known tensors
pub place_known : (name : List ℕ) (tensors : Contents) → position (bytes_eq name) (names_of tensors) ≡ place_of name (known_of tensors)
place_known name tensors =
    position-map (bytes_eq name) (λ t. t.0) tensors
    ∙ (λ i. position (λ t. nat_list_eq_equiv.symm name t.0 i) tensors)
    ∙ sym (position-map (λ (k : Known). bytes_eq k.name name) (λ t. record { name = t.0; extents = t.1.packed.extents; dense = has_dense_levels t.1.packed }) tensors)

is_none_of : {A : Type 0} (o : Option A) → is_some o ≡ false → o ≡ None
is_none_of None h = refl
is_none_of (Some x) h = cc

-- a name that has no place is no key
pub absent_name : (name : List ℕ) (tensors : Contents) → place_of name (known_of tensors) ≡ None → lookup (bytes_eq name) tensors ≡ None
absent_name name tensors h = is_none_of (lookup (bytes_eq name) tensors) (sym (some_index (bytes_eq name) tensors) ∙ ap (λ (o : Option ℕ). is_some o) (place_known name tensors ∙ h))

-- the extents as statements know them
pub known_shapes : (tensors : Contents) → shapes_of_known (known_of tensors) ≡ extents_of_all tensors
known_shapes [] = refl
known_shapes (t ∷ ts) = ap (λ (xs : List (List ℕ)). t.1.packed.extents ∷ xs) (known_shapes ts)

below_more : (n m : ℕ) (show : Show) → n < m + 1 → ShowsBelow n show → ShowsBelow m show
below_more n m (Print k) l h = omega (arith, l, h)

-- before any statement, other tensors may stand in the place of the declared ones
changed_tensors : (d : DraftView) (tensors : Contents) → takes_declaration d.phase ≡ true → IsDraft d → All (IsPlaced d.machine) tensors → length d.tensors ≤ length tensors → length tensors ≤ 32
    → IsDistinct bytes_eq (names_of tensors) → AllByRecursion IsStored (stored_of_all tensors) → IsDraft (record d { tensors = tensors })
changed_tensors d tensors early h placed more few differ stored = record {
  machine = h.machine;
  places = placed;
  few = few;
  differ = differ;
  stored = stored;
  few_stmts = h.few_stmts;
  stmts = (let P : List ScheduledView → Type 0 = λ l. All (IsScheduled (grid_of d.machine) tensors) l in subst P (sym (h.begun (declaration_phase d.phase early))) (λ k s l. absurd (omega (arith, l))));
  begun = h.begun;
  shows = λ k s l. below_more (length d.tensors) (length tensors) (get_or d.shows k s) (omega (arith, more)) (h.shows k s l);
}

stored_more : (tensors : Contents) (t : List ℕ × Content) → AllByRecursion IsStored (stored_of_all tensors) → IsStored (stored_of t.1.packed) → AllByRecursion IsStored (stored_of_all (tensors ++ t ∷ []))
stored_more [] t h s = (s, tt)
stored_more (x ∷ xs) t h s = (h.0, stored_more xs t h.1 s)

-- one more tensor, which no line has placed
pub declared_draft : (d : DraftView) (name : List ℕ) (c : Content) (tensors : Contents) → takes_declaration d.phase ≡ true → length d.tensors < 32 → IsDraft d → c.placement ≡ None → IsStored (stored_of c.packed)
    → tensors ≡ d.tensors ++ (name, c) ∷ [] → IsDistinct bytes_eq (names_of tensors) → IsDraft (record d { tensors = tensors })
declared_draft d name c tensors early few h free stored e differ =
    let count : length tensors ≡ length d.tensors + 1 = ap length e ∙ rw length-append (omega arith) in
    let P : Contents → Type 0 = λ ts. All (IsPlaced d.machine) ts in
    let O : Option Placement → Type 0 = λ o. IfSome o (FitsMachine d.machine) in
    let S : Contents → Type 0 = λ ts. AllByRecursion IsStored (stored_of_all ts) in
    changed_tensors d tensors early h (subst P (sym e) (All-push (IsPlaced d.machine) d.tensors (name, c) h.places (subst O (sym free) tt)))
    (omega (arith, count)) (omega (arith, count, few)) differ (subst S (sym e) (stored_more d.tensors (name, c) h.stored stored))

-- as many tensors stand there where one changes
pub count_kept : (tensors : Contents) (k : ℕ) (c : Content) → length (set_value_at tensors k c) ≡ length tensors
count_kept [] k c = refl
count_kept (t ∷ ts) zero c = refl
count_kept (t ∷ ts) (suc k) c = ap suc (count_kept ts k c)

names_kept : (tensors : Contents) (k : ℕ) (c : Content) → names_of (set_value_at tensors k c) ≡ names_of tensors
names_kept [] k c = refl
names_kept (t ∷ ts) zero c = refl
names_kept (t ∷ ts) (suc k) c = ap (λ (l : List (List ℕ)). t.0 ∷ l) (names_kept ts k c)

-- what the tensors store stays where one gets numbers
stored_stays : (tensors : Contents) (k : ℕ) (was now : Content) → option_map (λ t. t.1) (slice_get tensors k) ≡ Some was → stored_of now.packed ≡ stored_of was.packed → stored_of_all (set_value_at tensors k now) ≡ stored_of_all tensors
stored_stays [] k was now h e = refl
stored_stays (t ∷ ts) zero was now h e = ap (λ (s : StoredTensor). s ∷ stored_of_all ts) (e ∙ ap (λ (c : Content). stored_of c.packed) (sym (same_there t.1 was h)))
stored_stays (t ∷ ts) (suc k) was now h e = ap (λ (l : List StoredTensor). stored_of t.1.packed ∷ l) (stored_stays ts k was now h e)

all_behind : {A : Type 0} (P : A → Type 0) (x : A) (xs : List A) → All P (x ∷ xs) → All P xs
all_behind P x xs h k d l = h (suc k) d (omega (arith, l))

-- what is so for each tensor stays so where one of them changes and it is so for the new one
all_set : (P : Content → Type 0) (tensors : Contents) (k : ℕ) (now : Content) → P now → All (λ t. P t.1) tensors → All (λ t. P t.1) (set_value_at tensors k now)
all_set P [] k now n h = h
all_set P (t ∷ ts) zero now n h = All-cons (λ u. P u.1) (t.0, now) ts n (all_behind (λ u. P u.1) t ts h)
all_set P (t ∷ ts) (suc k) now n h = All-cons (λ u. P u.1) t (set_value_at ts k now) (h zero t (omega arith)) (all_set P ts k now n (all_behind (λ u. P u.1) t ts h))

-- so it is at each place
all_at : (P : Content → Type 0) (tensors : Contents) (k : ℕ) (was : Content) → option_map (λ t. t.1) (slice_get tensors k) ≡ Some was → All (λ t. P t.1) tensors → P was
all_at P [] k was g h = absurd (not_there was g)
all_at P (t ∷ ts) zero was g h = subst P (same_there t.1 was g) (h zero t (omega arith))
all_at P (t ∷ ts) (suc k) was g h = all_at P ts k was g (all_behind (λ u. P u.1) t ts h)

-- a tensor changes: its extents stay, and its placement fits the machine
changed_draft : (d : DraftView) (k : ℕ) (was now : Content) → takes_declaration d.phase ≡ true → option_map (λ t. t.1) (slice_get d.tensors k) ≡ Some was → stored_of now.packed ≡ stored_of was.packed → IfSome now.placement (FitsMachine d.machine) → IsDraft d
    → IsDraft (record d { tensors = set_value_at d.tensors k now })
changed_draft d k was now early g e p h =
    let count : length (set_value_at d.tensors k now) ≡ length d.tensors = count_kept d.tensors k now in
    let N : List (List ℕ) → Type 0 = λ l. IsDistinct bytes_eq l in
    let S : List StoredTensor → Type 0 = λ l. AllByRecursion IsStored l in
    changed_tensors d (set_value_at d.tensors k now) early h (all_set (λ c. IfSome c.placement (FitsMachine d.machine)) d.tensors k now p h.places) (omega (arith, count)) (omega (arith, h.few, count))
    (subst N (sym (names_kept d.tensors k now)) h.differ) (subst S (sym (stored_stays d.tensors k was now g e)) h.stored)

gets_numbers : (d : DraftView) (k : ℕ) (was now : Content) → takes_declaration d.phase ≡ true → option_map (λ t. t.1) (slice_get d.tensors k) ≡ Some was → stored_of now.packed ≡ stored_of was.packed → now.placement ≡ was.placement → IsDraft d
    → IsDraft (record d { tensors = set_value_at d.tensors k now })
gets_numbers d k was now early g e p h =
    let O : Option Placement → Type 0 = λ o. IfSome o (FitsMachine d.machine) in
    changed_draft d k was now early g e (subst O (sym p) (all_at (λ c. IfSome c.placement (FitsMachine d.machine)) d.tensors k was g h.places)) h

gets_placed : (d : DraftView) (k : ℕ) (was now : Content) (p : Placement) → takes_declaration d.phase ≡ true → option_map (λ t. t.1) (slice_get d.tensors k) ≡ Some was → stored_of now.packed ≡ stored_of was.packed → now.placement ≡ Some p → FitsMachine d.machine p → IsDraft d
    → IsDraft (record d { tensors = set_value_at d.tensors k now })
gets_placed d k was now p early g e n f h =
    let O : Option Placement → Type 0 = λ o. IfSome o (FitsMachine d.machine) in
    changed_draft d k was now early g e (subst O (sym n) f) h

-- a tensor gets numbers
pub given_draft : (d : DraftView) (k : ℕ) (values : List ℕ) → takes_declaration d.phase ≡ true → IsDraft d → IsDraft (record d { tensors = with_values d.tensors k values })
given_draft d k values early h = go (slice_get d.tensors k) refl
  where
    go : (o : Option (List ℕ × Content)) → slice_get d.tensors k ≡ o → IsDraft (record d { tensors = unwrap_or (option_map (λ t. set_value_at d.tensors k (record t.1 { packed = packed_with (stored_of t.1.packed) values; given = true })) o) d.tensors })
    go None e = h
    go (Some t) e = gets_numbers d k t.1 (record t.1 { packed = packed_with (stored_of t.1.packed) values; given = true }) early (ap (λ (o : Option (List ℕ × Content)). option_map (λ u. u.1) o) e) refl refl h

-- a tensor is placed
pub placed_draft : (d : DraftView) (k : ℕ) (p : Placement) → takes_declaration d.phase ≡ true → FitsMachine d.machine p → IsDraft d → IsDraft (record d { tensors = with_placement d.tensors k p })
placed_draft d k p early f h = go (slice_get d.tensors k) refl
  where
    go : (o : Option (List ℕ × Content)) → slice_get d.tensors k ≡ o → IsDraft (record d { tensors = unwrap_or (option_map (λ t. set_value_at d.tensors k (record t.1 { placement = Some p })) o) d.tensors })
    go None e = h
    go (Some t) e = gets_placed d k t.1 (record t.1 { placement = Some p }) p early (ap (λ (o : Option (List ℕ × Content)). option_map (λ u. u.1) o) e) refl refl f h

-- the names of the tensors, with one more
pub named_more : (was : Contents) (name : List ℕ) (c : Content) (tensors : Contents) (front names : List (List ℕ)) → front ≡ names_of was → names ≡ front ++ name ∷ [] → tensors ≡ was ++ (name, c) ∷ [] → names ≡ names_of tensors
named_more was name c tensors front names f n e =
    n ∙ ap (λ (l : List (List ℕ)). l ++ name ∷ []) f ∙ sym (map-append (λ (t : List ℕ × Content). t.0) was ((name, c) ∷ [])) ∙ ap (λ (ts : Contents). names_of ts) (sym e)

-- the names stay where a tensor changes
pub named_kept : (tensors : Contents) (k : ℕ) (c : Content) (names : List (List ℕ)) → names ≡ names_of tensors → names ≡ names_of (set_value_at tensors k c)
named_kept tensors k c names e = e ∙ sym (names_kept tensors k c)

-- what the tensor at a place stores
pub stored_at : (tensors : Contents) (k : ℕ) (c : Content) → option_map (λ t. t.1) (slice_get tensors k) ≡ Some c → stored_of c.packed ≡ tensor_at (stored_of_all tensors) k
stored_at [] k c g = absurd (not_there c g)
stored_at (t ∷ ts) zero c g = ap (λ (x : Content). stored_of x.packed) (sym (same_there t.1 c g))
stored_at (t ∷ ts) (suc k) c g = stored_at ts k c g

changed_at : (F : Content → Contents) (tensors : Contents) (o : Option (List ℕ × Content)) (was : Content) → option_map (λ t. t.1) o ≡ Some was → F was ≡ unwrap_or (option_map (λ t. F t.1) o) tensors
changed_at F tensors None was g = absurd (not_there was g)
changed_at F tensors (Some t) was g = ap F (sym (same_there t.1 was g))

-- the tensors after one of them gets numbers
pub given_tensors : (tensors : Contents) (k : ℕ) (was now : Content) (ns : List ℕ) → option_map (λ t. t.1) (slice_get tensors k) ≡ Some was → now ≡ record was { packed = packed_with (stored_of was.packed) ns; given = true } → set_value_at tensors k now ≡ with_values tensors k ns
given_tensors tensors k was now ns g e =
    ap (λ (c : Content). set_value_at tensors k c) e ∙ changed_at (λ c. set_value_at tensors k (record c { packed = packed_with (stored_of c.packed) ns; given = true })) tensors (slice_get tensors k) was g

-- the tensors after one of them is placed
pub placed_tensors : (tensors : Contents) (k : ℕ) (was now : Content) (p : Placement) → option_map (λ t. t.1) (slice_get tensors k) ≡ Some was → now ≡ record was { placement = Some p } → set_value_at tensors k now ≡ with_placement tensors k p
placed_tensors tensors k was now p g e =
    ap (λ (c : Content). set_value_at tensors k c) e ∙ changed_at (λ c. set_value_at tensors k (record c { placement = Some p })) tensors (slice_get tensors k) was g

-- the value at a place of the map is the tensor there
pub content_at : (tensors : Contents) (k : ℕ) (was : Content) → slice_get (map (λ (t : List ℕ × Content). t.1) tensors) k ≡ Some was → option_map (λ t. t.1) (slice_get tensors k) ≡ Some was
content_at tensors k was g = sym (slice_get-map (λ t. t.1) tensors k) ∙ g

-- a draft whose phase knows the machine has one
pub machine_known : (d e : DraftView) → IsDraft d → d ≡ e → knows_machine e.phase ≡ true → IsSome d.machine
machine_known d e h v k = h.machine ∙ ap (λ (x : DraftView). knows_machine x.phase) v ∙ k

not_known : {A : Type 0} (o : Option A) → is_some o ≡ false → o ≡ None
not_known None h = refl
not_known (Some x) h = cc

fits_none : (o : Option Placement) (m : MachineView) → IfSome o (FitsMachine None) → IfSome o (FitsMachine (Some m))
fits_none None m h = tt
fits_none (Some p) m h = absurd h

-- no statement is lawful or not
none_stated : (dims : List ℕ) (tensors : Contents) (closed : List ScheduledView) → closed ≡ [] → All (IsScheduled dims tensors) closed
none_stated dims tensors closed e = (let P : List ScheduledView → Type 0 = λ l. All (IsScheduled dims tensors) l in subst P (sym e) (λ k s l. absurd (omega (arith, l))))

-- the machine comes: until then no line places a tensor
pub machine_draft : (d : DraftView) (m : MachineView) (next : Phase) → takes_machine d.phase ≡ true → next ≡ phases.Declarations → IsDraft d → IsDraft (record d { machine = Some m; phase = next })
machine_draft d m next at n h =
    let P : Option MachineView → Type 0 = λ machine. All (IsPlaced machine) d.tensors in
    let B : Phase → Type 0 = λ p. is_past_declarations p ≡ false → stated (record d { phase = p }) ≡ [] in
    let N : Phase → Type 0 = λ p. IsDraft (record d { machine = Some m; phase = p }) in
    let unknown : is_some d.machine ≡ false = h.machine ∙ ap knows_machine (machine_phase d.phase at) in
    let none : All (IsPlaced None) d.tensors = subst P (not_known d.machine unknown) h.places in
    let closed : d.closed ≡ [] = subst B (machine_phase d.phase at) h.begun refl in
    subst N (sym n) (record {
      machine = refl;
      places = λ k t l. fits_none (get_or d.tensors k t).1.placement m (none k t l);
      few = h.few;
      differ = h.differ;
      stored = h.stored;
      few_stmts = omega (arith, ap length closed);
      stmts = none_stated (dims_of m) d.tensors d.closed closed;
      begun = λ e. closed;
      shows = h.shows;
    })

-- Statements -----------------------------------------------------------------------------------------------------------------

-- what is so of all statements is so of those that are closed
closed_all : (P : ScheduledView → Type 0) (closed : List ScheduledView) (o : Option ScheduledView) → All P (unwrap_or (option_map (λ s. closed ++ s ∷ []) o) closed) → All P closed
closed_all P closed None h = h
closed_all P closed (Some s) h = λ k d l. subst P (get_or_append_left closed (s ∷ []) d k l) (h k d (omega (arith, l, length-append closed (s ∷ []))))

-- and of the open one
open_all : (P : ScheduledView → Type 0) (closed : List ScheduledView) (s : ScheduledView) → All P (closed ++ s ∷ []) → P s
open_all P closed s h = subst P (get_or-append_seam closed s [] s) (h (length closed) s (omega (arith, length-append closed (s ∷ []))))

true_not_false : ◌≡◌ {A = Bool} true false → ⊥
true_not_false e = cc

closed_few : (closed : List ScheduledView) (o : Option ScheduledView) → length closed ≤ length (unwrap_or (option_map (λ s. closed ++ s ∷ []) o) closed)
closed_few closed None = omega arith
closed_few closed (Some s) = omega (arith, length-append closed (s ∷ []))

-- no statement is open any more
pub rested_draft : (d : DraftView) (closed : List ScheduledView) (next : Phase) → knows_machine d.phase ≡ true → closed ≡ d.closed → next ≡ phases.Statements → IsDraft d → IsDraft (record d { closed = closed; phase = next })
rested_draft d closed next k e n h =
    let C : List ScheduledView → Type 0 = λ l. IsDraft (record d { closed = l; phase = next }) in
    let N : Phase → Type 0 = λ p. IsDraft (record d { phase = p }) in
    subst C (sym e) (subst N (sym n) (record {
      machine = h.machine ∙ k;
      places = h.places;
      few = h.few;
      differ = h.differ;
      stored = h.stored;
      few_stmts = omega (arith, h.few_stmts, closed_few d.closed (open_stmt d.phase));
      stmts = closed_all (IsScheduled (grid_of d.machine) d.tensors) d.closed (open_stmt d.phase) h.stmts;
      begun = λ e. absurd (true_not_false e);
      shows = h.shows;
    }))

-- one more statement
more_draft : (d : DraftView) (s : ScheduledView) (closed : List ScheduledView) → knows_machine d.phase ≡ true → length d.closed < 32 → IsScheduled (grid_of d.machine) d.tensors s → closed ≡ d.closed ++ s ∷ [] → IsDraft d
    → IsDraft (record d { closed = closed; phase = phases.Statements })
more_draft d s closed k few l e h =
    let C : List ScheduledView → Type 0 = λ l. IsDraft (record d { closed = l; phase = phases.Statements }) in
    subst C (sym e) (record {
      machine = h.machine ∙ k;
      places = h.places;
      few = h.few;
      differ = h.differ;
      stored = h.stored;
      few_stmts = omega (arith, few, length-append d.closed (s ∷ []));
      stmts = All-push (IsScheduled (grid_of d.machine) d.tensors) d.closed s (closed_all (IsScheduled (grid_of d.machine) d.tensors) d.closed (open_stmt d.phase) h.stmts) l;
      begun = λ e. absurd (true_not_false e);
      shows = h.shows;
    })

-- a statement is closed
pub closed_draft : (d : DraftView) (s : ScheduledView) (closed : List ScheduledView) (next : Phase) → knows_machine d.phase ≡ true → length d.closed < 32 → IsScheduled (grid_of d.machine) d.tensors s → closed ≡ d.closed ++ s ∷ [] → next ≡ phases.Statements → IsDraft d
    → IsDraft (record d { closed = closed; phase = next })
closed_draft d s closed next k few l e n h =
    let N : Phase → Type 0 = λ p. IsDraft (record d { closed = closed; phase = p }) in
    subst N (sym n) (more_draft d s closed k few l e h)

-- a statement is opened
pub opened_draft : (d : DraftView) (s : ScheduledView) (next : Phase) → knows_machine d.phase ≡ true → length d.closed < 32 → IsScheduled (grid_of d.machine) d.tensors s → next ≡ phases.Open s → IsDraft d → IsDraft (record d { phase = next })
opened_draft d s next k few l n h =
    let N : Phase → Type 0 = λ p. IsDraft (record d { phase = p }) in
    let m : IsDraft (record d { closed = d.closed ++ s ∷ []; phase = phases.Statements }) = more_draft d s (d.closed ++ s ∷ []) k few l refl h in
    subst N (sym n) (record {
      machine = m.machine;
      places = m.places;
      few = m.few;
      differ = m.differ;
      stored = m.stored;
      few_stmts = m.few_stmts;
      stmts = m.stmts;
      begun = λ e. absurd (true_not_false e);
      shows = m.shows;
    })

-- what a draft says of its open statement
pub record OpenFacts (d : DraftView) (s : ScheduledView) : Type 0 where
  pub known : knows_machine d.phase ≡ true
  pub few : length d.closed < 32
  pub lawful : IsScheduled (grid_of d.machine) d.tensors s

pub open_facts : (d : DraftView) (s : ScheduledView) → d.phase ≡ phases.Open s → IsDraft d → OpenFacts d s
open_facts d s e h =
    let L : Phase → Type 0 = λ p. length (stated (record d { phase = p })) ≤ 32 in
    let P : Phase → Type 0 = λ p. All (IsScheduled (grid_of d.machine) d.tensors) (stated (record d { phase = p })) in
    record {
      known = ap knows_machine e;
      few = omega (arith, subst L e h.few_stmts, length-append d.closed (s ∷ []));
      lawful = open_all (IsScheduled (grid_of d.machine) d.tensors) d.closed s (subst P e h.stmts);
    }

-- Jobs -----------------------------------------------------------------------------------------------------------------------

-- one more lawful tensor is made
pub lawful_more : (front after : List Packed) (t : Packed) → after ≡ front ++ t ∷ [] → All IsJobTensor front → IsJobTensor t → All IsJobTensor after
lawful_more front after t a h l = (let P : List Packed → Type 0 = λ ts. All IsJobTensor ts in subst P (sym a) (All-push IsJobTensor front t h l))

shapes_kept : (tensors : Contents) → map (λ (t : Packed). t.extents) (tensors_of tensors) ≡ extents_of_all tensors
shapes_kept [] = refl
shapes_kept (t ∷ ts) = ap (λ (xs : List (List ℕ)). t.1.packed.extents ∷ xs) (shapes_kept ts)

-- the placement of a tensor fits the machine, also where no line says it
placed_fits : (m : MachineView) (o : Option Placement) → IfSome o (FitsMachine (Some m)) → FitsOn m (unwrap_or o FirstNode)
placed_fits m None h = tt
placed_fits m (Some p) h = h

places_fit : (m : MachineView) (tensors : Contents) → All (IsPlaced (Some m)) tensors → All (FitsOn m) (places_of tensors)
places_fit m tensors h = All-map (FitsOn m) (λ t. placement_of t.1) tensors (λ k t l. placed_fits m (get_or tensors k t).1.placement (h k t l))

-- the tensors of a job store what those of its draft do
stored_kept : (tensors : Contents) → map stored_of (tensors_of tensors) ≡ stored_of_all tensors
stored_kept [] = refl
stored_kept (t ∷ ts) = ap (λ (l : List StoredTensor). stored_of t.1.packed ∷ l) (stored_kept ts)

-- statements with their schedules are parts
are_parts : (dims : List ℕ) (tensors : Contents) (closed : List ScheduledView) → All (IsScheduled dims tensors) closed → ArePartsOf dims (stored_of_all tensors) (names_of tensors) (map (λ s. s.stmt) closed) (map part_of closed)
are_parts dims tensors [] h = tt
are_parts dims tensors (s ∷ closed) h = ((h 0 s (omega arith)).part, are_parts dims tensors closed (all_behind (IsScheduled dims tensors) s closed h))

-- no part is in another segment than the first
first_segment : (closed : List ScheduledView) (k d : ℕ) → k < length (map (λ (p : Part). p.segment) (map part_of closed)) → get_or (map (λ (p : Part). p.segment) (map part_of closed)) k d ≡ 0
first_segment [] k d l = absurd (omega (arith, l))
first_segment (s ∷ closed) zero d l = refl
first_segment (s ∷ closed) (suc k) d l = first_segment closed k d (omega (arith, l))

-- so the segments never fall
segments_stay : (closed : List ScheduledView) → IsSortedBy nat_lt (map (λ (p : Part). p.segment) (map part_of closed))
segments_stay closed k d low l =
    ap (λ (n : ℕ). nat_lt n (get_or (map (λ (p : Part). p.segment) (map part_of closed)) k d)) (first_segment closed (k + 1) d l)
    ∙ ap (λ (n : ℕ). nat_lt 0 n) (first_segment closed k d (omega (arith, l)))

-- the job of a lawful draft
pub lawful_job : (d : DraftView) (m : MachineView) (j : Job) → j ≡ job_on d m → d.machine ≡ Some m → IsDraft d → All IsJobTensor j.tensors → IsJob (stmts_of d) j
lawful_job d m j e k h t =
    let P : Job → Type 0 = λ k. All IsJobTensor k.tensors in
    let Q : Option MachineView → Type 0 = λ machine. All (IsPlaced machine) d.tensors in
    let S : List StoredTensor → Type 0 = λ l. ArePartsOf (dims_of m) l (names_of d.tensors) (map (λ s. s.stmt) d.closed) (map part_of d.closed) in
    let D : Option MachineView → Type 0 = λ machine. All (IsScheduled (grid_of machine) d.tensors) d.closed in
    let closed : D (Some m) = subst D k (closed_all (IsScheduled (grid_of d.machine) d.tensors) d.closed (open_stmt d.phase) h.stmts) in
    subst (IsJob (stmts_of d)) (sym e) (record {
      named = length-map d.tensors (λ c. c.0) ∙ sym (length-map d.tensors (λ c. c.1.packed));
      differ = h.differ;
      few = omega (arith, h.few, length-map d.tensors (λ c. c.1.packed));
      tensors = subst P e t;
      placed = length-map d.tensors (λ c. placement_of c.1) ∙ sym (length-map d.tensors (λ c. c.1.packed));
      places = places_fit m d.tensors (subst Q k h.places);
      few_stmts = omega (arith, h.few_stmts, closed_few d.closed (open_stmt d.phase), length-map d.closed (λ s. s.stmt));
      stmts = rw (shapes_kept d.tensors) (All-map (IsJobStmt (extents_of_all d.tensors)) (λ (s : ScheduledView). s.stmt) d.closed (λ k s l. (closed k s l).stmt));
      headed = length-map d.closed (λ s. s.head) ∙ sym (length-map d.closed (λ s. s.stmt));
      parts = subst S (sym (stored_kept d.tensors)) (are_parts (dims_of m) d.tensors d.closed closed);
      segments = segments_stay d.closed;
      shows = λ k s l. below_more (length d.tensors) (length (tensors_of d.tensors)) (get_or d.shows k s) (omega (arith, length-map d.tensors (λ c. c.1.packed))) (h.shows k s l);
    })

-- the job that is made where no tensor is left
pub made_job : (d : DraftView) (m : MachineView) (j : Job) (tensors : List Packed) (places : List Placement) (rest : Contents)
    → j.machine ≡ m → j.names ≡ names_of d.tensors → j.tensors ≡ tensors → j.places ≡ places → j.heads ≡ map (λ s. s.head) d.closed → j.parts ≡ map part_of d.closed → j.shows ≡ d.shows → rest ≡ []
    → tensors ++ tensors_of rest ≡ tensors_of d.tensors → places ++ places_of rest ≡ places_of d.tensors → j ≡ job_on d m
made_job d m j tensors places rest x n t p q u w r b c =
    let all_tensors : j.tensors ≡ tensors_of d.tensors = t ∙ sym (append-nil tensors) ∙ ap (λ (ts : Contents). tensors ++ tensors_of ts) (sym r) ∙ b in
    let all_places : j.places ≡ places_of d.tensors = p ∙ sym (append-nil places) ∙ ap (λ (ts : Contents). places ++ places_of ts) (sym r) ∙ c in
    λ i. record { machine = x i; names = n i; tensors = all_tensors i; places = all_places i; heads = q i; parts = u i; shows = w i }

-- the job of a draft whose machine is known
pub job_of_draft : (d : DraftView) (m : MachineView) (j : Job) → d.machine ≡ Some m → j ≡ job_on d m → option_map (job_on d) d.machine ≡ Some j
job_of_draft d m j k e = ap (λ (o : Option MachineView). option_map (job_on d) o) k ∙ ap (λ (x : Job). Some x) (sym e)
