-- The visits of a task keep to its footprints: what they read and write is needed under its path.
use Rattle.std.proofs.Common.{◌≡◌, ◌⊎◌, ℕ, ◌+◌, ◌-◌, ◌<◌, ◌≤◌, Bool, true, false, List, [], ◌∷◌, length, map, Option, Some, refl, sym, ap, ◌∙◌, subst, ⊎_elim, inl, inr, eq-eqb, arith}
use Rattle.std.specs.Prelude.{if◌then◌else◌, nat_eq, nat_lt}
use Rattle.std.specs.List.{AllByRecursion, list_any}
use Rattle.std.proofs.lemmas.Bool.{and_from, or_parts, cases_lt, lt-ltb}
use Rattle.dt_base.specs.Ranges.{below}
use Rattle.dt_runs.specs.Sets.{contains}
use Rattle.dt_runs.proofs.SetLemmas.{contains-filter}
use Rattle.dt_runs.proofs.BelowSets.{contains-below}
use Rattle.dt_model.specs.Positions.{place_in, tensor_at}
use Rattle.dt_model.specs.declared.stmt.Access.{Access}
use Rattle.dt_model.specs.declared.stmt.Term.{Term}
use Rattle.dt_nest.specs.Tree.{accesses_of, read_accesses}
use Rattle.dt_nest.specs.Schedule.{Schedule}
use Rattle.dt_nest.specs.Meaning.{Env}
use Rattle.dt_nest.specs.World.{world_of}
use Rattle.dt_nest.specs.Lawful.{AccessBelow}
use Rattle.dt_nest.specs.Outputs.{output_of, reads_of}
use Rattle.dt_nest.specs.Paths.{tensors_in}
use Rattle.dt_nest.specs.Questions.{accesses_tensor}
use Rattle.dt_nest.specs.Visits.{Item, IsReset, IsVisit, environments, needed_of, visits_of}
use Rattle.dt_nest.specs.Effects.{left_at}
use Rattle.dt_nest.specs.Unit as own
use Rattle.dt_nest.proofs.Each.{all_map, all_both}
use Rattle.dt_nest.proofs.NamedAccesses.{named_accesses}
use Rattle.dt_bounds.specs.NeededPaths.{IsNeededAt, AccessesNeeded, LeftNeeded}
use Rattle.dt_bounds.proofs.PathAccesses.{IsFound, each_found, accesses_needed, left_needed}
use Rattle.dt_bounds.proofs.PathHeld.{ResetBelow, path_resets}
use Rattle.dt_bounds.proofs.PathTasks.{WritesOnly, path_writes}
use Rattle.dt_argument.specs.Frames.{Mode, Writes}
use Rattle.dt_argument.specs.Joined.{both, IsInput, IsOutput}
use Rattle.dt_argument.proofs.Joining.{input_left, input_right, output_left, output_right, writes_left, writes_right}
use Rattle.dt_argument.proofs.Shapes.{if_true, if_false}
use Rattle.dt_plan.specs.declared.ops.Op.{Op}
use Rattle.dt_plan.specs.declared.parts.Part.{Part}
use Rattle.dt_plan.specs.declared.touches.Buffer.{Buffer}
use Rattle.dt_plan.specs.declared.touches.Buffer.TheVariants.{Scratch, Work}
use Rattle.dt_plan.specs.declared.touches.Mode as access
use Rattle.dt_plan.specs.declared.touches.Mode.TheVariants as how
use Rattle.dt_plan.specs.declared.touches.Touch.{Touch}
use Rattle.dt_plan.specs.Layouts.{Layout}
use Rattle.dt_plan.specs.Footprints.{some_words, whole_buffer, buffer_by, task_mode, task_touches}
use Rattle.dt_events.specs.State.{Cell, Word, is_of, at_word, touches_at}
use Rattle.dt_events.specs.StateLaws.{IsRunnable}
use Rattle.dt_events.proofs.Cells.{word_is_of}
use Rattle.dt_events.proofs.Touched.{word_touched, whole_written, in_front, in_rest, in_all}
use Rattle.dt_events.proofs.OwnCells.{scratch_by, work_by}
use Rattle.dt_events.proofs.TaskFrames.{MayGrow, AccessWithin, ItemWithin}
use Rattle.dt_events.proofs.VisitedLeaves.{EachLeaf, LeafHas, path_leaves, leaf_accesses}

module _ (l : Layout) (o : Op) (s : Schedule) (tensors : length s.tensors ≡ length l.stored) where
  -- what the task does at a cell
  abbrev modes : Cell → Mode
  modes = touches_at (task_touches l o s)

  -- its footprint of a tensor, and of a workspace
  abbrev tensor_touch : ℕ → Touch
  tensor_touch t = some_words o.node (Scratch o.stmt t) (needed_of l.stored s t o.path) (task_mode s t)

  abbrev work_touch : ℕ → Touch
  work_touch u = whole_buffer o.node (Work o.stmt u)

  -- a number among the first n is one of them
  is_below : (n x : ℕ) → x < n → contains (below n) x ≡ true
  is_below n x h = contains-below n x ∙ lt-ltb x n h

  -- a tensor that is accessed is moved
  is_moved : (t : ℕ) → t < length s.tensors → accesses_tensor s.nest t ≡ true → contains (tensors_in s) t ≡ true
  is_moved t h a = contains-filter (accesses_tensor s.nest) (below (length s.tensors)) t ∙ and_from (contains (below (length s.tensors)) t) (accesses_tensor s.nest t) (is_below (length s.tensors) t h) a

  -- a cell of a workspace is written
  work_written : (u : ℕ) (c : Cell) → u < length s.works → is_of o.node (Work o.stmt u) c ≡ true → modes c ≡ Writes
  work_written u c h e =
      in_rest (λ m. m ≡ Writes) writes_left writes_right (map tensor_touch (tensors_in s)) (map work_touch (below (length s.works))) c
      (in_all (λ m. m ≡ Writes) writes_left writes_right work_touch (below (length s.works)) u c (is_below (length s.works) u h) (whole_written o.node (Work o.stmt u) c e))

  -- so is each word of it
  work_cell : (t w : ℕ) → length s.tensors ≤ t → t < length s.tensors + length s.works → modes (Word o.node (buffer_by l o.stmt t) w) ≡ Writes
  work_cell t w h k =
      let b : buffer_by l o.stmt t ≡ Work o.stmt (t - length l.stored) = work_by l o.stmt t (omega (arith, tensors, h)) in
      subst (λ (x : Buffer). modes (Word o.node x w) ≡ Writes) (sym b)
      (work_written (t - length l.stored) (Word o.node (Work o.stmt (t - length l.stored)) w) (omega (arith, tensors, h, k)) (word_is_of o.node (Work o.stmt (t - length l.stored)) w))

  -- what the task does at a needed word of a tensor
  module _ (P : Mode → Type 0) (left : (m n : Mode) → P m → P (both m n)) (right : (m n : Mode) → P n → P (both m n)) where
    tensor_cell : (t w : ℕ) → t < length s.tensors → accesses_tensor s.nest t ≡ true → contains (needed_of l.stored s t o.path) w ≡ true → P (at_word (task_mode s t))
        → P (modes (Word o.node (buffer_by l o.stmt t) w))
    tensor_cell t w h a need p =
        subst (λ (x : Buffer). P (modes (Word o.node x w))) (sym (scratch_by l o.stmt t (subst (λ (n : ℕ). t < n) tensors h)))
        (in_front P left right tensor_touch (tensors_in s) (map work_touch (below (length s.works))) t (Word o.node (Scratch o.stmt t) w) (is_moved t h a)
        (subst P (sym (word_touched o.node (Scratch o.stmt t) (needed_of l.stored s t o.path) (task_mode s t) w need)) p))

  -- the position of a tensor's word
  place_of : (t : ℕ) (c : List ℕ) (w : ℕ) → t < length s.tensors → own.word_of l.stored s t c ≡ Some w → place_in (tensor_at l.stored t) c ≡ Some w
  place_of t c w h e = go (nat_lt t (length s.tensors)) (lt-ltb t (length s.tensors) h) _ e
    where
      go : (b : Bool) → b ≡ true → (r : Option ℕ) → (if b then place_in (tensor_at l.stored t) c else r) ≡ Some w → place_in (tensor_at l.stored t) c ≡ Some w
      go true e r f = f
      go false e r f = absurd (cc)

  -- an access of the nest: of a tensor or workspace, which some leaf accesses
  abbrev IsAccessed : Access → Type 0
  IsAccessed a = (a.tensor < length s.tensors + length s.works) × (accesses_tensor s.nest a.tensor ≡ true)

  -- an access that is read: not of the left tensor
  abbrev IsRight : Access → Type 0
  IsRight a = nat_eq a.tensor (output_of s.nest) ≡ false

  -- what is so at each leaf
  abbrev LeafFacts : Access → List Term → Type 0
  LeafFacts lhs terms = AllByRecursion IsAccessed (lhs ∷ read_accesses terms) × AllByRecursion IsRight (read_accesses terms)

  -- a word that is read may be used
  read_within : (val : Env) (a : Access) → IsNeededAt l.stored s o.path val a → IsAccessed a × IsRight a → AccessWithin l s o.stmt o.node modes val a
  read_within val a need fact w e =
      ⊎_elim
      (λ (h : a.tensor < length s.tensors).
      tensor_cell IsInput input_left input_right a.tensor w h fact.0.1 (need w (place_of a.tensor (map val a.vars) w h e))
      (subst (λ (m : access.Mode). IsInput (at_word m)) (sym (if_false (nat_eq a.tensor (output_of s.nest)) how.Fold how.Read fact.1)) tt))
      (λ (h : length s.tensors ≤ a.tensor). subst IsInput (sym (work_cell a.tensor w h fact.0.0)) tt)
      (cases_lt a.tensor (length s.tensors))

  -- a word that is written may grow
  written_within : (t : ℕ) (c : List ℕ) → ((w : ℕ) → place_in (tensor_at l.stored t) c ≡ Some w → contains (needed_of l.stored s t o.path) w ≡ true)
      → t < length s.tensors + length s.works → accesses_tensor s.nest t ≡ true → (t ≡ output_of s.nest) ⊎ (length s.tensors ≤ t) → MayGrow l s o.stmt o.node modes t (own.word_of l.stored s t c)
  written_within t c need few accessed only w e =
      ⊎_elim
      (λ (h : t < length s.tensors).
      tensor_cell IsOutput output_left output_right t w h accessed (need w (place_of t c w h e))
      (subst (λ (m : access.Mode). IsOutput (at_word m)) (sym (if_true (nat_eq t (output_of s.nest)) how.Fold how.Read (is_left h only))) tt))
      (λ (h : length s.tensors ≤ t). subst IsOutput (sym (work_cell t w h few)) tt)
      (cases_lt t (length s.tensors))
    where
      is_left : t < length s.tensors → (t ≡ output_of s.nest) ⊎ (length s.tensors ≤ t) → nat_eq t (output_of s.nest) ≡ true
      is_left h (inl i) = eq-eqb t (output_of s.nest) i
      is_left h (inr m) = absurd (omega (arith, h, m))

  -- an item keeps to the footprints
  item_within : (item : Item) → AccessesNeeded l.stored s o.path item × LeftNeeded l.stored s o.path item × WritesOnly (length s.tensors) (output_of s.nest) item
      → ResetBelow (length s.works) item × LeafHas LeafFacts item → ItemWithin l s o.stmt o.node modes item
  item_within (IsReset work) h k = λ c e.
      work_written work c k.0
      (subst (λ (x : Buffer). is_of o.node x c ≡ true)
      (work_by l o.stmt (length s.tensors + work) (omega (arith, tensors)) ∙ ap (Work o.stmt) (let g : length s.tensors + work - length l.stored ≡ work = omega (arith, tensors) in g)) e)
  item_within (IsVisit visit) h k = (
    written_within visit.leaf.lhs.tensor (left_at (world_of l.stored s) s.derived visit) h.1 k.1.0.0.0 k.1.0.0.1 h.2,
    all_map (λ val. AllByRecursion (IsNeededAt l.stored s o.path val) (visit.leaf.lhs ∷ read_accesses visit.leaf.terms)) (λ val. AllByRecursion (AccessWithin l s o.stmt o.node modes val) (read_accesses visit.leaf.terms))
        (λ val need. all_both (IsNeededAt l.stored s o.path val) (λ a. IsAccessed a × IsRight a) (AccessWithin l s o.stmt o.node modes val) (read_within val) (read_accesses visit.leaf.terms) need.1
        (all_both IsAccessed IsRight (λ a. IsAccessed a × IsRight a) (λ a x y. (x, y)) (read_accesses visit.leaf.terms) k.1.0.1 k.1.1))
        (environments (world_of l.stored s) s.derived visit) h.0,
  )

-- a test that none passes fails at each
none_passes : {X : Type 0} (f : X → Bool) (xs : List X) → list_any f xs ≡ false → AllByRecursion (λ x. f x ≡ false) xs
none_passes f [] h = tt
none_passes f (x ∷ xs) h = let p = or_parts (f x) (list_any f xs) h in (p.0, none_passes f xs p.1)

module _ (l : Layout) (o : Op) (p : Part) (fit : IsRunnable l p) where
  -- the task's schedule
  abbrev s : Schedule
  s = p.sched

  found : (a : Access) → AccessBelow (length s.names) (length s.tensors + length s.works) a → IsFound (accesses_of s.nest) a → IsAccessed l o s fit.tensors a
  found a b f = (b.0, f (λ c. nat_eq c.tensor a.tensor) (eq-eqb a.tensor a.tensor refl))

  -- what is so at each leaf
  leaves : EachLeaf (LeafFacts l o s fit.tensors) s.nest
  leaves =
      leaf_accesses (IsAccessed l o s fit.tensors) (IsRight l o s fit.tensors) s.nest
      (all_both (AccessBelow (length s.names) (length s.tensors + length s.works)) (IsFound (accesses_of s.nest)) (IsAccessed l o s fit.tensors) found (accesses_of s.nest) (named_accesses s s.nest fit.lawful.named) (each_found (accesses_of s.nest)))
      (none_passes (λ a. nat_eq a.tensor (output_of s.nest)) (reads_of s.nest) fit.unread)

  -- what is needed, and where items write
  needs : AllByRecursion (λ item. AccessesNeeded l.stored s o.path item × LeftNeeded l.stored s o.path item × WritesOnly (length s.tensors) (output_of s.nest) item) (visits_of l.stored s o.path)
  needs =
      all_both (AccessesNeeded l.stored s o.path) (λ item. LeftNeeded l.stored s o.path item × WritesOnly (length s.tensors) (output_of s.nest) item)
      (λ item. AccessesNeeded l.stored s o.path item × LeftNeeded l.stored s o.path item × WritesOnly (length s.tensors) (output_of s.nest) item) (λ item x y. (x, y.0, y.1)) (visits_of l.stored s o.path)
      (accesses_needed l.stored s o.path)
      (all_both (LeftNeeded l.stored s o.path) (WritesOnly (length s.tensors) (output_of s.nest)) (λ item. LeftNeeded l.stored s o.path item × WritesOnly (length s.tensors) (output_of s.nest) item) (λ item x y. (x, y)) (visits_of l.stored s o.path)
      (left_needed l.stored s o.path fit.lawful) (path_writes l.stored s o.path fit.lawful))

  -- the items of a task keep to its footprints
  pub items_within : AllByRecursion (ItemWithin l s o.stmt o.node (touches_at (task_touches l o s))) (visits_of l.stored s o.path)
  items_within =
      all_both (λ item. AccessesNeeded l.stored s o.path item × LeftNeeded l.stored s o.path item × WritesOnly (length s.tensors) (output_of s.nest) item)
      (λ item. ResetBelow (length s.works) item × LeafHas (LeafFacts l o s fit.tensors) item)
      (ItemWithin l s o.stmt o.node (touches_at (task_touches l o s))) (item_within l o s fit.tensors) (visits_of l.stored s o.path) needs
      (all_both (ResetBelow (length s.works)) (LeafHas (LeafFacts l o s fit.tensors)) (λ item. ResetBelow (length s.works) item × LeafHas (LeafFacts l o s fit.tensors) item) (λ item x y. (x, y)) (visits_of l.stored s o.path)
      (path_resets l.stored s o.path fit.lawful.named) (path_leaves (LeafFacts l o s fit.tensors) l.stored s o.path leaves))
