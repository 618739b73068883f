-- What is present of a buffer is what the last alloc or free of it that has begun left.
use Rattle.std.proofs.Common.{◌≡◌, ◌⊎◌, ℕ, zero, suc, Bool, true, false, ◌&&◌, List, [], ◌∷◌, length, Option, Some, None, is_some, refl, sym, ap, ◌∙◌, ⊎_elim, inl, inr, arith, if◌then◌else◌}
use Rattle.std.specs.Prelude.{nat_eq, option_map, slice_get}
use Rattle.std.proofs.lemmas.Bool.{cases_Bool}
use Rattle.dt_runs.specs.Sets.{contains}
use Rattle.dt_nest.specs.Visits.{Item}
use Rattle.dt_nest.specs.Unit as own
use Rattle.dt_bounds.proofs.PathHeld.{unit_there}
use Rattle.dt_argument.specs.Frames.{grown}
use Rattle.dt_argument.specs.Listings.{after_units, after_ops}
use Rattle.dt_argument.proofs.Shapes.{if_true, if_false}
use Rattle.dt_plan.specs.declared.kind.Kind.{Kind}
use Rattle.dt_plan.specs.declared.kind.Kind.TheVariants as kind
use Rattle.dt_plan.specs.declared.ops.Op.{Op}
use Rattle.dt_plan.specs.declared.parts.Part.{Part}
use Rattle.dt_plan.specs.declared.touches.Buffer.{Buffer}
use Rattle.dt_plan.specs.declared.touches.Buffer.TheVariants.{Home}
use Rattle.dt_plan.specs.Layouts.{Layout}
use Rattle.dt_plan.specs.Operations.{items_of}
use Rattle.dt_events.specs.Conflicts.{is_same_buffer}
use Rattle.dt_events.specs.State.{Cell, Word, State, number_at, is_word_of, overwritten, added_to, own_of}
use Rattle.dt_events.specs.Units.{of_unit, scratch_of, copied, folded, item_next, next_by}
use Rattle.dt_events.specs.Jobs.{op_at, listing_over}
use Rattle.dt_events.specs.PresenceLaws.{IsClosed, IsOpen, BuffersAreOpenedWhole}
use Rattle.dt_events.proofs.OwnCells.{IsOwn, IsOther, own_or_other}

-- One unit -------------------------------------------------------------------------------------------------------------------

mapped_there : (v : ℕ) (x : Option ℕ) → is_some (option_map (λ (y : ℕ). v) x) ≡ is_some x
mapped_there v None = refl
mapped_there v (Some x) = refl

grown_there : (d : ℕ) (x : Option ℕ) → is_some (grown d x) ≡ is_some x
grown_there d None = refl
grown_there d (Some x) = refl

either_there : (t : Bool) (x y : Option ℕ) → is_some x ≡ is_some y → is_some (if t then x else y) ≡ is_some y
either_there true x y h = h
either_there false x y h = refl

overwritten_there : (n : ℕ) (b : Buffer) (words : List ℕ) (v : ℕ) (s : State) (c : Cell) → is_some (overwritten n b words v s c) ≡ is_some (s c)
overwritten_there n b words v s c = either_there (is_word_of n b words c) (option_map (λ (y : ℕ). v) (s c)) (s c) (mapped_there v (s c))

added_there : (n : ℕ) (b : Buffer) (words : List ℕ) (d : ℕ) (s : State) (c : Cell) → is_some (added_to n b words d s c) ≡ is_some (s c)
added_there n b words d s c = either_there (is_word_of n b words c) (grown d (s c)) (s c) (grown_there d (s c))

copied_there : (n : ℕ) (b : Buffer) (m : ℕ) (d : Buffer) (o : Option ℕ) (s : State) (c : Cell) → is_some (copied n b m d o s c) ≡ is_some (s c)
copied_there n b m d None s c = refl
copied_there n b m d (Some w) s c = overwritten_there m d (w ∷ []) (number_at s (Word n b w)) s c

folded_there : (n : ℕ) (b : Buffer) (m : ℕ) (d : Buffer) (o : Option ℕ) (s : State) (c : Cell) → is_some (folded n b m d o s c) ≡ is_some (s c)
folded_there n b m d None s c = refl
folded_there n b m d (Some w) s c = added_there m d (w ∷ []) (number_at s (Word n b w)) s c

-- a task opens and closes nothing
item_there : (l : Layout) (o : Op) (part : Option Part) (item : Option Item) (s : State) (c : Cell) → is_some (item_next l o part item s c) ≡ is_some (s c)
item_there l o None item s c = refl
item_there l o (Some p) None s c = refl
item_there l o (Some p) (Some item) s c =
    ⊎_elim
    (λ (q : IsOwn l o.stmt o.node s c).
    ap is_some (q.given (own.unit_of l.stored p.sched item (own_of l o.stmt o.node s)))
    ∙ unit_there l.stored p.sched item (own_of l o.stmt o.node s) (own.Word q.tensor q.word) ∙ ap (λ (d : Cell). is_some (s d)) (sym q.cell))
    (λ (q : IsOther l o.stmt o.node s c). ap is_some (q.stays (own.unit_of l.stored p.sched item (own_of l o.stmt o.node s))))
    (own_or_other l o.stmt o.node s c)

-- whether the operation is on the buffer and the node
abbrev pub is_on : Layout → Op → ℕ → Buffer → Bool
is_on l o n b = nat_eq o.node n && is_same_buffer (scratch_of l o) b

-- whether a word is present after a unit, by whether it was before
abbrev pub turned : Kind → Layout → Op → ℕ → Buffer → ℕ → Bool → Bool
turned kind.Zero l o n b w x = x
turned kind.Alloc l o n b w x = if is_on l o n b then contains o.words w else x
turned kind.Copy l o n b w x = x
turned kind.Task l o n b w x = x
turned kind.Fold l o n b w x = x
turned kind.Free l o n b w x = if is_on l o n b then false else x

opened_there : (t : Bool) → is_some {T = ℕ} (if t then Some 0 else None) ≡ t
opened_there true = refl
opened_there false = refl

some_if : (t : Bool) (x y : Option ℕ) → is_some (if t then x else y) ≡ (if t then is_some x else is_some y)
some_if true x y = refl
some_if false x y = refl

pub next_turned : (what : Kind) (l : Layout) (o : Op) (i : ℕ) (s : State) (n : ℕ) (b : Buffer) (w : ℕ) → is_some (next_by what l o i s (Word n b w)) ≡ turned what l o n b w (is_some (s (Word n b w)))
next_turned kind.Zero l o i s n b w = overwritten_there o.node (Home o.tensor) o.words 0 s (Word n b w)
next_turned kind.Alloc l o i s n b w =
    some_if (is_on l o n b) (if contains o.words w then Some 0 else None) (s (Word n b w)) ∙ ap (λ x. if is_on l o n b then x else is_some (s (Word n b w))) (opened_there (contains o.words w))
next_turned kind.Copy l o i s n b w = copied_there o.other (Home o.tensor) o.node (scratch_of l o) (of_unit o.words i) s (Word n b w)
next_turned kind.Task l o i s n b w = item_there l o (slice_get l.parts o.stmt) (of_unit (items_of l o) i) s (Word n b w)
next_turned kind.Fold l o i s n b w = folded_there o.node (scratch_of l o) o.other (Home o.tensor) (of_unit o.words i) s (Word n b w)
next_turned kind.Free l o i s n b w = some_if (is_on l o n b) None (s (Word n b w))

-- Lists ----------------------------------------------------------------------------------------------------------------------

module _ (l : Layout) (ops : List Op) (event : ℕ → ℕ → Bool) (opening : State) (n : ℕ) (b : Buffer) where
  -- absent, or open by one of the first operations
  abbrev IsLeft : ℕ → State → Type 0
  IsLeft first s = IsClosed s n b ⊎ IsOpen l ops first s n b

  keeps_left : (first : ℕ) (s t : State) → ((w : ℕ) → is_some (t (Word n b w)) ≡ is_some (s (Word n b w))) → IsLeft first s → IsLeft first t
  keeps_left first s t h (inl k) = inl (λ w. h w ∙ k w)
  keeps_left first s t h (inr k) = inr (record { by = k.by; before = k.before; opens = k.opens; buffer = k.buffer; words = λ w. h w ∙ k.words w })

  more_left : (first : ℕ) (s : State) → IsLeft first s → IsLeft (suc first) s
  more_left first s (inl k) = inl k
  more_left first s (inr k) = inr (record { by = k.by; before = (let e = k.before in omega (arith, e)); opens = k.opens; buffer = k.buffer; words = k.words })

  turns_left : (a : ℕ) (s t : State) (what : Kind) → (op_at ops a).kind ≡ what → ((w : ℕ) → is_some (t (Word n b w)) ≡ turned what l (op_at ops a) n b w (is_some (s (Word n b w)))) → IsLeft (suc a) s → IsLeft (suc a) t
  turns_left a s t kind.Zero e h k = keeps_left (suc a) s t h k
  turns_left a s t kind.Alloc e h k =
      ⊎_elim
      (λ (q : is_on l (op_at ops a) n b ≡ true). inr (record { by = a; before = omega arith; opens = e; buffer = q; words = λ w. h w ∙ if_true (is_on l (op_at ops a) n b) (contains (op_at ops a).words w) (is_some (s (Word n b w))) q }))
      (λ (q : is_on l (op_at ops a) n b ≡ false). keeps_left (suc a) s t (λ w. h w ∙ if_false (is_on l (op_at ops a) n b) (contains (op_at ops a).words w) (is_some (s (Word n b w))) q) k)
      (cases_Bool (is_on l (op_at ops a) n b))
  turns_left a s t kind.Copy e h k = keeps_left (suc a) s t h k
  turns_left a s t kind.Task e h k = keeps_left (suc a) s t h k
  turns_left a s t kind.Fold e h k = keeps_left (suc a) s t h k
  turns_left a s t kind.Free e h k =
      ⊎_elim
      (λ (q : is_on l (op_at ops a) n b ≡ true). inl (λ w. h w ∙ if_true (is_on l (op_at ops a) n b) false (is_some (s (Word n b w))) q))
      (λ (q : is_on l (op_at ops a) n b ≡ false). keeps_left (suc a) s t (λ w. h w ∙ if_false (is_on l (op_at ops a) n b) false (is_some (s (Word n b w))) q) k)
      (cases_Bool (is_on l (op_at ops a) n b))

  units_left : (a i : ℕ) (s : State) → IsLeft (suc a) s → IsLeft (suc a) (after_units (listing_over l ops event opening) a i s)
  units_left a zero s h = h
  units_left a (suc i) s h =
      turns_left a (after_units (listing_over l ops event opening) a i s) (after_units (listing_over l ops event opening) a (suc i) s) (op_at ops a).kind refl
      (λ w. next_turned (op_at ops a).kind l (op_at ops a) (suc i) (after_units (listing_over l ops event opening) a i s) n b w)
      (units_left a i s h)

  ops_left : (done : ℕ → ℕ) → IsClosed opening n b → (first : ℕ) → IsLeft first (after_ops (listing_over l ops event opening) first done)
  ops_left done absent zero = inl absent
  ops_left done absent (suc a) =
      units_left a (done a) (after_ops (listing_over l ops event opening) a done) (more_left a (after_ops (listing_over l ops event opening) a done) (ops_left done absent a))

-- so it is after any numbers of units
pub opened_whole : BuffersAreOpenedWhole
opened_whole l ops event opening done n b absent = ops_left l ops event opening n b done absent (length ops)
