-- A unit of a task keeps to modes that let it read what it reads and write what it writes.
use Rattle.std.proofs.Common.{◌≡◌, ◌≢◌, ℕ, ◌+◌, Bool, true, ◌&&◌, List, [], ◌∷◌, length, map, Option, Some, None, refl, sym, ap, ap₂, ◌∙◌, subst, if◌then◌else◌}
use Rattle.std.specs.Prelude.{option_map, unwrap_or}
use Rattle.std.specs.List.{AllByRecursion, list_all}
use Rattle.dt_model.specs.declared.stmt.Access.{Access}
use Rattle.dt_nest.specs.Tree.{read_accesses}
use Rattle.dt_nest.specs.Schedule.{Schedule}
use Rattle.dt_nest.specs.World.{world_of}
use Rattle.dt_nest.specs.Meaning.{Env, terms_of}
use Rattle.dt_nest.specs.Visits.{LeafVisit, Item, IsReset, IsVisit, environments}
use Rattle.dt_nest.specs.Unit as own
use Rattle.dt_nest.proofs.Each.{all_map}
use Rattle.dt_argument.specs.Frames.{Mode, Untouched, Writes, grown, SamePresence, SameInputs, IsFramed}
use Rattle.dt_argument.specs.Joined.{IsInput, IsOutput}
use Rattle.dt_argument.proofs.Shapes.{present_at, input_at, input_touched, output_touched, framed_still, framed_write, framed_grow, framed_as}
use Rattle.dt_plan.specs.declared.touches.Buffer.{Buffer}
use Rattle.dt_plan.specs.Layouts.{Layout}
use Rattle.dt_plan.specs.Footprints.{buffer_by}
use Rattle.dt_events.specs.State.{Cell, Word, Sign, State, is_of, is_word_of, own_of, with_own}
use Rattle.dt_events.proofs.Cells.{sign_is_of, is_the_word}
use Rattle.dt_events.proofs.OwnCells.{is_some_word, grows_there, clears_there, still_there}
use Rattle.dt_events.proofs.VisitReads.{sum_same, test_same, terms_same}

module _ (l : Layout) (s : Schedule) (k node : ℕ) (modes : Cell → Mode) where
  -- the cell of a word of a tensor or workspace
  abbrev cell_of : ℕ → ℕ → Cell
  cell_of t w = Word node (buffer_by l k t) w

  -- the word, if there is one, may be used
  abbrev pub MayRead : ℕ → Option ℕ → Type 0
  MayRead t o = (w : ℕ) → o ≡ Some w → IsInput (modes (Word node (buffer_by l k t) w))

  -- the word may grow
  abbrev pub MayGrow : ℕ → Option ℕ → Type 0
  MayGrow t o = (w : ℕ) → o ≡ Some w → IsOutput (modes (Word node (buffer_by l k t) w))

  -- an access in an environment may be read
  abbrev pub AccessWithin : Env → Access → Type 0
  AccessWithin val a = MayRead a.tensor (own.word_of l.stored s a.tensor (map val a.vars))

  -- a reset's workspace is written, each word that a visit reads may be used, and the one that it writes may grow
  abbrev pub ItemWithin : Item → Type 0
  ItemWithin (IsReset work) = (c : Cell) → is_of node (buffer_by l k (length s.tensors + work)) c ≡ true → modes c ≡ Writes
  ItemWithin (IsVisit visit) =
      MayGrow visit.leaf.lhs.tensor (own.written_by l.stored s visit)
      × AllByRecursion (λ val. AllByRecursion (AccessWithin val) (read_accesses visit.leaf.terms)) (environments (world_of l.stored s) s.derived visit)

  -- whether an item is defined in a state of all nodes
  abbrev pub task_can : Item → State → Bool
  task_can item st = own.can_do l.stored s item (own_of l k node st)

  -- and what it makes of it
  abbrev pub task_next : Item → State → State
  task_next item st = with_own l k node (own.unit_of l.stored s item (own_of l k node st)) st

  -- a word that is touched is held in both states or in neither
  held_same : (a b : State) → SamePresence modes a b → (t : ℕ) (o : Option ℕ) → ((w : ℕ) → o ≡ Some w → modes (cell_of t w) ≢ Untouched)
      → own.is_held (own_of l k node a) t o ≡ own.is_held (own_of l k node b) t o
  held_same a b h t None f = refl
  held_same a b h t (Some w) f = present_at (modes (cell_of t w)) (a (cell_of t w)) (b (cell_of t w)) (f w refl) (h (cell_of t w))

  -- and one that may be used has one number
  number_same : (a b : State) → SameInputs modes a b → (t : ℕ) (o : Option ℕ) → MayRead t o → own.number_in (own_of l k node a) t o ≡ own.number_in (own_of l k node b) t o
  number_same a b h t None f = refl
  number_same a b h t (Some w) f = ap (λ x. unwrap_or x 0) (input_at (modes (cell_of t w)) (a (cell_of t w)) (b (cell_of t w)) (f w refl) (h (cell_of t w)))

  module _ (visit : LeafVisit) (within : ItemWithin (IsVisit visit)) where
    -- the environments of the visit
    abbrev values : List Env
    values = environments (world_of l.stored s) s.derived visit

    -- whether an access is held
    abbrev access_held : State → Env → Access → Bool
    access_held st val x = own.is_held (own_of l k node st) x.tensor (own.word_of l.stored s x.tensor (map val x.vars))

    -- whether all are
    abbrev all_held : State → Env → Bool
    all_held st val = own.are_held l.stored s (own_of l k node st) val (read_accesses visit.leaf.terms)

    reads_same : (a b : State) → SamePresence modes a b → list_all (all_held a) values ≡ list_all (all_held b) values
    reads_same a b h =
        test_same (all_held a) (all_held b) values
        (all_map (λ val. AllByRecursion (AccessWithin val) (read_accesses visit.leaf.terms)) (λ val. all_held a val ≡ all_held b val)
        (λ val all. test_same (access_held a val) (access_held b val) (read_accesses visit.leaf.terms)
        (all_map (AccessWithin val) (λ x. access_held a val x ≡ access_held b val x)
        (λ x keep. held_same a b h x.tensor (own.word_of l.stored s x.tensor (map val x.vars)) (λ w e. input_touched (modes (cell_of x.tensor w)) (keep w e)))
        (read_accesses visit.leaf.terms) all))
        values within.1)

    visit_defined : (a b : State) → SamePresence modes a b → task_can (IsVisit visit) a ≡ task_can (IsVisit visit) b
    unfolding own.can_do
    visit_defined a b h =
        ap₂ ◌&&◌
        (held_same a b h visit.leaf.lhs.tensor (own.written_by l.stored s visit) (λ w e. output_touched (modes (cell_of visit.leaf.lhs.tensor w)) (within.0 w e)))
        (reads_same a b h)

    -- what the visit adds in a state
    abbrev added : State → ℕ
    added st = own.added_by l.stored s (own_of l k node st) visit

    -- the terms of an environment
    abbrev terms_in : State → Env → ℕ
    terms_in st val = terms_of (own.entries_in l.stored s (own_of l k node st)) val visit.leaf.terms

    added_same : (a b : State) → SameInputs modes a b → added a ≡ added b
    added_same a b h =
        sum_same (terms_in a) (terms_in b) values
        (all_map (λ val. AllByRecursion (AccessWithin val) (read_accesses visit.leaf.terms)) (λ val. terms_in a val ≡ terms_in b val)
        (λ val all. terms_same (own.entries_in l.stored s (own_of l k node a)) (own.entries_in l.stored s (own_of l k node b)) val visit.leaf.terms
        (all_map (AccessWithin val) (λ x. own.entries_in l.stored s (own_of l k node a) x.tensor (map val x.vars) ≡ own.entries_in l.stored s (own_of l k node b) x.tensor (map val x.vars))
        (λ x keep. number_same a b h x.tensor (own.word_of l.stored s x.tensor (map val x.vars)) keep)
        (read_accesses visit.leaf.terms) all))
        values within.1)

    -- a visit whose written word is this one, or that has none
    visit_framed : (o : Option ℕ) → own.written_by l.stored s visit ≡ o → IsFramed modes (task_can (IsVisit visit)) (task_next (IsVisit visit))
    unfolding own.unit_of
    visit_framed None e =
        framed_as modes (task_can (IsVisit visit)) (λ st. st) (task_next (IsVisit visit))
        (λ st c. still_there l k node visit.leaf.lhs.tensor (added st) st c ∙ ap (λ x. with_own l k node (own.grown_at (own_of l k node st) visit.leaf.lhs.tensor x (added st)) st c) (sym e))
        (framed_still modes (task_can (IsVisit visit)) visit_defined)
    visit_framed (Some w) e =
        framed_as modes (task_can (IsVisit visit)) (λ st c. if is_word_of node (buffer_by l k visit.leaf.lhs.tensor) (w ∷ []) c then grown (added st) (st c) else st c) (task_next (IsVisit visit))
        (λ st c. grows_there l k node visit.leaf.lhs.tensor w (added st) st c ∙ ap (λ x. with_own l k node (own.grown_at (own_of l k node st) visit.leaf.lhs.tensor x (added st)) st c) (sym e))
        (framed_grow modes (task_can (IsVisit visit)) visit_defined (is_word_of node (buffer_by l k visit.leaf.lhs.tensor) (w ∷ [])) added
        (λ c f. subst (λ (x : Cell). IsOutput (modes x)) (sym (is_the_word node (buffer_by l k visit.leaf.lhs.tensor) w c f)) (within.0 w e))
        added_same)

  -- a word of a buffer is of the buffer
  word_of_buffer : (b : Buffer) (c : Cell) → is_some_word node b c ≡ true → is_of node b c ≡ true
  word_of_buffer b (Sign m d) h = cc
  word_of_buffer b (Word m d w) h = h

  -- what is written is touched
  written_touched : (m : Mode) → m ≡ Writes → m ≢ Untouched
  written_touched m e f = cc

  reset_framed : (work : ℕ) → ItemWithin (IsReset work) → IsFramed modes (task_can (IsReset work)) (task_next (IsReset work))
  unfolding own.can_do own.unit_of
  reset_framed work within =
      let b : Buffer = buffer_by l k (length s.tensors + work) in
      framed_as modes (task_can (IsReset work)) (λ st c. if is_some_word node b c then option_map (λ x. 0) (st c) else st c) (task_next (IsReset work))
      (λ st c. clears_there l k node (length s.tensors + work) st c)
      (framed_write modes (task_can (IsReset work))
      (λ x y h. present_at (modes (Sign node b)) (x (Sign node b)) (y (Sign node b)) (written_touched (modes (Sign node b)) (within (Sign node b) (sign_is_of node b))) (h (Sign node b)))
      (is_some_word node b) (λ st c. option_map (λ x. 0) (st c))
      (λ c e. within c (word_of_buffer b c e))
      (λ x y h c e same. ap (option_map (λ z. 0)) same))

  -- a reset or a visit, with all values of its substituted loop
  pub item_framed : (item : Item) → ItemWithin item → IsFramed modes (task_can item) (task_next item)
  item_framed (IsReset work) h = reset_framed work h
  item_framed (IsVisit visit) h = visit_framed visit h (own.written_by l.stored s visit) refl
