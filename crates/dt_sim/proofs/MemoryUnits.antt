-- Units of operations on the memories of the nodes.
use Rattle.std.proofs.Common.{◌≡◌, ℕ, suc, ◌+◌, ◌<◌, ◌&&◌, ◌||◌, Bool, true, false, not, List, [], ◌∷◌, ◌++◌, length, take, get_or, Option, Some, None, slice_get, nat_eq, refl, sym, ap, ◌∙◌, subst, arith, if◌then◌else◌}
use Rattle.std.specs.Prelude.{is_some, option_and_then, option_map, unwrap_or}
use Rattle.std.proofs.Math.Path.{fun_ext}
use Rattle.std.proofs.lemmas.Bool.{and_parts}
use Rattle.std.proofs.lemmas.List.{take_more}
use Rattle.std.proofs.lemmas.List.Folds.{list_any-append}
use Rattle.std.proofs.lemmas.Option.{slice_get-get_or, slice_get_within}
use Rattle.dt_mem.specs.Memory.{Held, Slot, ended, folded, held_at, opened, value_at, written}
use Rattle.dt_runs.specs.Sets.{contains}
use Rattle.dt_plan.specs.declared.kind.Kind.{Kind}
use Rattle.dt_plan.specs.declared.kind.Kind.TheVariants as kind
use Rattle.dt_plan.specs.declared.ops.Op.{Op}
use Rattle.dt_plan.specs.declared.touches.Buffer.{Buffer}
use Rattle.dt_plan.specs.declared.touches.Buffer.TheVariants.{Home}
use Rattle.dt_plan.specs.Layouts.{Layout}
use Rattle.dt_plan.specs.Operations.{ops_of}
use Rattle.dt_plan.specs.Bounds.{buffers_of}
use Rattle.dt_events.specs.Conflicts.{is_same_buffer}
use Rattle.dt_events.specs.State.{Cell, Word, Sign, State, added_to, is_word_of, number_at, overwritten}
use Rattle.dt_events.specs.Units as unit
use Rattle.dt_events.specs.Units.{are_present, can_by, next_by, next_of, of_unit, scratch_of}
use Rattle.dt_events.specs.Jobs.{op_at}
use Rattle.dt_events.proofs.Cells.{is_the_word}
use Rattle.dt_leaf.proofs.Cells.{value_slot}
use Rattle.dt_sim.specs.Memories.{changed_on, memory_at, number_in, sign_of, state_in}
use Rattle.dt_sim.specs.UnitsDone.{DoesUnit, IsDue, IsHome, IsScratch, Zeroes}
use Rattle.dt_sim.proofs.ChangeLaws.{beginnings_open, ends_close, folds_add, writes_overwrite}
use Rattle.dt_sim.proofs.Rooms.{node_within, present_within, same_rooms}

-- Cells -----------------------------------------------------------------------------------------------------------------

-- what is at a cell of the buffer with a number
pub word_is : (buffers : List Buffer) (mems : List (List Slot)) (b : Buffer) (k n w : ℕ) → number_in buffers b ≡ Some k → state_in buffers mems (Word n b w) ≡ value_at (memory_at mems n) k w
word_is buffers mems b k n w at = ap (option_and_then (λ (j : ℕ). value_at (memory_at mems n) j w)) at

pub sign_is : (buffers : List Buffer) (mems : List (List Slot)) (b : Buffer) (k n : ℕ) → number_in buffers b ≡ Some k → state_in buffers mems (Sign n b) ≡ sign_of (held_at (memory_at mems n) k)
sign_is buffers mems b k n at = ap (option_and_then (λ (j : ℕ). sign_of (held_at (memory_at mems n) j))) at

signed : (o : Option Held) → is_some (sign_of o) ≡ true → is_some o ≡ true
signed None e = absurd (cc)
signed (Some h) e = refl

unsigned : (o : Option Held) → not (is_some (sign_of o)) ≡ true → o ≡ None
unsigned None e = refl
unsigned (Some h) e = absurd (cc)

-- a value that there is
the_value : (o : Option ℕ) → is_some o ≡ true → (x : ℕ) × (o ≡ Some x)
the_value None e = absurd (cc)
the_value (Some x) e = (x, refl)

-- Zeros -----------------------------------------------------------------------------------------------------------------

-- no word is overwritten
zero_none : (n k : ℕ) (mems : List (List Slot)) → Zeroes n k [] mems mems
zero_none n k mems = record { state = λ buffers b at. fun_ext (cell buffers b); rooms = refl }
  where
    none : (t : Bool) (x y : Option ℕ) → y ≡ (if t && false then x else y)
    none true x y = refl
    none false x y = refl

    cell : (buffers : List Buffer) (b : Buffer) (c : Cell) → state_in buffers mems c ≡ overwritten n b [] 0 (state_in buffers mems) c
    cell buffers b (Word m d u) = none (nat_eq n m && is_same_buffer b d) (option_map (λ (x : ℕ). 0) (state_in buffers mems (Word m d u))) (state_in buffers mems (Word m d u))
    cell buffers b (Sign m d) = refl

-- a word that is held is written
pub zero_held : (n k w : ℕ) (mems : List (List Slot)) → is_some (value_at (memory_at mems n) k w) ≡ true → Zeroes n k (w ∷ []) mems (changed_on (written w 0) n k mems)
zero_held n k w mems held =
    let x = the_value (value_at (memory_at mems n) k w) held in
    record {
      state = λ buffers b at. writes_overwrite buffers mems n k b w x.0 0 at (node_within mems n k (value_slot (memory_at mems n) k w held)) x.1;
      rooms = same_rooms (written w 0) (λ s. refl) mems n k;
    }

-- and one that is not held has no number
pub zero_absent : (n k w : ℕ) (mems : List (List Slot)) → is_some (value_at (memory_at mems n) k w) ≡ false → Zeroes n k (w ∷ []) mems mems
zero_absent n k w mems absent = record { state = λ buffers b at. fun_ext (λ c. cell buffers b at c (is_word_of n b (w ∷ []) c) refl); rooms = refl }
  where
    no_value : (o : Option ℕ) → is_some o ≡ false → o ≡ None
    no_value None e = refl
    no_value (Some x) e = absurd (cc)

    cell : (buffers : List Buffer) (b : Buffer) → number_in buffers b ≡ Some k → (c : Cell) (t : Bool) → is_word_of n b (w ∷ []) c ≡ t
        → state_in buffers mems c ≡ (if t then option_map (λ (x : ℕ). 0) (state_in buffers mems c) else state_in buffers mems c)
    cell buffers b at c false e = refl
    cell buffers b at c true e =
        let none : state_in buffers mems c ≡ None = ap (state_in buffers mems) (is_the_word n b w c e) ∙ word_is buffers mems b k n w at ∙ no_value (value_at (memory_at mems n) k w) absent in
        none ∙ sym (ap (option_map (λ (x : ℕ). 0)) none)

zeroed_twice : (o : Option ℕ) → option_map {U = ℕ} (λ (x : ℕ). 0) (option_map {U = ℕ} (λ (x : ℕ). 0) o) ≡ option_map {U = ℕ} (λ (x : ℕ). 0) o
zeroed_twice None = refl
zeroed_twice (Some x) = refl

both_zeroed : (p q r : Bool) (o : Option ℕ)
    → (if p && r then option_map {U = ℕ} (λ (x : ℕ). 0) (if p && q then option_map {U = ℕ} (λ (x : ℕ). 0) o else o) else (if p && q then option_map {U = ℕ} (λ (x : ℕ). 0) o else o))
    ≡ (if p && (q || r) then option_map {U = ℕ} (λ (x : ℕ). 0) o else o)
both_zeroed true true true o = zeroed_twice o
both_zeroed true true false o = refl
both_zeroed true false true o = refl
both_zeroed true false false o = refl
both_zeroed false true true o = refl
both_zeroed false true false o = refl
both_zeroed false false true o = refl
both_zeroed false false false o = refl

overwritten_more : (n : ℕ) (b : Buffer) (ws vs : List ℕ) (s : State) → overwritten n b vs 0 (overwritten n b ws 0 s) ≡ overwritten n b (ws ++ vs) 0 s
overwritten_more n b ws vs s = fun_ext cell
  where
    cell : (c : Cell) → overwritten n b vs 0 (overwritten n b ws 0 s) c ≡ overwritten n b (ws ++ vs) 0 s c
    cell (Word m d u) =
        both_zeroed (nat_eq n m && is_same_buffer b d) (contains ws u) (contains vs u) (s (Word m d u))
        ∙ ap (λ (t : Bool). if (nat_eq n m && is_same_buffer b d) && t then option_map {U = ℕ} (λ (x : ℕ). 0) (s (Word m d u)) else s (Word m d u)) (sym (list_any-append (λ (y : ℕ). nat_eq y u) ws vs))
    cell (Sign m d) = refl

zero_append : (n k : ℕ) (ws vs : List ℕ) (old mid new : List (List Slot)) → Zeroes n k ws old mid → Zeroes n k vs mid new → Zeroes n k (ws ++ vs) old new
zero_append n k ws vs old mid new h g = record {
  state = λ buffers b at. g.state buffers b at ∙ ap (overwritten n b vs 0) (h.state buffers b at) ∙ overwritten_more n b ws vs (state_in buffers old);
  rooms = g.rooms ∙ h.rooms;
}

-- the first words of a list, one after another
pub zero_first : (n k : ℕ) (words : List ℕ) (mems : List (List Slot)) → Zeroes n k (take 0 words) mems mems
zero_first n k words mems = zero_none n k mems

pub zero_more : (n k j w : ℕ) (words : List ℕ) (old mid new : List (List Slot)) → Zeroes n k (take j words) old mid → slice_get words j ≡ Some w → Zeroes n k (w ∷ []) mid new → Zeroes n k (take (j + 1) words) old new
zero_more n k j w words old mid new h e g =
    let inside = slice_get_within words j w e in
    let item : ◌≡◌ {A = Option ℕ} (Some (get_or words j 0)) (Some w) = sym (slice_get-get_or words j 0 inside) ∙ e in
    let word : get_or words j 0 ≡ w = cc in
    let longer : take j words ++ w ∷ [] ≡ take (j + 1) words = sym (take_more words j 0 inside ∙ ap (λ (z : ℕ). take j words ++ z ∷ []) word) in
    subst (λ (ws : List ℕ). Zeroes n k ws old new) longer (zero_append n k (take j words) (w ∷ []) old mid new h g)

-- Units -----------------------------------------------------------------------------------------------------------------

module _ (l : Layout) (a i : ℕ) (what : Kind) (mems : List (List Slot)) (due : IsDue l a what i mems) where
  abbrev The : Op
  The = op_at (ops_of l) a

  abbrev Now : State
  Now = state_in (buffers_of l) mems

  due_can : can_by what l The i Now ≡ true
  due_can = ap (λ (k : Kind). can_by k l The i Now) (sym due.kind) ∙ due.can

  due_next : next_of l The i Now ≡ next_by what l The i Now
  due_next = ap (λ (k : Kind). next_by k l The i Now) due.kind

-- a zero
module _ (l : Layout) (a k : ℕ) (mems : List (List Slot)) (due : IsDue l a kind.Zero 1 mems) (home : IsHome l a k) (p : Op) (is : p ≡ op_at (ops_of l) a) where
  pub zero_there : k < length (memory_at mems p.node)
  zero_there =
      subst (λ (q : Op). k < length (memory_at mems q.node)) (sym is)
      (present_within (memory_at mems (op_at (ops_of l) a).node) k
      (signed (held_at (memory_at mems (op_at (ops_of l) a).node) k)
      (sym (ap is_some (sign_is (buffers_of l) mems (Home (op_at (ops_of l) a).tensor) k (op_at (ops_of l) a).node home))
      ∙ (and_parts (nat_eq 1 1) (is_some (state_in (buffers_of l) mems (Sign (op_at (ops_of l) a).node (Home (op_at (ops_of l) a).tensor)))) (due_can l a 1 kind.Zero mems due)).1)))

  pub zero_done : (new : List (List Slot)) → Zeroes p.node k p.words mems new → DoesUnit l a 1 mems new
  zero_done new z =
      let y : Zeroes (op_at (ops_of l) a).node k (op_at (ops_of l) a).words mems new = subst (λ (q : Op). Zeroes q.node k q.words mems new) is z in
      record {
        state = y.state (buffers_of l) (Home (op_at (ops_of l) a).tensor) home ∙ sym (due_next l a 1 kind.Zero mems due);
        rooms = y.rooms;
      }

-- an alloc
module _ (l : Layout) (a k : ℕ) (mems : List (List Slot)) (due : IsDue l a kind.Alloc 1 mems) (scratch : IsScratch l a k) (p : Op) (is : p ≡ op_at (ops_of l) a) where
  pub alloc_absent : held_at (memory_at mems p.node) k ≡ None
  alloc_absent =
      subst (λ (q : Op). held_at (memory_at mems q.node) k ≡ None) (sym is)
      (unsigned (held_at (memory_at mems (op_at (ops_of l) a).node) k)
      (sym (ap (λ (o : Option ℕ). not (is_some o)) (sign_is (buffers_of l) mems (scratch_of l (op_at (ops_of l) a)) k (op_at (ops_of l) a).node scratch))
      ∙ (and_parts (nat_eq 1 1) (not (is_some (state_in (buffers_of l) mems (Sign (op_at (ops_of l) a).node (scratch_of l (op_at (ops_of l) a)))))) (due_can l a 1 kind.Alloc mems due)).1))

  pub alloc_done : k < length (memory_at mems (op_at (ops_of l) a).node) → DoesUnit l a 1 mems (changed_on (opened p.words) p.node k mems)
  alloc_done there =
      subst (λ (q : Op). DoesUnit l a 1 mems (changed_on (opened q.words) q.node k mems)) (sym is)
      (record {
        state = beginnings_open (buffers_of l) mems (op_at (ops_of l) a).node k (scratch_of l (op_at (ops_of l) a)) (op_at (ops_of l) a).words scratch (node_within mems (op_at (ops_of l) a).node k there) there
            ∙ sym (due_next l a 1 kind.Alloc mems due);
        rooms = same_rooms (opened (op_at (ops_of l) a).words) (λ s. refl) mems (op_at (ops_of l) a).node k;
      })

-- a free
module _ (l : Layout) (a k : ℕ) (mems : List (List Slot)) (due : IsDue l a kind.Free 1 mems) (scratch : IsScratch l a k) (p : Op) (is : p ≡ op_at (ops_of l) a) where
  free_held : is_some (held_at (memory_at mems (op_at (ops_of l) a).node) k) ≡ true
  free_held =
      signed (held_at (memory_at mems (op_at (ops_of l) a).node) k)
      (sym (ap is_some (sign_is (buffers_of l) mems (scratch_of l (op_at (ops_of l) a)) k (op_at (ops_of l) a).node scratch))
      ∙ (and_parts (nat_eq 1 1) (is_some (state_in (buffers_of l) mems (Sign (op_at (ops_of l) a).node (scratch_of l (op_at (ops_of l) a))))) (due_can l a 1 kind.Free mems due)).1)

  pub free_present : is_some (held_at (memory_at mems p.node) k) ≡ true
  free_present = subst (λ (q : Op). is_some (held_at (memory_at mems q.node) k) ≡ true) (sym is) free_held

  pub free_done : DoesUnit l a 1 mems (changed_on ended p.node k mems)
  free_done =
      subst (λ (q : Op). DoesUnit l a 1 mems (changed_on ended q.node k mems)) (sym is)
      (record {
        state = ends_close (buffers_of l) mems (op_at (ops_of l) a).node k (scratch_of l (op_at (ops_of l) a)) scratch
            (node_within mems (op_at (ops_of l) a).node k (present_within (memory_at mems (op_at (ops_of l) a).node) k free_held))
            ∙ sym (due_next l a 1 kind.Free mems due);
        rooms = same_rooms ended (λ s. refl) mems (op_at (ops_of l) a).node k;
      })

-- Moves -----------------------------------------------------------------------------------------------------------------

-- the word of a unit
unit_word : (words : List ℕ) (j : ℕ) (o : Option ℕ) → o ≡ slice_get words j → of_unit words (j + 1) ≡ o
unit_word words j o e = (let one : j + 1 ≡ suc j = omega arith in ap (of_unit words) one ∙ sym e)

-- a word that is moved is held in both buffers
module _ (l : Layout) (mems : List (List Slot)) (n m : ℕ) (b c : Buffer) (j k w : ℕ) (from : number_in (buffers_of l) b ≡ Some j) (to : number_in (buffers_of l) c ≡ Some k)
    (there : are_present n b m c (Some w) (state_in (buffers_of l) mems) ≡ true) where
  from_held : is_some (value_at (memory_at mems n) j w) ≡ true
  from_held = sym (ap is_some (word_is (buffers_of l) mems b j n w from)) ∙ (and_parts (is_some (state_in (buffers_of l) mems (Word n b w))) (is_some (state_in (buffers_of l) mems (Word m c w))) there).0

  to_held : is_some (value_at (memory_at mems m) k w) ≡ true
  to_held = sym (ap is_some (word_is (buffers_of l) mems c k m w to)) ∙ (and_parts (is_some (state_in (buffers_of l) mems (Word n b w))) (is_some (state_in (buffers_of l) mems (Word m c w))) there).1

  number_read : (v : ℕ) → value_at (memory_at mems n) j w ≡ Some v → number_at (state_in (buffers_of l) mems) (Word n b w) ≡ v
  number_read v e = ap (λ (o : Option ℕ). unwrap_or o 0) (word_is (buffers_of l) mems b j n w from ∙ e)

  to_node : m < length mems
  to_node = node_within mems m k (value_slot (memory_at mems m) k w to_held)

  word_copied : (v : ℕ) → value_at (memory_at mems n) j w ≡ Some v
      → state_in (buffers_of l) (changed_on (written w v) m k mems) ≡ overwritten m c (w ∷ []) (number_at (state_in (buffers_of l) mems) (Word n b w)) (state_in (buffers_of l) mems)
  word_copied v e =
      let x = the_value (value_at (memory_at mems m) k w) to_held in
      writes_overwrite (buffers_of l) mems m k c w x.0 v to to_node x.1 ∙ ap (λ (z : ℕ). overwritten m c (w ∷ []) z (state_in (buffers_of l) mems)) (sym (number_read v e))

  word_folded : (v : ℕ) → value_at (memory_at mems n) j w ≡ Some v
      → state_in (buffers_of l) (changed_on (folded w v) m k mems) ≡ added_to m c (w ∷ []) (number_at (state_in (buffers_of l) mems) (Word n b w)) (state_in (buffers_of l) mems)
  word_folded v e =
      let x = the_value (value_at (memory_at mems m) k w) to_held in
      folds_add (buffers_of l) mems m k c w x.0 v to to_node x.1 ∙ ap (λ (z : ℕ). added_to m c (w ∷ []) z (state_in (buffers_of l) mems)) (sym (number_read v e))

-- a copy
module _ (l : Layout) (a u j k : ℕ) (mems : List (List Slot)) (due : IsDue l a kind.Copy (u + 1) mems) (home : IsHome l a j) (scratch : IsScratch l a k) (p : Op) (is : p ≡ op_at (ops_of l) a) where
  pub copy_none : None ≡ slice_get p.words u → DoesUnit l a (u + 1) mems mems
  copy_none e =
      let none : of_unit (op_at (ops_of l) a).words (u + 1) ≡ None = unit_word (op_at (ops_of l) a).words u None (e ∙ ap (λ (q : Op). slice_get q.words u) is) in
      let can = due_can l a (u + 1) kind.Copy mems due in
      let never : are_present (op_at (ops_of l) a).other (Home (op_at (ops_of l) a).tensor) (op_at (ops_of l) a).node (scratch_of l (op_at (ops_of l) a)) None (state_in (buffers_of l) mems) ≡ true =
      sym (ap (λ (o : Option ℕ). are_present (op_at (ops_of l) a).other (Home (op_at (ops_of l) a).tensor) (op_at (ops_of l) a).node (scratch_of l (op_at (ops_of l) a)) o (state_in (buffers_of l) mems)) none) ∙ can in
      absurd (cc)

  module _ (w : ℕ) (e : Some w ≡ slice_get p.words u) where
    copy_word : of_unit (op_at (ops_of l) a).words (u + 1) ≡ Some w
    copy_word = unit_word (op_at (ops_of l) a).words u (Some w) (e ∙ ap (λ (q : Op). slice_get q.words u) is)

    copy_can : are_present (op_at (ops_of l) a).other (Home (op_at (ops_of l) a).tensor) (op_at (ops_of l) a).node (scratch_of l (op_at (ops_of l) a)) (Some w) (state_in (buffers_of l) mems) ≡ true
    copy_can =
        sym (ap (λ (o : Option ℕ). are_present (op_at (ops_of l) a).other (Home (op_at (ops_of l) a).tensor) (op_at (ops_of l) a).node (scratch_of l (op_at (ops_of l) a)) o (state_in (buffers_of l) mems)) copy_word)
        ∙ due_can l a (u + 1) kind.Copy mems due

    pub copy_from : is_some (value_at (memory_at mems p.other) j w) ≡ true
    copy_from = subst (λ (q : Op). is_some (value_at (memory_at mems q.other) j w) ≡ true) (sym is)
        (from_held l mems (op_at (ops_of l) a).other (op_at (ops_of l) a).node (Home (op_at (ops_of l) a).tensor) (scratch_of l (op_at (ops_of l) a)) j k w home scratch copy_can)

    pub copy_to : is_some (value_at (memory_at mems p.node) k w) ≡ true
    copy_to = subst (λ (q : Op). is_some (value_at (memory_at mems q.node) k w) ≡ true) (sym is)
        (to_held l mems (op_at (ops_of l) a).other (op_at (ops_of l) a).node (Home (op_at (ops_of l) a).tensor) (scratch_of l (op_at (ops_of l) a)) j k w home scratch copy_can)

    pub copy_done : (v : ℕ) → value_at (memory_at mems p.other) j w ≡ Some v → DoesUnit l a (u + 1) mems (changed_on (written w v) p.node k mems)
    copy_done v r =
        let read : value_at (memory_at mems (op_at (ops_of l) a).other) j w ≡ Some v = subst (λ (q : Op). value_at (memory_at mems q.other) j w ≡ Some v) is r in
        subst (λ (q : Op). DoesUnit l a (u + 1) mems (changed_on (written w v) q.node k mems)) (sym is)
        (record {
          state = word_copied l mems (op_at (ops_of l) a).other (op_at (ops_of l) a).node (Home (op_at (ops_of l) a).tensor) (scratch_of l (op_at (ops_of l) a)) j k w home scratch copy_can v read
              ∙ sym (due_next l a (u + 1) kind.Copy mems due ∙ ap (λ (o : Option ℕ). unit.copied (op_at (ops_of l) a).other (Home (op_at (ops_of l) a).tensor) (op_at (ops_of l) a).node (scratch_of l (op_at (ops_of l) a)) o (state_in (buffers_of l) mems)) copy_word);
          rooms = same_rooms (written w v) (λ s. refl) mems (op_at (ops_of l) a).node k;
        })

-- a fold
module _ (l : Layout) (a u j k : ℕ) (mems : List (List Slot)) (due : IsDue l a kind.Fold (u + 1) mems) (home : IsHome l a j) (scratch : IsScratch l a k) (p : Op) (is : p ≡ op_at (ops_of l) a) where
  pub fold_none : None ≡ slice_get p.words u → DoesUnit l a (u + 1) mems mems
  fold_none e =
      let none : of_unit (op_at (ops_of l) a).words (u + 1) ≡ None = unit_word (op_at (ops_of l) a).words u None (e ∙ ap (λ (q : Op). slice_get q.words u) is) in
      let can = due_can l a (u + 1) kind.Fold mems due in
      let never : are_present (op_at (ops_of l) a).node (scratch_of l (op_at (ops_of l) a)) (op_at (ops_of l) a).other (Home (op_at (ops_of l) a).tensor) None (state_in (buffers_of l) mems) ≡ true =
      sym (ap (λ (o : Option ℕ). are_present (op_at (ops_of l) a).node (scratch_of l (op_at (ops_of l) a)) (op_at (ops_of l) a).other (Home (op_at (ops_of l) a).tensor) o (state_in (buffers_of l) mems)) none) ∙ can in
      absurd (cc)

  module _ (w : ℕ) (e : Some w ≡ slice_get p.words u) where
    fold_word : of_unit (op_at (ops_of l) a).words (u + 1) ≡ Some w
    fold_word = unit_word (op_at (ops_of l) a).words u (Some w) (e ∙ ap (λ (q : Op). slice_get q.words u) is)

    fold_can : are_present (op_at (ops_of l) a).node (scratch_of l (op_at (ops_of l) a)) (op_at (ops_of l) a).other (Home (op_at (ops_of l) a).tensor) (Some w) (state_in (buffers_of l) mems) ≡ true
    fold_can =
        sym (ap (λ (o : Option ℕ). are_present (op_at (ops_of l) a).node (scratch_of l (op_at (ops_of l) a)) (op_at (ops_of l) a).other (Home (op_at (ops_of l) a).tensor) o (state_in (buffers_of l) mems)) fold_word)
        ∙ due_can l a (u + 1) kind.Fold mems due

    pub fold_from : is_some (value_at (memory_at mems p.node) k w) ≡ true
    fold_from = subst (λ (q : Op). is_some (value_at (memory_at mems q.node) k w) ≡ true) (sym is)
        (from_held l mems (op_at (ops_of l) a).node (op_at (ops_of l) a).other (scratch_of l (op_at (ops_of l) a)) (Home (op_at (ops_of l) a).tensor) k j w scratch home fold_can)

    pub fold_to : is_some (value_at (memory_at mems p.other) j w) ≡ true
    fold_to = subst (λ (q : Op). is_some (value_at (memory_at mems q.other) j w) ≡ true) (sym is)
        (to_held l mems (op_at (ops_of l) a).node (op_at (ops_of l) a).other (scratch_of l (op_at (ops_of l) a)) (Home (op_at (ops_of l) a).tensor) k j w scratch home fold_can)

    pub fold_done : (v : ℕ) → value_at (memory_at mems p.node) k w ≡ Some v → DoesUnit l a (u + 1) mems (changed_on (folded w v) p.other j mems)
    fold_done v r =
        let read : value_at (memory_at mems (op_at (ops_of l) a).node) k w ≡ Some v = subst (λ (q : Op). value_at (memory_at mems q.node) k w ≡ Some v) is r in
        subst (λ (q : Op). DoesUnit l a (u + 1) mems (changed_on (folded w v) q.other j mems)) (sym is)
        (record {
          state = word_folded l mems (op_at (ops_of l) a).node (op_at (ops_of l) a).other (scratch_of l (op_at (ops_of l) a)) (Home (op_at (ops_of l) a).tensor) k j w scratch home fold_can v read
              ∙ sym (due_next l a (u + 1) kind.Fold mems due ∙ ap (λ (o : Option ℕ). unit.folded (op_at (ops_of l) a).node (scratch_of l (op_at (ops_of l) a)) (op_at (ops_of l) a).other (Home (op_at (ops_of l) a).tensor) o (state_in (buffers_of l) mems)) fold_word);
          rooms = same_rooms (folded w v) (λ s. refl) mems (op_at (ops_of l) a).other j;
        })
