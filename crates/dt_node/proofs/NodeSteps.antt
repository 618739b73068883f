-- One item after another on a node.
use Rattle.std.proofs.Common.{◌≡◌, ℕ, ◌+◌, ◌<◌, ◌&&◌, ◌↔◌, Bool, true, List, [], ◌∷◌, length, Option, Some, None, refl, sym, ap, ◌∙◌, subst, arith}
use Rattle.std.specs.Prelude.{IsTrue, is_some, option_and_then, slice_get}
use Rattle.std.specs.List.{AllByRecursion}
use Rattle.std.proofs.lemmas.Bool.{ltb-true}
use Rattle.std.proofs.lemmas.List.{length-map}
use Rattle.dt_base.specs.Ranges.{below}
use Rattle.dt_mem.specs.Memory.{Slot, value_at}
use Rattle.dt_model.specs.Positions.{StoredTensor, coords_at, tensor_at}
use Rattle.dt_model.proofs.ShapeFacts.{both}
use Rattle.dt_runs.specs.Sets.{contains}
use Rattle.dt_runs.proofs.BelowSets.{contains-below}
use Rattle.dt_runs.proofs.SetLemmas.{contains-filter}
use Rattle.dt_nest.specs.declared.progress.Visit.{Visit}
use Rattle.dt_nest.specs.declared.progress.Visit.TheVariants as v
use Rattle.dt_nest.specs.Schedule.{Schedule}
use Rattle.dt_nest.specs.World.{world_of}
use Rattle.dt_nest.specs.Lawful.{IsLawful}
use Rattle.dt_nest.specs.Run.{Run, Goes, SameNest, run_over}
use Rattle.dt_nest.specs.Visits.{Item, IsReset, IsVisit, needed_of, touches, visits_of}
use Rattle.std.specs.List.{list_any}
use Rattle.dt_nest.specs.Unit.{State, Word, can_do, unit_of}
use Rattle.dt_nest.proofs.Truth.{below_or_past}
use Rattle.dt_bounds.specs.TaskUnits.{HoldsNeeded, TasksAreDefined, all_can, units_after}
use Rattle.dt_leaf.specs.NodeWords.{CanDoLast, GoesOver, IsShortItem, ItemsAreShort, LeavesRest, after_last, cells_in, frame_of}
use Rattle.dt_node.specs.Nodes.{HoldsAll, HoldsBelow, IsReady}

-- Numbers below a bound ------------------------------------------------------------------------------------------------

-- a fact of the numbers below n and of n
pub one_more : (P : ℕ → Type 0) (n : ℕ) → ((v : ℕ) → v < n → P v) → P n → (v : ℕ) → v < n + 1 → P v
one_more P n h k v l = below_or_past (P v) v n (h v) (λ m. (let e : n ≡ v = omega arith in subst P e k))

-- A buffer that a slot names has the words that the slot's tensor has.
pub named_below : (r : Bool) (mem : List Slot) (slots : List ℕ) (t b n : ℕ) → slice_get slots t ≡ Some b → (IsTrue r ↔ ((w : ℕ) → w < n → is_some (value_at mem b w) ≡ true)) → IsTrue r ↔ HoldsBelow (cells_in mem slots) t n
named_below r mem slots t b n e h = (λ p w l. same w ∙ h.0 p w l, λ k. h.1 (λ w l. sym (same w) ∙ k w l))
  where
    same : (w : ℕ) → is_some (cells_in mem slots (Word t w)) ≡ is_some (value_at mem b w)
    same w = ap (λ (o : Option ℕ). is_some (option_and_then (λ c. value_at mem c w) o)) e

-- The next item --------------------------------------------------------------------------------------------------------

-- the item that a run gave, which was the first that was left
pub some_item : (old new : Run) (answer : Visit) → Goes old (Some answer) new → (item : Item) × (old.left ≡ item ∷ new.left) × (new.last ≡ Some item)
some_item old new (v.Reset work) h = (IsReset work, h.0, h.1)
some_item old new v.Leaf h = (IsVisit h.0, h.1, h.2)

module _ (stored : List StoredTensor) (s : Schedule) (old new : Run) (state : State) (ready : IsReady stored s old state) (same : SameNest old new) where
  pub goes_over : GoesOver new s stored
  goes_over = (same.0 ∙ ready.over.0, same.1 ∙ ready.over.1, ready.over.2)

  -- where none was left none is
  pub none_ready : Goes old None new → IsReady stored s new state
  none_ready h = record { over = goes_over; short = subst (AllByRecursion IsShortItem) (sym h.2) tt; can = ap (λ (l : List Item). all_can stored s l state) h.2 }

  pub none_after : Goes old None new → units_after stored s new.left state ≡ units_after stored s old.left state
  none_after h = ap (λ (l : List Item). units_after stored s l state) (h.2 ∙ sym h.0)

  module _ (answer : Visit) (goes : Goes old (Some answer) new) where
    abbrev It : Item
    It = (some_item old new answer goes).0

    can_all : (can_do stored s It state && all_can stored s new.left (unit_of stored s It state)) ≡ true
    can_all = subst (λ (l : List Item). all_can stored s l state ≡ true) (some_item old new answer goes).1 ready.can

    short_all : AllByRecursion IsShortItem (It ∷ new.left)
    short_all = subst (AllByRecursion IsShortItem) (some_item old new answer goes).1 ready.short

    -- the item can be done
    pub can_last : CanDoLast stored s state new.last
    can_last = subst (CanDoLast stored s state) (sym (some_item old new answer goes).2) ((both (can_do stored s It state) (all_can stored s new.left (unit_of stored s It state)) can_all).0, short_all.0)

    module _ (after : State) (done : after ≡ after_last stored s new.last state) where
      unit_is : after ≡ unit_of stored s It state
      unit_is = done ∙ ap (λ (o : Option Item). after_last stored s o state) (some_item old new answer goes).2

      -- and then the rest can
      pub some_ready : IsReady stored s new after
      some_ready = record {
        over = goes_over;
        short = short_all.1;
        can = ap (λ (x : State). all_can stored s new.left x) unit_is ∙ (both (can_do stored s It state) (all_can stored s new.left (unit_of stored s It state)) can_all).1;
      }

      pub some_after : units_after stored s new.left after ≡ units_after stored s old.left state
      some_after = ap (λ (x : State). units_after stored s new.left x) unit_is ∙ ap (λ (l : List Item). units_after stored s l state) (sym (some_item old new answer goes).1)

      pub some_fewer : length new.left < length old.left
      some_fewer = let e = ap length (some_item old new answer goes).1 in omega arith

-- The whole run --------------------------------------------------------------------------------------------------------

-- a needed position is one of the tensor's
needed_below : (stored : List StoredTensor) (s : Schedule) (t w : ℕ) (p : List ℕ) → contains (needed_of stored s t p) w ≡ true → w < length (tensor_at stored t).coords
unfolding needed_of
needed_below stored s t w p e =
    ltb-true w (length (tensor_at stored t).coords)
    (sym (contains-below (length (tensor_at stored t).coords) w)
    ∙ (both (contains (below (length (tensor_at stored t).coords)) w) (list_any (touches (world_of stored s) s.derived t (coords_at (tensor_at stored t) w)) (visits_of stored s p))
    (sym (contains-filter (λ q. list_any (touches (world_of stored s) s.derived t (coords_at (tensor_at stored t) q)) (visits_of stored s p)) (below (length (tensor_at stored t).coords)) w) ∙ e)).0)

-- who holds all holds what is needed
pub holds_needed : (stored : List StoredTensor) (s : Schedule) (p : List ℕ) (state : State) → HoldsAll stored s state → HoldsNeeded stored s p state
holds_needed stored s p state h = record { words = λ t w l e. h.words t l w (needed_below stored s t w p e); works = λ u k x e l. h.works u x e k l; signs = h.signs }

-- so a run can begin
pub starts : (stored : List StoredTensor) (s : Schedule) (state : State) (r : Run) → r ≡ run_over stored s [] → length stored ≡ length s.tensors → IsLawful s → HoldsAll stored s state → TasksAreDefined → ItemsAreShort → IsReady stored s r state
starts stored s state r e n lawful h defined short =
    subst (λ (x : Run). IsReady stored s x state) (sym e)
    (record { over = (refl, refl, n); short = short stored s [] lawful; can = defined stored s [] state lawful (holds_needed stored s [] state h) })

pub rest_more : (slots : List ℕ) (a b c : List Slot) → LeavesRest slots a b → LeavesRest slots b c → LeavesRest slots a c
rest_more slots a b c h k = record { layout = k.layout ∙ h.layout; others = λ i n. k.others i n ∙ h.others i n }

-- as many buffers as before
pub rest_length : (slots : List ℕ) (a b : List Slot) → LeavesRest slots a b → length b ≡ length a
rest_length slots a b h = sym (length-map b frame_of) ∙ ap length h.layout ∙ length-map a frame_of
