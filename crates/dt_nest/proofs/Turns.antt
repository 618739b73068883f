-- What a step of the inner loops adds to a run.
use Rattle.std.proofs.Common.{◌≡◌, ℕ, suc, ◌+◌, ◌-◌, ◌<◌, ◌≤◌, Bool, true, false, List, [], ◌∷◌, ◌++◌, append_assoc, length, drop, Option, Some, None, option_map, refl, sym, ap, ◌∙◌, subst, arith}
use Rattle.std.specs.Prelude.{if◌then◌else◌, MatchBool, not, nat_lt, slice_index, slice_set}
use Rattle.std.specs.List.{AllByRecursion, flat_map, range_with_len}
use Rattle.std.proofs.Math.ListN.{set}
use Rattle.std.proofs.lemmas.Bool.{ltb-true, ltb-false, le-ltb}
use Rattle.std.proofs.lemmas.List.{get_or-set_same, set-get_or, set_comm}
use Rattle.dt_nest.specs.declared.loops.Walk.{Walk}
use Rattle.dt_nest.specs.declared.loops.Pair.{Pair}
use Rattle.dt_nest.specs.declared.derivations.Derived.{Derived}
use Rattle.dt_nest.specs.declared.inner_loops.InnerLoop.{InnerLoop}
use Rattle.dt_nest.specs.Lawful.{AreLoops, is_replaced}
use Rattle.dt_nest.specs.Tree.{Tree, Loop, Pre, Leaf, leaf_count, is_stored_kernel, is_kernel_leaf}
use Rattle.dt_nest.specs.Visits.{Scope, entered, Item, Tests, tree_visits, substituted_visits, leaf_node}
use Rattle.dt_nest.specs.Search.{cleared, AreZero, Lacks, HaveSlots, item_at, pairs_at, step_of, after, IsAt}
use Rattle.dt_nest.proofs.Each.{all_append}
use Rattle.dt_nest.specs.InnerLoops.{is_plain, inner_loops_of, last_inner_loops, last_node, turned}
use Rattle.dt_nest.proofs.Slots.{cleared_other, length-cleared, zero_cleared, cleared_zero, zero_set, zero_kept, zero_before, set_again}
use Rattle.dt_nest.proofs.Moves.{step_base, second_item, second_after, second_stands, second_stood}
use Rattle.dt_nest.proofs.LoopMoves.{later, after_loop, item_loop, stood_loop}

-- Slots ------------------------------------------------------------------------------------------------------------------

-- the slots of other loops are cleared before or after a slot is set
cleared-set : (tree : Tree) (v i : ℕ) (slots : List ℕ) → Lacks v tree → cleared tree (slice_set slots v i) ≡ slice_set (cleared tree slots) v i
cleared-set (Loop u n walk body) v i slots l =
    ap (λ (s : List ℕ). set s u 0) (cleared-set body v i slots l.1) ∙ set_comm (cleared body slots) v u i 0 l.0
cleared-set (Pre work more p q) v i slots l = ap (cleared q) (cleared-set p v i slots l.0) ∙ cleared-set q v i (cleared p slots) l.1
cleared-set (Leaf lhs terms guards kernel) v i slots l = refl

-- the slots with those of inner loops at 0
abbrev zeroed : List InnerLoop → List ℕ → List ℕ
zeroed [] slots = slots
zeroed (w ∷ ws) slots = slice_set (zeroed ws slots) w.var 0

zeroed-last : (ws : List InnerLoop) (w : InnerLoop) (slots : List ℕ) → zeroed (ws ++ w ∷ []) slots ≡ zeroed ws (slice_set slots w.var 0)
zeroed-last [] w slots = refl
zeroed-last (u ∷ ws) w slots = ap (λ (s : List ℕ). set s u.var 0) (zeroed-last ws w slots)

-- the inner loops of loops down to a leaf are all its loops
zeroed-cleared : (tree : Tree) (slots : List ℕ) (room : ℕ) → is_plain tree ≡ true → HaveSlots tree room → zeroed (inner_loops_of tree) slots ≡ cleared tree slots
zeroed-cleared (Loop v n None body) slots room p r =
    zeroed-last (inner_loops_of body) (record { var = v; last = n - 1 }) slots ∙ zeroed-cleared body (slice_set slots v 0) room p r.2 ∙ cleared-set body v 0 slots r.1
zeroed-cleared (Loop v n (Some walk) body) slots room p r = absurd (cc)
zeroed-cleared (Pre work more a b) slots room p r = absurd (cc)
zeroed-cleared (Leaf lhs terms guards kernel) slots room p r = refl

-- each loop of a tree has a slot
all_within : (tree : Tree) (room : ℕ) → HaveSlots tree room → AllByRecursion (λ w. w.var < room) (inner_loops_of tree)
all_within (Loop v n walk body) room r = all_append (λ (w : InnerLoop). w.var < room) (inner_loops_of body) (record { var = v; last = n - 1 } ∷ []) (all_within body room r.2) (r.0, tt)
all_within (Pre work more p q) room r = tt
all_within (Leaf lhs terms guards kernel) room r = tt

-- an inner loop around others turns where none of them can
abbrev turned_last : Option (List ℕ) → List InnerLoop → InnerLoop → List ℕ → Option (List ℕ)
turned_last (Some s) ws w slots = Some s
turned_last None ws w slots = if nat_lt (slice_index slots w.var) w.last then Some (zeroed ws (slice_set slots w.var (slice_index slots w.var + 1))) else None

turned-last : (ws : List InnerLoop) (w : InnerLoop) (slots : List ℕ) → turned (ws ++ w ∷ []) slots ≡ turned_last (turned ws slots) ws w slots
turned-last [] w slots = refl
turned-last (u ∷ ws) w slots =
    go (nat_lt (slice_index slots u.var) u.last) (turned ws slots) refl (turned-last ws w slots)
  where
    step : (b : Bool) → option_map (λ s. slice_set s u.var 0) (if b then Some (zeroed ws (slice_set slots w.var (slice_index slots w.var + 1))) else None)
        ≡ (if b then Some (zeroed (u ∷ ws) (slice_set slots w.var (slice_index slots w.var + 1))) else None)
    step true = refl
    step false = refl

    go : (b : Bool) (o : Option (List ℕ)) → turned ws slots ≡ o → turned (ws ++ w ∷ []) slots ≡ turned_last (turned ws slots) ws w slots
        → (if b then Some (slice_set slots u.var (slice_index slots u.var + 1)) else option_map (λ s. slice_set s u.var 0) (turned (ws ++ w ∷ []) slots))
        ≡ turned_last (if b then Some (slice_set slots u.var (slice_index slots u.var + 1)) else option_map (λ s. slice_set s u.var 0) (turned ws slots)) (u ∷ ws) w slots
    go true o e h = refl
    go false None e h =
        ap (option_map (λ s. slice_set s u.var 0)) (h ∙ ap (λ (o : Option (List ℕ)). turned_last o ws w slots) e)
        ∙ step (nat_lt (slice_index slots w.var) w.last)
        ∙ sym (ap (λ (o : Option (List ℕ)). turned_last (option_map (λ s. slice_set s u.var 0) o) (u ∷ ws) w slots) e)
    go false (Some s) e h =
        ap (option_map (λ s. slice_set s u.var 0)) (h ∙ ap (λ (o : Option (List ℕ)). turned_last o ws w slots) e)
        ∙ sym (ap (λ (o : Option (List ℕ)). turned_last (option_map (λ s. slice_set s u.var 0) o) (u ∷ ws) w slots) e)

-- Places -----------------------------------------------------------------------------------------------------------------

-- a plain tree is no leaf with a kernel, and has one leaf
plain_kernel : (tree : Tree) → is_plain tree ≡ true → is_kernel_leaf tree ≡ false
plain_kernel (Loop v n walk body) p = refl
plain_kernel (Pre work more a b) p = refl
plain_kernel (Leaf lhs terms guards kernel) p = go (is_stored_kernel kernel) p
  where
    go : (b : Bool) → not b ≡ true → b ≡ false
    go true e = absurd (cc)
    go false e = refl

plain_leaves : (tree : Tree) → is_plain tree ≡ true → leaf_count tree ≡ 1
plain_leaves (Loop v n None body) p = plain_leaves body p
plain_leaves (Loop v n (Some walk) body) p = absurd (cc)
plain_leaves (Pre work more a b) p = absurd (cc)
plain_leaves (Leaf lhs terms guards kernel) p = refl

-- a tree has a leaf
pub some_leaf : (tree : Tree) → 0 < leaf_count tree
some_leaf (Loop v n walk body) = some_leaf body
some_leaf (Pre work more p q) = let l = some_leaf q in omega (arith, l)
some_leaf (Leaf lhs terms guards kernel) = omega arith

-- a run that has been at a plain tree's leaf can stand at its first one
first_stand : (tree : Tree) (old slots : List ℕ) → is_plain tree ≡ true → IsAt tree old 0 → AreZero tree slots → IsAt tree slots 0
first_stand (Loop v n None body) old slots p a z =
    let plain = plain_kernel body p in
    let stood = stood_loop None v n body old 0 plain a in
    (subst (λ (b : Bool). MatchBool b (slice_index slots v ≡ 0) (slice_index slots v < n)) (sym plain) (omega (arith, stood.0, z.0)), first_stand body old slots p stood.1 z.1)
first_stand (Loop v n (Some walk) body) old slots p a z = absurd (cc)
first_stand (Pre work more b c) old slots p a z = absurd (cc)
first_stand (Leaf lhs terms guards kernel) old slots p a z = refl

-- Items ------------------------------------------------------------------------------------------------------------------

-- an item, where there is one
abbrev pub given : Bool → Item → List Item
given true item = item ∷ []
given false item = []

module _ (t : Tests) (takes : (v : ℕ) (pairs : List Pair) (slots : List ℕ) → t.takes None v pairs slots ≡ true) where
  -- what a step reached
  pub record Turns (tree : Tree) (scope : Scope) (path old new : List ℕ) (leaf : ℕ) : Type 0 where
    pub items : after t tree scope old path leaf ≡ given (t.holds (last_node tree) scope.pairs new) (item_at t tree scope new leaf) ++ after t tree scope new path leaf
    pub stands : IsAt tree new leaf
    pub same : cleared tree new ≡ cleared tree old

  -- the body of a loop has a step
  turns_body : (walk : Option Walk) (v n : ℕ) (body : Tree) (scope : Scope) (path old new : List ℕ) (leaf : ℕ) → is_kernel_leaf body ≡ false → Lacks v body → IsAt (Loop v n walk body) old leaf
      → Turns body (entered scope v) (drop 1 path) old new leaf → Turns (Loop v n walk body) scope path old new leaf
  turns_body walk v n body scope path old new leaf plain lacks a h =
      let slot : slice_index new v ≡ slice_index old v = sym (cleared_other body v new lacks) ∙ ap (λ (l : List ℕ). slice_index l v) h.same ∙ cleared_other body v old lacks in
      let stood = stood_loop walk v n body old leaf plain a in
      record {
        items =
            after_loop t walk v n body scope path old leaf plain
            ∙ ap (λ (l : List Item). l ++ later t walk v n body scope path (cleared body old) (slice_index old v)) h.items
            ∙ append_assoc (given (t.holds (last_node body) scope.pairs new) (item_at t body (entered scope v) new leaf)) (after t body (entered scope v) new (drop 1 path) leaf) (later t walk v n body scope path (cleared body old) (slice_index old v))
            ∙ ap (λ (i : Item). given (t.holds (last_node body) scope.pairs new) i ++ (after t body (entered scope v) new (drop 1 path) leaf ++ later t walk v n body scope path (cleared body old) (slice_index old v))) (sym (item_loop t walk v n body scope new leaf plain))
            ∙ ap (λ (l : List ℕ). given (t.holds (last_node body) scope.pairs new) (item_at t (Loop v n walk body) scope new leaf) ++ (after t body (entered scope v) new (drop 1 path) leaf ++ later t walk v n body scope path l (slice_index old v))) (sym h.same)
            ∙ ap (λ (x : ℕ). given (t.holds (last_node body) scope.pairs new) (item_at t (Loop v n walk body) scope new leaf) ++ (after t body (entered scope v) new (drop 1 path) leaf ++ later t walk v n body scope path (cleared body new) x)) (sym slot)
            ∙ ap (λ (l : List Item). given (t.holds (last_node body) scope.pairs new) (item_at t (Loop v n walk body) scope new leaf) ++ l) (sym (after_loop t walk v n body scope path new leaf plain));
        stands = (subst (λ (b : Bool). MatchBool b (slice_index new v ≡ 0) (slice_index new v < n)) (sym plain) (omega (arith, slot, stood.0)), h.stands);
        same = ap (λ (l : List ℕ). set l v 0) h.same;
      }

  -- the visits of a plain loop
  plain_visits : (v n : ℕ) (body : Tree) (scope : Scope) (slots : List ℕ) → is_kernel_leaf body ≡ false
      → tree_visits t (Loop v n None body) scope slots [] ≡ flat_map (step_of t None v body scope slots []) (range_with_len 0 n)
  plain_visits v n body scope slots plain =
      ap (λ (b : Bool). if b then substituted_visits t None v n body scope slots else flat_map (step_of t None v body scope slots []) (range_with_len 0 n)) plain

  -- one value of a plain loop
  plain_step : (v : ℕ) (body : Tree) (scope : Scope) (base : List ℕ) (i : ℕ) → step_of t None v body scope base [] i ≡ tree_visits t body (entered scope v) (slice_set base v i) []
  plain_step v body scope base i = ap (λ (b : Bool). if b then tree_visits t body (entered scope v) (slice_set base v i) [] else []) (takes v scope.pairs (slice_set base v i))

  -- the items of the values of a loop from one on
  first_of : (f : ℕ → List Item) (a n : ℕ) → a < n → flat_map f (range_with_len a (n - a)) ≡ f a ++ flat_map f (range_with_len (a + 1) (n - (a + 1)))
  first_of f a n l = let k : n - a ≡ suc (n - (a + 1)) = omega arith in ap (λ (m : ℕ). flat_map f (range_with_len a m)) k

  -- the first leaf of a plain tree, and what comes after it
  plain_first : (tree : Tree) (scope : Scope) (old slots : List ℕ) → is_plain tree ≡ true → IsAt tree old 0 → AreZero tree slots
      → tree_visits t tree scope slots [] ≡ given (t.holds (last_node tree) scope.pairs slots) (item_at t tree scope slots 0) ++ after t tree scope slots [] 0
  plain_first (Loop v n None body) scope old slots p a z =
      let plain = plain_kernel body p in
      let stood = stood_loop None v n body old 0 plain a in
      let some : 0 < n = omega (arith, stood.0) in
      let whole : n ≡ n - 0 = omega arith in
      let here : slice_set slots v 0 ≡ slots = ap (λ (k : ℕ). set slots v k) (sym z.0) ∙ set-get_or slots v 0 in
      let rest : flat_map (step_of t None v body scope slots []) (range_with_len 1 (n - 1)) ≡ later t None v n body scope [] (cleared body slots) (slice_index slots v) =
      ap (λ (x : ℕ). flat_map (step_of t None v body scope slots []) (range_with_len (x + 1) (n - (x + 1)))) (sym z.0)
      ∙ ap (λ (l : List ℕ). flat_map (step_of t None v body scope l []) (range_with_len (slice_index slots v + 1) (n - (slice_index slots v + 1)))) (sym (cleared_zero body slots z.1)) in
      plain_visits v n body scope slots plain
      ∙ ap (λ (m : ℕ). flat_map (step_of t None v body scope slots []) (range_with_len 0 m)) whole
      ∙ first_of (step_of t None v body scope slots []) 0 n some
      ∙ ap (λ (l : List Item). l ++ flat_map (step_of t None v body scope slots []) (range_with_len 1 (n - 1))) (plain_step v body scope slots 0 ∙ ap (λ (l : List ℕ). tree_visits t body (entered scope v) l []) here ∙ plain_first body (entered scope v) old slots p stood.1 z.1)
      ∙ append_assoc (given (t.holds (last_node body) scope.pairs slots) (item_at t body (entered scope v) slots 0)) (after t body (entered scope v) slots [] 0) (flat_map (step_of t None v body scope slots []) (range_with_len 1 (n - 1)))
      ∙ ap (λ (l : List Item). given (t.holds (last_node body) scope.pairs slots) (item_at t body (entered scope v) slots 0) ++ (after t body (entered scope v) slots [] 0 ++ l)) rest
      ∙ ap (λ (i : Item). given (t.holds (last_node body) scope.pairs slots) i ++ (after t body (entered scope v) slots [] 0 ++ later t None v n body scope [] (cleared body slots) (slice_index slots v))) (sym (item_loop t None v n body scope slots 0 plain))
      ∙ ap (λ (l : List Item). given (t.holds (last_node body) scope.pairs slots) (item_at t (Loop v n None body) scope slots 0) ++ l) (sym (after_loop t None v n body scope [] slots 0 plain))
  plain_first (Loop v n (Some walk) body) scope old slots p a z = absurd (cc)
  plain_first (Pre work more b c) scope old slots p a z = absurd (cc)
  plain_first (Leaf lhs terms guards kernel) scope old slots p a z = go (t.holds (leaf_node lhs terms guards kernel) scope.pairs slots)
    where
      go : (b : Bool) → (if b then item_at t (Leaf lhs terms guards kernel) scope slots 0 ∷ [] else []) ≡ given b (item_at t (Leaf lhs terms guards kernel) scope slots 0) ++ []
      go true = refl
      go false = refl

  -- what the inner loops of a plain tree do
  abbrev Turning : Tree → Scope → List ℕ → Option (List ℕ) → Type 0
  Turning tree scope old None = after t tree scope old [] 0 ≡ []
  Turning tree scope old (Some new) = Turns tree scope [] old new 0

  plain_turns : (tree : Tree) (scope : Scope) (old : List ℕ) → is_plain tree ≡ true → HaveSlots tree (length old) → IsAt tree old 0 → (o : Option (List ℕ)) → turned (inner_loops_of tree) old ≡ o → Turning tree scope old o
  plain_turns (Loop v n None body) scope old p r a o e =
      inner (turned (inner_loops_of body) old) refl (plain_turns body (entered scope v) old p r.2 stood.1 (turned (inner_loops_of body) old) refl)
      (sym (turned-last (inner_loops_of body) w old) ∙ e)
    where
      w : InnerLoop
      w = record { var = v; last = n - 1 }

      plain : is_kernel_leaf body ≡ false
      plain = plain_kernel body p

      stood : (slice_index old v < n) × IsAt body old 0
      stood = stood_loop None v n body old 0 plain a

      -- the slots at the loop's next value
      next : List ℕ
      next = slice_set (cleared body old) v (slice_index old v + 1)

      next_is : zeroed (inner_loops_of body) (slice_set old v (slice_index old v + 1)) ≡ next
      next_is = zeroed-cleared body (slice_set old v (slice_index old v + 1)) (length old) p r.2 ∙ cleared-set body v (slice_index old v + 1) old r.1

      next_slot : slice_index next v ≡ slice_index old v + 1
      next_slot = let b : v < length (cleared body old) = omega (arith, r.0, length-cleared body old) in get_or-set_same (cleared body old) v (slice_index old v + 1) 0 b

      next_zero : AreZero body next
      next_zero = zero_set body v (slice_index old v + 1) (cleared body old) r.1 (zero_cleared body old r.2)

      goes_on : after t body (entered scope v) old [] 0 ≡ [] → slice_index old v + 1 < n → Turns (Loop v n None body) scope [] old next 0
      goes_on over more =
          let base : step_of t None v body scope (cleared body old) [] ≡ step_of t None v body scope (cleared body next) [] =
          sym (step_base t None v body scope [] (cleared body old) (slice_index old v + 1)) ∙ ap (λ (l : List ℕ). step_of t None v body scope l []) (sym (cleared_zero body next next_zero)) in
          let rest : flat_map (step_of t None v body scope (cleared body old) []) (range_with_len (slice_index old v + 1 + 1) (n - (slice_index old v + 1 + 1))) ≡ later t None v n body scope [] (cleared body next) (slice_index next v) =
          ap (λ (f : ℕ → List Item). flat_map f (range_with_len (slice_index old v + 1 + 1) (n - (slice_index old v + 1 + 1)))) base
          ∙ ap (λ (x : ℕ). flat_map (step_of t None v body scope (cleared body next) []) (range_with_len (x + 1) (n - (x + 1)))) (sym next_slot) in
          record {
            items =
                after_loop t None v n body scope [] old 0 plain
                ∙ ap (λ (l : List Item). l ++ later t None v n body scope [] (cleared body old) (slice_index old v)) over
                ∙ first_of (step_of t None v body scope (cleared body old) []) (slice_index old v + 1) n more
                ∙ ap (λ (l : List Item). l ++ flat_map (step_of t None v body scope (cleared body old) []) (range_with_len (slice_index old v + 1 + 1) (n - (slice_index old v + 1 + 1))))
                (plain_step v body scope (cleared body old) (slice_index old v + 1) ∙ plain_first body (entered scope v) old next p stood.1 next_zero)
                ∙ append_assoc (given (t.holds (last_node body) scope.pairs next) (item_at t body (entered scope v) next 0)) (after t body (entered scope v) next [] 0) (flat_map (step_of t None v body scope (cleared body old) []) (range_with_len (slice_index old v + 1 + 1) (n - (slice_index old v + 1 + 1))))
                ∙ ap (λ (l : List Item). given (t.holds (last_node body) scope.pairs next) (item_at t body (entered scope v) next 0) ++ (after t body (entered scope v) next [] 0 ++ l)) rest
                ∙ ap (λ (i : Item). given (t.holds (last_node body) scope.pairs next) i ++ (after t body (entered scope v) next [] 0 ++ later t None v n body scope [] (cleared body next) (slice_index next v))) (sym (item_loop t None v n body scope next 0 plain))
                ∙ ap (λ (l : List Item). given (t.holds (last_node body) scope.pairs next) (item_at t (Loop v n None body) scope next 0) ++ l) (sym (after_loop t None v n body scope [] next 0 plain));
            stands = (
              subst (λ (b : Bool). MatchBool b (slice_index next v ≡ 0) (slice_index next v < n)) (sym plain) (omega (arith, next_slot, more)),
              first_stand body old next p stood.1 next_zero,
            );
            same = ap (λ (l : List ℕ). set l v 0) (cleared_zero body next next_zero) ∙ set_again (cleared body old) v (slice_index old v + 1) 0;
          }

      ends : after t body (entered scope v) old [] 0 ≡ [] → n ≤ slice_index old v + 1 → after t (Loop v n None body) scope old [] 0 ≡ []
      ends over less =
          let none : n - (slice_index old v + 1) ≡ 0 = omega arith in
          after_loop t None v n body scope [] old 0 plain
          ∙ ap (λ (l : List Item). l ++ later t None v n body scope [] (cleared body old) (slice_index old v)) over
          ∙ ap (λ (m : ℕ). flat_map (step_of t None v body scope (cleared body old) []) (range_with_len (slice_index old v + 1) m)) none

      outer : (b : Bool) (o : Option (List ℕ)) → (b ≡ true → slice_index old v < n - 1) → (b ≡ false → n - 1 ≤ slice_index old v) → after t body (entered scope v) old [] 0 ≡ []
          → (if b then Some (zeroed (inner_loops_of body) (slice_set old v (slice_index old v + 1))) else None) ≡ o → Turning (Loop v n None body) scope old o
      outer true o l m over e =
          subst (Turning (Loop v n None body) scope old) (ap Some (sym next_is) ∙ e) (goes_on over (let k = l refl in omega (arith, k)))
      outer false o l m over e = subst (Turning (Loop v n None body) scope old) e (ends over (let k = m refl in omega (arith, k)))

      inner : (q : Option (List ℕ)) → turned (inner_loops_of body) old ≡ q → Turning body (entered scope v) old q → turned_last (turned (inner_loops_of body) old) (inner_loops_of body) w old ≡ o → Turning (Loop v n None body) scope old o
      inner None f h e =
          outer (nat_lt (slice_index old v) (n - 1)) o (ltb-true (slice_index old v) (n - 1)) (ltb-false (slice_index old v) (n - 1)) h
          (sym (ap (λ (q : Option (List ℕ)). turned_last q (inner_loops_of body) w old) f) ∙ e)
      inner (Some new) f h e =
          subst (Turning (Loop v n None body) scope old) (sym (ap (λ (q : Option (List ℕ)). turned_last q (inner_loops_of body) w old) f) ∙ e)
          (turns_body None v n body scope [] old new 0 plain r.1 a h)
  plain_turns (Loop v n (Some walk) body) scope old p r a o e = absurd (cc)
  plain_turns (Pre work more b c) scope old p r a o e = absurd (cc)
  plain_turns (Leaf lhs terms guards kernel) scope old p r a o e = subst (Turning (Leaf lhs terms guards kernel) scope old) e refl

  -- a leaf with a kernel has no inner loops
  inner_loops_plain : (body : Tree) (path old new : List ℕ) → turned (last_inner_loops body path) old ≡ Some new → is_kernel_leaf body ≡ false
  inner_loops_plain (Loop v n walk body) path old new e = refl
  inner_loops_plain (Pre work more p q) path old new e = refl
  inner_loops_plain (Leaf lhs terms guards kernel) path old new e = absurd (cc)

  -- what the inner loops of a nest do
  pub last_turns : (tree : Tree) (scope : Scope) (path old new : List ℕ) → HaveSlots tree (length old) → IsAt tree old (leaf_count tree - 1) → turned (last_inner_loops tree path) old ≡ Some new → Turns tree scope path old new (leaf_count tree - 1)
  last_turns (Loop v n walk body) scope [] old new r a e = go (is_plain (Loop v n walk body)) refl e (λ b k. last_turns body (entered scope v) [] old new r.2 k b)
    where
      go : (b : Bool) → is_plain (Loop v n walk body) ≡ b → turned (if b then inner_loops_of (Loop v n walk body) else last_inner_loops body []) old ≡ Some new
          → (turned (last_inner_loops body []) old ≡ Some new → IsAt body old (leaf_count body - 1) → Turns body (entered scope v) [] old new (leaf_count body - 1)) → Turns (Loop v n walk body) scope [] old new (leaf_count body - 1)
      go true p e h =
          let all = plain_leaves (Loop v n walk body) p in let one : leaf_count body - 1 ≡ 0 = omega (arith, all) in
          subst (λ (k : ℕ). Turns (Loop v n walk body) scope [] old new k) (sym one) (plain_turns (Loop v n walk body) scope old p r (subst (λ (k : ℕ). IsAt (Loop v n walk body) old k) one a) (Some new) e)
      go false p e h =
          let plain = inner_loops_plain body [] old new e in
          turns_body walk v n body scope [] old new (leaf_count body - 1) plain r.1 a (h e (stood_loop walk v n body old (leaf_count body - 1) plain a).1)
  last_turns (Loop v n walk body) scope (x ∷ path) old new r a e =
      let plain = inner_loops_plain body path old new e in
      turns_body walk v n body scope (x ∷ path) old new (leaf_count body - 1) plain r.1 a (last_turns body (entered scope v) path old new r.2 (stood_loop walk v n body old (leaf_count body - 1) plain a).1 e)
  last_turns (Pre work more p q) scope path old new r a e =
      let some = some_leaf q in
      let last : leaf_count p + (leaf_count q - 1) ≡ leaf_count p + leaf_count q - 1 = omega (arith, some) in
      let stood = second_stood t work more p q scope path (leaf_count p + leaf_count q - 1) (leaf_count q - 1) last old a in
      let h = last_turns q scope [] old new r.1 stood.1 e in
      let z : AreZero p new = zero_before p q new r.2 (subst (AreZero p) (sym h.same) (zero_kept p q old r.2 stood.0)) in
      record {
        items =
            second_after t work more p q scope path (leaf_count p + leaf_count q - 1) (leaf_count q - 1) last old
            ∙ h.items
            ∙ ap (λ (i : Item). given (t.holds (last_node q) scope.pairs new) i ++ after t q scope new [] (leaf_count q - 1)) (sym (second_item t work more p q scope path (leaf_count p + leaf_count q - 1) (leaf_count q - 1) last new))
            ∙ ap (λ (l : List Item). given (t.holds (last_node q) scope.pairs new) (item_at t (Pre work more p q) scope new (leaf_count p + leaf_count q - 1)) ++ l) (sym (second_after t work more p q scope path (leaf_count p + leaf_count q - 1) (leaf_count q - 1) last new));
        stands = second_stands t work more p q scope path (leaf_count p + leaf_count q - 1) (leaf_count q - 1) last new z h.stands;
        same = ap (cleared q) (cleared_zero p new z) ∙ h.same ∙ sym (ap (cleared q) (cleared_zero p old stood.0));
      }
  last_turns (Leaf lhs terms guards kernel) scope path old new r a e = absurd (cc)

-- The last leaf -----------------------------------------------------------------------------------------------------------

-- the last leaf is in no producer
pub last_pairs : (tree : Tree) → pairs_at tree (leaf_count tree - 1) ≡ []
last_pairs (Loop v n walk body) = last_pairs body
last_pairs (Pre work more p q) =
    let some = some_leaf q in
    let outside : nat_lt (leaf_count p + leaf_count q - 1) (leaf_count p) ≡ false = le-ltb (leaf_count p + leaf_count q - 1) (leaf_count p) (omega (arith, some)) in
    let own : leaf_count p + leaf_count q - 1 - leaf_count p ≡ leaf_count q - 1 = omega (arith, some) in
    ap (λ (b : Bool). if b then more ++ pairs_at p (leaf_count p + leaf_count q - 1) else pairs_at q (leaf_count p + leaf_count q - 1 - leaf_count p)) outside
    ∙ ap (pairs_at q) own ∙ last_pairs q
last_pairs (Leaf lhs terms guards kernel) = refl

-- each inner loop has a slot
pub inner_loops_within : (tree : Tree) (path : List ℕ) (room : ℕ) → HaveSlots tree room → AllByRecursion (λ w. w.var < room) (last_inner_loops tree path)
inner_loops_within (Loop v n walk body) [] room r = go (is_plain (Loop v n walk body)) (all_within (Loop v n walk body) room r) (inner_loops_within body [] room r.2)
  where
    go : (b : Bool) → AllByRecursion (λ (w : InnerLoop). w.var < room) (inner_loops_of (Loop v n walk body)) → AllByRecursion (λ (w : InnerLoop). w.var < room) (last_inner_loops body [])
        → AllByRecursion (λ (w : InnerLoop). w.var < room) (if b then inner_loops_of (Loop v n walk body) else last_inner_loops body [])
    go true a h = a
    go false a h = h
inner_loops_within (Loop v n walk body) (x ∷ path) room r = inner_loops_within body path room r.2
inner_loops_within (Pre work more p q) path room r = inner_loops_within q [] room r.1
inner_loops_within (Leaf lhs terms guards kernel) path room r = tt

-- no loop that turns was replaced
loops_within : (ds : List Derived) (tree : Tree) → AreLoops ds tree → AllByRecursion (λ w. is_replaced ds w.var ≡ false) (inner_loops_of tree)
loops_within ds (Loop v n walk body) l = all_append (λ (w : InnerLoop). is_replaced ds w.var ≡ false) (inner_loops_of body) (record { var = v; last = n - 1 } ∷ []) (loops_within ds body l.1) (l.0, tt)
loops_within ds (Pre work more p q) l = tt
loops_within ds (Leaf lhs terms guards kernel) l = tt

pub inner_loop_loops : (ds : List Derived) (tree : Tree) (path : List ℕ) → AreLoops ds tree → AllByRecursion (λ w. is_replaced ds w.var ≡ false) (last_inner_loops tree path)
inner_loop_loops ds (Loop v n walk body) [] l = go (is_plain (Loop v n walk body)) (loops_within ds (Loop v n walk body) l) (inner_loop_loops ds body [] l.1)
  where
    go : (b : Bool) → AllByRecursion (λ (w : InnerLoop). is_replaced ds w.var ≡ false) (inner_loops_of (Loop v n walk body)) → AllByRecursion (λ (w : InnerLoop). is_replaced ds w.var ≡ false) (last_inner_loops body [])
        → AllByRecursion (λ (w : InnerLoop). is_replaced ds w.var ≡ false) (if b then inner_loops_of (Loop v n walk body) else last_inner_loops body [])
    go true a h = a
    go false a h = h
inner_loop_loops ds (Loop v n walk body) (x ∷ path) l = inner_loop_loops ds body path l.1
inner_loop_loops ds (Pre work more p q) path l = inner_loop_loops ds q [] l.1
inner_loop_loops ds (Leaf lhs terms guards kernel) path l = tt
