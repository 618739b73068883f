-- The visits under a path, among all visits.
use Rattle.std.proofs.Common.{◌≡◌, ℕ, zero, suc, ◌+◌, ◌<◌, Bool, true, false, ◌&&◌, List, [], ◌∷◌, ◌++◌, length, map, filter, drop, Option, Some, None, refl, ap, sym, ◌∙◌, subst, arith, append_assoc, append-nil}
use Rattle.std.specs.Prelude.{if◌then◌else◌, nat_eq, reverse, slice_index, slice_set}
use Rattle.std.specs.List.{AllByRecursion, flat_map, range_with_len}
use Rattle.std.proofs.lemmas.Bool.{eqb-true, eq-eqb, ne_eqb}
use Rattle.std.proofs.lemmas.Bool.Decides.{nat_tests}
use Rattle.std.proofs.lemmas.List.{get_or-set_other, get_or-set_same, length-replicate, reverse-append}
use Rattle.std.proofs.Math.ListN.{length-set}
use Rattle.std.proofs.lemmas.List.Elements.{filter-append}
use Rattle.dt_base.specs.Ranges.{below}
use Rattle.dt_base.proofs.Ranges.{range_with_len-below}
use Rattle.dt_nest.specs.declared.loops.Walk.{Walk}
use Rattle.dt_nest.specs.Tree.{Tree, Loop, Pre, Leaf, is_kernel_leaf}
use Rattle.dt_nest.specs.Schedule.{Schedule}
use Rattle.dt_nest.specs.World.{world_of}
use Rattle.dt_nest.specs.Visits.{LeafNode, Lanes, Scope, at_root, entered, in_producer, LeafVisit, Item, IsReset, IsVisit, Tests, tests_of, no_slots, with_reset, values_on, lane_visit, valid_values, substituted_visits, tree_visits, visits_of, IsPathIn, leaf_node}
use Rattle.dt_nest.specs.Search.{HaveSlots, Lacks}
use Rattle.dt_nest.specs.PathLaws.{VisitsExtendPaths, begins_with, extends, leaf_visits, loop_values}
use Rattle.dt_nest.proofs.Each.{all_append, all_map}
use Rattle.dt_nest.proofs.OwnSlots.{have_slots}
use Rattle.dt_nest.proofs.PathVisits.{Step, loop_visits, value_visits}

-- Lists -----------------------------------------------------------------------------------------------------------------

-- what is visited of two lists, one behind the other
leaf_append : (xs ys : List Item) → leaf_visits (xs ++ ys) ≡ leaf_visits xs ++ leaf_visits ys
leaf_append [] ys = refl
leaf_append (IsReset work ∷ xs) ys = leaf_append xs ys
leaf_append (IsVisit visit ∷ xs) ys = ap (λ l. visit ∷ l) (leaf_append xs ys)

-- a reset is no visit of a leaf
leaf_reset : (work : ℕ) (items : List Item) → leaf_visits (with_reset work items) ≡ leaf_visits items
leaf_reset work [] = refl
leaf_reset work (item ∷ items) = refl

-- what is visited at each of some values
leaf_flat : (f : ℕ → List Item) (xs : List ℕ) → leaf_visits (flat_map f xs) ≡ flat_map (λ x. leaf_visits (f x)) xs
leaf_flat f [] = refl
leaf_flat f (x ∷ xs) = leaf_append (f x) (flat_map f xs) ∙ ap (λ l. leaf_visits (f x) ++ l) (leaf_flat f xs)

-- all elements pass, or none does
filter_all : {X : Type 0} (test : X → Bool) (xs : List X) → AllByRecursion (λ x. test x ≡ true) xs → filter test xs ≡ xs
filter_all test [] h = refl
filter_all test (x ∷ xs) h = ap (λ (b : Bool). if b then x ∷ filter test xs else filter test xs) h.0 ∙ ap (λ l. x ∷ l) (filter_all test xs h.1)

filter_none : {X : Type 0} (test : X → Bool) (xs : List X) → AllByRecursion (λ x. test x ≡ false) xs → filter test xs ≡ []
filter_none test [] h = refl
filter_none test (x ∷ xs) h = ap (λ (b : Bool). if b then x ∷ filter test xs else filter test xs) h.0 ∙ filter_none test xs h.1

below_other : (a b : ℕ) → a < b + 1 → nat_eq a b ≡ false → a < b
below_other a b l e = grind (arith, nat_tests)

-- of the values from one number on only one has elements that pass
filter_one : {X : Type 0} (test : X → Bool) (f : ℕ → List X) (i : ℕ) (one : List X) → filter test (f i) ≡ one → ((x : ℕ) → (x ≡ i → ⊥) → filter test (f x) ≡ [])
    → (start n : ℕ) → (i < start + n) → (start < i + 1) → filter test (flat_map f (range_with_len start n)) ≡ one
filter_one test f i one here others start zero l m = absurd (omega arith)
filter_one {X} test f i one here others start (suc n) l m =
    filter-append test (f start) (flat_map f (range_with_len (start + 1) n))
    ∙ go (nat_eq start i) (eqb-true start i) refl (λ q. filter_one test f i one here others (start + 1) n (omega arith) (let p : start < i = below_other start i m q in omega arith))
  where
    after : (k n : ℕ) → i < k → filter test (flat_map f (range_with_len k n)) ≡ []
    after k zero a = refl
    after k (suc n) a =
        filter-append test (f k) (flat_map f (range_with_len (k + 1) n))
        ∙ ap (λ (l : List X). l ++ filter test (flat_map f (range_with_len (k + 1) n))) (others k (λ e. absurd (omega arith)))
        ∙ after (k + 1) n (omega arith)

    go : (b : Bool) → (b ≡ true → start ≡ i) → nat_eq start i ≡ b → (nat_eq start i ≡ false → filter test (flat_map f (range_with_len (start + 1) n)) ≡ one) → filter test (f start) ++ filter test (flat_map f (range_with_len (start + 1) n)) ≡ one
    go true e q r =
        ap (λ (k : ℕ). filter test (f k) ++ filter test (flat_map f (range_with_len (start + 1) n))) (e refl)
        ∙ ap (λ (l : List X). l ++ filter test (flat_map f (range_with_len (start + 1) n))) here
        ∙ ap (λ (l : List X). one ++ l) (after (start + 1) n (let s = e refl in omega arith)) ∙ append-nil one
    go false e q r =
        let apart : start ≡ i → ⊥ = λ k. let y : nat_eq start i ≡ true = eq-eqb start i k in absurd (cc) in
        ap (λ (l : List X). l ++ filter test (flat_map f (range_with_len (start + 1) n))) (others start apart)
        ∙ r q

-- a list begins with what it was made of
begins_own : (vals rest : List ℕ) → begins_with vals (vals ++ rest) ≡ true
begins_own [] rest = refl
begins_own (x ∷ vals) rest = ap (λ (b : Bool). b && begins_with vals (vals ++ rest)) (eq-eqb x x refl) ∙ begins_own vals rest

-- and not with another number there
begins_other : (vals path rest : List ℕ) (i x : ℕ) → (x ≡ i → ⊥) → begins_with (vals ++ i ∷ path) ((vals ++ x ∷ []) ++ rest) ≡ false
begins_other [] path rest i x n = ap (λ (b : Bool). b && begins_with path rest) (ne_eqb i x (λ e. n (sym e)))
begins_other (y ∷ vals) path rest i x n = ap (λ (b : Bool). b && begins_with (vals ++ i ∷ path) ((vals ++ x ∷ []) ++ rest)) (eq-eqb y y refl) ∙ begins_other vals path rest i x n

-- Values of loops ---------------------------------------------------------------------------------------------------------

-- the values of the loops that were entered, the outermost first
abbrev Entered : List ℕ → List ℕ → List ℕ
Entered slots around = reverse (map (slice_index slots) around)

-- a visit's loops have these values outermost
abbrev Begins : List ℕ → LeafVisit → Type 0
Begins vals visit = (rest : List ℕ) × (loop_values visit ≡ vals ++ rest)

-- no loop of the tree is one of these
abbrev AreOut : List ℕ → Tree → Type 0
AreOut around tree = AllByRecursion (λ u. Lacks u tree) around

-- a slot of another loop stays
same_values : (slots : List ℕ) (v x : ℕ) (around : List ℕ) → AllByRecursion (λ u. u ≡ v → ⊥) around → map (slice_index (slice_set slots v x)) around ≡ map (slice_index slots) around
same_values slots v x [] h = refl
same_values slots v x (u ∷ around) h = ap (λ (n : ℕ). n ∷ map (slice_index (slice_set slots v x)) around) (get_or-set_other slots v u x 0 h.0) ∙ ap (λ (l : List ℕ). slice_index slots u ∷ l) (same_values slots v x around h.1)

-- one more loop is entered
entered_more : (slots around : List ℕ) (v x : ℕ) → v < length slots → AllByRecursion (λ u. u ≡ v → ⊥) around → Entered (slice_set slots v x) (v ∷ around) ≡ Entered slots around ++ x ∷ []
entered_more slots around v x l h =
    reverse-append (slice_index (slice_set slots v x) v ∷ []) (map (slice_index (slice_set slots v x)) around)
    ∙ ap (λ (k : List ℕ). reverse k ++ slice_index (slice_set slots v x) v ∷ []) (same_values slots v x around h)
    ∙ ap (λ (n : ℕ). Entered slots around ++ n ∷ []) (get_or-set_same slots v x 0 l)

module _ (t : Tests) where
  -- the visits of a tree keep the values of the loops that were entered
  keep_values : (tree : Tree) (scope : Scope) (slots : List ℕ) → HaveSlots tree (length slots) → AreOut scope.around tree → AllByRecursion (Begins (Entered slots scope.around)) (leaf_visits (tree_visits t tree scope slots []))
  keep_values (Loop v n walk body) scope slots h out = go (is_kernel_leaf body) (λ x. keep_values body (entered scope v) (slice_set slots v x) (room x) inside)
    where
      other : AllByRecursion (λ u. u ≡ v → ⊥) scope.around
      other = all_map (λ u. Lacks u (Loop v n walk body)) (λ u. u ≡ v → ⊥) (λ u l. l.0) scope.around out

      P : LeafVisit → Type 0
      P = Begins (Entered slots scope.around)

      at_value : (x : ℕ) (b : Bool) → AllByRecursion (Begins (Entered (slice_set slots v x) (v ∷ scope.around))) (leaf_visits (tree_visits t body (entered scope v) (slice_set slots v x) []))
          → AllByRecursion P (leaf_visits (if b then tree_visits t body (entered scope v) (slice_set slots v x) [] else []))
      at_value x true k =
          all_map (Begins (Entered (slice_set slots v x) (v ∷ scope.around))) P
          (λ visit b. (x ∷ b.0, b.1 ∙ ap (λ (l : List ℕ). l ++ b.0) (entered_more slots scope.around v x h.0 other) ∙ append_assoc (Entered slots scope.around) (x ∷ []) b.0))
          (leaf_visits (tree_visits t body (entered scope v) (slice_set slots v x) [])) k
      at_value x false k = tt

      room : (x : ℕ) → HaveSlots body (length (slice_set slots v x))
      room x = subst (HaveSlots body) (sym (length-set slots v x)) h.2

      inside : AreOut (v ∷ scope.around) body
      inside = (h.1, all_map (λ u. Lacks u (Loop v n walk body)) (λ u. Lacks u body) (λ u l. l.1) scope.around out)

      Inner : Type 0
      Inner = (x : ℕ) → AllByRecursion (Begins (Entered (slice_set slots v x) (v ∷ scope.around))) (leaf_visits (tree_visits t body (entered scope v) (slice_set slots v x) []))

      each : Inner → (xs : List ℕ) → AllByRecursion P (leaf_visits (flat_map (Step t walk v body scope slots []) xs))
      each inner [] = tt
      each inner (x ∷ xs) =
          subst (AllByRecursion P) (sym (leaf_append (Step t walk v body scope slots [] x) (flat_map (Step t walk v body scope slots []) xs)))
          (all_append P (leaf_visits (Step t walk v body scope slots [] x)) (leaf_visits (flat_map (Step t walk v body scope slots []) xs)) (at_value x (t.takes walk v scope.pairs (slice_set slots v x)) (inner x)) (each inner xs))

      lane : (leaf : LeafNode) (valid : List ℕ) → AllByRecursion P (leaf_visits (lane_visit leaf scope slots v n valid))
      lane leaf [] = tt
      lane leaf (x ∷ valid) = (([], sym (append-nil (Entered slots scope.around))), tt)

      substituted : (tree : Tree) → AllByRecursion P (leaf_visits (substituted_visits t walk v n tree scope slots))
      substituted (Loop u m more inner) = tt
      substituted (Pre work more p q) = tt
      substituted (Leaf lhs terms guards kernel) = lane (record { lhs = lhs; terms = terms; guards = guards; kernel = kernel }) (valid_values t walk v n (leaf_node lhs terms guards kernel) scope.pairs slots)

      go : (b : Bool) → Inner → AllByRecursion P (leaf_visits (if b then substituted_visits t walk v n body scope slots else flat_map (Step t walk v body scope slots []) (values_on [] n)))
      go true inner = substituted body
      go false inner = each inner (values_on [] n)
  keep_values (Pre work more p q) scope slots h out =
      subst (AllByRecursion (Begins (Entered slots scope.around))) (sym (leaf_reset work (tree_visits t p (in_producer scope more) slots [] ++ tree_visits t q scope slots []) ∙ leaf_append (tree_visits t p (in_producer scope more) slots []) (tree_visits t q scope slots [])))
      (all_append (Begins (Entered slots scope.around)) (leaf_visits (tree_visits t p (in_producer scope more) slots [])) (leaf_visits (tree_visits t q scope slots []))
      (keep_values p (in_producer scope more) slots h.0 (all_map (λ u. Lacks u (Pre work more p q)) (λ u. Lacks u p) (λ u l. l.0) scope.around out))
      (keep_values q scope slots h.1 (all_map (λ u. Lacks u (Pre work more p q)) (λ u. Lacks u q) (λ u l. l.1) scope.around out)))
  keep_values (Leaf lhs terms guards kernel) scope slots h out = go (t.holds (leaf_node lhs terms guards kernel) scope.pairs slots)
    where
      go : (b : Bool) → AllByRecursion (Begins (Entered slots scope.around)) (leaf_visits (if b then IsVisit (record { leaf = record { lhs = lhs; terms = terms; guards = guards; kernel = kernel }; around = scope.around; pairs = scope.pairs; slots = slots; lanes = None }) ∷ [] else []))
      go true = (([], sym (append-nil (Entered slots scope.around))), tt)
      go false = tt

  -- the visits of a tree under a path are those that extend it behind the values of the loops that were entered
  extend : (tree : Tree) (scope : Scope) (slots path : List ℕ) → HaveSlots tree (length slots) → AreOut scope.around tree → IsPathIn tree path
      → leaf_visits (tree_visits t tree scope slots path) ≡ filter (λ visit. begins_with (Entered slots scope.around ++ path) (loop_values visit)) (leaf_visits (tree_visits t tree scope slots []))
  extend tree scope slots [] h out p =
      sym (filter_all (λ visit. begins_with (Entered slots scope.around ++ []) (loop_values visit)) (leaf_visits (tree_visits t tree scope slots []))
      (all_map (Begins (Entered slots scope.around)) (λ visit. begins_with (Entered slots scope.around ++ []) (loop_values visit) ≡ true)
      (λ visit b. ap (λ (l : List ℕ). begins_with l (loop_values visit)) (append-nil (Entered slots scope.around)) ∙ ap (begins_with (Entered slots scope.around)) b.1 ∙ begins_own (Entered slots scope.around) b.0)
      (leaf_visits (tree_visits t tree scope slots [])) (keep_values tree scope slots h out)))
  extend (Loop v n walk body) scope slots (i ∷ path) h out p =
      ap leaf_visits (value_visits t v n walk body scope slots i path p.1)
      ∙ sym (ap (filter Test) (ap leaf_visits (loop_visits t v n walk body scope slots [] p.1) ∙ leaf_flat (Step t walk v body scope slots []) (values_on [] n))
      ∙ filter_one Test (λ x. leaf_visits (Step t walk v body scope slots [] x)) i (leaf_visits (Step t walk v body scope slots path i)) (here (extend body (entered scope v) (slice_set slots v i) path (room i) inside p.2)) others 0 n (omega (arith, p.0)) (omega arith))
    where
      Test : LeafVisit → Bool
      Test visit = begins_with (Entered slots scope.around ++ i ∷ path) (loop_values visit)

      other : AllByRecursion (λ u. u ≡ v → ⊥) scope.around
      other = all_map (λ u. Lacks u (Loop v n walk body)) (λ u. u ≡ v → ⊥) (λ u l. l.0) scope.around out

      room : (x : ℕ) → HaveSlots body (length (slice_set slots v x))
      room x = subst (HaveSlots body) (sym (length-set slots v x)) h.2

      inside : AreOut (v ∷ scope.around) body
      inside = (h.1, all_map (λ u. Lacks u (Loop v n walk body)) (λ u. Lacks u body) (λ u l. l.1) scope.around out)

      behind : (Entered (slice_set slots v i) (v ∷ scope.around)) ++ path ≡ Entered slots scope.around ++ i ∷ path
      behind = ap (λ (l : List ℕ). l ++ path) (entered_more slots scope.around v i h.0 other) ∙ append_assoc (Entered slots scope.around) (i ∷ []) path

      taken : (b : Bool) → leaf_visits (tree_visits t body (entered scope v) (slice_set slots v i) path) ≡ filter Test (leaf_visits (tree_visits t body (entered scope v) (slice_set slots v i) []))
          → filter Test (leaf_visits (if b then tree_visits t body (entered scope v) (slice_set slots v i) [] else [])) ≡ leaf_visits (if b then tree_visits t body (entered scope v) (slice_set slots v i) path else [])
      taken true e = sym e
      taken false e = refl

      here : leaf_visits (tree_visits t body (entered scope v) (slice_set slots v i) path)
          ≡ filter (λ visit. begins_with (Entered (slice_set slots v i) (v ∷ scope.around) ++ path) (loop_values visit)) (leaf_visits (tree_visits t body (entered scope v) (slice_set slots v i) []))
          → filter Test (leaf_visits (Step t walk v body scope slots [] i)) ≡ leaf_visits (Step t walk v body scope slots path i)
      here e =
          taken (t.takes walk v scope.pairs (slice_set slots v i))
          (e
          ∙ ap (λ (l : List ℕ). filter (λ visit. begins_with l (loop_values visit)) (leaf_visits (tree_visits t body (entered scope v) (slice_set slots v i) []))) behind)

      left_out : (x : ℕ) → (x ≡ i → ⊥) → (b : Bool) → AllByRecursion (Begins (Entered (slice_set slots v x) (v ∷ scope.around))) (leaf_visits (tree_visits t body (entered scope v) (slice_set slots v x) []))
          → filter Test (leaf_visits (if b then tree_visits t body (entered scope v) (slice_set slots v x) [] else [])) ≡ []
      left_out x n true k =
          filter_none Test (leaf_visits (tree_visits t body (entered scope v) (slice_set slots v x) []))
          (all_map (Begins (Entered (slice_set slots v x) (v ∷ scope.around))) (λ visit. Test visit ≡ false)
          (λ visit b. ap (begins_with (Entered slots scope.around ++ i ∷ path)) (b.1 ∙ ap (λ (l : List ℕ). l ++ b.0) (entered_more slots scope.around v x h.0 other)) ∙ begins_other (Entered slots scope.around) path b.0 i x n)
          (leaf_visits (tree_visits t body (entered scope v) (slice_set slots v x) [])) k)
      left_out x n false k = refl

      others : (x : ℕ) → (x ≡ i → ⊥) → filter Test (leaf_visits (Step t walk v body scope slots [] x)) ≡ []
      others x n = left_out x n (t.takes walk v scope.pairs (slice_set slots v x)) (keep_values body (entered scope v) (slice_set slots v x) (room x) inside)
  extend (Pre work more p q) scope slots (i ∷ path) h out l = absurd l
  extend (Leaf lhs terms guards kernel) scope slots (i ∷ path) h out l = absurd l

-- the visits of leaves under a path are those of the whole nest that extend it
pub visits_extend : VisitsExtendPaths
unfolding visits_of
visits_extend stored s p lawful path =
    extend (tests_of (world_of stored s) s.derived) s.nest at_root (no_slots s) p (subst (HaveSlots s.nest) (sym (length-replicate (length s.names) 0)) (have_slots s lawful)) tt path
