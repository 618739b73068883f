-- What the visits of a tree add to the numbers of its output, and what they leave as it was.
use Rattle.std.proofs.Common.{◌≡◌, ◌⊎◌, inl, inr, ℕ, zero, suc, ◌+◌, ◌%◌, ◌^◌, ◌<◌, ◌≤◌, Bool, true, false, ◌&&◌, ◌||◌, not, List, [], ◌∷◌, ◌++◌, length, map, filter, sum_by, Option, None, refl, sym, ap, ◌∙◌, subst, arith}
use Rattle.std.specs.Prelude.{if◌then◌else◌, nat_eq, slice_index, slice_set}
use Rattle.std.specs.List.{AllByRecursion, flat_map, range_with_len}
use Rattle.std.specs.Str.{bytes_eq}
use Rattle.std.proofs.Math.Path.{fun_ext}
use Rattle.std.proofs.Math.ListN.{length-set}
use Rattle.std.proofs.Math.Nat.{mod-mod}
use Rattle.std.proofs.lemmas.Bool.{eqb-true, eq-eqb, ne_eqb}
use Rattle.std.proofs.lemmas.List.{get_or-set_other, get_or-set_same}
use Rattle.std.proofs.lemmas.List.Sums.{sum_by-cons, sum_by-append}
use Rattle.std.proofs.lemmas.Grind.{flat_map-append}
use Rattle.dt_base.proofs.Sums.{sum_by-map}
use Rattle.dt_model.specs.declared.stmt.Access.{Access}
use Rattle.dt_model.specs.declared.stmt.Term.{Term}
use Rattle.dt_nest.specs.declared.loops.Walk.{Walk}
use Rattle.dt_nest.specs.declared.loops.Pair.{Pair}
use Rattle.dt_nest.specs.declared.loops.Kernel.{Kernel}
use Rattle.dt_nest.specs.declared.loops.Kernel.TheVariants.{Plain, Dot, Dot3}
use Rattle.dt_nest.specs.declared.derivations.Derived.{Derived}
use Rattle.dt_nest.specs.Tree.{Tree, Loop, Pre, Leaf, is_kernel_leaf}
use Rattle.dt_nest.specs.Sums.{sum_below}
use Rattle.dt_nest.proofs.SumLaws.{sum_below_same, sum_below_zero}
use Rattle.dt_nest.specs.Meaning.{World, Env, Entries, bind, val_of, with_work, terms_of, guards_hold, leaf_of, takes, renamed, under, nest_sum}
use Rattle.dt_nest.specs.Lawful.{Loops, also, Follows, AllFollow, IsSubstituted, HaveKernels, nodes_with}
use Rattle.dt_nest.specs.Visits.{Scope, entered, in_producer, Item, IsVisit, value_in, tests_of, with_reset, lane_visit, is_valid, valid_values, substituted_visits, tree_visits, leaf_node}
use Rattle.dt_nest.specs.Search.{HaveSlots}
use Rattle.dt_nest.specs.Effects.{with_more, effect_of, entries_after}
use Rattle.dt_nest.specs.Outputs.{output_of, WritesWorks}
use Rattle.dt_nest.proofs.Names.{renamed-append}
use Rattle.dt_nest.proofs.Agree.{known_agree, map_agree}
use Rattle.dt_nest.proofs.Moves.{range-add}
use Rattle.dt_nest.proofs.Congruence.{Like, like_same, like_trans, like_add, reads_free, Alike, nest_sum-like}

-- the values of the loops with one more
pub set_env : (slots : List ℕ) (v i : ℕ) → v < length slots → slice_index (slice_set slots v i) ≡ bind (slice_index slots) v i
set_env slots v i l = fun_ext (λ u. go u (nat_eq u v) refl (eqb-true u v))
  where
    go : (u : ℕ) (b : Bool) → nat_eq u v ≡ b → (nat_eq u v ≡ true → u ≡ v) → slice_index (slice_set slots v i) u ≡ (if b then i else slice_index slots u)
    go u true e f = ap (slice_index (slice_set slots v i)) (f e) ∙ get_or-set_same slots v i 0 l
    go u false e f = get_or-set_other slots v u i 0 (λ p. let t : nat_eq u v ≡ true = eq-eqb u v p in absurd (cc))

sum_below-filter : (p : ℕ → Bool) (f : ℕ → ℕ) (n : ℕ) → sum_below n (λ i. if p i then f i else 0) ≡ sum_by f (filter p (range_with_len 0 n))
unfolding sum_below
sum_below-filter p f zero = refl
sum_below-filter p f (suc n) =
    let r : range_with_len 0 (suc n) ≡ range_with_len 0 n ++ n ∷ [] =
    let e : n + 1 ≡ suc n = omega arith in let g : 0 + n ≡ n = omega arith in
    ap (range_with_len 0) (sym e) ∙ range-add 0 n 1 ∙ ap (λ (k : ℕ). range_with_len 0 n ++ k ∷ []) g in
    ap (λ (k : ℕ). k + (if p n then f n else 0)) (sum_below-filter p f n)
    ∙ last (p n) (sum_by f (filter p (range_with_len 0 n)))
    ∙ sym (sum_by-append f (filter p (range_with_len 0 n)) (filter p (n ∷ [])))
    ∙ ap (sum_by f) (sym (filter_both (range_with_len 0 n) (n ∷ [])))
    ∙ ap (λ (l : List ℕ). sum_by f (filter p l)) (sym r)
  where
    last : (b : Bool) (s : ℕ) → s + (if b then f n else 0) ≡ s + sum_by f (if b then n ∷ [] else [])
    last true s = omega (arith, sum_by-cons f n [])
    last false s = refl

    filter_both : (xs ys : List ℕ) → filter p (xs ++ ys) ≡ filter p xs ++ filter p ys
    filter_both [] ys = refl
    filter_both (x ∷ xs) ys = go (p x) (filter_both xs ys)
      where
        go : (b : Bool) → filter p (xs ++ ys) ≡ filter p xs ++ filter p ys → (if b then x ∷ filter p (xs ++ ys) else filter p (xs ++ ys)) ≡ (if b then x ∷ filter p xs else filter p xs) ++ filter p ys
        go true e = ap (λ (l : List ℕ). x ∷ l) e
        go false e = e

abbrev zero_if : Bool → ℕ
zero_if b = if b then 0 else 0

none_if : (b : Bool) → zero_if b ≡ 0
none_if true = refl
none_if false = refl

module _ (w : World) (ds : List Derived) where
  after-append : (xs ys : List Item) (x : Entries) → entries_after w ds (xs ++ ys) x ≡ entries_after w ds ys (entries_after w ds xs x)
  after-append [] ys x = refl
  after-append (i ∷ xs) ys x = after-append xs ys (effect_of w ds i x)

  -- a tensor or workspace that a tree doesn't write
  abbrev pub Untouched : Tree → ℕ → Type 0
  Untouched tree u = (u ≡ output_of tree → ⊥) × ((k : ℕ) → u ≡ w.tensors + k → nodes_with k tree ≡ 0)

  -- The entries have grown by f at the output of a tree, and are as they were where it doesn't write.
  pub record Adds (tree : Tree) (f : List ℕ → ℕ) (x y : Entries) : Type 0 where
    pub sums : (c : List ℕ) → Like (y (output_of tree) c) (x (output_of tree) c + f c)
    pub others : (u : ℕ) → Untouched tree u → (c : List ℕ) → y u c ≡ x u c

  -- What a tree writes stands apart from what it reads.
  pub record IsApart (tree : Tree) : Type 0 where
    pub writes : WritesWorks w.tensors tree
    pub once : (k : ℕ) → nodes_with k tree ≤ 1
    pub free : (u : ℕ) → reads_free w.tensors u tree ≡ true → Untouched tree u
    pub output : (k : ℕ) → output_of tree ≡ w.tensors + k → nodes_with k tree ≡ 0

  adds_none : (tree : Tree) (x : Entries) (f : List ℕ → ℕ) → ((c : List ℕ) → f c ≡ 0) → Adds tree f x x
  adds_none tree x f h = record {
    sums = λ c. let e = h c in like_same (x (output_of tree) c) (x (output_of tree) c + f c) (omega (arith, e));
    others = λ u k c. refl;
  }

  adds_same : (tree : Tree) (f g : List ℕ → ℕ) (x y : Entries) → ((c : List ℕ) → f c ≡ g c) → Adds tree f x y → Adds tree g x y
  adds_same tree f g x y h a = record {
    sums = λ c. subst (λ (n : ℕ). Like (y (output_of tree) c) (x (output_of tree) c + n)) (h c) (a.sums c);
    others = a.others;
  }

  -- Leaves and substituted loops ---------------------------------------------------------------------------------------

  module _ (lhs : Access) (terms : List Term) (guards : List ℕ) (kernel : Kernel) where
    more_adds : (x : Entries) (left : List ℕ) (d : ℕ) → Adds (Leaf lhs terms guards kernel) (λ c. if bytes_eq left c then d else 0) x (with_more x lhs.tensor left d)
    more_adds x left d = record {
      sums = λ c. here c (nat_eq lhs.tensor lhs.tensor) (bytes_eq left c) (eq-eqb lhs.tensor lhs.tensor refl);
      others = λ u k c. there u c (nat_eq u lhs.tensor) (ne_eqb u lhs.tensor k.0);
    }
      where
        here : (c : List ℕ) (b e : Bool) → b ≡ true → Like (if b && e then (x lhs.tensor c + d) % 2 ^ 64 else x lhs.tensor c) (x lhs.tensor c + (if e then d else 0))
        here c true true p = record { like = mod-mod (x lhs.tensor c + d) (2 ^ 64) }
        here c true false p = like_same (x lhs.tensor c) (x lhs.tensor c + 0) (omega arith)
        here c false e p = absurd (cc)

        there : (u : ℕ) (c : List ℕ) (b : Bool) → b ≡ false → (if b && bytes_eq left c then (x u c + d) % 2 ^ 64 else x u c) ≡ x u c
        there u c true p = absurd (cc)
        there u c false p = refl

    leaf_adds : (scope : Scope) (slots : List ℕ) (x : Entries) → Adds (Leaf lhs terms guards kernel) (nest_sum w ds (Leaf lhs terms guards kernel) x (renamed scope.pairs) (slice_index slots)) x (entries_after w ds (tree_visits (tests_of w ds) (Leaf lhs terms guards kernel) scope slots []) x)
    unfolding nest_sum
    leaf_adds scope slots x = go (guards_hold w (value_in w ds scope.pairs slots) guards)
      where
        one : sum_by (λ val. terms_of x val terms) (value_in w ds scope.pairs slots ∷ []) ≡ terms_of x (value_in w ds scope.pairs slots) terms
        one = omega (arith, sum_by-cons (λ val. terms_of x val terms) (value_in w ds scope.pairs slots) [])

        go : (b : Bool) → Adds (Leaf lhs terms guards kernel) (λ c. if b && bytes_eq (map (value_in w ds scope.pairs slots) lhs.vars) c then terms_of x (value_in w ds scope.pairs slots) terms else 0) x
            (entries_after w ds (if b then IsVisit (record { leaf = record { lhs = lhs; terms = terms; guards = guards; kernel = kernel }; around = scope.around; pairs = scope.pairs; slots = slots; lanes = None }) ∷ [] else []) x)
        go true =
            adds_same (Leaf lhs terms guards kernel) (λ c. if bytes_eq (map (value_in w ds scope.pairs slots) lhs.vars) c then sum_by (λ val. terms_of x val terms) (value_in w ds scope.pairs slots ∷ []) else 0) (λ c. if bytes_eq (map (value_in w ds scope.pairs slots) lhs.vars) c then terms_of x (value_in w ds scope.pairs slots) terms else 0) x
            (with_more x lhs.tensor (map (value_in w ds scope.pairs slots) lhs.vars) (sum_by (λ val. terms_of x val terms) (value_in w ds scope.pairs slots ∷ [])))
            (λ c. ap (λ (d : ℕ). if bytes_eq (map (value_in w ds scope.pairs slots) lhs.vars) c then d else 0) one)
            (more_adds x (map (value_in w ds scope.pairs slots) lhs.vars) (sum_by (λ val. terms_of x val terms) (value_in w ds scope.pairs slots ∷ [])))
        go false = adds_none (Leaf lhs terms guards kernel) x (λ c. 0) (λ c. refl)

    module _ (walk : Option Walk) (v n : ℕ) (scope : Scope) (slots : List ℕ) (x : Entries) where
      lanes_sum : (valid : List ℕ) → sum_by (λ val. terms_of x val terms) (map (value_in w ds scope.pairs) (map (λ y. slice_set slots v y) valid)) ≡ sum_by (λ i. terms_of x (value_in w ds scope.pairs (slice_set slots v i)) terms) valid
      lanes_sum valid =
          sum_by-map (λ val. terms_of x val terms) (value_in w ds scope.pairs) (map (λ y. slice_set slots v y) valid)
          ∙ sum_by-map (λ (l : List ℕ). terms_of x (value_in w ds scope.pairs l) terms) (λ y. slice_set slots v y) valid

      lane_adds : (valid : List ℕ) → Adds (Leaf lhs terms guards kernel) (λ c. if bytes_eq (map (value_in w ds scope.pairs slots) lhs.vars) c then sum_by (λ i. terms_of x (value_in w ds scope.pairs (slice_set slots v i)) terms) valid else 0) x
          (entries_after w ds (lane_visit (record { lhs = lhs; terms = terms; guards = guards; kernel = kernel }) scope slots v n valid) x)
      lane_adds [] = adds_none (Leaf lhs terms guards kernel) x (λ c. if bytes_eq (map (value_in w ds scope.pairs slots) lhs.vars) c then 0 else 0) (λ c. none_if (bytes_eq (map (value_in w ds scope.pairs slots) lhs.vars) c))
      lane_adds (y ∷ valid) =
          adds_same (Leaf lhs terms guards kernel) (λ c. if bytes_eq (map (value_in w ds scope.pairs slots) lhs.vars) c then sum_by (λ val. terms_of x val terms) (map (value_in w ds scope.pairs) (map (λ z. slice_set slots v z) (y ∷ valid))) else 0)
          (λ c. if bytes_eq (map (value_in w ds scope.pairs slots) lhs.vars) c then sum_by (λ i. terms_of x (value_in w ds scope.pairs (slice_set slots v i)) terms) (y ∷ valid) else 0) x
          (with_more x lhs.tensor (map (value_in w ds scope.pairs slots) lhs.vars) (sum_by (λ val. terms_of x val terms) (map (value_in w ds scope.pairs) (map (λ z. slice_set slots v z) (y ∷ valid)))))
          (λ c. ap (λ (d : ℕ). if bytes_eq (map (value_in w ds scope.pairs slots) lhs.vars) c then d else 0) (lanes_sum (y ∷ valid)))
          (more_adds x (map (value_in w ds scope.pairs slots) lhs.vars) (sum_by (λ val. terms_of x val terms) (map (value_in w ds scope.pairs) (map (λ z. slice_set slots v z) (y ∷ valid)))))

      -- the sum of a substituted loop, whose left side has one index for all its values
      kernel_sum : (around : Loops) → v < length slots → around v ≡ false → AllByRecursion (λ u. Follows ds around (renamed scope.pairs) (renamed scope.pairs u)) lhs.vars → (c : List ℕ)
          → (if bytes_eq (map (value_in w ds scope.pairs slots) lhs.vars) c then sum_by (λ i. terms_of x (value_in w ds scope.pairs (slice_set slots v i)) terms) (valid_values (tests_of w ds) walk v n (leaf_node lhs terms guards kernel) scope.pairs slots) else 0)
          ≡ sum_below n (λ i. if takes w walk v (renamed scope.pairs) (val_of w ds (renamed scope.pairs) (bind (slice_index slots) v i)) then leaf_of w x (val_of w ds (renamed scope.pairs) (bind (slice_index slots) v i)) lhs terms guards c else 0)
      kernel_sum around l a f c =
          whole (bytes_eq (map (value_in w ds scope.pairs slots) lhs.vars) c)
          ∙ sum_below_same n _ _ (λ i k. ap (λ (e : Env). if takes w walk v (renamed scope.pairs) (val_of w ds (renamed scope.pairs) e) then (if guards_hold w (val_of w ds (renamed scope.pairs) e) guards && bytes_eq (map (value_in w ds scope.pairs slots) lhs.vars) c then terms_of x (val_of w ds (renamed scope.pairs) e) terms else 0) else 0) (set_env slots v i l)
          ∙ ap (λ (left : List ℕ). if takes w walk v (renamed scope.pairs) (val_of w ds (renamed scope.pairs) (bind (slice_index slots) v i)) then (if guards_hold w (val_of w ds (renamed scope.pairs) (bind (slice_index slots) v i)) guards && bytes_eq left c then terms_of x (val_of w ds (renamed scope.pairs) (bind (slice_index slots) v i)) terms else 0) else 0) (same i))
        where
          apart : (i u : ℕ) → around u ≡ true → slice_index slots u ≡ bind (slice_index slots) v i u
          apart i u t = go (nat_eq u v) (eqb-true u v)
            where
              go : (b : Bool) → (b ≡ true → u ≡ v) → slice_index slots u ≡ (if b then i else slice_index slots u)
              go true e = let f : around u ≡ false = ap around (e refl) ∙ a in absurd (cc)
              go false e = refl

          same : (i : ℕ) → map (value_in w ds scope.pairs slots) lhs.vars ≡ map (val_of w ds (renamed scope.pairs) (bind (slice_index slots) v i)) lhs.vars
          same i = map_agree (λ u. Follows ds around (renamed scope.pairs) (renamed scope.pairs u)) (value_in w ds scope.pairs slots) (val_of w ds (renamed scope.pairs) (bind (slice_index slots) v i))
              (λ u k. known_agree w ds around (renamed scope.pairs) (slice_index slots) (bind (slice_index slots) v i) (apart i) (renamed scope.pairs u) k) lhs.vars f

          cases : (t g : Bool) (b : Bool) (d : ℕ) → b ≡ true → (if t && g then d else 0) ≡ (if t then (if g && b then d else 0) else 0)
          cases true true true d e = refl
          cases true true false d e = absurd (cc)
          cases true false b d e = refl
          cases false g b d e = refl

          none : (t g : Bool) (b : Bool) (d : ℕ) → b ≡ false → (if t then (if g && b then d else 0) else 0) ≡ 0
          none true true true d e = absurd (cc)
          none true true false d e = refl
          none true false b d e = refl
          none false g b d e = refl

          whole : (b : Bool) → (if b then sum_by (λ i. terms_of x (value_in w ds scope.pairs (slice_set slots v i)) terms) (valid_values (tests_of w ds) walk v n (leaf_node lhs terms guards kernel) scope.pairs slots) else 0)
              ≡ sum_below n (λ i. if takes w walk v (renamed scope.pairs) (value_in w ds scope.pairs (slice_set slots v i)) then (if guards_hold w (value_in w ds scope.pairs (slice_set slots v i)) guards && b then terms_of x (value_in w ds scope.pairs (slice_set slots v i)) terms else 0) else 0)
          whole true =
              sym (sum_below-filter (is_valid (tests_of w ds) walk v (leaf_node lhs terms guards kernel) scope.pairs slots) (λ i. terms_of x (value_in w ds scope.pairs (slice_set slots v i)) terms) n)
              ∙ sum_below_same n _ _ (λ i k. cases (takes w walk v (renamed scope.pairs) (value_in w ds scope.pairs (slice_set slots v i))) (guards_hold w (value_in w ds scope.pairs (slice_set slots v i)) guards) true (terms_of x (value_in w ds scope.pairs (slice_set slots v i)) terms) refl)
          whole false = sym (sum_below_zero n _ (λ i k. none (takes w walk v (renamed scope.pairs) (value_in w ds scope.pairs (slice_set slots v i))) (guards_hold w (value_in w ds scope.pairs (slice_set slots v i)) guards) false (terms_of x (value_in w ds scope.pairs (slice_set slots v i)) terms) refl))

  -- the same growth of a tree with a loop around it
  around_loop : (v n : ℕ) (walk : Option Walk) (body : Tree) (f : List ℕ → ℕ) (x y : Entries) → Adds body f x y → Adds (Loop v n walk body) f x y
  around_loop v n walk body f x y a = record { sums = a.sums; others = a.others }

  kernel_adds : (walk : Option Walk) (v n : ℕ) (body : Tree) (around : Loops) (scope : Scope) (slots : List ℕ) (x : Entries) → is_kernel_leaf body ≡ true → v < length slots → around v ≡ false → IsSubstituted ds body around (renamed scope.pairs)
      → Adds body (nest_sum w ds (Loop v n walk body) x (renamed scope.pairs) (slice_index slots)) x (entries_after w ds (substituted_visits (tests_of w ds) walk v n body scope slots) x)
  unfolding nest_sum
  kernel_adds walk v n (Loop u m more inner) around scope slots x k l a i = absurd (cc)
  kernel_adds walk v n (Pre work more p q) around scope slots x k l a i = absurd (cc)
  kernel_adds walk v n (Leaf lhs terms guards Plain) around scope slots x k l a i = absurd (cc)
  kernel_adds walk v n (Leaf lhs terms guards Dot) around scope slots x k l a i =
      adds_same (Leaf lhs terms guards Dot) _ _ x _ (λ c. kernel_sum lhs terms guards Dot walk v n scope slots x around l a i.1 c) (lane_adds lhs terms guards Dot walk v n scope slots x (valid_values (tests_of w ds) walk v n (leaf_node lhs terms guards Dot) scope.pairs slots))
  kernel_adds walk v n (Leaf lhs terms guards Dot3) around scope slots x k l a i =
      adds_same (Leaf lhs terms guards Dot3) _ _ x _ (λ c. kernel_sum lhs terms guards Dot3 walk v n scope slots x around l a i.1 c) (lane_adds lhs terms guards Dot3 walk v n scope slots x (valid_values (tests_of w ds) walk v n (leaf_node lhs terms guards Dot3) scope.pairs slots))

  -- Loops --------------------------------------------------------------------------------------------------------------

  module _ (walk : Option Walk) (v n : ℕ) (body : Tree) (scope : Scope) (slots : List ℕ) (room : v < length slots) (apart : IsApart body) where
    -- the items of one value
    abbrev Step : ℕ → List Item
    Step i = if takes w walk v (renamed scope.pairs) (value_in w ds scope.pairs (slice_set slots v i)) then tree_visits (tests_of w ds) body (entered scope v) (slice_set slots v i) [] else []

    -- what one value adds
    abbrev Part : Entries → List ℕ → ℕ → ℕ
    Part x c i = if takes w walk v (renamed scope.pairs) (val_of w ds (renamed scope.pairs) (bind (slice_index slots) v i)) then nest_sum w ds body x (renamed scope.pairs) (bind (slice_index slots) v i) c else 0

    step_adds : (i : ℕ) (x y : Entries) → ((u : ℕ) → Untouched body u → (c : List ℕ) → y u c ≡ x u c)
        → Adds body (nest_sum w ds body y (renamed scope.pairs) (slice_index (slice_set slots v i))) y (entries_after w ds (tree_visits (tests_of w ds) body (entered scope v) (slice_set slots v i) []) y)
        → Adds body (λ c. Part y c i) y (entries_after w ds (Step i) y)
    step_adds i x y same a =
        subst (λ (e : Env). Adds body (λ c. if takes w walk v (renamed scope.pairs) (val_of w ds (renamed scope.pairs) e) then nest_sum w ds body y (renamed scope.pairs) e c else 0) y (entries_after w ds (Step i) y)) (set_env slots v i room)
        (go (takes w walk v (renamed scope.pairs) (value_in w ds scope.pairs (slice_set slots v i))))
      where
        go : (b : Bool) → Adds body (λ c. if b then nest_sum w ds body y (renamed scope.pairs) (slice_index (slice_set slots v i)) c else 0) y (entries_after w ds (if b then tree_visits (tests_of w ds) body (entered scope v) (slice_set slots v i) [] else []) y)
        go true = a
        go false = adds_none body y (λ c. 0) (λ c. refl)

    part_like : (i : ℕ) (x y : Entries) → ((u : ℕ) → Untouched body u → (c : List ℕ) → y u c ≡ x u c) → (c : List ℕ) → Like (Part y c i) (Part x c i)
    part_like i x y same c = go (takes w walk v (renamed scope.pairs) (val_of w ds (renamed scope.pairs) (bind (slice_index slots) v i)))
      where
        go : (b : Bool) → Like (if b then nest_sum w ds body y (renamed scope.pairs) (bind (slice_index slots) v i) c else 0) (if b then nest_sum w ds body x (renamed scope.pairs) (bind (slice_index slots) v i) c else 0)
        go true = nest_sum-like w ds body y x (renamed scope.pairs) (bind (slice_index slots) v i) (record { alike = λ u e d. like_same (y u d) (x u d) (same u (apart.free u e) d) }) c
        go false = like_same 0 0 refl

    range_last : (k : ℕ) → range_with_len 0 (suc k) ≡ range_with_len 0 k ++ k ∷ []
    range_last k =
        let e : k + 1 ≡ suc k = omega arith in let g : 0 + k ≡ k = omega arith in
        ap (range_with_len 0) (sym e) ∙ range-add 0 k 1 ∙ ap (λ (m : ℕ). range_with_len 0 k ++ m ∷ []) g

    -- one more value
    loop_more : (k : ℕ) (x : Entries)
        → ((i : ℕ) (y : Entries) → Adds body (nest_sum w ds body y (renamed scope.pairs) (slice_index (slice_set slots v i))) y (entries_after w ds (tree_visits (tests_of w ds) body (entered scope v) (slice_set slots v i) []) y))
        → Adds body (λ c. sum_below k (Part x c)) x (entries_after w ds (flat_map Step (range_with_len 0 k)) x)
        → Adds body (λ c. sum_below (suc k) (Part x c)) x (entries_after w ds (flat_map Step (range_with_len 0 (suc k))) x)
    unfolding sum_below
    loop_more k x ih first =
        subst (λ (z : Entries). Adds body (λ c. sum_below k (Part x c) + Part x c k) x z) (sym run) (record {
          sums = λ c.
              like_trans (entries_after w ds (Step k) before (output_of body) c) (before (output_of body) c + Part before c k) (x (output_of body) c + (sum_below k (Part x c) + Part x c k)) (step.sums c)
              (like_trans (before (output_of body) c + Part before c k) ((x (output_of body) c + sum_below k (Part x c)) + Part x c k) (x (output_of body) c + (sum_below k (Part x c) + Part x c k))
              (like_add (before (output_of body) c) (x (output_of body) c + sum_below k (Part x c)) (Part before c k) (Part x c k) (first.sums c) (part_like k x before first.others c))
              (like_same ((x (output_of body) c + sum_below k (Part x c)) + Part x c k) (x (output_of body) c + (sum_below k (Part x c) + Part x c k)) (omega arith)));
          others = λ u t c. step.others u t c ∙ first.others u t c;
        })
      where
        before : Entries
        before = entries_after w ds (flat_map Step (range_with_len 0 k)) x

        step : Adds body (λ c. Part before c k) before (entries_after w ds (Step k) before)
        step = step_adds k x before first.others (ih k before)

        run : entries_after w ds (flat_map Step (range_with_len 0 (suc k))) x ≡ entries_after w ds (Step k) before
        run =
            ap (λ (l : List ℕ). entries_after w ds (flat_map Step l) x) (range_last k)
            ∙ ap (λ (l : List Item). entries_after w ds l x) (flat_map-append Step (range_with_len 0 k) (k ∷ []))
            ∙ after-append (flat_map Step (range_with_len 0 k)) (Step k ++ []) x
            ∙ after-append (Step k) [] before

    loop_adds : (k : ℕ) (x : Entries)
        → ((i : ℕ) (y : Entries) → Adds body (nest_sum w ds body y (renamed scope.pairs) (slice_index (slice_set slots v i))) y (entries_after w ds (tree_visits (tests_of w ds) body (entered scope v) (slice_set slots v i) []) y))
        → Adds body (λ c. sum_below k (Part x c)) x (entries_after w ds (flat_map Step (range_with_len 0 k)) x)
    unfolding sum_below
    loop_adds zero x ih = adds_none body x (λ c. 0) (λ c. refl)
    loop_adds (suc k) x ih = loop_more k x ih (loop_adds k x ih)

  -- Precompute nodes ---------------------------------------------------------------------------------------------------

  no_items : (xs ys : List Item) → xs ++ ys ≡ [] → (xs ≡ []) × (ys ≡ [])
  no_items [] ys e = (refl, e)
  no_items (x ∷ xs) ys e = absurd (cc)

  -- the workspace at 0
  abbrev Reset : ℕ → Entries → Entries
  Reset work x = with_work x (w.tensors + work) (λ c. 0)

  -- items after a reset, if there are any
  reset_run : (work : ℕ) (items : List Item) (x : Entries) → ((items ≡ []) × (entries_after w ds (with_reset work items) x ≡ x)) ⊎ (entries_after w ds (with_reset work items) x ≡ entries_after w ds items (Reset work x))
  reset_run work [] x = inl (refl, refl)
  reset_run work (i ∷ items) x = inr refl

  module _ (work : ℕ) (more : List Pair) (p q : Tree) (apart : IsApart (Pre work more p q)) where
    node_here : 1 ≤ nodes_with work (Pre work more p q)
    node_here = go (nat_eq work work) (eq-eqb work work refl)
      where
        go : (b : Bool) → b ≡ true → 1 ≤ (if b then 1 else 0) + nodes_with work p + nodes_with work q
        go true e = omega arith
        go false e = absurd (cc)

    fewer : (k : ℕ) → nodes_with k p + nodes_with k q ≤ nodes_with k (Pre work more p q)
    fewer k = go (nat_eq work k)
      where
        go : (b : Bool) → nodes_with k p + nodes_with k q ≤ (if b then 1 else 0) + nodes_with k p + nodes_with k q
        go true = omega arith
        go false = omega arith

    alone : (nodes_with work p ≡ 0) × (nodes_with work q ≡ 0)
    alone = go (nat_eq work work) (eq-eqb work work refl) (apart.once work)
      where
        go : (b : Bool) → b ≡ true → (if b then 1 else 0) + nodes_with work p + nodes_with work q ≤ 1 → (nodes_with work p ≡ 0) × (nodes_with work q ≡ 0)
        go true e h = (omega arith, omega arith)
        go false e h = absurd (cc)

    same_work : (k : ℕ) → w.tensors + work ≡ w.tensors + k → k ≡ work
    same_work k e = omega arith

    -- what the whole node doesn't write is not its workspace
    not_work : (u : ℕ) → Untouched (Pre work more p q) u → u ≡ w.tensors + work → ⊥
    not_work u t e = let a = t.1 work e in omega (arith, node_here, a)

    output_not_work : output_of q ≡ w.tensors + work → ⊥
    output_not_work e = let a = apart.output work e in omega (arith, node_here, a)

    read_here : (u : ℕ) → reads_free w.tensors u p ≡ true → reads_free w.tensors u (Pre work more p q) ≡ true
    read_here u e = go (reads_free w.tensors u p) e
      where
        go : (b : Bool) → b ≡ true → (b || (not (nat_eq u (w.tensors + work)) && reads_free w.tensors u q)) ≡ true
        go true e = refl
        go false e = absurd (cc)

    read_there : (u : ℕ) → (u ≡ w.tensors + work → ⊥) → reads_free w.tensors u q ≡ true → reads_free w.tensors u (Pre work more p q) ≡ true
    read_there u n e = go (reads_free w.tensors u p) (nat_eq u (w.tensors + work)) (ne_eqb u (w.tensors + work) n) (reads_free w.tensors u q) e
      where
        go : (a b : Bool) → b ≡ false → (d : Bool) → d ≡ true → (a || (not b && d)) ≡ true
        go true b n d e = refl
        go false true n d e = absurd (cc)
        go false false n d e = e

    first_untouched : (u : ℕ) → Untouched (Pre work more p q) u → Untouched p u
    first_untouched u t = (
      (λ e. not_work u t (e ∙ apart.writes.0)),
      (λ k e. let a = t.1 k e in let b = fewer k in omega (arith, a, b)),
    )

    second_untouched : (u : ℕ) → Untouched (Pre work more p q) u → Untouched q u
    second_untouched u t = (t.0, (λ k e. let a = t.1 k e in let b = fewer k in omega (arith, a, b)))

    output_untouched : Untouched p (output_of q)
    output_untouched = (
      (λ e. output_not_work (e ∙ apart.writes.0)),
      (λ k e. let a = apart.output k e in let b = fewer k in omega (arith, a, b)),
    )

    pub first_apart : IsApart p
    first_apart = record {
      writes = apart.writes.1;
      once = λ k. let a = apart.once k in let b = fewer k in omega (arith, a, b);
      free = λ u e. first_untouched u (apart.free u (read_here u e));
      output = λ k e. subst (λ (m : ℕ). nodes_with m p ≡ 0) (sym (same_work k (sym apart.writes.0 ∙ e))) alone.0;
    }

    pub second_apart : IsApart q
    second_apart = record {
      writes = apart.writes.2;
      once = λ k. let a = apart.once k in let b = fewer k in omega (arith, a, b);
      free = λ u e. go u e (nat_eq u (w.tensors + work)) refl (eqb-true u (w.tensors + work));
      output = λ k e. let a = apart.output k e in let b = fewer k in omega (arith, a, b);
    }
      where
        own : (u : ℕ) → u ≡ w.tensors + work → Untouched q u
        own u h = (
          (λ e. output_not_work (sym e ∙ h)),
          (λ k e. subst (λ (m : ℕ). nodes_with m q ≡ 0) (sym (same_work k (sym h ∙ e))) alone.1),
        )

        go : (u : ℕ) → reads_free w.tensors u q ≡ true → (b : Bool) → nat_eq u (w.tensors + work) ≡ b → (nat_eq u (w.tensors + work) ≡ true → u ≡ w.tensors + work) → Untouched q u
        go u e true f h = own u (h f)
        go u e false f h = second_untouched u (apart.free u (read_there u (λ i. let t : nat_eq u (w.tensors + work) ≡ true = eq-eqb u (w.tensors + work) i in absurd (cc)) e))

    at_work : (x : Entries) (f : List ℕ → ℕ) (u : ℕ) (c : List ℕ) → u ≡ w.tensors + work → with_work x (w.tensors + work) f u c ≡ f c
    at_work x f u c e = go (nat_eq u (w.tensors + work)) (eq-eqb u (w.tensors + work) e)
      where
        go : (b : Bool) → b ≡ true → (if b then f c else x u c) ≡ f c
        go true i = refl
        go false i = absurd (cc)

    not_at_work : (x : Entries) (f : List ℕ → ℕ) (u : ℕ) (c : List ℕ) → (u ≡ w.tensors + work → ⊥) → with_work x (w.tensors + work) f u c ≡ x u c
    not_at_work x f u c n = go (nat_eq u (w.tensors + work)) (ne_eqb u (w.tensors + work) n)
      where
        go : (b : Bool) → b ≡ false → (if b then f c else x u c) ≡ x u c
        go true i = absurd (cc)
        go false i = refl

    module _ (name env : Env) (v u : List Item) (x : Entries) (ihp : (y : Entries) → Adds p (nest_sum w ds p y (under more name) env) y (entries_after w ds v y)) (ihq : (y : Entries) → Adds q (nest_sum w ds q y name env) y (entries_after w ds u y)) where
      -- the entries where the workspace has the producer's sums
      abbrev Filled : Entries
      Filled = with_work x (w.tensors + work) (λ j. nest_sum w ds p x (under more name) env j)

      pre_empty : v ++ u ≡ [] → Adds (Pre work more p q) (nest_sum w ds q Filled name env) x x
      pre_empty e = record {
        sums = λ c.
            let a : Like (Filled (output_of q) c) (Filled (output_of q) c + nest_sum w ds q Filled name env c) =
            subst (λ (l : List Item). Like (entries_after w ds l Filled (output_of q) c) (Filled (output_of q) c + nest_sum w ds q Filled name env c)) (no_items v u e).1 ((ihq Filled).sums c) in
            subst (λ (n : ℕ). Like n (n + nest_sum w ds q Filled name env c)) (not_at_work x (λ j. nest_sum w ds p x (under more name) env j) (output_of q) c output_not_work) a;
        others = λ u t c. refl;
      }

      first_like : (c : List ℕ) → Like (entries_after w ds v (Reset work x) (w.tensors + work) c) (nest_sum w ds p x (under more name) env c)
      first_like c =
          let a : Like (entries_after w ds v (Reset work x) (w.tensors + work) c) (Reset work x (w.tensors + work) c + nest_sum w ds p (Reset work x) (under more name) env c) =
          subst (λ (t : ℕ). Like (entries_after w ds v (Reset work x) t c) (Reset work x t c + nest_sum w ds p (Reset work x) (under more name) env c)) apart.writes.0 ((ihp (Reset work x)).sums c) in
          let z : Reset work x (w.tensors + work) c ≡ 0 = at_work x (λ c. 0) (w.tensors + work) c refl in
          like_trans (entries_after w ds v (Reset work x) (w.tensors + work) c) (Reset work x (w.tensors + work) c + nest_sum w ds p (Reset work x) (under more name) env c) (nest_sum w ds p x (under more name) env c) a
          (like_trans (Reset work x (w.tensors + work) c + nest_sum w ds p (Reset work x) (under more name) env c) (nest_sum w ds p (Reset work x) (under more name) env c) (nest_sum w ds p x (under more name) env c)
          (like_same (Reset work x (w.tensors + work) c + nest_sum w ds p (Reset work x) (under more name) env c) (nest_sum w ds p (Reset work x) (under more name) env c) (omega (arith, z)))
          (nest_sum-like w ds p (Reset work x) x (under more name) env (record {
            alike = λ t e d. like_same (Reset work x t d) (x t d) (not_at_work x (λ c. 0) t d (not_work t (apart.free t (read_here t e))));
          }) c))

      -- what the consumer reads, after the producer
      filled_like : Alike w.tensors q (entries_after w ds v (Reset work x)) Filled
      filled_like = record { alike = λ t e d. go t e d (nat_eq t (w.tensors + work)) refl (eqb-true t (w.tensors + work)) }
        where
          own : (t : ℕ) (d : List ℕ) → t ≡ w.tensors + work → Like (entries_after w ds v (Reset work x) t d) (Filled t d)
          own t d h =
              subst (λ (s : ℕ). Like (entries_after w ds v (Reset work x) s d) (Filled s d)) (sym h)
              (like_trans (entries_after w ds v (Reset work x) (w.tensors + work) d) (nest_sum w ds p x (under more name) env d) (Filled (w.tensors + work) d) (first_like d)
              (like_same (nest_sum w ds p x (under more name) env d) (Filled (w.tensors + work) d) (sym (at_work x (λ j. nest_sum w ds p x (under more name) env j) (w.tensors + work) d refl))))

          other : (t : ℕ) (d : List ℕ) → (t ≡ w.tensors + work → ⊥) → reads_free w.tensors t q ≡ true → Like (entries_after w ds v (Reset work x) t d) (Filled t d)
          other t d n e =
              like_same (entries_after w ds v (Reset work x) t d) (Filled t d)
              ((ihp (Reset work x)).others t (first_untouched t (apart.free t (read_there t n e))) d ∙ not_at_work x (λ c. 0) t d n ∙ sym (not_at_work x (λ j. nest_sum w ds p x (under more name) env j) t d n))

          go : (t : ℕ) → reads_free w.tensors t q ≡ true → (d : List ℕ) (b : Bool) → nat_eq t (w.tensors + work) ≡ b → (nat_eq t (w.tensors + work) ≡ true → t ≡ w.tensors + work) → Like (entries_after w ds v (Reset work x) t d) (Filled t d)
          go t e d true f h = own t d (h f)
          go t e d false f h = other t d (λ i. let s : nat_eq t (w.tensors + work) ≡ true = eq-eqb t (w.tensors + work) i in absurd (cc)) e

      pre_full : Adds (Pre work more p q) (nest_sum w ds q Filled name env) x (entries_after w ds u (entries_after w ds v (Reset work x)))
      pre_full = record {
        sums = λ c.
            like_trans (entries_after w ds u (entries_after w ds v (Reset work x)) (output_of q) c) (entries_after w ds v (Reset work x) (output_of q) c + nest_sum w ds q (entries_after w ds v (Reset work x)) name env c) (x (output_of q) c + nest_sum w ds q Filled name env c)
            ((ihq (entries_after w ds v (Reset work x))).sums c)
            (like_add (entries_after w ds v (Reset work x) (output_of q) c) (x (output_of q) c) (nest_sum w ds q (entries_after w ds v (Reset work x)) name env c) (nest_sum w ds q Filled name env c)
            (like_same (entries_after w ds v (Reset work x) (output_of q) c) (x (output_of q) c) ((ihp (Reset work x)).others (output_of q) output_untouched c ∙ not_at_work x (λ c. 0) (output_of q) c output_not_work))
            (nest_sum-like w ds q (entries_after w ds v (Reset work x)) Filled name env filled_like c));
        others = λ t k c.
            (ihq (entries_after w ds v (Reset work x))).others t (second_untouched t k) c ∙ (ihp (Reset work x)).others t (first_untouched t k) c ∙ not_at_work x (λ c. 0) t c (not_work t k);
      }

      pre_adds : Adds (Pre work more p q) (nest_sum w ds q Filled name env) x (entries_after w ds (with_reset work (v ++ u)) x)
      pre_adds = go (reset_run work (v ++ u) x)
        where
          go : ((v ++ u ≡ []) × (entries_after w ds (with_reset work (v ++ u)) x ≡ x)) ⊎ (entries_after w ds (with_reset work (v ++ u)) x ≡ entries_after w ds (v ++ u) (Reset work x))
              → Adds (Pre work more p q) (nest_sum w ds q Filled name env) x (entries_after w ds (with_reset work (v ++ u)) x)
          go (inl e) = subst (λ (z : Entries). Adds (Pre work more p q) (nest_sum w ds q Filled name env) x z) (sym e.1) (pre_empty e.0)
          go (inr e) = subst (λ (z : Entries). Adds (Pre work more p q) (nest_sum w ds q Filled name env) x z) (sym (e ∙ after-append v u (Reset work x))) pre_full

  -- The whole tree -----------------------------------------------------------------------------------------------------

  loop_apart : (v n : ℕ) (walk : Option Walk) (body : Tree) → IsApart (Loop v n walk body) → IsApart body
  loop_apart v n walk body a = record { writes = a.writes; once = a.once; free = a.free; output = a.output }

  -- the visits of a tree add its sum to its output
  pub tree_adds : (tree : Tree) (around : Loops) (scope : Scope) (slots : List ℕ) (x : Entries) → IsApart tree → HaveSlots tree (length slots) → AllFollow ds tree around (renamed scope.pairs) → HaveKernels ds tree around (renamed scope.pairs)
      → Adds tree (nest_sum w ds tree x (renamed scope.pairs) (slice_index slots)) x (entries_after w ds (tree_visits (tests_of w ds) tree scope slots []) x)
  unfolding nest_sum
  tree_adds (Loop v n walk body) around scope slots x apart room a k =
      around_loop v n walk body (nest_sum w ds (Loop v n walk body) x (renamed scope.pairs) (slice_index slots)) x (entries_after w ds (tree_visits (tests_of w ds) (Loop v n walk body) scope slots []) x)
      (go (is_kernel_leaf body) (λ e. kernel_adds walk v n body around scope slots x e room.0 a.0 k.0)
      (loop_adds walk v n body scope slots room.0 (loop_apart v n walk body apart) n x
      (λ i y. tree_adds body (also around v) (entered scope v) (slice_set slots v i) y (loop_apart v n walk body apart) (subst (HaveSlots body) (sym (length-set slots v i)) room.2) a.3 k.1)))
    where
      go : (b : Bool) → (b ≡ true → Adds body (nest_sum w ds (Loop v n walk body) x (renamed scope.pairs) (slice_index slots)) x (entries_after w ds (substituted_visits (tests_of w ds) walk v n body scope slots) x))
          → Adds body (nest_sum w ds (Loop v n walk body) x (renamed scope.pairs) (slice_index slots)) x
          (entries_after w ds (flat_map (λ i. if takes w walk v (renamed scope.pairs) (value_in w ds scope.pairs (slice_set slots v i)) then tree_visits (tests_of w ds) body (entered scope v) (slice_set slots v i) [] else []) (range_with_len 0 n)) x)
          → Adds body (nest_sum w ds (Loop v n walk body) x (renamed scope.pairs) (slice_index slots)) x
          (entries_after w ds (if b then substituted_visits (tests_of w ds) walk v n body scope slots
          else flat_map (λ i. if takes w walk v (renamed scope.pairs) (value_in w ds scope.pairs (slice_set slots v i)) then tree_visits (tests_of w ds) body (entered scope v) (slice_set slots v i) [] else []) (range_with_len 0 n)) x)
      go true f l = f refl
      go false f l = l
  tree_adds (Pre work more p q) around scope slots x apart room a k =
      let e : renamed (scope.pairs ++ more) ≡ under more (renamed scope.pairs) = fun_ext (renamed-append scope.pairs more) in
      pre_adds work more p q apart (renamed scope.pairs) (slice_index slots) (tree_visits (tests_of w ds) p (in_producer scope more) slots []) (tree_visits (tests_of w ds) q scope slots []) x
      (λ y. subst (λ (name : Env). Adds p (nest_sum w ds p y name (slice_index slots)) y (entries_after w ds (tree_visits (tests_of w ds) p (in_producer scope more) slots []) y)) e
      (tree_adds p around (in_producer scope more) slots y (first_apart work more p q apart) room.0 (subst (AllFollow ds p around) (sym e) a.1) (subst (HaveKernels ds p around) (sym e) k.2)))
      (λ y. tree_adds q around scope slots y (second_apart work more p q apart) room.1 a.2 k.3)
  tree_adds (Leaf lhs terms guards kernel) around scope slots x apart room a k = leaf_adds lhs terms guards kernel scope slots x
