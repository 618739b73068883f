-- The units of a task do to a node's words what its visits do to entries.
use Rattle.std.proofs.Common.{◌≡◌, ℕ, ◌+◌, ◌-◌, ◌*◌, ◌/◌, ◌%◌, ◌^◌, ◌<◌, Bool, true, false, ◌&&◌, List, [], ◌∷◌, ◌++◌, length, map, sum_by, Option, None, Some, is_some, refl, ap, sym, ◌∙◌, subst}
use Rattle.std.specs.Prelude.{if◌then◌else◌, nat_eq, nat_lt, slice_get, option_map, unwrap_or}
use Rattle.std.specs.Option.{option_and_then}
use Rattle.std.specs.List.{AllByRecursion, flat_map}
use Rattle.std.specs.Str.{bytes_eq}
use Rattle.std.proofs.lemmas.Bool.{eqb-true, eq-eqb, lt-ltb}
use Rattle.std.proofs.lemmas.List.Sums.{sum_by-cons}
use Rattle.std.proofs.lemmas.Nat.{div-mul-add, mod-mul-add}
use Rattle.std.proofs.lemmas.Slice.Eq.{bytes_eq-Decides}
use Rattle.std.proofs.lemmas.Option.{same_Some}
use Rattle.dt_base.specs.Rows.{product, row_major}
use Rattle.dt_base.proofs.Rows.{row_major-below}
use Rattle.dt_model.specs.Positions.{StoredTensor, place_in, tensor_at}
use Rattle.dt_model.specs.Value.{sign}
use Rattle.dt_model.specs.declared.stmt.Access.{Access}
use Rattle.dt_model.specs.declared.stmt.Factor.{Factor}
use Rattle.dt_model.specs.declared.stmt.Factor.TheVariants.{Read, Literal}
use Rattle.dt_model.specs.declared.stmt.Term.{Term}
use Rattle.dt_runs.specs.Sets.{contains}
use Rattle.dt_nest.specs.declared.parts.Work.{Work}
use Rattle.dt_nest.proofs.Each.{all_map}
use Rattle.dt_nest.specs.Tree.{factor_accesses, read_accesses}
use Rattle.dt_nest.specs.Schedule.{Schedule}
use Rattle.dt_nest.specs.Meaning.{Env, Entries, factor_of, term_of, terms_of}
use Rattle.dt_nest.specs.World.{world_of}
use Rattle.dt_nest.specs.Visits.{LeafVisit, Item, IsReset, IsVisit, visits_of, environments, needed_of}
use Rattle.dt_nest.specs.Effects.{visit_sum, left_at, with_more, effect_of, entries_after}
use Rattle.dt_nest.specs.Unit.{Word, State, word_of, number_in, entries_in, added_by, written_by, grown_at, cleared_at, unit_of}
use Rattle.dt_bounds.specs.NeededPaths.{IsNeededAt, AccessesNeeded}
use Rattle.dt_bounds.specs.TaskUnits.{units_after, Carries, HasLeft, UnitsFollowEffects}
use Rattle.dt_bounds.proofs.PathAccesses.{accesses_needed, place_has}

-- A word has one index -----------------------------------------------------------------------------------------------------

-- indices with one row-major number are the same
row_major-same : (ns c d : List ℕ) (k : ℕ) → row_major ns c ≡ Some k → row_major ns d ≡ Some k → c ≡ d
row_major-same [] [] [] k e f = refl
row_major-same [] [] (y ∷ d) k e f = absurd (cc)
row_major-same [] (x ∷ c) d k e f = absurd (cc)
row_major-same (n ∷ ns) [] d k e f = absurd (cc)
row_major-same (n ∷ ns) (x ∷ c) [] k e f = absurd (cc)
row_major-same (n ∷ ns) (x ∷ c) (y ∷ d) k e f = go (nat_lt x n) (nat_lt y n) (row_major ns c) refl (row_major ns d) refl e f (λ j g h. row_major-same ns c d j g h)
  where
    pair : (i j : ℕ) → i < product ns → j < product ns → x * product ns + i ≡ y * product ns + j → (x ≡ y) × (i ≡ j)
    pair i j l m h = (
      sym (div-mul-add x (product ns) i l) ∙ ap (λ (a : ℕ). a / product ns) h ∙ div-mul-add y (product ns) j m,
      sym (mod-mul-add x (product ns) i l) ∙ ap (λ (a : ℕ). a % product ns) h ∙ mod-mul-add y (product ns) j m,
    )

    go : (a b : Bool) (o : Option ℕ) → row_major ns c ≡ o → (r : Option ℕ) → row_major ns d ≡ r
        → (if a then option_map (λ k. x * product ns + k) o else None) ≡ Some k → (if b then option_map (λ k. y * product ns + k) r else None) ≡ Some k
        → ((j : ℕ) → row_major ns c ≡ Some j → row_major ns d ≡ Some j → c ≡ d) → x ∷ c ≡ y ∷ d
    go true true (Some i) g (Some j) h e f r =
        let both : x * product ns + i ≡ y * product ns + j = same_Some (x * product ns + i) k e ∙ sym (same_Some (y * product ns + j) k f) in
        let parts = pair i j (row_major-below ns c i g) (row_major-below ns d j h) both in
        ap (λ (a : ℕ). a ∷ c) parts.0 ∙ ap (λ (l : List ℕ). y ∷ l) (r i g (h ∙ ap Some (sym parts.1)))
    go true true (Some i) g None h e f r = absurd (cc)
    go true true None g o h e f r = absurd (cc)
    go true false o g q h e f r = absurd (cc)
    go false b o g q h e f r = absurd (cc)

-- and so are indices with one word
word_same : (stored : List StoredTensor) (s : Schedule) (t : ℕ) (c d : List ℕ) (k : ℕ) → word_of stored s t c ≡ Some k → word_of stored s t d ≡ Some k → c ≡ d
word_same stored s t c d k = go (nat_lt t (length s.tensors)) (slice_get s.works (t - length s.tensors))
  where
    go : (b : Bool) (o : Option Work) → (if b then place_in (tensor_at stored t) c else option_and_then (λ (x : Work). row_major x.extents c) o) ≡ Some k
        → (if b then place_in (tensor_at stored t) d else option_and_then (λ (x : Work). row_major x.extents d) o) ≡ Some k → c ≡ d
    go true o e f = sym (place_has (tensor_at stored t) c k e).1 ∙ (place_has (tensor_at stored t) d k f).1
    go false None e f = absurd (cc)
    go false (Some x) e f = row_major-same x.extents c d k e f

-- Sums over entries that agree where they are read ----------------------------------------------------------------------------

module _ (x y : Entries) (val : Env) where
  -- the entries agree at an access
  abbrev Agrees : Access → Type 0
  Agrees a = x a.tensor (map val a.vars) ≡ y a.tensor (map val a.vars)

  all_parts : (xs ys : List Access) → AllByRecursion Agrees (xs ++ ys) → AllByRecursion Agrees xs × AllByRecursion Agrees ys
  all_parts [] ys h = (tt, h)
  all_parts (a ∷ xs) ys h = let r = all_parts xs ys h.1 in ((h.0, r.0), r.1)

  factors_agree : (fs : List Factor) → AllByRecursion Agrees (flat_map factor_accesses fs) → map (factor_of x val) fs ≡ map (factor_of y val) fs
  factors_agree [] h = refl
  factors_agree (Read a ∷ fs) h = ap (λ (n : ℕ). n ∷ map (factor_of x val) fs) h.0 ∙ ap (λ (l : List ℕ). y a.tensor (map val a.vars) ∷ l) (factors_agree fs h.1)
  factors_agree (Literal n ∷ fs) h = ap (λ (l : List ℕ). n ∷ l) (factors_agree fs h)

  terms_agree : (ts : List Term) → AllByRecursion Agrees (read_accesses ts) → terms_of x val ts ≡ terms_of y val ts
  terms_agree [] h = refl
  terms_agree (t ∷ ts) h =
      let parts = all_parts (flat_map factor_accesses t.factors) (read_accesses ts) h in
      sum_by-cons (term_of x val) t ts
      ∙ ap (λ (l : List ℕ). sign t.minus * product l + sum_by (term_of x val) ts) (factors_agree t.factors parts.0)
      ∙ ap (λ (n : ℕ). term_of y val t + n) (terms_agree ts parts.1)
      ∙ sym (sum_by-cons (term_of y val) t ts)

sums_agree : (f g : Env → ℕ) (vals : List Env) → AllByRecursion (λ val. f val ≡ g val) vals → sum_by f vals ≡ sum_by g vals
sums_agree f g [] h = refl
sums_agree f g (v ∷ vals) h = sum_by-cons f v vals ∙ ap (λ (n : ℕ). n + sum_by f vals) h.0 ∙ ap (λ (n : ℕ). g v + n) (sums_agree f g vals h.1) ∙ sym (sum_by-cons g v vals)

-- Units -----------------------------------------------------------------------------------------------------------------

module _ (stored : List StoredTensor) (s : Schedule) (p : List ℕ) (state : State) (x : Entries) (carries : Carries stored s p state x) where
  -- what is read is the entries' number
  number_read : (t : ℕ) (c : List ℕ) → ((w : ℕ) → place_in (tensor_at stored t) c ≡ Some w → contains (needed_of stored s t p) w ≡ true) → entries_in stored s state t c ≡ x t c
  number_read t c need = go (word_of stored s t c) refl
    where
      place : (b : Bool) → b ≡ true → (o : Option ℕ) (k : ℕ) → (if b then place_in (tensor_at stored t) c else o) ≡ Some k → place_in (tensor_at stored t) c ≡ Some k
      place true e o k f = f
      place false e o k f = absurd (cc)

      go : (o : Option ℕ) → word_of stored s t c ≡ o → number_in state t o ≡ x t c
      go None e = sym (carries.none t c e)
      go (Some k) e = ap (λ (o : Option ℕ). unwrap_or o 0) (carries.held t c k e (λ l. need k (place (nat_lt t (length s.tensors)) (lt-ltb t (length s.tensors) l) _ k e)))

  -- a visit adds what it adds to the entries
  added_same : (visit : LeafVisit) → AccessesNeeded stored s p (IsVisit visit) → added_by stored s state visit ≡ visit_sum (world_of stored s) s.derived x visit
  added_same visit a =
      sums_agree (λ val. terms_of (entries_in stored s state) val visit.leaf.terms) (λ val. terms_of x val visit.leaf.terms) (environments (world_of stored s) s.derived visit)
      (all_map (λ val. AllByRecursion (IsNeededAt stored s p val) (visit.leaf.lhs ∷ read_accesses visit.leaf.terms)) (λ val. terms_of (entries_in stored s state) val visit.leaf.terms ≡ terms_of x val visit.leaf.terms)
      (λ val h. terms_agree (entries_in stored s state) x val visit.leaf.terms
      (all_map (IsNeededAt stored s p val) (Agrees (entries_in stored s state) x val) (λ b k. number_read b.tensor (map val b.vars) k) (read_accesses visit.leaf.terms) h.1))
      (environments (world_of stored s) s.derived visit) a)

  -- one word grows as one entry does
  grown : (t : ℕ) (left : List ℕ) (k d : ℕ) → word_of stored s t left ≡ Some k → Carries stored s p (grown_at state t (Some k) d) (with_more x t left d)
  grown t left k d here = record { held = held; none = none }
    where
      held : (u : ℕ) (c : List ℕ) (j : ℕ) → word_of stored s u c ≡ Some j → (u < length s.tensors → contains (needed_of stored s u p) j ≡ true) → grown_at state t (Some k) d (Word u j) ≡ Some (with_more x t left d u c)
      held u c j e n = go (nat_eq u t) (eqb-true u t) (nat_eq j k) (eqb-true j k) (eq-eqb j k) (bytes_eq left c) (bytes_eq-Decides left c).0 (bytes_eq-Decides left c).1 (carries.held u c j e n)
        where
          same : u ≡ t → j ≡ k → left ≡ c
          same i l = word_same stored s t left c k here (subst (λ (v : ℕ). word_of stored s v c ≡ Some k) i (e ∙ ap Some l))

          back : u ≡ t → left ≡ c → j ≡ k
          back i l = same_Some j k (sym e ∙ ap (λ (v : ℕ). word_of stored s v c) i ∙ ap (word_of stored s t) (sym l) ∙ here)

          go : (a : Bool) → (a ≡ true → u ≡ t) → (b : Bool) → (b ≡ true → j ≡ k) → (j ≡ k → b ≡ true) → (q : Bool) → (q ≡ true → left ≡ c) → (left ≡ c → q ≡ true) → state (Word u j) ≡ Some (x u c)
              → (if a && b then option_map (λ z. (z + d) % 2 ^ 64) (state (Word u j)) else state (Word u j)) ≡ Some (if a && q then (x u c + d) % 2 ^ 64 else x u c)
          go false f b g g' q h h' w = w
          go true f true g g' true h h' w = ap (option_map (λ z. (z + d) % 2 ^ 64)) w
          go true f false g g' false h h' w = w
          go true f true g g' false h h' w = let z = h' (same (f refl) (g refl)) in absurd (cc)
          go true f false g g' true h h' w = let z = g' (back (f refl) (h refl)) in absurd (cc)

      none : (u : ℕ) (c : List ℕ) → word_of stored s u c ≡ None → with_more x t left d u c ≡ 0
      none u c e = go (nat_eq u t) (eqb-true u t) (bytes_eq left c) (bytes_eq-Decides left c).0
        where
          clash : u ≡ t → left ≡ c → ⊥
          clash i l = let z : Some k ≡ None = sym here ∙ ap (word_of stored s t) l ∙ ap (λ (v : ℕ). word_of stored s v c) (sym i) ∙ e in absurd (cc)

          go : (a : Bool) → (a ≡ true → u ≡ t) → (q : Bool) → (q ≡ true → left ≡ c) → (if a && q then (x u c + d) % 2 ^ 64 else x u c) ≡ 0
          go false f q h = carries.none u c e
          go true f false h = carries.none u c e
          go true f true h = absurd (clash (f refl) (h refl))

  -- the words of a workspace become 0 as its entries do
  cleared : (work : ℕ) → Carries stored s p (cleared_at state (length s.tensors + work)) (effect_of (world_of stored s) s.derived (IsReset work) x)
  cleared work = record { held = held; none = none }
    where
      held : (u : ℕ) (c : List ℕ) (j : ℕ) → word_of stored s u c ≡ Some j → (u < length s.tensors → contains (needed_of stored s u p) j ≡ true)
          → cleared_at state (length s.tensors + work) (Word u j) ≡ Some (effect_of (world_of stored s) s.derived (IsReset work) x u c)
      held u c j e n = go (nat_eq u (length s.tensors + work)) (carries.held u c j e n)
        where
          go : (a : Bool) → state (Word u j) ≡ Some (x u c) → (if a then option_map (λ z. 0) (state (Word u j)) else state (Word u j)) ≡ Some (if a then 0 else x u c)
          go true w = ap (option_map (λ z. 0)) w
          go false w = w

      none : (u : ℕ) (c : List ℕ) → word_of stored s u c ≡ None → effect_of (world_of stored s) s.derived (IsReset work) x u c ≡ 0
      none u c e = go (nat_eq u (length s.tensors + work))
        where
          go : (a : Bool) → (if a then 0 else x u c) ≡ 0
          go true = refl
          go false = carries.none u c e

  -- a unit does to the words what its item does to the entries
  pub unit_carries : (item : Item) → AccessesNeeded stored s p item → HasLeft stored s item → Carries stored s p (unit_of stored s item state) (effect_of (world_of stored s) s.derived item x)
  unfolding unit_of
  unit_carries (IsReset work) a h = cleared work
  unit_carries (IsVisit visit) a h = go (written_by stored s visit) refl h
    where
      go : (o : Option ℕ) → written_by stored s visit ≡ o → is_some o ≡ true
          → Carries stored s p (grown_at state visit.leaf.lhs.tensor o (added_by stored s state visit)) (with_more x visit.leaf.lhs.tensor (left_at (world_of stored s) s.derived visit) (visit_sum (world_of stored s) s.derived x visit))
      go None e h = absurd (cc)
      go (Some k) e h =
          subst (λ (d : ℕ). Carries stored s p (grown_at state visit.leaf.lhs.tensor (Some k) d) (with_more x visit.leaf.lhs.tensor (left_at (world_of stored s) s.derived visit) (visit_sum (world_of stored s) s.derived x visit))) (sym (added_same visit a))
          (grown visit.leaf.lhs.tensor (left_at (world_of stored s) s.derived visit) k (visit_sum (world_of stored s) s.derived x visit) e)

-- and so do units, one after another
items_carry : (stored : List StoredTensor) (s : Schedule) (p : List ℕ) (items : List Item) (state : State) (x : Entries) → AllByRecursion (AccessesNeeded stored s p) items → AllByRecursion (HasLeft stored s) items → Carries stored s p state x
    → Carries stored s p (units_after stored s items state) (entries_after (world_of stored s) s.derived items x)
items_carry stored s p [] state x a h c = c
items_carry stored s p (item ∷ items) state x a h c =
    items_carry stored s p items (unit_of stored s item state) (effect_of (world_of stored s) s.derived item x) a.1 h.1 (unit_carries stored s p state x c item a.0 h.0)

-- the units of a task do to a node's words what its visits do to entries
pub units_follow_effects : UnitsFollowEffects
units_follow_effects stored s p state x h c = items_carry stored s p (visits_of stored s p) state x (accesses_needed stored s p) h c
