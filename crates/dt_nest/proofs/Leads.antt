-- What follows from the loops around a place before a command follows from those around it after, by more derivations, and
-- the way back.
use Rattle.std.proofs.Common.{◌≡◌, ℕ, ◌<◌, ◌≤◌, Bool, true, false, ◌||◌, ◌&&◌, List, [], ◌∷◌, ◌++◌, length, refl, sym, ap, ◌∙◌, subst, arith}
use Rattle.std.specs.Prelude.{if◌then◌else◌, not, MatchBool, nat_eq, nat_le}
use Rattle.std.specs.List.{AllByRecursion, list_any}
use Rattle.std.proofs.lemmas.Bool.{eqb-true, eq-eqb, ne_eqb, leb-true, or_left, or_right, or_parts, or_from, and_parts, and_from, not-true, not_from_false}
use Rattle.std.proofs.lemmas.List.Folds.{list_any-append}
use Rattle.dt_nest.specs.declared.loops.Pair.{Pair}
use Rattle.dt_nest.specs.declared.derivations.Derived.{Derived}
use Rattle.dt_nest.proofs.Each.{all_map}
use Rattle.dt_nest.specs.Schedule.{Schedule}
use Rattle.dt_nest.specs.Meaning.{Env, renamed, under}
use Rattle.dt_nest.specs.Lawful.{ArePairs, sources, is_replaced, IsBounded, AreNamed, Loops, also, Follows, IsPast}
use Rattle.dt_nest.proofs.Truth.{or_either, below_or_past, all_and, any_with, any_more, any_none, none_any}
use Rattle.dt_nest.proofs.Agree.{also_here, also_more, follows_loop}

-- One more loop -------------------------------------------------------------------------------------------------------

pub also_either : (R : Type 0) (a : Loops) (v u : ℕ) → also a v u ≡ true → (u ≡ v → R) → (a u ≡ true → R) → R
also_either R a v u h f g = or_either R (nat_eq u v) (a u) h (λ e. f (eqb-true u v e)) g

-- What is replaced ----------------------------------------------------------------------------------------------------

-- what no later derivation replaces or names is not replaced by them
pub past_kept : (v : ℕ) (ds : List Derived) → IsPast v ds → is_replaced ds v ≡ false
past_kept v [] h = refl
past_kept v (d ∷ ds) h = go (nat_eq v d.var) h.0.0 (past_kept v ds h.1)
  where
    go : (b : Bool) → b ≡ false → is_replaced ds v ≡ false → (b || is_replaced ds v) ≡ false
    go true e r = absurd (cc)
    go false e r = r

-- what no derivation replaces is a loop where it follows
pub follows_whole : (ds : List Derived) (a : Loops) (name : Env) (v : ℕ) → is_replaced ds v ≡ false → Follows ds a name v → a v ≡ true
follows_whole [] a name v r h = h
follows_whole (d ∷ ds) a name v r h = let o = or_parts (nat_eq v d.var) (is_replaced ds v) r in go (nat_eq v d.var) o.0 h (λ f. follows_whole ds a name v o.1 f)
  where
    go : (b : Bool) → b ≡ false → MatchBool b (AllByRecursion (λ u. Follows ds a name (name u)) (sources d.how)) (Follows ds a name v) → (Follows ds a name v → a v ≡ true) → a v ≡ true
    go true e f r = absurd (cc)
    go false e f r = r f

-- by neither list, by both
pub replaced_append : (ds new : List Derived) (v : ℕ) → is_replaced ds v ≡ false → is_replaced new v ≡ false → is_replaced (ds ++ new) v ≡ false
replaced_append ds new v h k = list_any-append (λ d. nat_eq v d.var) ds new ∙ or_from (is_replaced ds v) (is_replaced new v) h k

pub append_replaced : (ds new : List Derived) (v : ℕ) → is_replaced (ds ++ new) v ≡ false → (is_replaced ds v ≡ false) × (is_replaced new v ≡ false)
append_replaced ds new v h = or_parts (is_replaced ds v) (is_replaced new v) (sym (list_any-append (λ d. nat_eq v d.var) ds new) ∙ h)

-- a name past those of all variables
pub past_replaced : (k : ℕ) (ds : List Derived) → AllByRecursion (λ d. d.var < k) ds → (u : ℕ) → k ≤ u → is_replaced ds u ≡ false
past_replaced k ds h u le = none_any (λ d. nat_eq u d.var) ds (all_map (λ (d : Derived). d.var < k) (λ d. nat_eq u d.var ≡ false) (λ d l. ne_eqb u d.var (λ e. omega (arith, e, l))) ds h)

-- derivations replace names among the first, and name such
pub named_vars : (s : Schedule) (ds : List Derived) → AreNamed s ds → AllByRecursion (λ d. d.var < length s.names) ds
named_vars s ds h = all_map (λ (d : Derived). (d.var < length s.names) × AllByRecursion (λ u. u < length s.names) (sources d.how) × IsBounded s d.var d.how) (λ d. d.var < length s.names) (λ d p. p.0) ds h

pub named_sources : (s : Schedule) (ds : List Derived) → AreNamed s ds → AllByRecursion (λ d. AllByRecursion (λ u. u < length s.names) (sources d.how)) ds
named_sources s ds h =
    all_map (λ (d : Derived). (d.var < length s.names) × AllByRecursion (λ u. u < length s.names) (sources d.how) × IsBounded s d.var d.how) (λ d. AllByRecursion (λ u. u < length s.names) (sources d.how)) (λ d p. p.1) ds h

-- New names -----------------------------------------------------------------------------------------------------------

-- a producer's names are among the first, and leave the others
pub renamed_past : (s : Schedule) (pairs : List Pair) → ArePairs s pairs → (u : ℕ) → length s.names ≤ u → renamed pairs u ≡ u
renamed_past s [] h u le = refl
renamed_past s (p ∷ ps) h u le =
    let e : nat_eq u p.from ≡ false = ne_eqb u p.from (λ q. omega (arith, q, h.0.0)) in
    ap (λ (b : Bool). renamed ps (if b then p.to else u)) e ∙ renamed_past s ps h.1 u le

pub renamed_below : (s : Schedule) (pairs : List Pair) → ArePairs s pairs → (u : ℕ) → u < length s.names → renamed pairs u < length s.names
renamed_below s [] h u l = l
renamed_below s (p ∷ ps) h u l = renamed_below s ps h.1 (if nat_eq u p.from then p.to else u) (go (nat_eq u p.from))
  where
    go : (b : Bool) → (if b then p.to else u) < length s.names
    go true = h.0.1
    go false = l

-- From some loops to others -------------------------------------------------------------------------------------------

-- From the loops a around a place the new derivations lead to the loops b; names from k on are new. What is replaced is old.
-- An old loop stays around if it isn't replaced, and else follows from loops that are around; no other old name comes. A
-- derivation of what isn't around names a new loop that isn't around either.
pub record Leads (k : ℕ) (new : List Derived) (a b : Loops) : Type 0 where
  pub old : AllByRecursion (λ d. d.var < k) new
  pub kept : (u : ℕ) → a u ≡ true → is_replaced new u ≡ false → b u ≡ true
  pub through : AllByRecursion (λ d. a d.var ≡ true → AllByRecursion (λ u. (b u ≡ true) × (is_replaced new u ≡ false)) (sources d.how)) new
  pub back : (u : ℕ) → u < k → b u ≡ true → a u ≡ true
  pub missing : AllByRecursion (λ d. a d.var ≡ false → list_any (λ u. nat_le k u && not (b u)) (sources d.how) ≡ true) new

-- nothing is around at first
pub leads_first : (k : ℕ) (new : List Derived) → AllByRecursion (λ d. d.var < k) new → AllByRecursion (λ d. list_any (λ u. nat_le k u) (sources d.how) ≡ true) new → Leads k new (λ u. false) (λ u. false)
leads_first k new old fresh = record {
  old = old;
  kept = λ u h r. absurd (cc);
  through = all_map (λ (d : Derived). d.var < k) (λ d. false ≡ true → AllByRecursion (λ u. (false ≡ true) × (is_replaced new u ≡ false)) (sources d.how)) (λ d l h. absurd (cc)) new old;
  back = λ u l h. absurd (cc);
  missing =
      all_map (λ (d : Derived). list_any (λ u. nat_le k u) (sources d.how) ≡ true) (λ d. false ≡ false → list_any (λ u. nat_le k u && not false) (sources d.how) ≡ true)
      (λ d f h. any_more (λ u. nat_le k u) (λ u. nat_le k u && not false) (λ u e. and_from (nat_le k u) true e refl) (sources d.how) f) new fresh;
}

-- one more old loop that isn't replaced
pub leads_also : (k : ℕ) (new : List Derived) (a b : Loops) (v : ℕ) → v < k → is_replaced new v ≡ false → Leads k new a b → Leads k new (also a v) (also b v)
leads_also k new a b v below whole l = record {
  old = l.old;
  kept = λ u h r. also_either (also b v u ≡ true) a v u h (λ e. subst (λ (z : ℕ). also b v z ≡ true) (sym e) (also_here b v)) (λ h. also_more b v u (l.kept u h r));
  through =
      all_map (λ (d : Derived). (nat_eq v d.var ≡ false) × (a d.var ≡ true → AllByRecursion (λ u. (b u ≡ true) × (is_replaced new u ≡ false)) (sources d.how)))
      (λ d. also a v d.var ≡ true → AllByRecursion (λ u. (also b v u ≡ true) × (is_replaced new u ≡ false)) (sources d.how))
      (λ d p h. also_either (AllByRecursion (λ u. (also b v u ≡ true) × (is_replaced new u ≡ false)) (sources d.how)) a v d.var h
      (λ e. let t : nat_eq v d.var ≡ true = eq-eqb v d.var (sym e) in let f = p.0 in absurd (cc))
      (λ h. all_map (λ u. (b u ≡ true) × (is_replaced new u ≡ false)) (λ u. (also b v u ≡ true) × (is_replaced new u ≡ false)) (λ u q. (also_more b v u q.0, q.1)) (sources d.how) (p.1 h)))
      new (all_and (λ (d : Derived). nat_eq v d.var ≡ false) (λ d. a d.var ≡ true → AllByRecursion (λ u. (b u ≡ true) × (is_replaced new u ≡ false)) (sources d.how)) new apart l.through);
  back = λ u lt h. also_either (also a v u ≡ true) b v u h (λ e. subst (λ (z : ℕ). also a v z ≡ true) (sym e) (also_here a v)) (λ h. also_more a v u (l.back u lt h));
  missing =
      all_map (λ (d : Derived). a d.var ≡ false → list_any (λ u. nat_le k u && not (b u)) (sources d.how) ≡ true) (λ d. also a v d.var ≡ false → list_any (λ u. nat_le k u && not (also b v u)) (sources d.how) ≡ true)
      (λ d m h. any_more (λ u. nat_le k u && not (b u)) (λ u. nat_le k u && not (also b v u)) (λ u e. still u (and_parts (nat_le k u) (not (b u)) e)) (sources d.how) (m (or_parts (nat_eq d.var v) (a d.var) h).1))
      new l.missing;
}
  where
    apart : AllByRecursion (λ (d : Derived). nat_eq v d.var ≡ false) new
    apart = any_none (λ (d : Derived). nat_eq v d.var) new whole

    still : (u : ℕ) → (nat_le k u ≡ true) × (not (b u) ≡ true) → (nat_le k u && not (also b v u)) ≡ true
    still u h =
        let le : k ≤ u = leb-true k u h.0 in
        and_from (nat_le k u) (not (also b v u)) h.0 (not_from_false (also b v u) (or_from (nat_eq u v) (b u) (ne_eqb u v (λ e. omega (arith, e, le))) (not-true (b u) h.1)))

-- A place of a schedule: the new derivations lead from a to b, new loops have no other names there, and the loops around
-- neither have other names nor were replaced.
pub record Stands (s : Schedule) (new : List Derived) (a b : Loops) (name : Env) : Type 0 where
  pub leads : Leads (length s.names) new a b
  pub past : (u : ℕ) → length s.names ≤ u → name u ≡ u
  pub below : (u : ℕ) → u < length s.names → name u < length s.names
  pub plain : (u : ℕ) → a u ≡ true → (u < length s.names) × (name u ≡ u) × (is_replaced s.derived u ≡ false)

-- the whole tree
pub stands_first : (s : Schedule) (new : List Derived) → AllByRecursion (λ d. d.var < length s.names) new → AllByRecursion (λ d. list_any (λ u. nat_le (length s.names) u) (sources d.how) ≡ true) new
    → Stands s new (λ u. false) (λ u. false) (λ u. u)
stands_first s new old fresh = record { leads = leads_first (length s.names) new old fresh; past = λ u l. refl; below = λ u l. l; plain = λ u h. absurd (cc) }

-- below one more loop
pub stands_also : (s : Schedule) (new : List Derived) (a b : Loops) (name : Env) (v : ℕ) → v < length s.names → name v ≡ v → is_replaced s.derived v ≡ false → is_replaced new v ≡ false
    → Stands s new a b name → Stands s new (also a v) (also b v) name
stands_also s new a b name v below own whole kept at = record {
  leads = leads_also (length s.names) new a b v below kept at.leads;
  past = at.past;
  below = at.below;
  plain = λ u h. also_either ((u < length s.names) × (name u ≡ u) × (is_replaced s.derived u ≡ false)) a v u h
      (λ e. subst (λ (z : ℕ). (z < length s.names) × (name z ≡ z) × (is_replaced s.derived z ≡ false)) (sym e) (below, own, whole)) (at.plain u);
}

-- in a producer
pub stands_under : (s : Schedule) (new : List Derived) (a b : Loops) (name : Env) (pairs : List Pair) → ArePairs s pairs → ((u : ℕ) → Follows s.derived a name u → renamed pairs u ≡ u)
    → Stands s new a b name → Stands s new a b (under pairs name)
stands_under s new a b name pairs p keeps at = record {
  leads = at.leads;
  past = λ u le. ap (renamed pairs) (at.past u le) ∙ renamed_past s pairs p u le;
  below = λ u l. renamed_below s pairs p (name u) (at.below u l);
  plain = λ u h. let q = at.plain u h in (q.0, ap (renamed pairs) q.1 ∙ keeps u (follows_loop s.derived a name u q.2 h), q.2);
}

module _ (s : Schedule) (new : List Derived) (a b : Loops) (name : Env) (at : Stands s new a b name) where
  -- the loops around have no other names after either
  pub stands_plain : (u : ℕ) → b u ≡ true → name u ≡ u
  stands_plain u h = below_or_past (name u ≡ u) u (length s.names) (λ l. (at.plain u (at.leads.back u l h)).1) (at.past u)

  new_on : (rest : List Derived) → ((u : ℕ) → is_replaced new u ≡ false → is_replaced rest u ≡ false)
      → AllByRecursion (λ d. a d.var ≡ true → AllByRecursion (λ u. (b u ≡ true) × (is_replaced new u ≡ false)) (sources d.how)) rest
      → (v : ℕ) → a v ≡ true → (is_replaced rest v ≡ false → b v ≡ true) → Follows rest b name v
  new_on [] part through v h kept = kept refl
  new_on (d ∷ ds) part through v h kept = go (nat_eq v d.var) (eqb-true v d.var) kept (λ k. new_on ds later through.1 v h k)
    where
      later : (u : ℕ) → is_replaced new u ≡ false → is_replaced ds u ≡ false
      later u r = (or_parts (nat_eq u d.var) (is_replaced ds u) (part u r)).1

      go : (t : Bool) → (t ≡ true → v ≡ d.var) → ((t || is_replaced ds v) ≡ false → b v ≡ true) → ((is_replaced ds v ≡ false → b v ≡ true) → Follows ds b name v)
          → MatchBool t (AllByRecursion (λ u. Follows ds b name (name u)) (sources d.how)) (Follows ds b name v)
      go true e k r =
          all_map (λ u. (b u ≡ true) × (is_replaced new u ≡ false)) (λ u. Follows ds b name (name u))
          (λ u q. subst (λ (z : ℕ). Follows ds b name z) (sym (stands_plain u q.0)) (follows_loop ds b name u (later u q.1) q.0))
          (sources d.how) (through.0 (subst (λ (z : ℕ). a z ≡ true) (e refl) h))
      go false e k r = r k

  -- what followed follows
  pub follows_on : (ds : List Derived) (v : ℕ) → Follows ds a name v → Follows (ds ++ new) b name v
  follows_on [] v f = new_on new (λ u r. r) at.leads.through v f (at.leads.kept v f)
  follows_on (d ∷ ds) v f = go (nat_eq v d.var) (λ u g. follows_on ds u g) f
    where
      go : (t : Bool) → ((u : ℕ) → Follows ds a name u → Follows (ds ++ new) b name u) → MatchBool t (AllByRecursion (λ u. Follows ds a name (name u)) (sources d.how)) (Follows ds a name v)
          → MatchBool t (AllByRecursion (λ u. Follows (ds ++ new) b name (name u)) (sources d.how)) (Follows (ds ++ new) b name v)
      go true r f = all_map (λ u. Follows ds a name (name u)) (λ u. Follows (ds ++ new) b name (name u)) (λ u g. r (name u) g) (sources d.how) f
      go false r f = r v f

  -- a new derivation has values only where its variable was around
  pub replaced_around : (ds : List Derived) → ((u : ℕ) → length s.names ≤ u → is_replaced ds u ≡ false) → (d : Derived)
      → (a d.var ≡ false → list_any (λ u. nat_le (length s.names) u && not (b u)) (sources d.how) ≡ true)
      → AllByRecursion (λ u. Follows ds b name (name u)) (sources d.how) → a d.var ≡ true
  replaced_around ds whole d missing f = go (a d.var) missing
    where
      none : (u : ℕ) → (nat_le (length s.names) u && not (b u)) ≡ true → Follows ds b name (name u) → ⊥
      none u h f =
          let q = and_parts (nat_le (length s.names) u) (not (b u)) h in
          let le : length s.names ≤ u = leb-true (length s.names) u q.0 in
          let k : b u ≡ true = follows_whole ds b name u (whole u le) (subst (λ (z : ℕ). Follows ds b name z) (at.past u le) f) in
          let n : b u ≡ false = not-true (b u) q.1 in absurd (cc)

      go : (t : Bool) → (t ≡ false → list_any (λ u. nat_le (length s.names) u && not (b u)) (sources d.how) ≡ true) → t ≡ true
      go true m = refl
      go false m = absurd (any_with ⊥ (λ u. nat_le (length s.names) u && not (b u)) (λ u. Follows ds b name (name u)) none (sources d.how) (m refl) f)

  new_back : (rest : List Derived) → AllByRecursion (λ d. d.var < length s.names) rest
      → AllByRecursion (λ d. a d.var ≡ false → list_any (λ u. nat_le (length s.names) u && not (b u)) (sources d.how) ≡ true) rest
      → (v : ℕ) → v < length s.names → Follows rest b name v → a v ≡ true
  new_back [] old missing v l f = at.leads.back v l f
  new_back (d ∷ ds) old missing v l f = go (nat_eq v d.var) (eqb-true v d.var) f (λ f. new_back ds old.1 missing.1 v l f)
    where
      go : (t : Bool) → (t ≡ true → v ≡ d.var) → MatchBool t (AllByRecursion (λ u. Follows ds b name (name u)) (sources d.how)) (Follows ds b name v) → (Follows ds b name v → a v ≡ true) → a v ≡ true
      go true e f r = subst (λ (z : ℕ). a z ≡ true) (sym (e refl)) (replaced_around ds (past_replaced (length s.names) ds old.1) d missing.0 f)
      go false e f r = r f

  -- an old name that follows did so before
  pub follows_back : (ds : List Derived) → AllByRecursion (λ d. AllByRecursion (λ u. u < length s.names) (sources d.how)) ds → (v : ℕ) → v < length s.names → Follows (ds ++ new) b name v → Follows ds a name v
  follows_back [] below v l f = new_back new at.leads.old at.leads.missing v l f
  follows_back (d ∷ ds) below v l f = go (nat_eq v d.var) (λ u l g. follows_back ds below.1 u l g) f
    where
      go : (t : Bool) → ((u : ℕ) → u < length s.names → Follows (ds ++ new) b name u → Follows ds a name u)
          → MatchBool t (AllByRecursion (λ u. Follows (ds ++ new) b name (name u)) (sources d.how)) (Follows (ds ++ new) b name v)
          → MatchBool t (AllByRecursion (λ u. Follows ds a name (name u)) (sources d.how)) (Follows ds a name v)
      go true r f =
          all_map (λ u. (u < length s.names) × Follows (ds ++ new) b name (name u)) (λ u. Follows ds a name (name u)) (λ u q. r (name u) (at.below u q.0) q.1)
          (sources d.how) (all_and (λ u. u < length s.names) (λ u. Follows (ds ++ new) b name (name u)) (sources d.how) below.0 f)
      go false r f = r v l f
