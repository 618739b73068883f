-- Where no test gives a cause, a loop in two is a cut, and the sum below it stays.
use Rattle.std.proofs.Common.{◌≡◌, ℕ, ◌+◌, ◌*◌, ◌<◌, ◌≤◌, Bool, true, false, ◌||◌, List, [], ◌∷◌, ◌++◌, length, length-append, None, refl, ap, ◌∙◌, arith}
use Rattle.std.specs.Prelude.{if◌then◌else◌, nat_eq, nat_le, nat_lt, slice_index}
use Rattle.std.specs.List.{IsDistinct}
use Rattle.std.specs.Str.{bytes_eq}
use Rattle.std.proofs.lemmas.Bool.{eq-eqb, ne_eqb, le-leb, or_from, or_left, or_right}
use Rattle.std.proofs.Math.Bool.{and-true}
use Rattle.std.proofs.lemmas.List.{get_or_append_left}
use Rattle.dt_model.specs.Positions.{StoredTensor}
use Rattle.dt_nest.specs.declared.derivations.Derive.TheVariants as how
use Rattle.dt_cuts.specs.declared.cuts.Cut.{Cut}
use Rattle.dt_nest.specs.Tree.{has_loop, loop_count}
use Rattle.dt_nest.specs.Schedule.{Schedule}
use Rattle.dt_nest.specs.Meaning.{World, Env, bind, known, guards_hold}
use Rattle.dt_nest.specs.World.{world_of}
use Rattle.dt_nest.specs.Lawful.{Loops, IsLawful}
use Rattle.dt_nest.proofs.SumLaws.{sum_below_same, sum_below-split}
use Rattle.dt_cuts.specs.Cutting.{cut_by, is_head, BeginsWith, HoldsAt, NameLoops, IsNewHead, IsCut, sum_over, DependsOn, KeepsBelow}
use Rattle.dt_rewrite.specs.TwoLoops.{two_loops, two_loops_tests}
use Rattle.dt_cuts.specs.Causes.{first_cause}
use Rattle.dt_cuts.proofs.Passing.{FreeLoops, all_pass, heads_free, loops_free, loops_known, names_differ, number_fits, room_left}
use Rattle.dt_cuts.proofs.CutFacts.{index_first, index_second}
use Rattle.dt_cuts.proofs.Stands.{loop_below, all_plain, chain_alone, holds_at_chain}

-- a number and the next differ
two_differ : (k : ℕ) → IsDistinct nat_eq (k ∷ (k + 1) ∷ [])
unfolding IsDistinct
two_differ k = ((ne_eqb k (k + 1) (λ e. omega (arith, e)), tt), (tt, tt))

-- Two new loops in the place of one that is free are a cut.
pub two_loops_cut : (s : Schedule) (v p f : ℕ) (a b : List ℕ) → IsLawful s → has_loop v s.nest ≡ true → FreeLoops s (v ∷ []) → loop_count s.nest + 1 ≤ 16 → IsDistinct bytes_eq (s.names ++ a ∷ b ∷ [])
    → IsCut s (two_loops v (slice_index s.extents v) p f (a ∷ b ∷ []) s)
two_loops_cut s v p f a b law stands free room names = record {
  stand = (stands, stand);
  free = heads_free s c.old free;
  heads = (first_head, (second_head, tt));
  differ = two_differ k;
  few = omega arith;
  names = names;
  extents = refl;
  replaced = ((same, new_apart), tt);
  fresh = (or_left (nat_le k k) (nat_le k (k + 1) || false) (le-leb k k (omega arith)), tt);
  covered = (or_right (is_head c.heads v) (nat_eq v v || false) same, tt);
  ordered = ((ne_eqb k v (λ e. omega (arith, e, below)), (ne_eqb (k + 1) v (λ e. omega (arith, e, below)), tt)), tt, tt);
  named = ((omega (arith, below, two), (omega (arith, two), (omega (arith, two), tt)), tt), tt);
  coordinates = (tt, tt);
  guards = (same, tt);
  guarded = ((λ t. same), tt);
}
  where
    c : Cut
    c = two_loops v (slice_index s.extents v) p f (a ∷ b ∷ []) s

    k : ℕ
    k = length s.names

    below : v < length s.names
    below = loop_below s v s.nest law.named stands

    two : length (s.names ++ a ∷ b ∷ []) ≡ length s.names + 2
    two = length-append s.names (a ∷ b ∷ [])

    same : (nat_eq v v || false) ≡ true
    same = or_left (nat_eq v v) false (eq-eqb v v refl)

    first_head : IsNewHead c s (record { var = k; extent = p })
    first_head = (or_right (is_head c.old k) (nat_le k k) (le-leb k k (omega arith)), omega arith, index_first s.extents k p (f ∷ []) law.names.extents)

    second_head : IsNewHead c s (record { var = k + 1; extent = f })
    second_head = (or_right (is_head c.old (k + 1)) (nat_le k (k + 1)) (le-leb k (k + 1) (omega arith)), omega arith, index_second s.extents k p f [] law.names.extents)

    named_at : (around : Loops) → NameLoops c.heads c.derived around
    named_at around = (
      (
        or_left (is_head c.heads k) (around k) (or_left (nat_eq k k) (nat_eq k (k + 1) || false) (eq-eqb k k refl)),
        (or_left (is_head c.heads (k + 1)) (around (k + 1)) (or_right (nat_eq (k + 1) k) (nat_eq (k + 1) (k + 1) || false) (or_left (nat_eq (k + 1) (k + 1)) false (eq-eqb (k + 1) (k + 1) refl))), tt),
      ),
      tt,
    )

    stand : HoldsAt v (λ t around. BeginsWith c.old t × NameLoops c.heads c.derived around) s.nest (λ u. false)
    stand =
        holds_at_chain s v [] (λ t around. BeginsWith c.old t × NameLoops c.heads c.derived around) (λ t around b. (b, named_at around)) s.nest (λ u. false)
        law.named (law.differ v) (all_plain s.nest law.differ (v ∷ []) free.plain) (chain_alone v s.nest stands)

    new_apart : is_head c.heads v ≡ false
    new_apart = or_from (nat_eq v k) (nat_eq v (k + 1) || false) (ne_eqb v k (λ e. omega (arith, e, below))) (or_from (nat_eq v (k + 1)) false (ne_eqb v (k + 1) (λ e. omega (arith, e, below))) refl)

-- the values below the new loops
below_two : (w : World) (v k f i j : ℕ) (name env : Env) (around : Loops) (g : Env → ℕ) → v < k → name k ≡ k → name (k + 1) ≡ k + 1 → around k ≡ false → around (k + 1) ≡ false
    → DependsOn (λ u. is_head (record { var = v; extent = 0 } ∷ []) u || around u) g
    → let inner : Env = known w (record { var = v; how = how.Split k (k + 1) f } ∷ []) name (bind (bind env k i) (k + 1) j) in
    (inner v ≡ i * f + j) × (g inner ≡ g (bind env v (i * f + j)))
unfolding known
below_two w v k f i j name env around g below names name2 apart apart2 depends = (
  at_v (nat_eq v v) (eq-eqb v v refl),
  depends inner (bind env v (i * f + j)) (λ u h. agree u (nat_eq u v) refl (around u) refl h),
)
  where
    e : Env
    e = bind (bind env k i) (k + 1) j

    inner : Env
    inner = λ u. if nat_eq u v then e (name k) * f + e (name (k + 1)) else e u

    at_k : e (name k) ≡ i
    at_k = ap e names ∙ (rw (ne_eqb k (k + 1) (λ e. omega (arith, e)), eq-eqb k k refl) refl)

    at_next : e (name (k + 1)) ≡ j
    at_next = ap e name2 ∙ (rw (eq-eqb (k + 1) (k + 1) refl) refl)

    at_v : (b : Bool) → b ≡ true → (if b then e (name k) * f + e (name (k + 1)) else e v) ≡ i * f + j
    at_v true h = ap (λ x. x * f + e (name (k + 1))) at_k ∙ ap (λ x. i * f + x) at_next
    at_v false h = absurd (cc)

    elsewhere : (u : ℕ) → around u ≡ true → e u ≡ env u
    elsewhere u h =
        let p = ne_eqb u (k + 1) (λ q. let r = ap around q in absurd (cc)) in
        let p2 = ne_eqb u k (λ q. let r = ap around q in absurd (cc)) in rw (p, p2) refl

    agree : (u : ℕ) (b : Bool) → nat_eq u v ≡ b → (a : Bool) → around u ≡ a → ((b || false) || a) ≡ true → (if b then e (name k) * f + e (name (k + 1)) else e u) ≡ (if b then i * f + j else env u)
    agree u true q a r h = at_v true refl
    agree u false q true r h = elsewhere u r
    agree u false q false r h = absurd (cc)

-- The sum over the two loops, where the guard holds, is the sum over the one.
pub two_loops_keep : (stored : List StoredTensor) (s : Schedule) (v p f : ℕ) (a b : List ℕ) → IsLawful s → v < length s.names → slice_index s.extents v ≤ p * f
    → let c : Cut = two_loops v (slice_index s.extents v) p f (a ∷ b ∷ []) s in KeepsBelow (world_of stored (cut_by c s)) c
unfolding sum_over
two_loops_keep stored s v p f a b law below reach around name env g around_names names_old names_new apart_old apart_new named depends fact =
    sum_below_same p _ _ (λ i li. sum_below_same f _ _ (λ j lj. each i j))
    ∙ sum_below-split n p f (λ x. g (bind env v x)) reach
  where
    k : ℕ
    k = length s.names

    n : ℕ
    n = slice_index s.extents v

    w : World
    w = world_of stored (cut_by (two_loops v n p f (a ∷ b ∷ []) s) s)

    extent : w.extent v ≡ n
    extent = get_or_append_left s.extents (p ∷ f ∷ []) 0 v (omega (arith, below, law.names.extents))

    inner : ℕ → ℕ → Env
    inner i j = known w (record { var = v; how = how.Split k (k + 1) f } ∷ []) name (bind (bind env k i) (k + 1) j)

    each : (i j : ℕ) → (if guards_hold w (inner i j) (v ∷ []) then g (inner i j) else 0) ≡ (if nat_lt (i * f + j) n then g (bind env v (i * f + j)) else 0)
    each i j =
        let t = below_two w v k f i j name env around g below names_new.0 names_new.1.0 apart_new.0 apart_new.1.0 depends in
        let test : guards_hold w (inner i j) (v ∷ []) ≡ nat_lt (i * f + j) n = and-true (nat_lt (inner i j v) (w.extent v)) ∙ ap (λ x. nat_lt x (w.extent v)) t.0 ∙ ap (nat_lt (i * f + j)) extent in
        ap (λ b. if b then g (inner i j) else 0) test ∙ ap (λ x. if nat_lt (i * f + j) n then x else 0) t.1

-- What a cut in two without a cause knows.
pub record IsLegalTwo (s : Schedule) (v m : ℕ) (names : List (List ℕ)) : Type 0 where
  pub known : has_loop v s.nest ≡ true
  pub number : (1 ≤ m) × (m ≤ 65536)
  pub differ : IsDistinct bytes_eq (s.names ++ names)
  pub room : loop_count s.nest + 1 ≤ 16
  pub free : FreeLoops s (v ∷ [])

-- that is what it says that there is no cause
pub legal_two : (s : Schedule) (v m : ℕ) (names : List (List ℕ)) → IsLawful s → first_cause (two_loops_tests v m names s) ≡ None → IsLegalTwo s v m names
legal_two s v m names law h =
    let a = all_pass (two_loops_tests v m names s) h in
    record {
      known = (loops_known s (v ∷ []) a.0).0;
      number = number_fits m a.1.0;
      differ = names_differ s.names names law.names.loops a.1.1.0;
      room = room_left s a.1.1.1.0;
      free = loops_free s (v ∷ []) a.1.1.1.1.0;
    }
