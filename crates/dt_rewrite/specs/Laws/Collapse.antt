-- Two loops as one keep what a schedule adds.
use Rattle.std.proofs.Common.{◌≡◌, ℕ, zero, suc, ◌*◌, ◌/◌, ◌%◌, ◌<◌, ◌≤◌, Bool, true, false, ◌||◌, List, [], ◌∷◌, ◌++◌, length, None, refl, sym, ap, ◌∙◌, arith, ◌+◌, ◌^◌, leb-true}
use Rattle.std.specs.Prelude.{if◌then◌else◌, nat_eq, nat_le, slice_index}
use Rattle.std.proofs.lemmas.Bool.{eqb-true, eq-eqb, le-leb, or_left, or_right, or_from}
use Rattle.std.proofs.lemmas.List.{length-append}
use Rattle.dt_model.specs.Positions.{StoredTensor}
use Rattle.dt_model.specs.declared.cause.Cause.TheVariants as cause
use Rattle.dt_nest.specs.declared.derivations.Derive.TheVariants as how
use Rattle.dt_cuts.specs.declared.cuts.Cut.{Cut}
use Rattle.dt_nest.specs.Tree.{has_loop}
use Rattle.dt_nest.specs.Schedule.{Schedule}
use Rattle.dt_nest.specs.Meaning.{World, bind, known}
use Rattle.dt_nest.specs.World.{world_of}
use Rattle.dt_nest.specs.Commands.{Keeps}
use Rattle.dt_nest.specs.Lawful.{Loops, IsLawful}
use Rattle.dt_nest.proofs.SumLaws.{sum_below_same, sum_below-collapse}
use Rattle.dt_cuts.proofs.Extents.{index_more}
use Rattle.dt_cuts.specs.Cutting.{is_head, BeginsWith, HoldsAt, NameLoops, IsCut, sum_over, KeepsBelow}
use Rattle.dt_cuts.proofs.CutKeeps.{cut_keeps}
use Rattle.dt_cuts.proofs.CutOwes.{cut_owes}
use Rattle.dt_rewrite.specs.declared.collapses.Collapse.{Collapse}
use Rattle.dt_cuts.specs.Causes.{taken_name}
use Rattle.dt_rewrite.specs.Collapses.{collapse_tests, collapse_cause, collapse_cut, collapse_effect, collapse_rule}
use Rattle.dt_nest.specs.Questions.{is_chain, chain_from}
use Rattle.dt_cuts.proofs.Passing.{all_pass, test_holds, names_differ, FreeLoops, loops_free, heads_free}
use Rattle.dt_cuts.proofs.Stands.{loop_below, all_plain, chain_has, chain_differs, holds_at_chain}
use Rattle.dt_cuts.proofs.CutFacts.{is_self, less_differs, more_differs, is_new, one_differs, index_first, bind_here, bind_outside}

-- What holds where there is no cause against a collapse.
record CanCollapse (c : Collapse) (s : Schedule) : Type 0 where
  outer_stands : has_loop c.outer s.nest ≡ true
  chain : chain_from c.outer (c.inner ∷ []) s.nest ≡ true
  fresh : taken_name s.names (c.fused ∷ []) ≡ None
  free : FreeLoops s (c.outer ∷ c.inner ∷ [])
  differ : nat_eq c.outer c.inner ≡ false
  outer_below : c.outer < length s.names
  inner_below : c.inner < length s.names

-- the tests say so, and the lawful tree
can_collapse : (c : Collapse) (s : Schedule) → IsLawful s → collapse_cause c s ≡ None → CanCollapse c s
can_collapse c s l h =
    let t = all_pass (collapse_tests c s) h in
    let chain : chain_from c.outer (c.inner ∷ []) s.nest ≡ true = test_holds (is_chain (c.outer ∷ c.inner ∷ []) s.nest) cause.NotAdjacent t.1.1.0 in
    let has = chain_has c.outer (c.inner ∷ []) s.nest chain in
    record {
      outer_stands = has.0;
      chain = chain;
      fresh = t.1.0;
      free = loops_free s (c.outer ∷ c.inner ∷ []) t.1.1.1.1.0;
      differ = (chain_differs c.outer (c.inner ∷ []) s.nest l.differ chain).0;
      outer_below = loop_below s c.outer s.nest l.named has.0;
      inner_below = loop_below s c.inner s.nest l.named has.1.0;
    }

-- a product that isn't 0 has no factor 0
right_above : (n m : ℕ) → 0 < n * m → 0 < m
right_above n zero h = absurd (let e : n * 0 ≡ 0 = omega arith in omega arith)
right_above n (suc m) h = omega arith

-- A lawful collapse is a lawful cut.
pub collapse_is_cut : (c : Collapse) (s : Schedule) → IsLawful s → collapse_cause c s ≡ None → IsCut s (collapse_cut c s)
collapse_is_cut c s l h = record {
  stand = (can.outer_stands, stand);
  free = heads_free s cut.old can.free;
  heads = ((is_new k k (omega arith) (is_head cut.old k), (omega arith), fused_extent), tt);
  differ = one_differs k;
  few = let e = l.few in omega arith;
  names = names_differ s.names (c.fused ∷ []) l.names.loops can.fresh;
  extents = refl;
  replaced = (
    (is_self c.outer _, or_from (nat_eq c.outer k) false (less_differs c.outer k can.outer_below) refl),
    ((or_right (nat_eq c.inner c.outer) _ (is_self c.inner false), or_from (nat_eq c.inner k) false (less_differs c.inner k can.inner_below) refl), tt),
  );
  fresh = (or_left (nat_le k k) false (le-leb k k (omega arith)), (or_left (nat_le k k) false (le-leb k k (omega arith)), tt));
  covered = (or_right (nat_eq c.outer k || false) _ (is_self c.outer _), (or_right (nat_eq c.inner k || false) _ (or_right (nat_eq c.inner c.outer) _ (is_self c.inner false)), tt));
  ordered = (
    (more_differs k c.outer can.outer_below, tt),
    ((can.differ, (more_differs k c.outer can.outer_below, tt)), tt),
    ((more_differs k c.inner can.inner_below, tt), tt, tt),
  );
  named = (
    (grown c.outer (omega (arith, can.outer_below)), (grown k (omega arith), tt), (omega (arith, fused_extent, ap (λ z. z * m) (kept c.outer can.outer_below)))),
    ((grown c.inner (omega (arith, can.inner_below)), (grown k (omega arith), tt), ((λ p. right_above n m (omega (arith, fused_extent, p))), (omega (arith, kept c.inner can.inner_below)))), tt),
  );
  coordinates = (tt, (tt, tt));
  guards = tt;
  guarded = ((λ e. absurd (cc)), ((λ e. absurd (cc)), tt));
}
  where
    can : CanCollapse c s
    can = can_collapse c s l h

    cut : Cut
    cut = collapse_cut c s

    k : ℕ
    k = length s.names

    n : ℕ
    n = slice_index s.extents c.outer

    m : ℕ
    m = slice_index s.extents c.inner

    -- there is one more name
    grown : (u : ℕ) → u ≤ k → u < length (s.names ++ cut.names)
    grown u l = omega (arith, length-append s.names cut.names)

    kept : (u : ℕ) → u < k → slice_index (s.extents ++ n * m ∷ []) u ≡ slice_index s.extents u
    kept u b = index_more s.extents (n * m ∷ []) u (let e = l.names.extents in omega arith)

    fused_extent : slice_index (s.extents ++ n * m ∷ []) k ≡ n * m
    fused_extent = index_first s.extents k (n * m) [] l.names.extents

    own : (around : Loops) → (is_head cut.heads k || around k) ≡ true
    own around = or_left (nat_eq k k || false) (around k) (is_self k false)

    stand : HoldsAt c.outer (λ t around. BeginsWith cut.old t × NameLoops cut.heads cut.derived around) s.nest (λ u. false)
    stand =
        holds_at_chain s c.outer (c.inner ∷ []) (λ t around. BeginsWith cut.old t × NameLoops cut.heads cut.derived around)
        (λ t around b. (b, ((own around, tt), ((own around, tt), tt)))) s.nest (λ u. false) l.named (l.differ c.outer) (all_plain s.nest l.differ (c.outer ∷ c.inner ∷ []) can.free.plain) can.chain

-- The fused loop adds what the two loops added.
pub collapse_keeps_below : (c : Collapse) (s : Schedule) → IsLawful s → collapse_cause c s ≡ None → (stored : List StoredTensor) → KeepsBelow (world_of stored (collapse_effect c s)) (collapse_cut c s)
unfolding sum_over known
collapse_keeps_below c s l h stored around name env f same own_old own_heads out_old out_heads named depends fact =
    sum_below_same (n * m) _ _ (λ i _. depends (known w cut.derived name (bind env k i)) (bind (bind env c.outer (i / m)) c.inner (i % m)) (agrees i))
    ∙ sum_below-collapse n m (λ a b. f (bind (bind env c.outer a) c.inner b))
  where
    can : CanCollapse c s
    can = can_collapse c s l h

    w : World
    w = world_of stored (collapse_effect c s)

    cut : Cut
    cut = collapse_cut c s

    k : ℕ
    k = length s.names

    n : ℕ
    n = slice_index s.extents c.outer

    m : ℕ
    m = slice_index s.extents c.inner

    -- the value of the fused loop
    fused : (i : ℕ) → bind env k i (name k) ≡ i
    fused i = ap (bind env k i) own_heads.0 ∙ bind_here env k i

    kept : (i : ℕ) → known w (record { var = c.inner; how = how.Rest k m } ∷ []) name (bind env k i) (name k) ≡ i
    kept i =
        ap (λ z. if nat_eq z c.inner then bind env k i (name k) % m else bind env k i z) own_heads.0
        ∙ ap (λ b. if b then bind env k i (name k) % m else bind env k i k) (more_differs k c.inner can.inner_below)
        ∙ bind_here env k i

    agrees : (i u : ℕ) → (is_head cut.old u || around u) ≡ true → known w cut.derived name (bind env k i) u ≡ bind (bind env c.outer (i / m)) c.inner (i % m) u
    agrees i u a =
        go (nat_eq u c.outer) (nat_eq u c.inner)
        (λ p q. let e = eqb-true u c.outer p in let g = eqb-true u c.inner q in let t : nat_eq c.outer c.inner ≡ true = eq-eqb c.outer c.inner (sym e ∙ g) in let d = can.differ in cc) a
      where
        go : (p q : Bool) → (p ≡ true → q ≡ true → ⊥) → ((p || (q || false)) || around u) ≡ true
            → (if p then known w (record { var = c.inner; how = how.Rest k m } ∷ []) name (bind env k i) (name k) / m else (if q then bind env k i (name k) % m else bind env k i u))
            ≡ (if q then i % m else (if p then i / m else env u))
        go true true f a = absurd (f refl refl)
        go true false f a = ap (λ z. z / m) (kept i)
        go false true f a = ap (λ z. z % m) (fused i)
        go false false f a = bind_outside around env k i u out_heads.0 a

-- A lawful collapse keeps what a command owes.
pub collapse_keeps : (c : Collapse) (s : Schedule) → IsLawful s → (c.outer < length s.names) × (c.inner < length s.names) → collapse_cause c s ≡ None → Keeps (collapse_rule c) s
collapse_keeps c s l known h =
    let k = collapse_is_cut c s l h in
    cut_owes ((collapse_rule c).can) (collapse_cause c) (collapse_cut c) (λ stored s. Unit {0}) s l k (λ stored suits. (tt, (tt, tt))) (cut_keeps s (collapse_cut c s) l k (λ stored tensors f. collapse_keeps_below c s l h stored))

-- its fused loop has an extent that fits
pub collapse_small : (c : Collapse) (s : Schedule) → collapse_cause c s ≡ None → slice_index s.extents c.outer * slice_index s.extents c.inner ≤ 16777216
collapse_small c s ok = let t = all_pass (collapse_tests c s) ok in leb-true (slice_index s.extents c.outer * slice_index s.extents c.inner) 16777216 (test_holds (nat_le (slice_index s.extents c.outer * slice_index s.extents c.inner) 16777216) cause.TooLarge t.1.1.1.0)
