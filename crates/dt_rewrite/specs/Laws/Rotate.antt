-- A rotated loop keeps what a schedule adds.
use Rattle.std.proofs.Common.{◌≡◌, ℕ, ◌+◌, ◌%◌, ◌<◌, ◌≤◌, Bool, true, false, not, ◌||◌, List, [], ◌∷◌, ◌++◌, length, None, refl, sym, ap, ◌∙◌, arith, sum_by, ◌^◌}
use Rattle.std.specs.Prelude.{if◌then◌else◌, max, nat_eq, nat_le, slice_index}
use Rattle.std.specs.List.{AllByRecursion, list_any}
use Rattle.std.proofs.lemmas.Bool.{not-false, le-leb, or_left, or_right, or_from}
use Rattle.std.proofs.lemmas.List.{length-append}
use Rattle.dt_model.specs.Positions.{StoredTensor}
use Rattle.dt_model.specs.declared.cause.Cause.TheVariants as cause
use Rattle.dt_cuts.specs.declared.cuts.Cut.{Cut}
use Rattle.dt_nest.proofs.Each.{all_map}
use Rattle.dt_nest.specs.Tree.{has_loop}
use Rattle.dt_nest.specs.Questions.{loops_to, is_in}
use Rattle.dt_nest.specs.Schedule.{Schedule}
use Rattle.dt_nest.specs.Meaning.{World, bind, known}
use Rattle.dt_nest.specs.World.{world_of}
use Rattle.dt_nest.specs.Commands.{Keeps}
use Rattle.dt_nest.specs.Lawful.{Loops, IsLawful}
use Rattle.dt_nest.proofs.SumLaws.{sum_below_same, sum_below-rotate}
use Rattle.dt_nest.proofs.Agree.{sum_by_agree}
use Rattle.dt_cuts.proofs.Extents.{index_more}
use Rattle.dt_cuts.specs.Cutting.{is_head, BeginsWith, HoldsAt, NameLoops, IsCut, sum_over, KeepsBelow}
use Rattle.dt_cuts.proofs.CutKeeps.{cut_keeps}
use Rattle.dt_cuts.proofs.CutOwes.{cut_owes}
use Rattle.dt_rewrite.specs.declared.rotates.Rotate.{Rotate}
use Rattle.dt_nest.specs.PartNames.{name_of}
use Rattle.dt_cuts.specs.Causes.{taken_name}
use Rattle.dt_rewrite.specs.Rotates.{rotate_tests, rotate_cause, rotate_cut, rotate_effect, rotate_rule}
use Rattle.dt_cuts.proofs.Passing.{all_pass, none_with, loops_known, names_differ, FreeLoops, loops_free, heads_free}
use Rattle.dt_cuts.proofs.Stands.{loop_below, all_plain, holds_at_both, holds_at_outer, outer_differ, chain_alone, holds_at_chain}
use Rattle.dt_cuts.proofs.CutFacts.{is_self, less_differs, more_differs, is_new, one_differs, in_all, index_first, bind_here, bind_outside}
use Rattle.dt_nest.proofs.Truth.{all_and}

-- What holds where there is no cause against a rotate.
record CanRotate (c : Rotate) (s : Schedule) : Type 0 where
  stands : has_loop c.var s.nest ≡ true
  fresh : taken_name s.names (c.fresh ∷ []) ≡ None
  free : FreeLoops s (c.var ∷ [])
  outer : AllByRecursion (λ u. is_in (loops_to c.var s.nest) u ≡ true) c.by
  below : c.var < length s.names
  by_below : AllByRecursion (λ u. u < length s.names) c.by

-- the tests say so, and the lawful tree
can_rotate : (c : Rotate) (s : Schedule) → IsLawful s → rotate_cause c s ≡ None → CanRotate c s
can_rotate c s l h =
    let t = all_pass (rotate_tests c s) h in
    let has = loops_known s (c.var ∷ []) t.0 in
    record {
      stands = has.0;
      fresh = t.1.1.0;
      free = loops_free s (c.var ∷ []) t.1.1.1.1.0;
      outer =
          all_map (λ u. not (is_in (loops_to c.var s.nest) u) ≡ false) (λ u. is_in (loops_to c.var s.nest) u ≡ true) (λ u k. not-false (is_in (loops_to c.var s.nest) u) k) c.by
          (none_with (λ u. not (is_in (loops_to c.var s.nest) u)) (λ u. cause.NotOuter (name_of s u)) c.by t.1.1.1.0);
      below = loop_below s c.var s.nest l.named has.0;
      by_below = all_map (λ u. has_loop u s.nest ≡ true) (λ u. u < length s.names) (λ u k. loop_below s u s.nest l.named k) c.by (loops_known s c.by t.1.0);
    }

-- A lawful rotate is a lawful cut.
pub rotate_is_cut : (c : Rotate) (s : Schedule) → IsLawful s → rotate_cause c s ≡ None → IsCut s (rotate_cut c s)
rotate_is_cut c s l h = record {
  stand = (can.stands, stand);
  free = heads_free s cut.old can.free;
  heads = ((is_new k k (omega arith) (is_head cut.old k), (omega arith), fresh_extent), tt);
  differ = one_differs k;
  few = let e = l.few in omega arith;
  names = names_differ s.names (c.fresh ∷ []) l.names.loops can.fresh;
  extents = refl;
  replaced = ((is_self c.var false, or_from (nat_eq c.var k) false (less_differs c.var k can.below) refl), tt);
  fresh = (or_left (nat_le k k) (list_any (λ u. nat_le k u) c.by) (le-leb k k (omega arith)), tt);
  covered = (or_right (nat_eq c.var k || false) _ (is_self c.var false), tt);
  ordered = (
    (
      more_differs k c.var can.below,
      all_map (λ u. is_in (loops_to c.var s.nest) u ≡ true) (λ u. nat_eq u c.var ≡ false) (λ u i. in_all (λ u. nat_eq u c.var ≡ false) (loops_to c.var s.nest) (outer_differ c.var s.nest) u i) c.by can.outer,
    ),
    tt,
    tt,
  );
  named = (
    (
      grown c.var (omega (arith, can.below)),
      (grown k (omega arith), all_map (λ u. u < k) (λ u. u < length (s.names ++ cut.names)) (λ u b. grown u (omega arith)) c.by can.by_below),
      ((omega (arith, fresh_extent)), (omega (arith, kept c.var can.below))),
    ),
    tt,
  );
  coordinates = (tt, tt);
  guards = tt;
  guarded = ((λ e. absurd (cc)), tt);
}
  where
    can : CanRotate c s
    can = can_rotate c s l h

    cut : Cut
    cut = rotate_cut c s

    k : ℕ
    k = length s.names

    n : ℕ
    n = slice_index s.extents c.var

    -- there is one more name
    grown : (u : ℕ) → u ≤ k → u < length (s.names ++ cut.names)
    grown u l = omega (arith, length-append s.names cut.names)

    kept : (u : ℕ) → u < k → slice_index (s.extents ++ n ∷ []) u ≡ slice_index s.extents u
    kept u b = index_more s.extents (n ∷ []) u (let e = l.names.extents in omega arith)

    fresh_extent : slice_index (s.extents ++ n ∷ []) k ≡ n
    fresh_extent = index_first s.extents k n [] l.names.extents

    plain : HoldsAt c.var (λ t around. BeginsWith cut.old t) s.nest (λ u. false)
    plain =
        holds_at_chain s c.var [] (λ t around. BeginsWith cut.old t) (λ t around b. b) s.nest (λ u. false) l.named (l.differ c.var) (all_plain s.nest l.differ (c.var ∷ []) can.free.plain)
        (chain_alone c.var s.nest can.stands)

    outer : HoldsAt c.var (λ t around. AllByRecursion (λ u. around u ≡ true) c.by) s.nest (λ u. false)
    outer =
        holds_at_outer c.var c.by s.nest (λ u. false) (l.differ c.var)
        (all_map (λ u. is_in (loops_to c.var s.nest) u ≡ true) (λ u. (is_in (loops_to c.var s.nest) u || false) ≡ true) (λ u i. or_left (is_in (loops_to c.var s.nest) u) false i) c.by can.outer)

    named : (around : Loops) → AllByRecursion (λ u. around u ≡ true) c.by → NameLoops cut.heads cut.derived around
    named around a = (
      (or_left (nat_eq k k || false) (around k) (is_self k false), all_map (λ u. around u ≡ true) (λ u. (is_head cut.heads u || around u) ≡ true) (λ u i. or_right (is_head cut.heads u) (around u) i) c.by a),
      tt,
    )

    stand : HoldsAt c.var (λ t around. BeginsWith cut.old t × NameLoops cut.heads cut.derived around) s.nest (λ u. false)
    stand =
        holds_at_both c.var (λ t around. BeginsWith cut.old t) (λ t around. AllByRecursion (λ u. around u ≡ true) c.by) (λ t around. BeginsWith cut.old t × NameLoops cut.heads cut.derived around)
        (λ t around p q. (p, named around q)) s.nest (λ u. false) plain outer

-- The new loop adds what the rotated loop added.
pub rotate_keeps_below : (c : Rotate) (s : Schedule) → IsLawful s → rotate_cause c s ≡ None → (stored : List StoredTensor) → KeepsBelow (world_of stored (rotate_effect c s)) (rotate_cut c s)
unfolding sum_over known
rotate_keeps_below c s l h stored around name env f same own_old own_heads out_old out_heads named depends fact =
    sum_below_same n _ _ (λ r i. depends (known w cut.derived name (bind env k r)) (bind env c.var ((r + turned) % n)) (agrees r i))
    ∙ sum_below-rotate n turned (λ y. f (bind env c.var y))
  where
    can : CanRotate c s
    can = can_rotate c s l h

    w : World
    w = world_of stored (rotate_effect c s)

    cut : Cut
    cut = rotate_cut c s

    k : ℕ
    k = length s.names

    n : ℕ
    n = slice_index s.extents c.var

    -- the values of the loops by which it is rotated
    turned : ℕ
    turned = sum_by env c.by

    outer : AllByRecursion (λ u. around u ≡ true) c.by
    outer =
        all_map (λ u. (u < k) × ((is_head cut.heads u || around u) ≡ true)) (λ u. around u ≡ true) (λ u p. sym (ap (λ z. (z || false) || around u) (less_differs u k p.0)) ∙ p.1) c.by
        (all_and (λ u. u < k) (λ u. (is_head cut.heads u || around u) ≡ true) c.by can.by_below named.0.1)

    value : (r : ℕ) → r < n → (bind env k r (name k) + sum_by (λ u. bind env k r (name u)) c.by) % max n 1 ≡ (r + turned) % n
    value r i =
        ap (λ z. (z + sum_by (λ u. bind env k r (name u)) c.by) % max n 1) (ap (bind env k r) own_heads.0 ∙ bind_here env k r)
        ∙ ap (λ z. (r + z) % max n 1) (sum_by_agree (λ u. around u ≡ true) (λ u. bind env k r (name u)) env (λ u a. ap (bind env k r) (same u a) ∙ bind_outside around env k r u out_heads.0 a) c.by outer)
        ∙ ap (λ z. (r + turned) % z) (let e : max n 1 ≡ n = omega arith in e)

    agrees : (r : ℕ) → r < n → (u : ℕ) → (is_head cut.old u || around u) ≡ true → known w cut.derived name (bind env k r) u ≡ bind env c.var ((r + turned) % n) u
    agrees r i u a = go (nat_eq u c.var) a
      where
        go : (b : Bool) → ((b || false) || around u) ≡ true
            → (if b then (bind env k r (name k) + sum_by (λ u. bind env k r (name u)) c.by) % max n 1 else bind env k r u) ≡ (if b then (r + turned) % n else env u)
        go true a = value r i
        go false a = bind_outside around env k r u out_heads.0 a

-- A lawful rotate keeps what a command owes.
pub rotate_keeps : (c : Rotate) (s : Schedule) → IsLawful s → (c.var < length s.names) × AllByRecursion (λ u. u < length s.names) c.by → rotate_cause c s ≡ None → Keeps (rotate_rule c) s
rotate_keeps c s l known h =
    let k = rotate_is_cut c s l h in
    cut_owes ((rotate_rule c).can) (rotate_cause c) (rotate_cut c) (λ stored s. Unit {0}) s l k (λ stored suits. (tt, tt)) (cut_keeps s (rotate_cut c s) l k (λ stored tensors f. rotate_keeps_below c s l h stored))
