-- A reorder without a cause is a lawful cut that keeps the sum.
use Rattle.std.proofs.Common.{◌≡◌, ℕ, Bool, true, false, List, [], ◌∷◌, None, length, refl, sym, ap, ◌∙◌, subst, arith, ◌<◌}
use Rattle.std.specs.Prelude.{nat_le, slice_index}
use Rattle.std.specs.List.{AllByRecursion, IsDistinct}
use Rattle.std.specs.Str.{bytes_eq}
use Rattle.std.proofs.Math.Path.{fun_ext}
use Rattle.std.proofs.lemmas.Bool.{or_left}
use Rattle.std.proofs.lemmas.List.{append-nil}
use Rattle.dt_nest.proofs.Each.{all_map}
use Rattle.dt_nest.specs.Tree.{has_loop}
use Rattle.dt_nest.specs.Schedule.{Schedule}
use Rattle.dt_nest.specs.Meaning.{World, Env, known}
use Rattle.dt_nest.specs.World.{world_of}
use Rattle.dt_nest.specs.Commands.{Keeps}
use Rattle.dt_nest.specs.Lawful.{IsLawful}
use Rattle.dt_cuts.specs.Cutting.{is_head, BeginsWith, NameLoops, LoopsStand, AreFree, IsNewHead, IsCut, KeepsBelow, sum_over, heads_of}
use Rattle.dt_cuts.proofs.CutKeeps.{cut_keeps}
use Rattle.dt_cuts.proofs.CutOwes.{cut_owes}
use Rattle.dt_rewrite.specs.declared.reorders.Reorder.{Reorder}
use Rattle.dt_nest.specs.Questions.{is_in, all_differ, is_chain, in_order}
use Rattle.dt_rewrite.specs.Reorders.{reorder_tests, reorder_cause, reorder_cut, reorder_effect, reorder_rule}
use Rattle.dt_cuts.proofs.Orders.{times_in, AreReordered, length_reordered, sum_over_reordered}
use Rattle.dt_cuts.proofs.Passing.{all_pass, test_holds, loops_known, FreeLoops, loops_free}
use Rattle.dt_cuts.proofs.CutFacts.{in_all}
use Rattle.dt_cuts.proofs.Stands.{loop_below, ArePlain, all_plain, holds_at_chain}
use Rattle.dt_cuts.proofs.ReorderFacts.{all_in, times_present, times_absent, times_differ, heads_in, heads_differ, length_heads, no_heads, all_heads, order_named, order_has, order_times}
use Rattle.dt_nest.proofs.Truth.{all_and}

-- The named loops stand in the nest, each is named once, in the nest's order they are one chain, and each is free.
pub record CanReorder (c : Reorder) (s : Schedule) : Type 0 where
  pub present : AllByRecursion (λ v. has_loop v s.nest ≡ true) c.vars
  pub differ : all_differ c.vars ≡ true
  pub chain : is_chain (in_order c.vars s.nest) s.nest ≡ true
  pub free : FreeLoops s c.vars

-- that is what it says that there is no cause against a reorder
pub can_reorder : (c : Reorder) (s : Schedule) → reorder_cause c s ≡ None → CanReorder c s
can_reorder c s e =
    let tests = all_pass (reorder_tests c s) e in
    record {
      present = loops_known s c.vars tests.0;
      differ = test_holds _ _ tests.1.0;
      chain = test_holds _ _ tests.1.1.0;
      free = loops_free s c.vars tests.1.1.1.0;
    }

-- without derivations each loop has its own value
known_none : (w : World) (name env : Env) → known w [] name env ≡ env
unfolding known
known_none w name env = fun_ext (λ v. refl)

module _ (c : Reorder) (s : Schedule) (l : IsLawful s) (k : CanReorder c s) where
  -- the named loops in the nest's order
  abbrev ordered : List ℕ
  ordered = in_order c.vars s.nest

  -- what holds of each named loop holds of each in order
  in_turn : (P : ℕ → Type 0) → AllByRecursion P c.vars → AllByRecursion P ordered
  in_turn P h = all_map (λ u. is_in c.vars u ≡ true) P (λ u e. in_all P c.vars h u e) ordered (order_named c.vars s.nest)

  -- a named loop stands in the nest
  stands : (v : ℕ) → is_in c.vars v ≡ true → has_loop v s.nest ≡ true
  stands v e = in_all (λ v. has_loop v s.nest ≡ true) c.vars k.present v e

  -- so it is one of those in order
  in_turns : (v : ℕ) → is_in c.vars v ≡ true → is_in ordered v ≡ true
  in_turns v e = order_has c.vars s.nest v e (stands v e)

  -- the named loops and those in order are the same
  reordered : AreReordered c.vars ordered
  reordered v = go (is_in c.vars v) refl
    where
      go : (b : Bool) → is_in c.vars v ≡ b → times_in v c.vars ≡ times_in v ordered
      go true e =
          let p = times_present v c.vars e in
          let q = times_differ v c.vars k.differ in
          let m = times_present v ordered (in_turns v e) in
          let n = order_times c.vars s.nest v in
          let o = l.differ v in omega arith
      go false e = times_absent v c.vars e ∙ sym (times_absent v ordered (other (is_in ordered v) refl))
        where
          other : (b : Bool) → is_in ordered v ≡ b → b ≡ false
          other true p = let q = in_all (λ u. is_in c.vars u ≡ true) ordered (order_named c.vars s.nest) v p in absurd (cc)
          other false p = refl

  -- each is neither walked nor substituted
  plain : AllByRecursion (λ u. ArePlain u s.nest) ordered
  plain = in_turn (λ u. ArePlain u s.nest) (all_plain s.nest l.differ c.vars k.free.plain)

  -- those in order stand in the nest, one inside the other
  stand : LoopsStand (heads_of s ordered) (reorder_cut c s) s.nest
  stand = go ordered refl
    where
      go : (us : List ℕ) → ordered ≡ us → LoopsStand (heads_of s us) (reorder_cut c s) s.nest
      go [] e = (no_heads s c.vars (length_reordered c.vars ordered reordered ∙ ap length e), refl, refl)
      go (u ∷ us) e = (
        stands u (subst (λ (xs : List ℕ). AllByRecursion (λ u. is_in c.vars u ≡ true) xs) e (order_named c.vars s.nest)).0,
        holds_at_chain s u us (λ t around. BeginsWith (heads_of s ordered) t × NameLoops (heads_of s c.vars) [] around)
            (λ t around b. (subst (λ (xs : List ℕ). BeginsWith (heads_of s xs) t) (sym e) b, tt)) s.nest (λ u. false) l.named (l.differ u)
            (subst (λ (xs : List ℕ). AllByRecursion (λ u. ArePlain u s.nest) xs) e plain) (subst (λ (xs : List ℕ). is_chain xs s.nest ≡ true) e k.chain),
      )

  -- none of them is distributed or a communicate loop
  free : AreFree (heads_of s ordered) s
  free = all_heads s _ ordered (in_turn _ (all_and _ _ c.vars k.free.undistributed k.free.unmoved))

  -- the loops that come are those that go
  come : AllByRecursion (IsNewHead (reorder_cut c s) s) (heads_of s c.vars)
  come = all_heads s _ c.vars (all_map (λ v. is_in c.vars v ≡ true) _ one c.vars (all_in c.vars))
    where
      one : (v : ℕ) → is_in c.vars v ≡ true → IsNewHead (reorder_cut c s) s (record { var = v; extent = slice_index s.extents v })
      one v e = (
        or_left (is_head (heads_of s ordered) v) (nat_le (length s.names) v) (heads_in s ordered v ∙ in_turns v e),
        (let p = loop_below s v s.nest l.named (stands v e) in omega arith),
        ap (λ xs. slice_index xs v) (append-nil s.extents),
      )

  -- so the cut is lawful
  is_cut : IsCut s (reorder_cut c s)
  is_cut = record {
    stand = stand;
    free = free;
    heads = come;
    differ = heads_differ s c.vars k.differ;
    few = (let a = length_heads s c.vars in let b = length_heads s ordered in let e = length_reordered c.vars ordered reordered in let f = l.few in omega arith);
    names = subst (IsDistinct bytes_eq) (sym (append-nil s.names)) l.names.loops;
    extents = refl;
    replaced = tt;
    fresh = tt;
    covered = all_heads s _ ordered (all_map (λ u. is_in c.vars u ≡ true) _ (λ u e. or_left (is_head (heads_of s c.vars) u) false (heads_in s c.vars u ∙ e)) ordered (order_named c.vars s.nest));
    ordered = tt;
    named = tt;
    coordinates = tt;
    guards = tt;
    guarded = tt;
  }

-- A reorder without a cause is a lawful cut.
pub reorder_is_cut : (c : Reorder) (s : Schedule) → IsLawful s → reorder_cause c s ≡ None → IsCut s (reorder_cut c s)
reorder_is_cut c s l e = is_cut c s l (can_reorder c s e)

-- The loops in the named order add what they added in the nest's order.
pub reorder_keeps_below : (c : Reorder) (s : Schedule) → IsLawful s → reorder_cause c s ≡ None → (w : World) → KeepsBelow w (reorder_cut c s)
reorder_keeps_below c s l e w around name env f same old heads apart away named depends fact =
    ap (λ (g : Env → ℕ). sum_over (heads_of s c.vars) g env) (fun_ext (λ e. ap f (known_none w name e)))
    ∙ sum_over_reordered s c.vars (in_order c.vars s.nest) (reordered c s l (can_reorder c s e)) f env

-- A reorder without a cause keeps what a command owes.
pub reorder_keeps : (c : Reorder) (s : Schedule) → IsLawful s → AllByRecursion (λ v. v < length s.names) c.vars → reorder_cause c s ≡ None → Keeps (reorder_rule c) s
reorder_keeps c s l known e =
    let k = reorder_is_cut c s l e in
    cut_owes ((reorder_rule c).can) (reorder_cause c) (reorder_cut c) (λ stored s. Unit {0}) s l k (λ stored suits. tt) (cut_keeps s (reorder_cut c s) l k (λ stored tensors fits. reorder_keeps_below c s l e (world_of stored (reorder_effect c s))))
