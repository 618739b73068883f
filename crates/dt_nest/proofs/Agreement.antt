-- Values under environments and names that agree where variables read them.
use Rattle.std.proofs.Common.{◌≡◌, ℕ, Bool, true, false, ◌||◌, List, [], ◌∷◌, refl, sym, ap, ◌∙◌, subst}
use Rattle.std.specs.Prelude.{if◌then◌else◌, MatchBool, nat_eq}
use Rattle.std.specs.List.{AllByRecursion}
use Rattle.std.proofs.lemmas.Bool.{eqb-true}
use Rattle.dt_nest.specs.declared.loops.Pair.{Pair}
use Rattle.dt_nest.specs.declared.derivations.Derived.{Derived}
use Rattle.dt_nest.proofs.Each.{all_map}
use Rattle.dt_nest.proofs.Agree.{derive_agree}
use Rattle.dt_nest.proofs.Leads.{follows_whole, past_kept}
use Rattle.dt_nest.specs.Meaning.{World, Env, derive_of, known, renamed, under}
use Rattle.dt_nest.specs.Lawful.{sources, is_replaced, IsPast, AreOrdered, Loops, Follows}

-- what follows by the later derivations follows by all
follows_front : (d : Derived) (ds : List Derived) (around : Loops) (name : Env) → IsPast d.var ds → ((u : ℕ) → around u ≡ true → is_replaced (d ∷ ds) u ≡ false) → (v : ℕ) → Follows ds around name v → Follows (d ∷ ds) around name v
follows_front d ds around name p h v f = go (nat_eq v d.var) (eqb-true v d.var) (h v)
  where
    go : (b : Bool) → (b ≡ true → v ≡ d.var) → (around v ≡ true → (b || is_replaced ds v) ≡ false) → MatchBool b (AllByRecursion (λ u. Follows ds around name (name u)) (sources d.how)) (Follows ds around name v)
    go false e k = f
    go true e k =
        let a : around v ≡ true = follows_whole ds around name v (ap (is_replaced ds) (e refl) ∙ past_kept d.var ds p) f in
        let r = k a in absurd (cc)

module _ (w : World) (pairs : List Pair) (around : Loops) (name env : Env) where
  later_plain : (d : Derived) (ds : List Derived) → ((u : ℕ) → around u ≡ true → is_replaced (d ∷ ds) u ≡ false) → (u : ℕ) → around u ≡ true → is_replaced ds u ≡ false
  later_plain d ds h u a = go (nat_eq u d.var) (h u a)
    where
      go : (b : Bool) → (b || is_replaced ds u) ≡ false → is_replaced ds u ≡ false
      go true e = absurd (cc)
      go false e = e

  -- where what follows has no new name, a producer's names change nothing of it
  pub follows_under : (ds : List Derived) → AreOrdered ds → ((u : ℕ) → around u ≡ true → is_replaced ds u ≡ false) → ((u : ℕ) → Follows ds around name u → renamed pairs u ≡ u)
      → (v : ℕ) → Follows ds around name v → Follows ds around (under pairs name) v × (known w ds (under pairs name) env v ≡ known w ds name env v)
  unfolding known
  follows_under [] o a h v f = (f, refl)
  follows_under (d ∷ ds) o a h v f =
      go (nat_eq v d.var) f (λ u k. follows_under ds o.2 (later_plain d ds a) (λ u k. h u (follows_front d ds around name o.1 a u k)) u k) (λ u k. h u (follows_front d ds around name o.1 a u k))
    where
      go : (b : Bool) → MatchBool b (AllByRecursion (λ u. Follows ds around name (name u)) (sources d.how)) (Follows ds around name v)
          → ((u : ℕ) → Follows ds around name u → Follows ds around (under pairs name) u × (known w ds (under pairs name) env u ≡ known w ds name env u))
          → ((u : ℕ) → Follows ds around name u → renamed pairs u ≡ u)
          → MatchBool b (AllByRecursion (λ u. Follows ds around (under pairs name) (under pairs name u)) (sources d.how)) (Follows ds around (under pairs name) v)
          × ((if b then derive_of w d.how (λ u. known w ds (under pairs name) env (under pairs name u)) else known w ds (under pairs name) env v) ≡ (if b then derive_of w d.how (λ u. known w ds name env (name u)) else known w ds name env v))
      go true f r n = (
        all_map (λ u. Follows ds around name (name u)) (λ u. Follows ds around (under pairs name) (under pairs name u)) (λ u k. subst (Follows ds around (under pairs name)) (sym (n (name u) k)) (r (name u) k).0) (sources d.how) f,
        derive_agree w (λ u. Follows ds around name (name u)) (λ u. known w ds (under pairs name) env (under pairs name u)) (λ u. known w ds name env (name u)) (λ u k. ap (known w ds (under pairs name) env) (n (name u) k) ∙ (r (name u) k).1) d.how f,
      )
      go false f r n = r v f
