-- A communicate without a cause keeps the schedule lawful; any keeps the sum.
use Rattle.std.proofs.Common.{◌≡◌, ℕ, zero, suc, ◌+◌, ◌-◌, ◌<◌, ◌≤◌, Bool, true, false, ◌&&◌, ◌||◌, not, List, [], ◌∷◌, ◌++◌, Option, Some, None, length, map, refl, sym, ap, ◌∙◌, subst, arith, append_assoc}
use Rattle.std.specs.Prelude.{MatchBool, if◌then◌else◌, is_some, nat_eq, nat_lt}
use Rattle.std.specs.List.{AllByRecursion, IsDistinct, list_any}
use Rattle.std.proofs.lemmas.Bool.{eq-eqb, ne_eqb, ltb-true, and_parts, or_parts, not-false, not-true}
use Rattle.std.proofs.lemmas.List.{append-nil, map-append}
use Rattle.dt_model.specs.declared.cause.Cause.{Cause}
use Rattle.dt_model.specs.declared.cause.Cause.TheVariants as cause
use Rattle.dt_nest.specs.declared.parts.Moved.{Moved}
use Rattle.dt_nest.proofs.Each.{all_append}
use Rattle.dt_nest.specs.Tree.{Tree, Loop, Pre, Leaf, is_kernel_leaf, loop_count}
use Rattle.dt_nest.specs.Schedule.{Schedule}
use Rattle.dt_nest.specs.Lawful.{IsPlain, IsCommunicate, IsLawful}
use Rattle.dt_nest.specs.Questions.{is_among, is_fixed, is_in, accesses_tensor}
use Rattle.dt_nest.specs.Commands.{Keeps}
use Rattle.dt_nest.proofs.Marked.{marked_lawful, marked_sum, marked_accesses, marked_fits}
use Rattle.dt_rewrite.specs.declared.communicates.Communicate.{Communicate}
use Rattle.dt_cuts.proofs.Passing.{all_pass, test_holds, none_with}
use Rattle.dt_nest.specs.PartNames.{tensor_name}
use Rattle.dt_rewrite.specs.Communicates.{is_moved, communicated_tensor, communicate_tests, communicate_cause, communicate_effect, moves_at, communicate_rule}
use Rattle.dt_cuts.proofs.Stands.{no_walk}

-- a loop outside every precompute node is a communicate loop, if it is none of the distributed ones but the last
communicate_at : (k j m v : ℕ) (tree : Tree) → j ≡ k - 1 → is_among j v tree ≡ false → is_among m v tree ≡ true → is_fixed v tree ≡ false → IsCommunicate k v tree
communicate_at k j zero v tree e a b f = absurd (let t : false ≡ true = b in cc)
communicate_at k zero (suc m) v (Loop u n walk body) e a b f =
    go (nat_eq u v) b f (λ b f. subst (λ (z : ℕ). IsCommunicate z v body) e (communicate_at 0 0 m v body (omega arith) refl b f))
  where
    go : (t : Bool) → (t || is_among m v body) ≡ true → (if t then is_some walk || is_kernel_leaf body else is_fixed v body) ≡ false
        → (is_among m v body ≡ true → is_fixed v body ≡ false → IsCommunicate (k - 1) v body) → MatchBool t ((k ≤ 1) × IsPlain walk body) (IsCommunicate (k - 1) v body)
    go true b f r = let p = or_parts (is_some walk) (is_kernel_leaf body) f in (omega (arith, e), (no_walk walk p.0, p.1))
    go false b f r = r b f
communicate_at k (suc j) (suc m) v (Loop u n walk body) e a b f =
    let p = or_parts (nat_eq u v) (is_among j v body) a in
    go (nat_eq u v) p.0 b f (λ b f. subst (λ (z : ℕ). IsCommunicate z v body) e (communicate_at (suc j) j m v body (omega arith) p.1 b f))
  where
    go : (t : Bool) → t ≡ false → (t || is_among m v body) ≡ true → (if t then is_some walk || is_kernel_leaf body else is_fixed v body) ≡ false
        → (is_among m v body ≡ true → is_fixed v body ≡ false → IsCommunicate (k - 1) v body) → MatchBool t ((k ≤ 1) × IsPlain walk body) (IsCommunicate (k - 1) v body)
    go true q b f r = absurd (let t : true ≡ false = q in cc)
    go false q b f r = r b f
communicate_at k j (suc m) v (Pre work pairs producer consumer) e a b f = absurd (let t : false ≡ true = b in cc)
communicate_at k j (suc m) v (Leaf lhs terms guards kernel) e a b f = absurd (let t : false ≡ true = b in cc)

-- a number that stands nowhere among others, behind them
differ_push : (xs : List ℕ) (t : ℕ) → IsDistinct nat_eq xs → list_any (nat_eq t) xs ≡ false → IsDistinct nat_eq (xs ++ t ∷ [])
unfolding IsDistinct
differ_push [] t d h = (tt, tt)
differ_push (x ∷ xs) t d h = let p = or_parts (nat_eq t x) (list_any (nat_eq t) xs) h in (more xs d.0 (ne_eqb x t (λ e. let q = eq-eqb t x (sym e) in let z = p.0 in cc)), differ_push xs t d.1 p.1)
  where
    more : (ys : List ℕ) → AllByRecursion (λ y. nat_eq x y ≡ false) ys → nat_eq x t ≡ false → AllByRecursion (λ y. nat_eq x y ≡ false) (ys ++ t ∷ [])
    more [] h e = (e, tt)
    more (y ∷ ys) h e = (h.0, more ys h.1 e)

-- the tensors that are moved
abbrev movers : List Moved → List ℕ
movers moved = map (λ (m : Moved). m.tensor) moved

moved_there : (t : ℕ) (moved : List Moved) (seen : List ℕ) → list_any (nat_eq t) (movers moved ++ seen) ≡ (is_moved moved t || is_in seen t)
moved_there t [] seen = refl
moved_there t (m ∷ moved) seen = go (nat_eq t m.tensor) (moved_there t moved seen)
  where
    go : (b : Bool) → list_any (nat_eq t) (movers moved ++ seen) ≡ (is_moved moved t || is_in seen t) → (b || list_any (nat_eq t) (movers moved ++ seen)) ≡ ((b || is_moved moved t) || is_in seen t)
    go true h = refl
    go false h = h

-- tensors that are not communicated yet, and differ, behind those that are
moved_differ : (s : Schedule) (seen ts : List ℕ) → IsDistinct nat_eq (movers s.moved ++ seen) → communicated_tensor s seen ts ≡ None → IsDistinct nat_eq ((movers s.moved ++ seen) ++ ts)
moved_differ s seen [] d e = subst (IsDistinct nat_eq) (sym (append-nil (movers s.moved ++ seen))) d
moved_differ s seen (t ∷ ts) d e =
    go (is_moved s.moved t || is_in seen t) (moved_there t s.moved seen) e (λ d e. moved_differ s (seen ++ t ∷ []) ts d e)
  where
    go : (b : Bool) → list_any (nat_eq t) (movers s.moved ++ seen) ≡ b → (if b then Some (cause.Communicated (tensor_name s t)) else communicated_tensor s (seen ++ t ∷ []) ts) ≡ None
        → (IsDistinct nat_eq (movers s.moved ++ (seen ++ t ∷ [])) → communicated_tensor s (seen ++ t ∷ []) ts ≡ None → IsDistinct nat_eq ((movers s.moved ++ (seen ++ t ∷ [])) ++ ts))
        → IsDistinct nat_eq ((movers s.moved ++ seen) ++ t ∷ ts)
    go true p e r = let q : Some (cause.Communicated (tensor_name s t)) ≡ None = e in absurd (cc)
    go false p e r =
        let a : (movers s.moved ++ seen) ++ t ∷ [] ≡ movers s.moved ++ (seen ++ t ∷ []) = append_assoc (movers s.moved) seen (t ∷ []) in
        let b : ((movers s.moved ++ seen) ++ t ∷ []) ++ ts ≡ (movers s.moved ++ seen) ++ t ∷ ts = append_assoc (movers s.moved ++ seen) (t ∷ []) ts in
        subst (IsDistinct nat_eq) (sym (ap (λ (l : List ℕ). l ++ ts) a) ∙ b) (r (subst (IsDistinct nat_eq) a (differ_push (movers s.moved ++ seen) t d p)) e)

movers_of : (v : ℕ) (ts : List ℕ) → movers (moves_at v ts) ≡ ts
movers_of v [] = refl
movers_of v (t ∷ ts) = ap (λ (l : List ℕ). t ∷ l) (movers_of v ts)

-- what holds of each new one
all_moves : (v : ℕ) (P : Moved → Type 0) (Q : ℕ → Type 0) → ((t : ℕ) → Q t → P (record { tensor = t; at = v })) → (ts : List ℕ) → AllByRecursion Q ts → AllByRecursion P (moves_at v ts)
all_moves v P Q f [] h = tt
all_moves v P Q f (t ∷ ts) h = (f t h.0, all_moves v P Q f ts h.1)

every : (P : ℕ → Type 0) → ((t : ℕ) → P t) → (ts : List ℕ) → AllByRecursion P ts
every P h [] = tt
every P h (t ∷ ts) = (h t, every P h ts)

-- A communicate without a cause keeps the schedule lawful.
pub communicate_lawful : (c : Communicate) (s : Schedule) → IsLawful s → communicate_cause c s ≡ None → IsLawful (communicate_effect c s)
communicate_lawful c s l e =
    marked_lawful s.distributed (s.moved ++ moves_at c.var c.tensors) s l l.distributed (record {
      loops = all_append _ s.moved (moves_at c.var c.tensors) l.communicated.loops (all_moves c.var _ (λ t. Unit {0}) (λ t h. at) c.tensors (every (λ t. Unit {0}) (λ t. tt) c.tensors));
      accessed = all_append _ s.moved (moves_at c.var c.tensors) l.communicated.accessed (all_moves c.var _ _ (λ t h. accessed t h) c.tensors known);
      once = subst (IsDistinct nat_eq) (ap (λ (x : List ℕ). x ++ c.tensors) (append-nil (movers s.moved)) ∙ ap (λ (x : List ℕ). movers s.moved ++ x) (sym (movers_of c.var c.tensors)) ∙ sym (map-append (λ (m : Moved). m.tensor) s.moved (moves_at c.var c.tensors)))
          (moved_differ s [] c.tensors (subst (IsDistinct nat_eq) (sym (append-nil (movers s.moved))) l.communicated.once) tests.1.1.0);
    })
  where
    tests : AllByRecursion (λ (test : Option Cause). test ≡ None) (communicate_tests c s)
    tests = all_pass (communicate_tests c s) e

    at : IsCommunicate s.distributed c.var s.nest
    at = communicate_at s.distributed (s.distributed - 1) (loop_count s.nest) c.var s.nest refl
        (not-true (is_among (s.distributed - 1) c.var s.nest) (test_holds (not (is_among (s.distributed - 1) c.var s.nest)) (cause.NotBelowTask _) tests.1.1.1.0))
        (test_holds (is_among (loop_count s.nest) c.var s.nest) (cause.BelowPre _) tests.1.1.1.1.0)
        (none_with (λ v. is_fixed v s.nest) _ (c.var ∷ []) tests.1.1.1.1.1.0).0

    known : AllByRecursion (λ t. not (nat_lt t (length s.tensors) && accesses_tensor s.nest t) ≡ false) c.tensors
    known = none_with (λ t. not (nat_lt t (length s.tensors) && accesses_tensor s.nest t)) _ c.tensors tests.1.0

    accessed : (t : ℕ) → not (nat_lt t (length s.tensors) && accesses_tensor s.nest t) ≡ false → (t < length s.tensors) × (accesses_tensor s.nest t ≡ true)
    accessed t h = let p = and_parts (nat_lt t (length s.tensors)) (accesses_tensor s.nest t) (not-false (nat_lt t (length s.tensors) && accesses_tensor s.nest t) h) in (ltb-true t (length s.tensors) p.0, p.1)

-- A communicate without a cause keeps what a command owes.
pub communicate_keeps : (c : Communicate) (s : Schedule) → IsLawful s → (c.var < length s.names) × AllByRecursion (λ t. t < length s.tensors + length s.works) c.tensors → communicate_cause c s ≡ None → Keeps (communicate_rule c) s
communicate_keeps c s law known ok =
    let moved = s.moved ++ moves_at c.var c.tensors in
    record {
      lawful = λ few. communicate_lawful c s law ok;
      sum = marked_sum s.distributed moved s;
      accesses = marked_accesses s.distributed moved s;
      fit = λ stored suits f. marked_fits s.distributed moved s stored f;
      grid = λ dims serves g. g;
    }
