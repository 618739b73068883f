-- The pairs of a plan's events.
use Rattle.std.proofs.Common.{◌≡◌, ℕ, ◌<◌, true, ◌&&◌, nat_eq, length, get_or, refl, sym, ◌∙◌, ltb-true}
use Rattle.std.proofs.lemmas.Bool.{and_from, and_parts, eq-eqb}
use Rattle.std.proofs.lemmas.List.Folds.{list_any_at}
use Rattle.dt_argument.specs.Events.{is_listed}
use Rattle.dt_argument.proofs.EventLists.{is_listed_is}
use Rattle.dt_plan.specs.Limits.{PlanView}
use Rattle.dt_events.specs.Conflicts.{conflict}
use Rattle.dt_events.specs.Events.{events_of}

itself : (e : ℕ × ℕ) → (nat_eq e.0 e.0 && nat_eq e.1 e.1) ≡ true
itself e = and_from (nat_eq e.0 e.0) (nat_eq e.1 e.1) (eq-eqb e.0 e.0 refl) (eq-eqb e.1 e.1 refl)

listed_ascends : (p : PlanView) (a b : ℕ) → is_listed (events_of p) a b ≡ true → (a < b) × (b < length p.ops)
listed_ascends p a b e =
    let is = is_listed_is (conflict p) (length p.ops) a b in
    let outer = and_parts _ _ (sym is ∙ e) in
    let inner = and_parts _ _ outer.1 in
    (ltb-true a b outer.0, ltb-true b (length p.ops) inner.0)

-- each leads from an operation to a later one
pub pairs_ascend : (p : PlanView) (k : ℕ) (d : ℕ × ℕ) → k < length (events_of p) → ((get_or (events_of p) k d).0 < (get_or (events_of p) k d).1) × ((get_or (events_of p) k d).1 < length p.ops)
pairs_ascend p k d h =
    listed_ascends p (get_or (events_of p) k d).0 (get_or (events_of p) k d).1
    (list_any_at (λ (e : ℕ × ℕ). nat_eq e.0 (get_or (events_of p) k d).0 && nat_eq e.1 (get_or (events_of p) k d).1) (events_of p) k d h (itself (get_or (events_of p) k d)))
