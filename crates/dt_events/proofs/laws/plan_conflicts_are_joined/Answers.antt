use Rattle.std.proofs.Common.{length, sym, ◌∙◌, ltb-true}
use Rattle.std.proofs.lemmas.Bool.{and_parts, and_from, lt-ltb}
use Rattle.dt_argument.proofs.EventLists.{chain_listed, is_listed_is}
use Rattle.dt_events.specs.Conflicts.{conflict}
use Rattle.dt_events.specs.Events.{EventsOfAreNearest}
use Rattle.dt_events.proofs.laws.plan_conflicts_are_joined.Goals as goal

exact : EventsOfAreNearest
exact p a b =
    let is = is_listed_is (conflict p) (length p.ops) a b in (
      λ e.
          let outer = and_parts _ _ (sym is ∙ e) in
          let inner = and_parts _ _ outer.1 in
          (ltb-true a b outer.0, ltb-true b (length p.ops) inner.0, inner.1),
      λ e. is ∙ and_from _ _ (lt-ltb a b e.0) (and_from _ _ (lt-ltb b (length p.ops) e.1) e.2),
    )

pub returns : goal.returns
returns c = record { exact = exact; joined = λ p a b h k e. chain_listed (conflict p) (length p.ops) a b h k e }
