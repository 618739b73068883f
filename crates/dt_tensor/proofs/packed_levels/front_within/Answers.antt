use Rattle.std.proofs.Common.{◌≡◌, ℕ, ◌<◌, ◌≤◌, Some, None, List, Option, Bool, ◌&&◌, nat_le, nat_lt, length, [], get_or, find, ap, sym, ◌∙◌, subst, arith}
use Rattle.std.proofs.lemmas.List.Elements.{All-get_or}
use Rattle.std.specs.List.Sorted.{IsStrictlyIncreasing}
use Rattle.dt_level.specs.Levels.{children_of}
use Rattle.dt_tensor.proofs.FrontSearch.{least_within, none_within}
use Rattle.dt_tensor.proofs.packed_levels.front_within.Goals as goal

pub returns-then-k-children : goal.returns-then-k-children
returns-then-k-children c =
    none_within (children_of c.args.fronts.now 0) c.args.first c.args.end c.at_least-k.result (All-get_or IsStrictlyIncreasing c.args.fronts.now 0 [] (omega (arith, c.requires)) c.children.ensures.lawful.ascending) c.at_least-k.ensures
    (λ h. absurd (omega (arith, h, c.children.ensures.count)))

pub returns-then-front-end : goal.returns-then-front-end
returns-then-front-end c =
    ap (λ (f : ℕ). Some f) c.child-front.ensures.coordinate
    ∙ least_within (children_of c.args.fronts.now 0) c.args.first c.args.end c.at_least-k.result c.at_least-k.ensures (omega (arith, c.children.ensures.count))
    (subst (λ (f : ℕ). f < c.args.end) c.child-front.ensures.coordinate (omega arith))

pub returns-else-front-end : goal.returns-else-front-end
returns-else-front-end c =
    none_within (children_of c.args.fronts.now 0) c.args.first c.args.end c.at_least-k.result (All-get_or IsStrictlyIncreasing c.args.fronts.now 0 [] (omega (arith, c.requires)) c.children.ensures.lawful.ascending) c.at_least-k.ensures
    (λ h. subst (λ (f : ℕ). c.args.end ≤ f) c.child-front.ensures.coordinate (omega arith))
