use Rattle.std.proofs.Common.{◌≡◌, ◌+◌, ◌<◌, ◌==◌, ◌∙◌, ℕ, Option, Some, [], length, get_or, option_map, position, ap, sym, arith, rules}
use Rattle.std.proofs.lemmas.List.Elements.{All-get_or}
use Rattle.std.specs.List.Sorted.{IsStrictlyIncreasing}
use Rattle.dt_level.specs.Levels.{children_of, first_child}
use Rattle.dt_tensor.proofs.GivenFronts.{near_at}
use Rattle.dt_tensor.proofs.packed_levels.child_at.Goals as goal

pub returns-then-x-front : goal.returns-then-x-front
returns-then-x-front c =
    let within : c.args.k < length (children_of c.args.fronts.now 0) = omega (arith, c.children.ensures.count) in
    let number : 0 + c.args.k ≡ c.child-x.result.1 = sym c.child-x.ensures.number in
    ap (λ (r : Option ℕ). option_map (λ k. 0 + k) r)
    (near_at (children_of c.args.fronts.now 0) c.args.front c.args.k (c.children.ensures.lawful.ascending 0 [] (omega arith)) within (sym c.child-x.ensures.coordinate ∙ c.if-x-front.true))
    ∙ ap (λ (n : ℕ). Some n) number
