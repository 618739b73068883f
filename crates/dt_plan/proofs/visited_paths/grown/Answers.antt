use Rattle.std.proofs.Common.{ℕ, List, ◌++◌, ◌∷◌, [], map, take, ap, sym, ◌∙◌, arith}
use Rattle.std.specs.List.{flat_map}
use Rattle.dt_nest.specs.PathSteps.{visited_values}
use Rattle.dt_plan.proofs.PathFacts.{flat_step}
use Rattle.dt_plan.proofs.visited_paths.grown.Goals as goal

pub loop-path-preserved : goal.loop-path-preserved
loop-path-preserved g c =
    let longer = λ (p : List ℕ). map (λ i. p ++ i ∷ []) (visited_values (g.L.Locator.tensors c.args.loc.now) c.args.sched.now p) in
    c.in_ok-push_grown.ensures ∙ ap (λ (l : List (List ℕ)). l ++ longer c.as_slice.result.now) c.loop-path.invariant
    ∙ ap (λ (p : List ℕ). flat_map longer (take c.loop-path.path-index c.args.paths.now) ++ longer p) (c.as_slice.ensures ∙ c.path-item.is)
    ∙ sym (flat_step longer c.args.paths.now c.loop-path.path-index c.path-item.result (omega (arith, c.loop-path-test.true, c.loop-path.auto.path-index-end)))
